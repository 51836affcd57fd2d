-- The bases of numerals.
use Rattle.std.specs.Prelude.{ℕ}
use Rattle.text_source.specs.declared.numeral.Base.{Base}
use Rattle.text_source.specs.declared.numeral.Base.TheVariants.{Octal, Decimal, Hexadecimal}

abbrev pub radix : Base → ℕ
radix Octal = 8
radix Decimal = 10
radix Hexadecimal = 16
