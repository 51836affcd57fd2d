use Rattle.std.proofs.Common.{◌≡◌, ◌^◌, ◌<◌, drop}
use Rattle.text_source.specs.Base.{radix}
use Rattle.text_source.specs.Numerals.{read_in}
use Rattle.text_source.proofs.numeral.read_in.Given as goal

abbrev pub invariant-loop-b : goal.invariant-loop-b
invariant-loop-b l = (l.value < 2 ^ 64) × (read_in (radix l.base) l.value (drop l.b-index l.s) ≡ read_in (radix l.base) 0 l.s)
