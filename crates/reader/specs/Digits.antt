-- Digits, as the definitions have them.
use Rattle.std.specs.Prelude.{ℕ, true, false, Some, None, Option, nat_lt}
use Rattle.std.specs.Char.{digit_value}
use Rattle.reader.specs.declared.decode.digits.Below.{Below}

abbrev pub value_in : {limit : ℕ} → Option (Below limit) → Option ℕ
value_in None = None
value_in (Some d) = Some d.value

abbrev pub digit_below : ℕ → ℕ → Option ℕ
digit_below radix c = elim (nat_lt (digit_value c) radix) [ true ↦ Some (digit_value c) | false ↦ None ]
