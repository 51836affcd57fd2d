-- The literals of integers: intLit = "0" | [1-9][0-9]* | "0"[0-7]+ | "0"[xX][0-9A-Fa-f]+, of a number below 2 ^ 64.
use Rattle.std.specs.Prelude.{ℕ, ◌+◌, ◌-◌, ◌*◌, ◌^◌, Bool, true, false, [], ◌∷◌, Some, None, codes, Option, ◌==◌, nat_lt}
use Rattle.token.specs.Token.{Bytes}
use Rattle.token.specs.Law.{between, one_of}

-- n, if it is below the limit
abbrev pub below : ℕ → ℕ → Option ℕ
below limit n = elim (nat_lt n limit) [ true ↦ Some n | false ↦ None ]

-- what the digit b stands for in base k: 0 to 9, then a to f or A to F
abbrev pub digit_in : ℕ → ℕ → Option ℕ
digit_in k b =
    elim (between 48 57 b) [
      | true ↦ below k (b - 48)
      | false ↦ elim (between 97 102 b) [ true ↦ below k (b - 87) | false ↦ elim (between 65 70 b) [ true ↦ below k (b - 55) | false ↦ None ] ]
    ]

-- the number that digits in base k spell after others that spelled a, if it is below 2 ^ 64
abbrev pub read_in : ℕ → ℕ → Bytes → Option ℕ
read_in k a [] = below (2 ^ 64) a
read_in k a (b ∷ bs) = elim (digit_in k b) [ Some d ↦ read_in k (a * k + d) bs | None ↦ None ]

abbrev pub is_x : ℕ → Bool
is_x b = one_of (codes "xX") b

-- after 0x: one digit or more
abbrev pub hex_lit : Bytes → Option ℕ
hex_lit [] = None
hex_lit (b ∷ bs) = read_in 16 0 (b ∷ bs)

-- after 0: nothing, x and hexadecimal digits, or octal digits
abbrev pub zero_lit : Bytes → Option ℕ
zero_lit [] = Some 0
zero_lit (b ∷ bs) = elim (is_x b) [ true ↦ hex_lit bs | false ↦ read_in 8 0 (b ∷ bs) ]

-- the number that a whole text is the literal of
abbrev pub int_lit : Bytes → Option ℕ
int_lit [] = None
int_lit (b ∷ bs) = elim (b == 48) [ true ↦ zero_lit bs | false ↦ read_in 10 0 (b ∷ bs) ]
