-- The law of every source: each of its tokens is well formed, and each place has 32-bit numbers.
use Rattle.std.specs.Prelude.{ℕ, ◌^◌, Bool, true, false, ◌&&◌, ◌||◌, T, List, [], ◌∷◌, length, codes, ◌==◌, nat_le, nat_lt}
use Rattle.std.specs.List.{list_all}
use Rattle.token.specs.declared.answer.Place.{Place}
use Rattle.token.specs.Token.{Bytes, Token, Ahead, next, end, fault}

-- ---- tests of bytes
abbrev pub every : (ℕ → Bool) → Bytes → Bool
every test cs = list_all test cs

abbrev pub one_of : List ℕ → ℕ → Bool
one_of [] c = false
one_of (x ∷ xs) c = c == x || one_of xs c

abbrev pub between : ℕ → ℕ → ℕ → Bool
between low high c = nat_le low c && nat_le c high

abbrev pub is_byte : ℕ → Bool
is_byte c = nat_lt c 256

abbrev pub marks : List ℕ
marks = codes ";{}[]()<>=,.:/+-"

abbrev pub is_mark : ℕ → Bool
is_mark c = one_of marks c

abbrev pub is_digit : ℕ → Bool
is_digit c = between 48 57 c

-- an ASCII letter or underscore
abbrev pub is_letter : ℕ → Bool
is_letter c = between 65 90 c || between 97 122 c || c == 95

abbrev pub is_name_byte : ℕ → Bool
is_name_byte c = is_letter c || is_digit c

-- ---- an identifier: a letter or underscore, then letters, digits and underscores
abbrev pub is_name : Bytes → Bool
is_name [] = false
is_name (c ∷ cs) = is_letter c && every is_name_byte cs

-- ---- floatLit = decimals "." [ decimals ] [ exponent ] | decimals exponent | "." decimals [ exponent ]
-- (`inf` and `nan` are identifiers)
-- what stands after as many digits as come
abbrev pub after_digits : (Bytes → Bool) → Bytes → Bool
after_digits then [] = then []
after_digits then (c ∷ cs) = elim (is_digit c) [ true ↦ after_digits then cs | false ↦ then (c ∷ cs) ]

-- the same after one digit at least: decimals = decimalDigit { decimalDigit }
abbrev pub after_decimals : (Bytes → Bool) → Bytes → Bool
after_decimals then [] = false
after_decimals then (c ∷ cs) = is_digit c && after_digits then cs

abbrev pub nothing_more : Bytes → Bool
nothing_more [] = true
nothing_more (c ∷ cs) = false

-- exponent = ( "e" | "E" ) [ "+" | "-" ] decimals
abbrev pub is_power : Bytes → Bool
is_power [] = false
is_power (c ∷ cs) = elim (one_of (codes "+-") c) [ true ↦ after_decimals nothing_more cs | false ↦ after_decimals nothing_more (c ∷ cs) ]

abbrev pub is_exponent : Bytes → Bool
is_exponent [] = false
is_exponent (c ∷ cs) = one_of (codes "eE") c && is_power cs

abbrev pub exponent_or_nothing : Bytes → Bool
exponent_or_nothing [] = true
exponent_or_nothing (c ∷ cs) = is_exponent (c ∷ cs)

-- after the first decimals: a dot with what may follow it, or an exponent
abbrev pub is_fraction : Bytes → Bool
is_fraction [] = false
is_fraction (c ∷ cs) = elim (c == 46) [ true ↦ after_digits exponent_or_nothing cs | false ↦ is_exponent (c ∷ cs) ]

abbrev pub is_float : Bytes → Bool
is_float [] = false
is_float (c ∷ cs) = elim (c == 46) [ true ↦ after_decimals exponent_or_nothing cs | false ↦ after_decimals is_fraction (c ∷ cs) ]

-- ---- the law of one token
-- at most 1,023 bytes
abbrev pub longest : ℕ
longest = 1023

-- a text has no more bytes than this, and a tape no more words
abbrev pub longest_input : ℕ
longest_input = 16777215

abbrev pub is_text : Bytes → Bool
is_text w = nat_le (length w) longest && every is_byte w

abbrev pub well : Token → Bool
well (Token.symbol c) = is_mark c
well (Token.number n) = nat_lt n (2 ^ 64)
well (Token.ident w) = is_text w && is_name w
well (Token.float w) = is_text w && is_float w
well (Token.string w) = is_text w

-- of a list of tokens
abbrev pub Formed : List Token → Type 0
Formed [] = Unit {0}
Formed (t ∷ ts) = T (well t) × Formed ts

-- ---- the law of what is ahead
abbrev pub in_range : Place → Bool
in_range p = nat_lt p.line (2 ^ 32) && nat_lt p.column (2 ^ 32)

abbrev pub lawful : Ahead → Bool
lawful (next t p a) = well t && in_range p && lawful a
lawful (end p) = in_range p
lawful (fault f p) = in_range p
