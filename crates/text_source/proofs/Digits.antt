-- Digits read one after another.
use Rattle.std.proofs.Common.{◌≡◌, ℕ, ◌+◌, ◌*◌, ◌^◌, ◌<◌, ◌≤◌, true, false, eqb, List, [], ◌∷◌, length, get_or, drop, Some, None, Option, refl, ◌∙◌, mul-le-mul_left, mul-one, arith}
use Rattle.std.proofs.lemmas.List.{at_drop_more, at_drop_all, take_rest}
use Rattle.std.proofs.lemmas.Bool.Decides.{nat_tests}
use Rattle.std.proofs.lemmas.Bool.{lt-ltb, le-ltb}
use Rattle.text_source.specs.declared.numeral.Base.{Base}
use Rattle.text_source.specs.declared.numeral.Base.TheVariants.{Octal, Decimal, Hexadecimal}
use Rattle.text_source.specs.Base.{radix}
use Rattle.text_source.specs.Numerals.{below, digit_in, read_in, is_x, zero_lit, int_lit}

pub radix_positive : (base : Base) → 1 ≤ radix base
radix_positive Octal = omega arith
radix_positive Decimal = omega arith
radix_positive Hexadecimal = omega arith

digit_on : (k a b d : ℕ) (bs : List ℕ) → digit_in k b ≡ Some d → read_in k a (b ∷ bs) ≡ read_in k (a * k + d) bs
digit_on k a b d bs e = rw (e, read_in)

digit_off : (k a b : ℕ) (bs : List ℕ) → digit_in k b ≡ None → read_in k a (b ∷ bs) ≡ None
digit_off k a b bs e = rw (e, read_in)

pub read_more : (k a d : ℕ) (xs : List ℕ) (i : ℕ) → i < length xs → digit_in k (get_or xs i 0) ≡ Some d → read_in k a (drop i xs) ≡ read_in k (a * k + d) (drop (i + 1) xs)
read_more k a d xs i h e = at_drop_more (read_in k a) xs i 0 h ∙ digit_on k a (get_or xs i 0) d (drop (i + 1) xs) e

pub read_bad : (k a : ℕ) (xs : List ℕ) (i : ℕ) → i < length xs → digit_in k (get_or xs i 0) ≡ None → read_in k a (drop i xs) ≡ None
read_bad k a xs i h e = at_drop_more (read_in k a) xs i 0 h ∙ digit_off k a (get_or xs i 0) (drop (i + 1) xs) e

pub read_all : (k a : ℕ) (xs : List ℕ) (i : ℕ) → length xs ≤ i → a < 2 ^ 64 → read_in k a (drop i xs) ≡ Some a
read_all k a xs i h l = at_drop_all (read_in k a) xs i h ∙ rw (lt-ltb a (2 ^ 64) l, below)

-- a number that is too large stays so
pub read_big : (k a : ℕ) (bs : List ℕ) → 1 ≤ k → 2 ^ 64 ≤ a → read_in k a bs ≡ None
read_big k a [] h l = rw (le-ltb a (2 ^ 64) l, below)
read_big k a (b ∷ bs) h l = by_digit (digit_in k b) refl (λ d. read_big k (a * k + d) bs h (omega (arith, mul-le-mul_left a h, mul-one a))) where
  by_digit : (o : Option ℕ) → digit_in k b ≡ o → ((d : ℕ) → read_in k (a * k + d) bs ≡ None) → read_in k a (b ∷ bs) ≡ None
  by_digit (Some d) e f = digit_on k a b d bs e ∙ f d
  by_digit None e f = digit_off k a b bs e

pub hex_on : (xs : List ℕ) → 2 < length xs → eqb (get_or xs 0 0) 48 ≡ true → is_x (get_or xs 1 0) ≡ true → int_lit xs ≡ read_in 16 0 (drop 2 xs)
hex_on [] h e f = absurd (omega arith)
hex_on (a ∷ []) h e f = absurd (omega arith)
hex_on (a ∷ b ∷ []) h e f = absurd (omega arith)
hex_on (a ∷ b ∷ c ∷ xs) h e f = rw (e, int_lit) (rw (f, zero_lit))

pub octal_on : (xs : List ℕ) → 1 < length xs → eqb (get_or xs 0 0) 48 ≡ true → is_x (get_or xs 1 0) ≡ false → int_lit xs ≡ read_in 8 0 (drop 1 xs)
octal_on [] h e f = absurd (omega arith)
octal_on (a ∷ []) h e f = absurd (omega arith)
octal_on (a ∷ b ∷ xs) h e f = rw (e, int_lit) (rw (f, zero_lit))

pub ruleset literals = (hex_on, octal_on, take_rest, nat_tests)
