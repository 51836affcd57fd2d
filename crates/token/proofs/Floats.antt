-- The parts of a floating point literal, by how many digits stand at the front.
use Rattle.std.proofs.Common.{◌≡◌, ℕ, suc, ◌-◌, ◌<◌, Bool, true, false, ◌&&◌, eqb, ltb, List, [], ◌∷◌, Option, Some, None, Bor, MatchOption, length, get_or, take, drop, sym, refl, ap, ◌∙◌, ⊎_elim, arith}
use Rattle.std.specs.List.{between}
use Rattle.std.proofs.lemmas.List.{take_rest}
use Rattle.std.proofs.lemmas.Slice.{first_rest}
use Rattle.std.proofs.lemmas.Bool.{cases_Bool, lt-ltb, le-ltb}
use Rattle.std.proofs.lemmas.Bool.Decides.{nat_tests}
use Rattle.token.specs.Runs.{run}
use Rattle.token.specs.Law.{is_digit, after_digits, after_decimals, nothing_more, exponent_or_nothing, is_fraction, is_float}

abbrev digits : List ℕ → ℕ
digits bs = run is_digit bs

on : (b : ℕ) (bs : List ℕ) → is_digit b ≡ true → digits (b ∷ bs) ≡ suc (digits bs)
on b bs e = rw e (omega arith)

off : (b : ℕ) (bs : List ℕ) → is_digit b ≡ false → digits (b ∷ bs) ≡ 0
off b bs e = rw e

on_then : (then : List ℕ → Bool) (b : ℕ) (bs : List ℕ) → is_digit b ≡ true → after_digits then (b ∷ bs) ≡ after_digits then bs
on_then then b bs e = rw (e, after_digits)

off_then : (then : List ℕ → Bool) (b : ℕ) (bs : List ℕ) → is_digit b ≡ false → after_digits then (b ∷ bs) ≡ then (b ∷ bs)
off_then then b bs e = rw (e, after_digits)

pub digits_then : (then : List ℕ → Bool) (bs : List ℕ) → after_digits then bs ≡ then (drop (digits bs) bs)
digits_then then [] = refl
digits_then then (b ∷ bs) =
    ⊎_elim
    (λ e. on_then then b bs e ∙ digits_then then bs ∙ ap (λ (n : ℕ). then (drop n (b ∷ bs))) (sym (on b bs e)))
    (λ e. off_then then b bs e ∙ ap (λ (n : ℕ). then (drop n (b ∷ bs))) (sym (off b bs e)))
    (cases_Bool (is_digit b))

on_decimals : (then : List ℕ → Bool) (b : ℕ) (bs : List ℕ) → is_digit b ≡ true → after_decimals then (b ∷ bs) ≡ after_digits then bs
on_decimals then b bs e = rw (e, after_decimals)

off_decimals : (then : List ℕ → Bool) (b : ℕ) (bs : List ℕ) → is_digit b ≡ false → after_decimals then (b ∷ bs) ≡ false
off_decimals then b bs e = rw (e, after_decimals)

some_digit : (n : ℕ) (x : Bool) → x ≡ (ltb 0 (suc n) && x)
some_digit n x = let t : ltb 0 (suc n) ≡ true = lt-ltb 0 (suc n) (omega arith) in rw t

pub decimals_then : (then : List ℕ → Bool) (bs : List ℕ) → after_decimals then bs ≡ (ltb 0 (digits bs) && then (drop (digits bs) bs))
decimals_then then [] = refl
decimals_then then (b ∷ bs) =
    ⊎_elim
    (λ e. on_decimals then b bs e ∙ digits_then then bs ∙ some_digit (digits bs) (then (drop (digits bs) bs)) ∙ ap (λ (n : ℕ). ltb 0 n && then (drop n (b ∷ bs))) (sym (on b bs e)))
    (λ e. off_decimals then b bs e ∙ ap (λ (n : ℕ). ltb 0 n && then (drop n (b ∷ bs))) (sym (off b bs e)))
    (cases_Bool (is_digit b))

-- ---- a text by its first byte and what follows it, as a pattern `[first, rest @ ..]` gives them
abbrev pub rest : List ℕ → List ℕ
rest xs = between 1 (length xs) xs

pub fraction_on : (xs : List ℕ) → 0 < length xs → eqb (get_or xs 0 0) 46 ≡ true → is_fraction xs ≡ after_digits exponent_or_nothing (rest xs)
fraction_on xs h e = ap is_fraction (first_rest xs 0 h) ∙ rw (e, is_fraction)

pub float-on : (xs : List ℕ) → 0 < length xs → eqb (get_or xs 0 0) 46 ≡ true → is_float xs ≡ after_decimals exponent_or_nothing (rest xs)
float-on xs h e = ap is_float (first_rest xs 0 h) ∙ rw (e, is_float)

pub float_off : (xs : List ℕ) → eqb (get_or xs 0 0) 46 ≡ false → is_float xs ≡ after_decimals is_fraction xs
float_off [] e = refl
float_off (b ∷ bs) e = rw (e, is_float)

-- ---- what `&s[n..]` holds, where n digits stand at the front
pub rest_then : (then : List ℕ → Bool) (xs : List ℕ) (n : ℕ) → n ≡ run is_digit xs → then (take (length xs - n) (drop n xs)) ≡ after_digits then xs
rest_then then xs n e = ap then (take_rest xs n) ∙ ap (λ (m : ℕ). then (drop m xs)) e ∙ sym (digits_then then xs)

-- what stands after one digit or more is judged by `then`, as `Some(rest)` or `None` gives it
pub and_then : (then : List ℕ → Bool) (xs : List ℕ) (o : Option (Bor (List ℕ))) (r : Bool) → MatchOption o (digits xs ≡ 0) (λ t. (0 < digits xs) × (t.now ≡ drop (digits xs) xs)) → (Q : Bor (List ℕ) → Type 0) → MatchOption o (r ≡ false) Q → ((t : Bor (List ℕ)) → Q t → r ≡ then t.now) → r ≡ after_decimals then xs
and_then then xs None r h Q k f =
    let t : ltb 0 (digits xs) ≡ false = le-ltb 0 (digits xs) (omega (arith, h)) in
    k ∙ sym (decimals_then then xs ∙ rw t)
and_then then xs (Some t) r h Q k f =
    let p : ltb 0 (digits xs) ≡ true = lt-ltb 0 (digits xs) h.0 in
    f t k ∙ ap then h.1 ∙ sym (decimals_then then xs ∙ rw p)

pub none_left : (xs : List ℕ) → eqb (length xs) 0 ≡ nothing_more xs
none_left [] = refl
none_left (x ∷ xs) = grind (arith, nat_tests)
