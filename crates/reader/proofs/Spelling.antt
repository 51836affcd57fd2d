-- The test of two texts tells whether they are equal.
use Rattle.std.proofs.Common.{◌≡◌, ℕ, ◌+◌, Bool, true, false, ◌&&◌, ◌==◌, List, [], ◌∷◌, length, drop, get_or, refl, ap, subst, arith, add-one, drop-cons}
use Rattle.std.proofs.lemmas.List.{drop_all}
use Rattle.std.specs.List.{list_all, enumerate_from}
use Rattle.std.proofs.lemmas.Bool.Decides.{nat_tests}
use Rattle.grammar.specs.Parse.{same}

pub eq_from_same : (xs ys : List ℕ) → same xs ys ≡ true → xs ≡ ys
eq_from_same [] [] h = refl
eq_from_same [] (y ∷ ys) h = let z : ◌≡◌ {A = ℕ} 0 1 = cc in absurd (omega arith)
eq_from_same (x ∷ xs) [] h = let z : ◌≡◌ {A = ℕ} 0 1 = cc in absurd (omega arith)
eq_from_same (x ∷ xs) (y ∷ ys) h =
    let both : (x ≡ y) × (same xs ys ≡ true) = grind (arith, nat_tests) in
    let ih = eq_from_same xs ys both.1 in
    let head = both.0 in cc

pub same_unless : (xs ys : List ℕ) → (xs ≡ ys → ⊥) → same xs ys ≡ false
same_unless xs ys h = go (same xs ys) refl where
  go : (b : Bool) → same xs ys ≡ b → same xs ys ≡ false
  go false e = e
  go true e = absurd (h (eq_from_same xs ys e))

-- the same text byte by byte, where both are as long
pub same_by_bytes : (n : ℕ) (xs ys : List ℕ) → length xs ≡ n + length ys → list_all (λ (p : ℕ × ℕ). get_or xs p.0 0 == p.1) (enumerate_from n ys) ≡ same (drop n xs) ys
same_by_bytes n xs [] h = rw (drop_all n xs (omega arith))
same_by_bytes n xs (y ∷ ys) h =
    let rest = same_by_bytes (n + 1) xs ys (omega arith) in
    let more = subst (λ k. list_all (λ (p : ℕ × ℕ). get_or xs p.0 0 == p.1) (enumerate_from (n + 1) ys) ≡ same (drop k xs) ys) (add-one n) rest in
    rw (drop-cons xs n 0 (omega arith)) (ap (λ b. (get_or xs n 0 == y) && b) more)
