-- A run of bytes, by its first byte, and a loop's steps along it: what it keeps, and where it stops.
use Rattle.std.proofs.Common.{◌≡◌, ℕ, suc, ◌+◌, ◌<◌, ◌≤◌, Bool, true, false, List, ◌∷◌, length, get_or, drop, ◌∙◌, subst, arith}
use Rattle.std.proofs.lemmas.List.{at_drop_more, at_drop_all}
use Rattle.token.specs.Runs.{runs}

module _ {S : Type 0} (ok : S → ℕ → Bool) (next : S → ℕ → S) where
  pub on : (s : S) (b : ℕ) (bs : List ℕ) → ok s b ≡ true → runs ok next s (b ∷ bs) ≡ suc (runs ok next (next s b) bs)
  on s b bs e = rw (e, runs)

  pub off : (s : S) (b : ℕ) (bs : List ℕ) → ok s b ≡ false → runs ok next s (b ∷ bs) ≡ 0
  off s b bs e = rw (e, runs)

  -- the bytes passed and the run of what is left make up n
  abbrev pub Along : S → List ℕ → ℕ → ℕ → Type 0
  Along s xs i n = i + runs ok next s (drop i xs) ≡ n

  pub more : (s : S) (xs : List ℕ) (i n : ℕ) → i < length xs → ok s (get_or xs i 0) ≡ true → Along s xs i n → Along (next s (get_or xs i 0)) xs (i + 1) n
  more s xs i n l e h = omega (arith, at_drop_more (runs ok next s) xs i 0 l ∙ on s (get_or xs i 0) (drop (i + 1) xs) e)

  pub more-to : (s t : S) (xs : List ℕ) (i n : ℕ) → i < length xs → ok s (get_or xs i 0) ≡ true → next s (get_or xs i 0) ≡ t → Along s xs i n → Along t xs (i + 1) n
  more-to s t xs i n l e to h = subst (λ (u : S). Along u xs (i + 1) n) to (more s xs i n l e h)

  pub stop : (s : S) (xs : List ℕ) (i n : ℕ) → i < length xs → ok s (get_or xs i 0) ≡ false → Along s xs i n → i ≡ n
  stop s xs i n l e h = omega (arith, at_drop_more (runs ok next s) xs i 0 l ∙ off s (get_or xs i 0) (drop (i + 1) xs) e)

  pub all : (s : S) (xs : List ℕ) (i n : ℕ) → length xs ≤ i → i ≤ length xs → Along s xs i n → length xs ≡ n
  all s xs i n l l' h = omega (arith, at_drop_all (runs ok next s) xs i l)
