-- The first values of a function: their length, each of them, and tests of them all.
use Rattle.std.proofs.Common.{◌≡◌, ℕ, zero, suc, ◌<◌, ◌≤◌, Bool, true, List, [], ◌∷◌, ◌++◌, map, length, get_or, sym, refl, ap, ◌∙◌, ⊎_elim, add-one, arith, length-append}
use lib.ListN.{get_or-append}
use lib.Seq.{get_or_at}
use Rattle.std.specs.List.{range_with_len}
use Rattle.std.proofs.lemmas.Nat.{mod_below}
use Rattle.std.proofs.lemmas.List.FromFn.{map-range_with_len_more, fill_by_all}
use Rattle.std.proofs.lemmas.Bool.{lt-ltb, le-leb, and_from, cases_lt}
use Rattle.token.specs.Law.{every, is_byte, is_text}
use Rattle.tape_source.specs.Tape.{byte_in, tab}

pub length-tab : (f : ℕ → ℕ) (n : ℕ) → length (tab f n) ≡ n
length-tab f zero = refl
length-tab f (suc n) = let ih = length-tab f n in simp length-append (omega arith)

pub getD_tab : (f : ℕ → ℕ) (n k : ℕ) → k < n → get_or (tab f n) k 0 ≡ f k
getD_tab f zero k h = absurd (omega arith)
getD_tab f (suc n) k h =
    let long = length-tab f n in
    ⊎_elim
    (λ lt. get_or-append (tab f n) (f n ∷ []) 0 k (omega arith) ∙ getD_tab f n k lt)
    (λ le. let e : k ≡ n = omega arith in get_or_at (tab f n) (f n) [] 0 k (omega arith) ∙ ap f (sym e))
    (cases_lt k n)

tab-counts : (f : ℕ → ℕ) (n : ℕ) → map f (range_with_len 0 n) ≡ tab f n
tab-counts f zero = refl
tab-counts f (suc n) = ap (λ m. map f (range_with_len 0 m)) (sym (add-one n)) ∙ map-range_with_len_more f 0 n n (omega arith) ∙ ap (λ l. l ++ f n ∷ []) (tab-counts f n)

-- a list is told by its elements
pub is-tab : (f : ℕ → ℕ) (xs : List ℕ) (n : ℕ) → length xs ≡ n → ((k : ℕ) → k < n → get_or xs k 0 ≡ f k) → xs ≡ tab f n
is-tab f xs n l h = fill_by_all f xs n 0 l h ∙ tab-counts f n

every_more : (p : ℕ → Bool) (xs : List ℕ) (x : ℕ) → every p xs ≡ true → p x ≡ true → every p (xs ++ x ∷ []) ≡ true
every_more p [] x h t = rw t refl
every_more p (y ∷ xs) x h t = let ih = every_more p xs x in grind arith

every-tab : (p : ℕ → Bool) (f : ℕ → ℕ) (n : ℕ) → ((k : ℕ) → p (f k) ≡ true) → every p (tab f n) ≡ true
every-tab p f zero h = refl
every-tab p f (suc n) h = every_more p (tab f n) (f n) (every-tab p f n h) (h n)

-- the bytes of words are a text
pub text-tab : (ws : List ℕ) (n : ℕ) → n ≤ 1023 → is_text (tab (byte_in ws) n) ≡ true
text-tab ws n h =
    let l = length-tab (byte_in ws) n in
    and_from _ _ (le-leb _ _ (omega arith)) (every-tab is_byte (byte_in ws) n (λ k. lt-ltb _ _ (mod_below _ 256 (omega arith))))
