-- Bytes packed into words are found there again.
use Rattle.std.proofs.Common.{◌≡◌, ℕ, zero, suc, ◌+◌, ◌*◌, ◌/◌, ◌%◌, ◌^◌, ◌<◌, ◌≤◌, true, ◌||◌, eqb, ltb, List, [], ◌∷◌, ◌++◌, length, get_or, take, sym, refl, ◌∙◌, ap₂, arith, take-suc}
use lib.Seq.{take-length}
use Rattle.std.proofs.lemmas.Bool.{lt-ltb}
use Rattle.token.specs.Token.{Bytes}
use Rattle.grammar.specs.Print.{packed}
use Rattle.tape_source.specs.Tape.{byte_in, tab, padded}

-- each below 256
pub data Small : Bytes → Type 0 where
  none : Small []
  more : {c : ℕ} {cs : Bytes} → c < 256 → Small cs → Small (c ∷ cs)

-- four places further is one word further
pub further : (w : ℕ) (ws : List ℕ) (k : ℕ) → byte_in (w ∷ ws) (suc (suc (suc (suc k)))) ≡ byte_in ws k
further w ws k =
    let q : (suc (suc (suc (suc k)))) / 4 ≡ suc (k / 4) = omega arith in
    let r : (suc (suc (suc (suc k)))) % 4 ≡ k % 4 = omega arith in
    ap₂ (λ i j. get_or (w ∷ ws) i 0 / 2 ^ (8 * j) % 256) q r

pub packed_byte : (bs : Bytes) → Small bs → (ws : List ℕ) (k : ℕ) → k < length bs → byte_in (packed bs ++ ws) k ≡ get_or bs k 0
unfolding packed
packed_byte [] none ws k h = absurd (omega arith)
packed_byte (a ∷ []) (more x none) ws zero h = omega arith
packed_byte (a ∷ []) (more x none) ws (suc k) h = absurd (omega arith)
packed_byte (a ∷ b ∷ []) (more x (more y none)) ws zero h = omega arith
packed_byte (a ∷ b ∷ []) (more x (more y none)) ws (suc zero) h = omega arith
packed_byte (a ∷ b ∷ []) (more x (more y none)) ws (suc (suc k)) h = absurd (omega arith)
packed_byte (a ∷ b ∷ c ∷ []) (more x (more y (more z none))) ws zero h = omega arith
packed_byte (a ∷ b ∷ c ∷ []) (more x (more y (more z none))) ws (suc zero) h = omega arith
packed_byte (a ∷ b ∷ c ∷ []) (more x (more y (more z none))) ws (suc (suc zero)) h = omega arith
packed_byte (a ∷ b ∷ c ∷ []) (more x (more y (more z none))) ws (suc (suc (suc k))) h = absurd (omega arith)
packed_byte (a ∷ b ∷ c ∷ d ∷ bs) (more x (more y (more z (more v s)))) ws zero h = omega arith
packed_byte (a ∷ b ∷ c ∷ d ∷ bs) (more x (more y (more z (more v s)))) ws (suc zero) h = omega arith
packed_byte (a ∷ b ∷ c ∷ d ∷ bs) (more x (more y (more z (more v s)))) ws (suc (suc zero)) h = omega arith
packed_byte (a ∷ b ∷ c ∷ d ∷ bs) (more x (more y (more z (more v s)))) ws (suc (suc (suc zero))) h = omega arith
packed_byte (a ∷ b ∷ c ∷ d ∷ bs) (more x (more y (more z (more v s)))) ws (suc (suc (suc (suc k)))) h = further _ (packed bs ++ ws) k ∙ packed_byte bs s ws k (omega arith)

pub packed-padded : (bs : Bytes) → Small bs → (ws : List ℕ) → padded (packed bs ++ ws) (length bs) ≡ true
unfolding packed
packed-padded [] none ws = refl
packed-padded (a ∷ []) (more x none) ws = lt-ltb a 256 x
packed-padded (a ∷ b ∷ []) (more x (more y none)) ws = lt-ltb _ 65536 (omega arith)
packed-padded (a ∷ b ∷ c ∷ []) (more x (more y (more z none))) ws = lt-ltb _ 16777216 (omega arith)
packed-padded (a ∷ b ∷ c ∷ d ∷ bs) (more x (more y (more z (more v s)))) ws =
    let n = length bs in
    let q : (suc (suc (suc (suc n)))) / 4 ≡ suc (n / 4) = omega arith in
    let r : (suc (suc (suc (suc n)))) % 4 ≡ n % 4 = omega arith in
    ap₂ (λ i j. eqb j 0 || ltb (get_or ((packed (a ∷ b ∷ c ∷ d ∷ bs)) ++ ws) i 0) (2 ^ (8 * j))) q r ∙ packed-padded bs s ws

pub packed-length : (bs : Bytes) → length (packed bs) ≡ (length bs + 3) / 4
unfolding packed
packed-length [] = refl
packed-length (a ∷ []) = refl
packed-length (a ∷ b ∷ []) = refl
packed-length (a ∷ b ∷ c ∷ []) = refl
packed-length (a ∷ b ∷ c ∷ d ∷ bs) = let ih = packed-length bs in omega arith

-- as many values as a list has, each that of the list
tab-take : (f : ℕ → ℕ) (bs : Bytes) (n : ℕ) → n ≤ length bs → ((k : ℕ) → k < length bs → f k ≡ get_or bs k 0) → tab f n ≡ take n bs
tab-take f bs zero h e = refl
tab-take f bs (suc n) h e = ap₂ (λ xs x. xs ++ x ∷ []) (tab-take f bs n (omega arith) e) (e n h) ∙ sym (take-suc bs n 0 h)

pub unpacked : (bs : Bytes) → Small bs → (ws : List ℕ) → tab (byte_in (packed bs ++ ws)) (length bs) ≡ bs
unpacked bs s ws = tab-take (byte_in (packed bs ++ ws)) bs (length bs) (omega arith) (packed_byte bs s ws) ∙ take-length bs
