-- Runs of bytes: how many at the front of a list belong together.
use Rattle.std.specs.Prelude.{ℕ, suc, Bool, true, false, List, [], ◌∷◌}
use Rattle.std.specs.List.{prefix_len}

-- how many bytes at the front pass a test that may look at a state, which each byte moves on
abbrev pub runs : {S : Type 0} → (S → ℕ → Bool) → (S → ℕ → S) → S → List ℕ → ℕ
runs ok next s [] = 0
runs ok next s (b ∷ bs) = elim (ok s b) [ true ↦ suc (runs ok next (next s b) bs) | false ↦ 0 ]

-- the same with no state
abbrev pub run : (ℕ → Bool) → List ℕ → ℕ
run p bs = prefix_len p bs

-- a state that is the byte before
abbrev pub before : ℕ → ℕ → ℕ
before a b = b
