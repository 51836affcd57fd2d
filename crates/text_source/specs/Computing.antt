-- What a closure that is given a state and a byte computes.
use Rattle.std.specs.Prelude.{◌≡◌, ℕ}

-- each result r that it may give is that of f
abbrev pub Computes : {S R : Type 0} → (S → ℕ → R → Type 0) → (S → ℕ → R) → Type 0
Computes {S} {R} gives f = (s : S) (b : ℕ) (r : R) → gives s b r → r ≡ f s b
