-- A tape says its tokens in one way only.
use Rattle.std.specs.Prelude.{◌≡◌, ℕ, ◌^◌, ◌<◌, List, [], ◌∷◌, ◌++◌}
use Rattle.token.specs.declared.answer.Place.{Place}
use Rattle.token.specs.Token.{Token, Ahead, next, end, fault, unplaced}
use Rattle.round_trip.specs.Alike.{Alike}
use Rattle.grammar.specs.Print as printing
use Rattle.tape_source.specs.Tape.{tape}

-- words of 32 bits
abbrev pub Fit : List ℕ → Type 0
Fit [] = Unit {0}
Fit (w ∷ ws) = (w < 2 ^ 32) × Fit ws

-- what is ahead ends clean
abbrev pub Clean : Ahead → Type 0
Clean (next t p a) = Clean a
Clean (end p) = Unit {0}
Clean (fault f p) = ⊥

-- both begin with the words of these tokens and the end word
pub record SameFront (ws vs : List ℕ) : Type 0 where
  pub tokens : List Token
  pub ws_left : List ℕ
  pub vs_left : List ℕ
  pub ws_is : ws ≡ printing.tape tokens ++ ws_left
  pub vs_is : vs ≡ printing.tape tokens ++ vs_left

-- ---- the theorems
-- a tape that gives a token first begins with that token's words
abbrev pub TapeFirst : Type 0
TapeFirst = (ws : List ℕ) (t : Token) (p : Place) (a : Ahead) → Fit ws → tape ws ≡ next t p a → (more : List ℕ) × (ws ≡ printing.token_words t ++ more)

-- a tape that means tokens and a clean end begins with the words that they are printed as
abbrev pub TapeStrict : Type 0
TapeStrict = (ws : List ℕ) (ts : List Token) (p : Place) → Fit ws → Alike (tape ws) (unplaced ts (end p)) → (more : List ℕ) × (ws ≡ printing.tape ts ++ more)

-- so two that end clean and mean the same tokens agree up to and with the end word
abbrev pub TapeOneWay : Type 0
TapeOneWay = (ws vs : List ℕ) → Fit ws → Fit vs → Clean (tape ws) → Alike (tape ws) (tape vs) → SameFront ws vs
