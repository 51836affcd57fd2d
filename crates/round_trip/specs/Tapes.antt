-- What the words of tokens mean as a tape.
use Rattle.std.specs.Prelude.{◌≡◌, ℕ, ◌≤◌, T, List, ◌++◌, length}
use Rattle.token.specs.declared.answer.Place.{Place}
use Rattle.token.specs.Token.{Token, Ahead, unplaced}
use Rattle.token.specs.Law.{Formed, lawful}
use Rattle.tape_source.specs.Tape.{most_words, from, tape}
use Rattle.grammar.specs.Print as printing
use Rattle.round_trip.specs.Alike.{Alike}

-- ---- the theorems
-- a tape keeps the law, wherever in it a source stands
abbrev pub TapeLawful : Type 0
TapeLawful = (ws : List ℕ) (i : ℕ) → i ≤ length ws → T (lawful (from ws i))

-- the words of well formed tokens, whatever stands behind them, mean those tokens and a clean end
abbrev pub TapeAgain : Type 0
TapeAgain = (ts : List Token) (more : List ℕ) (p : Place) → Formed ts → length (printing.tape ts ++ more) ≤ most_words → Alike (tape (printing.tape ts ++ more)) (unplaced ts (Ahead.end p))

-- so the words tell the tokens
abbrev pub WordsTell : Type 0
WordsTell = (ts us : List Token) → Formed ts → Formed us → printing.tape ts ≡ printing.tape us → ts ≡ us
