-- What the code's answers at the front of a tape stand for.
use Rattle.std.specs.Prelude.{ℕ, ◌+◌, ◌/◌, Bool, true, Option, Some, None, Result, Ok, Err, List, drop, nat_lt}
use Rattle.token.specs.declared.answer.Fault.{Fault}
use Rattle.token.specs.Token.{Bytes, Token, Ahead, next, fault}
use Rattle.tape_source.specs.declared.front.Span.{Span}
use Rattle.tape_source.specs.declared.front.Span.TheVariants as spans
use Rattle.tape_source.specs.declared.text.Text.{Text}
use Rattle.tape_source.specs.declared.text.Text.TheVariants as texts
use Rattle.tape_source.specs.Tape.{byte_in, tab, Step, token, wrong, at_word, scan}

-- the token of a text
abbrev pub made : Text → Bytes → Token
made texts.Ident w = Token.ident w
made texts.Float w = Token.float w
made texts.Str w = Token.string w

-- the token, where `rest` stands behind its first word
abbrev pub token_of : List ℕ → Span → Token
token_of rest (spans.Symbol c) = Token.symbol c
token_of rest (spans.Number n) = Token.number n
token_of rest (spans.Text t n) = made t (tab (byte_in rest) n)

-- how many words of the token follow its first
abbrev pub extent : Span → ℕ
extent (spans.Symbol c) = 0
extent (spans.Number n) = 2
extent (spans.Text t n) = (n + 3) / 4

abbrev pub meant : List ℕ → Result (Option Span) Fault → Step
meant rest (Ok (Some x)) = token (token_of rest x) (extent x)
meant rest (Ok None) = Step.end
meant rest (Err f) = wrong f

-- what comes at word i, where the words ws are left and the code found a token there, the end, or a fault
abbrev pub found : ℕ → List ℕ → Result (Option Span) Fault → Ahead
found i ws (Ok (Some x)) = next (token_of (drop 1 ws) x) (at_word i) (scan (extent x) (i + 1) (drop 1 ws))
found i ws (Ok None) = Ahead.end (at_word i)
found i ws (Err f) = fault f (at_word i)

-- a token has all its words among the n that are left
abbrev pub holds : Result (Option Span) Fault → ℕ → Bool
holds (Ok (Some x)) n = nat_lt (extent x) n
holds (Ok None) n = true
holds (Err f) n = true
