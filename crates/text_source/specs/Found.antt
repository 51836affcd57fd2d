-- What a source that stands at a place in a text means, by what it found there.
use Rattle.std.specs.Prelude.{ℕ, Bool, true, Option, Some, None, Result, Ok, Err, nat_lt}
use Rattle.token.specs.declared.answer.Place.{Place}
use Rattle.token.specs.declared.answer.Fault.{Fault}
use Rattle.token.specs.Token.{Bytes, Ahead, next, end, fault}
use Rattle.text_source.specs.declared.front.Span.{Span}
use Rattle.text_source.specs.Fronts.{head, tail, token_of, extent}
use Rattle.text_source.specs.Text.{past, stream}

-- what comes at p, where the bytes s are left and the code found a token there, the end, or a fault
abbrev pub found : Place → Bytes → Result (Option Span) Fault → Ahead
found p s (Ok (Some x)) = next (token_of s x) p (stream (extent x) (past p (head s)) (tail s))
found p s (Ok None) = end p
found p s (Err f) = fault f p

-- a token has all its bytes among the n that are left
abbrev pub holds : Result (Option Span) Fault → ℕ → Bool
holds (Ok (Some x)) n = nat_lt (extent x) n
holds (Ok None) n = true
holds (Err f) n = true
