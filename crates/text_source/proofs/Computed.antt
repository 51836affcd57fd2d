-- The examples, computed.
use Rattle.std.proofs.Common.{◌≡◌, ℕ, suc, ◌<◌, ◌≤◌, replicate, sym, refl, ◌∙◌, lit<, lit≤}
use lib.ListN.{length-replicate}
use Rattle.token.specs.declared.answer.Fault.TheVariants.{BadByte, InputTooLong}
use Rattle.token.specs.Token.{Bytes, Ahead, fault, at, nowhere}
use Rattle.text_source.specs.Classes.{class_of}
use Rattle.text_source.specs.Lexemes.{word, numeral, quoted, comment, mark, lexeme}
use Rattle.text_source.specs.Text.{stream, most_bytes, text}
use Rattle.text_source.specs.Examples.{PlainExamples, NumberExamples, StringExamples, CommentExamples, LengthExamples, LimitExamples, TextExamples, refused}
use Rattle.text_source.proofs.Streams.{too_long, not_too_long}

-- all that a text's meaning unfolds to
computed : Bytes → Ahead
unfolding class_of word numeral quoted comment mark lexeme stream text
computed bs = text bs

plain : PlainExamples
unfolding computed
plain = (refl, refl, refl, refl, refl, refl, refl, refl, refl, refl, refl, refl)

numbers : NumberExamples
unfolding computed
numbers = (refl, refl, refl, refl, refl, refl, refl, refl, refl, refl, refl, refl, refl, refl, refl, refl)

strings : StringExamples
unfolding computed
strings = (refl, refl, refl, refl, refl, refl, refl, refl, refl, refl)

comments : CommentExamples
unfolding computed
comments = (refl, refl, refl, refl, refl, refl)

lengths : LengthExamples
unfolding computed
lengths = (refl, refl, refl, refl, refl, refl, refl)

bad-first : (n : ℕ) → stream 0 (at 1 1) (replicate (suc n) 64) ≡ refused BadByte
unfolding computed
bad-first n = refl

within : (n : ℕ) → suc n ≤ most_bytes → text (replicate (suc n) 64) ≡ refused BadByte
within n h = sym (not_too_long (replicate (suc n) 64) (simp length-replicate h)) ∙ bad-first n

beyond : (n : ℕ) → most_bytes < n → text (replicate n 64) ≡ fault InputTooLong nowhere
beyond n h = sym (too_long (replicate n 64) (simp length-replicate h))

limits : LimitExamples
limits = (within 16777214 (lit≤ tt), beyond 16777216 (lit< tt))

pub examples : TextExamples
examples = (plain, numbers, strings, comments, lengths, limits)
