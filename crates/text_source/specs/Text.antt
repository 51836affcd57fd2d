-- What a text means: its tokens, each with its place, then a clean end or one fault.
use Rattle.std.specs.Prelude.{ℕ, zero, suc, ◌+◌, true, false, [], ◌∷◌, length, ◌==◌, nat_lt}
use Rattle.token.specs.declared.answer.Place.{Place}
use Rattle.token.specs.declared.answer.Fault.TheVariants.{InputTooLong}
use Rattle.token.specs.Token.{Bytes, Ahead, next, end, fault, at, nowhere}
use Rattle.token.specs.Law.{longest_input}
use Rattle.text_source.specs.Lexemes.{gap, lexed, bad, lexeme}

-- the place after the byte b at p: byte 10 ends a line, any other is one column
abbrev pub past : Place → ℕ → Place
past p b = elim (b == 10) [ true ↦ at (p.line + 1) 1 | false ↦ at p.line (p.column + 1) ]

-- the place after all of a text that begins at p
abbrev pub past_all : Place → Bytes → Place
past_all p [] = p
past_all p (b ∷ bs) = past_all (past p b) bs

-- what comes at p, where the first k bytes belong to what came before
unfoldable pub stream : ℕ → Place → Bytes → Ahead
stream k p [] = end p
stream (suc k) p (b ∷ bs) = stream k (past p b) bs
stream zero p (b ∷ bs) =
    elim (lexeme b bs) [
      | gap k ↦ stream k (past p b) bs
      | lexed t k ↦ next t p (stream k (past p b) bs)
      | bad f ↦ fault f p
    ]

-- the most bytes that a text may have
abbrev pub most_bytes : ℕ
most_bytes = longest_input

-- a text begins at line 1, column 1
unfoldable pub text : Bytes → Ahead
text bs = elim (nat_lt most_bytes (length bs)) [ true ↦ fault InputTooLong nowhere | false ↦ stream 0 (at 1 1) bs ]
