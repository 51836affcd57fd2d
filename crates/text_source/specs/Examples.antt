-- Texts and what they mean.
use Rattle.std.specs.Prelude.{◌≡◌, ℕ, [], ◌∷◌, ◌++◌, replicate, codes}
use Rattle.token.specs.declared.answer.Fault.{Fault}
use Rattle.token.specs.declared.answer.Fault.TheVariants.{BadByte, BadNumber, UnclosedString, UnclosedComment, TokenTooLong, InputTooLong}
use Rattle.token.specs.Token.{Token, symbol, number, ident, float, string, Ahead, next, end, fault, at, nowhere}
use Rattle.text_source.specs.Text.{text}

-- one token at the start, and the end at column c
abbrev pub only : Token → ℕ → Ahead
only t c = next t (at 1 1) (end (at 1 c))

-- a fault at the start
abbrev pub refused : Fault → Ahead
refused f = fault f (at 1 1)

-- ---- tokens, blanks and places
abbrev pub PlainExamples : Type 0
PlainExamples =
    (text [] ≡ end (at 1 1))
    × (text (codes "a.b") ≡ next (ident (codes "a")) (at 1 1) (next (symbol 46) (at 1 2) (next (ident (codes "b")) (at 1 3) (end (at 1 4)))))
    × (text (codes "-5") ≡ next (symbol 45) (at 1 1) (next (number 5) (at 1 2) (end (at 1 3))))
    × (text (codes "inf") ≡ only (ident (codes "inf")) 4)
    × (text (codes "_a9") ≡ only (ident (codes "_a9")) 4)
    -- all blanks but byte 10, which ends a line
    × (text (9 ∷ 11 ∷ 12 ∷ 13 ∷ 32 ∷ []) ≡ end (at 1 6))
    × (text (codes "a" ++ 10 ∷ codes " b") ≡ next (ident (codes "a")) (at 1 1) (next (ident (codes "b")) (at 2 2) (end (at 2 3))))
    -- byte 13 alone ends no line
    × (text (codes "a" ++ 13 ∷ codes "b") ≡ next (ident (codes "a")) (at 1 1) (next (ident (codes "b")) (at 1 3) (end (at 1 4))))
    -- a tab is one column
    × (text (9 ∷ codes "a") ≡ next (ident (codes "a")) (at 1 2) (end (at 1 3)))
    -- a byte order mark
    × (text (239 ∷ 187 ∷ 191 ∷ codes "a") ≡ refused BadByte)
    × (text (codes "a@") ≡ next (ident (codes "a")) (at 1 1) (fault BadByte (at 1 2)))
    × (text (codes "\\") ≡ refused BadByte)

-- ---- numbers
abbrev pub NumberExamples : Type 0
NumberExamples =
    (text (codes "0") ≡ only (number 0) 2)
    × (text (codes "017") ≡ only (number 15) 4)
    × (text (codes "0x1F") ≡ only (number 31) 5)
    × (text (codes "18446744073709551615") ≡ only (number 18446744073709551615) 21)
    × (text (codes "18446744073709551616") ≡ refused BadNumber)
    × (text (codes "09") ≡ refused BadNumber)
    × (text (codes "0x") ≡ refused BadNumber)
    × (text (codes ".5") ≡ only (float (codes ".5")) 3)
    × (text (codes "1.") ≡ only (float (codes "1.")) 3)
    × (text (codes "1e5") ≡ only (float (codes "1e5")) 4)
    × (text (codes "1.5E-3") ≡ only (float (codes "1.5E-3")) 7)
    × (text (codes "1e") ≡ refused BadNumber)
    × (text (codes "1.2.3") ≡ refused BadNumber)
    × (text (codes "a..5") ≡ next (ident (codes "a")) (at 1 1) (next (symbol 46) (at 1 2) (next (float (codes ".5")) (at 1 3) (end (at 1 5)))))
    -- one run, with the sign after e
    × (text (codes "1_e+5") ≡ refused BadNumber)
    -- a sign ends a hexadecimal run
    × (text (codes "0x1e+5") ≡ next (number 30) (at 1 1) (next (symbol 43) (at 1 5) (next (number 5) (at 1 6) (end (at 1 7)))))

-- ---- strings
abbrev pub StringExamples : Type 0
StringExamples =
    (text (codes "\"\"") ≡ only (string []) 3)
    × (text (codes "'a\"b'") ≡ only (string (codes "a\"b")) 6)
    -- a backslash stays, and takes the quote along
    × (text (codes "\"a\\\"b\"") ≡ only (string (codes "a\\\"b")) 7)
    -- byte 10, byte 0 or the end comes before the quote, also after a backslash
    × (text (codes "\"a" ++ 10 ∷ codes "\"") ≡ refused UnclosedString)
    × (text (codes "\"a" ++ 0 ∷ codes "\"") ≡ refused UnclosedString)
    × (text (codes "\"a") ≡ refused UnclosedString)
    × (text (codes "\"\\" ++ 10 ∷ codes "\"") ≡ refused UnclosedString)
    × (text (codes "\"\\" ++ 0 ∷ codes "\"") ≡ refused UnclosedString)
    × (text (codes "\"\\") ≡ refused UnclosedString)
    × (text (codes "a" ++ 10 ∷ codes " 'b") ≡ next (ident (codes "a")) (at 1 1) (fault UnclosedString (at 2 2)))

-- ---- comments
abbrev pub CommentExamples : Type 0
CommentExamples =
    (text (codes "/") ≡ only (symbol 47) 2)
    × (text (codes "/**/") ≡ end (at 1 5))
    × (text (codes "/***/a") ≡ next (ident (codes "a")) (at 1 6) (end (at 1 7)))
    × (text (codes "a /*/") ≡ next (ident (codes "a")) (at 1 1) (fault UnclosedComment (at 1 3)))
    × (text (codes "a//b") ≡ next (ident (codes "a")) (at 1 1) (end (at 1 5)))
    × (text (codes "a//b" ++ 10 ∷ codes "c") ≡ next (ident (codes "a")) (at 1 1) (next (ident (codes "c")) (at 2 1) (end (at 2 2))))

-- ---- the longest texts of tokens, and one byte more
abbrev pub LengthExamples : Type 0
LengthExamples =
    (text (replicate 1023 97) ≡ only (ident (replicate 1023 97)) 1024)
    × (text (replicate 1024 97) ≡ refused TokenTooLong)
    × (text (replicate 1023 48) ≡ only (number 0) 1024)
    × (text (replicate 1024 48) ≡ refused TokenTooLong)
    × (text (39 ∷ replicate 1023 97 ++ 39 ∷ []) ≡ only (string (replicate 1023 97)) 1026)
    × (text (39 ∷ replicate 1024 97 ++ 39 ∷ []) ≡ refused TokenTooLong)
    × (text (39 ∷ replicate 1024 97) ≡ refused UnclosedString)

-- ---- the longest text, and one byte more
abbrev pub LimitExamples : Type 0
LimitExamples =
    (text (replicate 16777215 64) ≡ refused BadByte)
    × (text (replicate 16777216 64) ≡ fault InputTooLong nowhere)

abbrev pub TextExamples : Type 0
TextExamples = PlainExamples × NumberExamples × StringExamples × CommentExamples × LengthExamples × LimitExamples
