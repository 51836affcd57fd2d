-- Tapes, and what they mean.
use Rattle.std.specs.Prelude.{◌≡◌, ℕ, ◌<◌, List, [], ◌∷◌, ◌++◌, length, take, codes}
use Rattle.token.specs.declared.answer.Fault.TheVariants.{CutTape, BadWord, InputTooLong}
use Rattle.token.specs.Token.{at, Token, Ahead, next, end, fault}
use Rattle.tape_source.specs.Tape.{tape}

-- ---- the words of `syntax = "proto2";`
abbrev pub syntax_words : List ℕ
syntax_words = 0x60000006 ∷ 0x746E7973 ∷ 0x00007861 ∷ 0x2000003D ∷ 0xA0000006 ∷ 0x746F7270 ∷ 0x0000326F ∷ 0x2000003B ∷ 0x00000000 ∷ []

-- what is ahead, after one to four of its tokens
abbrev pub after_name : Ahead → Ahead
after_name rest = next (Token.ident (codes "syntax")) (at 0 0) rest

abbrev pub after_equals : Ahead → Ahead
after_equals rest = after_name (next (Token.symbol 61) (at 0 3) rest)

abbrev pub after_string : Ahead → Ahead
after_string rest = after_equals (next (Token.string (codes "proto2")) (at 0 4) rest)

abbrev pub after_semicolon : Ahead → Ahead
after_semicolon rest = after_string (next (Token.symbol 59) (at 0 7) rest)

-- the whole tape, also with words after the end word, and the tape cut after each of its words
abbrev pub WholeAndCut : Type 0
WholeAndCut =
    (tape syntax_words ≡ after_semicolon (end (at 0 8)))
    × (tape (syntax_words ++ 0xC0000000 ∷ 0x60000006 ∷ []) ≡ after_semicolon (end (at 0 8)))
    × (tape (take 0 syntax_words) ≡ fault CutTape (at 0 0))
    × (tape (take 1 syntax_words) ≡ fault CutTape (at 0 0))
    × (tape (take 2 syntax_words) ≡ fault CutTape (at 0 0))
    × (tape (take 3 syntax_words) ≡ after_name (fault CutTape (at 0 3)))
    × (tape (take 4 syntax_words) ≡ after_equals (fault CutTape (at 0 4)))
    × (tape (take 5 syntax_words) ≡ after_equals (fault CutTape (at 0 4)))
    × (tape (take 6 syntax_words) ≡ after_equals (fault CutTape (at 0 4)))
    × (tape (take 7 syntax_words) ≡ after_string (fault CutTape (at 0 7)))
    × (tape (take 8 syntax_words) ≡ after_semicolon (fault CutTape (at 0 8)))

-- ---- tokens of the other kinds
abbrev pub alone : Token → ℕ → Ahead
alone t i = next t (at 0 0) (end (at 0 i))

-- two integers, two floats, a string of no bytes, and an identifier that fills its word
abbrev pub OtherKinds : Type 0
OtherKinds =
    (tape (0x40000000 ∷ 5 ∷ 1 ∷ 0 ∷ []) ≡ alone (Token.number 4294967301) 3)
    × (tape (0x40000000 ∷ 0xFFFFFFFF ∷ 0xFFFFFFFF ∷ 0 ∷ []) ≡ alone (Token.number 18446744073709551615) 3)
    × (tape (0x80000003 ∷ 0x00352E31 ∷ 0 ∷ []) ≡ alone (Token.float (codes "1.5")) 2)
    × (tape (0x80000005 ∷ 0x2D65352E ∷ 0x00000033 ∷ 0 ∷ []) ≡ alone (Token.float (codes ".5e-3")) 3)
    × (tape (0xA0000000 ∷ 0 ∷ []) ≡ alone (Token.string []) 1)
    × (tape (0x60000004 ∷ 0x656D616E ∷ 0 ∷ []) ≡ alone (Token.ident (codes "name")) 2)

-- ---- faults
abbrev pub Bad : List ℕ → Type 0
Bad ws = tape ws ≡ fault BadWord (at 0 0)

abbrev pub Cut : List ℕ → Type 0
Cut ws = tape ws ≡ fault CutTape (at 0 0)

-- an end with a bit; no symbol, and a symbol with a ninth bit; an integer with a bit; texts of no bytes and of 1,024; kinds 6 and 7
abbrev pub BadFirstWords : Type 0
BadFirstWords =
    Bad (0x00000001 ∷ [])
    × Bad (0x20000040 ∷ 0 ∷ [])
    × Bad (0x2000013B ∷ 0 ∷ [])
    × Bad (0x40000001 ∷ 5 ∷ 1 ∷ 0 ∷ [])
    × Bad (0x60000000 ∷ 0 ∷ [])
    × Bad (0x80000000 ∷ 0 ∷ [])
    × Bad (0xA0000400 ∷ 0 ∷ [])
    × Bad (0xC0000000 ∷ 0 ∷ [])
    × Bad (0xE0000000 ∷ 0 ∷ [])

-- the identifier `1a`, the floats `1` and `inf`, and an identifier and a string with a byte behind the last
abbrev pub BadContents : Type 0
BadContents =
    Bad (0x60000002 ∷ 0x00006131 ∷ 0 ∷ [])
    × Bad (0x80000001 ∷ 0x00000031 ∷ 0 ∷ [])
    × Bad (0x80000003 ∷ 0x00666E69 ∷ 0 ∷ [])
    × Bad (0x60000002 ∷ 0x01006261 ∷ 0 ∷ [])
    × Bad (0xA0000001 ∷ 0x00000100 ∷ 0 ∷ [])

-- a bad first word before missing words, and missing words before a bad content; a fault behind a token
abbrev pub OrderOfFaults : Type 0
OrderOfFaults =
    Bad (0x60000000 ∷ [])
    × Bad (0x20000040 ∷ [])
    × Bad (0x60000400 ∷ [])
    × Bad (0x40000001 ∷ [])
    × Cut (0x40000000 ∷ 5 ∷ [])
    × Cut (0x60000005 ∷ 0x61616131 ∷ [])
    × (tape (0x2000003B ∷ 0xC0000000 ∷ []) ≡ next (Token.symbol 59) (at 0 0) (fault BadWord (at 0 1)))

-- more than 16,777,215 words, whatever they are
abbrev pub TooLong : Type 0
TooLong = (ws : List ℕ) → 16777215 < length ws → tape ws ≡ fault InputTooLong (at 0 0)

abbrev pub TapeExamples : Type 0
TapeExamples = WholeAndCut × OtherKinds × BadFirstWords × BadContents × OrderOfFaults × TooLong
