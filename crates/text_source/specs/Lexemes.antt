-- What stands at the front of a text: something to skip, a token, or what is wrong there.
use Rattle.std.specs.Prelude.{ℕ, suc, ◌+◌, Bool, true, false, not, ◌&&◌, ◌||◌, ◌∷◌, length, take, drop, Some, None, codes, Option, ◌==◌, nat_lt, slice_index, slice_index_or}
use Rattle.token.specs.declared.answer.Fault.{Fault}
use Rattle.token.specs.declared.answer.Fault.TheVariants.{BadByte, BadNumber, UnclosedString, UnclosedComment, TokenTooLong}
use Rattle.token.specs.Runs.{runs, run, before}
use Rattle.token.specs.Token.{Bytes, Token, symbol, number, ident, float, string}
use Rattle.token.specs.Law.{between, one_of, is_digit, is_name_byte, is_float, longest}
use Rattle.text_source.specs.declared.class.Class.{Class}
use Rattle.text_source.specs.declared.class.Class.TheVariants.{Blank, Letter, Digit, Quote, Symbol, Other}
use Rattle.text_source.specs.Classes.{class_of}
use Rattle.text_source.specs.Numerals.{is_x, int_lit}

-- a gap or a token, with how many of its bytes follow the first, or a fault
pub data Lexeme : Type 0 where
  gap : ℕ → Lexeme
  lexed : Token → ℕ → Lexeme
  bad : Fault → Lexeme

-- a token whose text has n bytes, which may be too many
abbrev pub limited : ℕ → Lexeme → Lexeme
limited n x = elim (nat_lt longest n) [ true ↦ bad TokenTooLong | false ↦ x ]

-- ---- An identifier: a letter or underscore, then letters, digits and underscores.
unfoldable pub word : ℕ → Bytes → Lexeme
word b bs = let n = run is_name_byte bs in limited (suc n) (lexed (ident (b ∷ take n bs)) n)

-- ---- A number starts at a digit, or a dot before a digit. It runs over letters, digits, underscores, dots, and a sign
-- after e or E unless it began with 0x or 0X. The whole run, if not too long, has to be an integer literal below 2 ^ 64
-- or a floating point literal.
abbrev pub is_hex : ℕ → Bytes → Bool
is_hex b bs = b == 48 && is_x (slice_index bs 0)

abbrev pub in_number : Bool → ℕ → ℕ → Bool
in_number hex last b = is_name_byte b || b == 46 || (not hex && one_of (codes "eE") last && one_of (codes "+-") b)

abbrev pub float_or_bad : Bytes → ℕ → Bool → Lexeme
float_or_bad bs n true = lexed (float bs) n
float_or_bad bs n false = bad BadNumber

abbrev pub number_or_float : Bytes → ℕ → Option ℕ → Lexeme
number_or_float bs n (Some v) = lexed (number v) n
number_or_float bs n None = float_or_bad bs n (is_float bs)

unfoldable pub numeral : ℕ → Bytes → Lexeme
numeral b bs =
    let n = runs (in_number (is_hex b bs)) before b bs in
    let text = b ∷ take n bs in
    limited (suc n) (number_or_float text n (int_lit text))

-- ---- A string runs between equal quotes, over bytes 1 to 255 but 10. A backslash takes the next byte along (`escaped`).
-- Without its closing quote it is unclosed, and only then judged by its length.
abbrev pub in_string : ℕ → Bool → ℕ → Bool
in_string quote escaped b = between 1 255 b && not (b == 10) && (escaped || not (b == quote))

abbrev pub escapes : Bool → ℕ → Bool
escapes escaped b = not escaped && b == 92

unfoldable pub quoted : ℕ → Bytes → Lexeme
quoted q bs =
    let n = runs (in_string q) escapes false bs in
    elim (nat_lt n (length bs) && slice_index bs n == q) [ true ↦ limited n (lexed (string (take n bs)) (n + 1)) | false ↦ bad UnclosedString ]

-- ---- A comment: // up to byte 10 or the end.
abbrev pub in_line : ℕ → Bool
in_line b = not (b == 10)

-- ---- A comment: /* through the next */ after it. The run goes up to that one's slash.
abbrev pub in_comment : ℕ → ℕ → Bool
in_comment last b = not (last == 42 && b == 47)

-- after /*
unfoldable pub comment : Bytes → Lexeme
comment bs = let n = runs in_comment before 0 bs in elim (nat_lt n (length bs)) [ true ↦ gap (n + 2) | false ↦ bad UnclosedComment ]

-- ---- A symbol is one byte; but // and /* begin comments, and a dot before a digit begins a number.
unfoldable pub mark : ℕ → Bytes → Lexeme
mark b bs =
    let next = slice_index_or bs 0 0 in
    elim (b == 47 && next == 47) [
      | true ↦ gap (run in_line bs)
      | false ↦ elim (b == 47 && next == 42) [
        | true ↦ comment (drop 1 bs)
        | false ↦ elim (b == 46 && is_digit next) [ true ↦ numeral b bs | false ↦ lexed (symbol b) 0 ]
      ]
    ]

-- ---- All of these by the class of the first byte. A blank is skipped, and a byte of no class is a fault.
abbrev pub by_class : Class → ℕ → Bytes → Lexeme
by_class Blank b bs = gap 0
by_class Letter b bs = word b bs
by_class Digit b bs = numeral b bs
by_class Quote b bs = quoted b bs
by_class Symbol b bs = mark b bs
by_class Other b bs = bad BadByte

unfoldable pub lexeme : ℕ → Bytes → Lexeme
lexeme b bs = by_class (class_of b) b bs
