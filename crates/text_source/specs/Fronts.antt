-- What the code's answers at the front of a text s stand for.
use Rattle.std.specs.Prelude.{ℕ, ◌+◌, ◌∷◌, take, drop, slice_index, Result, Ok, Err}
use Rattle.token.specs.declared.answer.Fault.{Fault}
use Rattle.token.specs.Token.{Bytes, Token, symbol, number, ident, float, string}
use Rattle.text_source.specs.declared.front.Span.{Span}
use Rattle.text_source.specs.declared.front.Span.TheVariants.{Symbol, Number, Ident, Float, Quoted}
use Rattle.text_source.specs.declared.front.Front.{Front}
use Rattle.text_source.specs.declared.front.Front.TheVariants as front
use Rattle.text_source.specs.Lexemes.{Lexeme, gap, lexed, bad}

abbrev pub head : Bytes → ℕ
head s = slice_index s 0

abbrev pub tail : Bytes → Bytes
tail s = drop 1 s

abbrev pub token_of : Bytes → Span → Token
token_of s Symbol = symbol (head s)
token_of s (Number v n) = number v
token_of s (Ident n) = ident (head s ∷ take n (tail s))
token_of s (Float n) = float (head s ∷ take n (tail s))
token_of s (Quoted n) = string (take n (tail s))

-- how many bytes of the token follow its first
abbrev pub extent : Span → ℕ
extent Symbol = 0
extent (Number v n) = n
extent (Ident n) = n
extent (Float n) = n
extent (Quoted n) = n + 1

abbrev pub meant : Bytes → Result Front Fault → Lexeme
meant s (Ok (front.Gap n)) = gap n
meant s (Ok (front.Token x)) = lexed (token_of s x) (extent x)
meant s (Err f) = bad f

-- how many bytes follow the first
abbrev pub reach : Result Front Fault → ℕ
reach (Ok (front.Gap n)) = n
reach (Ok (front.Token x)) = extent x
reach (Err f) = 0
