-- The listing of a source: a line for each token, and a last one for the end or the fault.
use Rattle.std.specs.Prelude.{Bool, true, false, [], ◌∷◌, ◌++◌, codes, decimal}
use Rattle.token.specs.declared.answer.Place.{Place}
use Rattle.token.specs.declared.answer.Fault.{Fault}
use Rattle.token.specs.declared.answer.Kind.{Kind}
use Rattle.token.specs.declared.answer.Kind.TheVariants.{Symbol, Ident, IntLit, FloatLit, StrLit, End}
use Rattle.token.specs.Place.{place_text}
use Rattle.token.specs.Fault.{fault_text}
use Rattle.token.specs.Token.{Bytes, Token, symbol, number, ident, float, string, Ahead, next, end, fault, place, kind}

-- `line:column word`
abbrev pub head : Place → Bytes → Bytes
head p w = place_text p ++ codes " " ++ w

abbrev pub word : Kind → Bytes
word Symbol = codes "symbol "
word Ident = codes "ident "
word IntLit = codes "integer "
word FloatLit = codes "float "
word StrLit = codes "string "
word End = codes "end"

-- the value of an integer, the text of any other token as it stands
abbrev pub token_detail : Token → Bytes
token_detail (symbol c) = c ∷ []
token_detail (number n) = decimal n
token_detail (ident w) = w
token_detail (float w) = w
token_detail (string w) = w

-- number and name of a fault
abbrev pub fault_detail : Fault → Bytes
fault_detail f = fault_text f

abbrev pub detail : Ahead → Bytes
detail (next t p a) = token_detail t
detail (end p) = []
detail (fault f p) = fault_detail f

-- the word for what comes next
abbrev pub word_for : Ahead → Bytes
word_for (next t p a) = word (kind t)
word_for (end p) = word End
word_for (fault f p) = codes "fault "

-- the line of what comes next: `line:column kind detail`, `line:column end` or `line:column fault number name`
abbrev pub first_line : Ahead → Bytes
first_line a = head (place a) (word_for a) ++ detail a ++ 10 ∷ []

-- the end and a fault are listed last
abbrev pub is_last : Ahead → Bool
is_last (next t p a) = false
is_last (end p) = true
is_last (fault f p) = true

unfoldable pub listing : Ahead → Bytes
listing (next t p a) = first_line (next t p a) ++ listing a
listing (end p) = first_line (end p)
listing (fault f p) = first_line (fault f p)

-- what is ahead once every token is taken
abbrev pub spent : Ahead → Ahead
spent (next t p a) = spent a
spent (end p) = end p
spent (fault f p) = fault f p

-- what is ahead after some of the tokens were taken
pub data Later : Ahead → Ahead → Type 0 where
  here : {a : Ahead} → Later a a
  past : {t : Token} {p : Place} {a b : Ahead} → Later a (next t p b) → Later a b
