-- What a token source means: the tokens still to come, each with its place, then a clean end or one fault.
use Rattle.std.specs.Prelude.{ℕ, zero, suc, List, [], ◌∷◌, length, slice_index, Result, Ok, Err}
use Rattle.token.specs.declared.answer.Place.{Place}
use Rattle.token.specs.declared.answer.Fault.{Fault}
use Rattle.token.specs.declared.answer.Kind.{Kind}
use Rattle.token.specs.declared.answer.Kind.TheVariants.{Symbol, Ident, IntLit, FloatLit, StrLit, End}
use Rattle.token.specs.declared.answer.Look.{Look}
use Rattle.token.specs.declared.answer.SourceFault.{SourceFault}

-- a line and a column: both from 1 in a text; on a tape line 0 and the first word's index
abbrev pub at : ℕ → ℕ → Place
at l c = record { line = l; column = c }

abbrev pub nowhere : Place
nowhere = at 0 0

-- the bytes of a text, each below 256
abbrev pub Bytes : Type 0
Bytes = List ℕ

pub data Token : Type 0 where
  symbol : ℕ → Token
  number : ℕ → Token
  ident : Bytes → Token
  float : Bytes → Token
  string : Bytes → Token

-- what comes: a token and then the rest, or a clean end, or one fault
pub data Ahead : Type 0 where
  next : Token → Place → Ahead → Ahead
  end : Place → Ahead
  fault : Fault → Place → Ahead

-- the place of what comes next, be it token, end or fault
abbrev pub place : Ahead → Place
place (next t p rest) = p
place (end p) = p
place (fault f p) = p

-- Take removes the next token, and does nothing at an end or a fault.
abbrev pub taken : Ahead → Ahead
taken (next t p rest) = rest
taken (end p) = end p
taken (fault f p) = fault f p

-- how many tokens are still to come
abbrev pub count : Ahead → ℕ
count (next t p rest) = suc (count rest)
count (end p) = zero
count (fault f p) = zero

-- tokens without places, as a printer gives them, in front of what comes
abbrev pub unplaced : List Token → Ahead → Ahead
unplaced [] a = a
unplaced (t ∷ ts) a = next t nowhere (unplaced ts a)

-- ---- what the four functions of a source answer
-- the bytes of a token's text: a symbol's is its byte, an integer has none
abbrev pub bytes : Token → Bytes
bytes (symbol c) = c ∷ []
bytes (number n) = []
bytes (ident w) = w
bytes (float w) = w
bytes (string w) = w

abbrev pub kind : Token → Kind
kind (symbol c) = Symbol
kind (number n) = IntLit
kind (ident w) = Ident
kind (float w) = FloatLit
kind (string w) = StrLit

abbrev pub value : Token → ℕ
value (symbol c) = 0
value (number n) = n
value (ident w) = 0
value (float w) = 0
value (string w) = 0

-- the text of what comes next
abbrev pub spelled : Ahead → Bytes
spelled (next t p a) = bytes t
spelled (end p) = []
spelled (fault f p) = []

-- Look answers kind, text length and place of what comes next, or the fault with its place.
abbrev pub look_at : Kind → ℕ → Place → Look
look_at k n p = record { kind = k; len = n; place = p }

abbrev pub fault_at : Fault → Place → SourceFault
fault_at f p = record { fault = f; place = p }

abbrev pub looked : Ahead → Result Look SourceFault
looked (next t p a) = Ok (look_at (kind t) (length (bytes t)) p)
looked (end p) = Ok (look_at End 0 p)
looked (fault f p) = Err (fault_at f p)

-- Number answers the next token's integer, or 0 for other kinds.
abbrev pub numbered : Ahead → ℕ
numbered (next t p a) = value t
numbered (end p) = 0
numbered (fault f p) = 0

-- Byte k, from 0, answers that byte of its text, or 0 beyond.
abbrev pub byted : Ahead → ℕ → ℕ
byted a k = slice_index (spelled a) k
