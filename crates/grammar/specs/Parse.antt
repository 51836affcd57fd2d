-- A reader of tokens: from what is ahead to a value and what is ahead of it then, or to a refusal.
-- The place of a refusal is that of what comes next where it refuses, so a refusal keeps what was not taken.
use Rattle.std.specs.Prelude.{ℕ, zero, suc, Bool, true, false, ◌&&◌, List, [], ◌∷◌, Some as some, None as none, Option, ◌==◌}
use Rattle.token.specs.declared.answer.Place.{Place}
use Rattle.grammar.specs.declared.fault.ParserError.{ParserError}
use Rattle.grammar.specs.declared.fault.ParserError.TheVariants.{EndOfFile, ExpectSymbol, ExpectIdent, ExpectWord, ExpectString, ForbiddenWord}
use Rattle.grammar.specs.declared.fault.ReadFault.{ReadFault}
use Rattle.grammar.specs.declared.fault.ReadFault.TheVariants.{Source, Reader}
use Rattle.token.specs.Token.{Bytes, Token, Ahead, next, end, fault, place, taken, count}

pub data Reply (A : Type 0) : Type 0 where
  -- the value, and what is ahead then
  ok : A → Ahead → Reply A
  -- why, and what was not taken
  refused : ReadFault → Ahead → Reply A

abbrev pub Parser : Type 0 → Type 0
Parser A = Ahead → Reply A

infixl 20 ◌>>=◌
infixl 20 ◌>>◌
infixl 25 ◌<$>◌
module _ {A B : Type 0} where
  abbrev pub bind : Reply A → (A → Parser B) → Reply B
  bind (ok x a) f = f x a
  bind (refused e a) f = refused e a

  unfoldable pub ◌>>=◌ : Parser A → (A → Parser B) → Parser B
  ◌>>=◌ m f a = bind (m a) f

  unfoldable pub ◌>>◌ : Parser A → Parser B → Parser B
  ◌>>◌ m p a = bind (m a) (λ _. p)

  unfoldable pub ◌<$>◌ : (A → B) → Parser A → Parser B
  ◌<$>◌ f m a = bind (m a) (λ x. ok (f x))

module _ {A : Type 0} where
  unfoldable pub return : A → Parser A
  return x a = ok x a

  -- the reader refuses, at the place of what comes next
  unfoldable pub refuse : ParserError → Parser A
  refuse n a = refused (Reader (record { error = n; place = place a })) a

  infix 1 given◌then◌else◌
  unfoldable pub given◌then◌else◌ : Bool → Parser A → Parser A → Parser A
  given◌then◌else◌ true p q = p
  given◌then◌else◌ false p q = q

  -- with the value that is there, or else
  unfoldable pub with_some : {X : Type 0} → Option X → (X → Parser A) → Parser A → Parser A
  with_some none f q = q
  with_some (some x) f q = f x

-- the place of what comes next
unfoldable pub here : Parser Place
here a = ok (place a) a

-- The token that comes next, none at the end. A look that meets the source's fault refuses with it.
unfoldable pub look : Parser (Option Token)
look (next t p a) = ok (some t) (next t p a)
look (end p) = ok none (end p)
look (fault f p) = refused (Source (record { fault = f; place = p })) (fault f p)

unfoldable pub take : Parser (Unit {0})
take a = ok tt (taken a)

abbrev pub same : Bytes → Bytes → Bool
same [] [] = true
same [] (y ∷ ys) = false
same (x ∷ xs) [] = false
same (x ∷ xs) (y ∷ ys) = x == y && same xs ys

-- ---- what a token is
abbrev pub is_symbol : ℕ → Token → Bool
is_symbol s (Token.symbol b) = b == s
is_symbol s (Token.number n) = false
is_symbol s (Token.ident w) = false
is_symbol s (Token.float w) = false
is_symbol s (Token.string w) = false

abbrev pub is_word : Bytes → Token → Bool
is_word w (Token.symbol b) = false
is_word w (Token.number n) = false
is_word w (Token.ident v) = same v w
is_word w (Token.float v) = false
is_word w (Token.string v) = false

abbrev pub is_string : Token → Bool
is_string (Token.symbol b) = false
is_string (Token.number n) = false
is_string (Token.ident w) = false
is_string (Token.float w) = false
is_string (Token.string w) = true

abbrev pub ident_of : Token → Option Bytes
ident_of (Token.symbol b) = none
ident_of (Token.number n) = none
ident_of (Token.ident w) = some w
ident_of (Token.float w) = none
ident_of (Token.string w) = none

abbrev pub string_of : Token → Option Bytes
string_of (Token.symbol b) = none
string_of (Token.number n) = none
string_of (Token.ident w) = none
string_of (Token.float w) = none
string_of (Token.string w) = some w

abbrev pub integer_of : Token → Option ℕ
integer_of (Token.symbol b) = none
integer_of (Token.number n) = some n
integer_of (Token.ident w) = none
integer_of (Token.float w) = none
integer_of (Token.string w) = none

abbrev pub when : {A : Type 0} → Bool → A → Option A
when true x = some x
when false x = none

-- ---- the ways to read a token
-- a token is due: at the end 10
unfoldable pub due : {A : Type 0} → (Token → Parser A) → Parser A
due f = do
  t ← look
  with_some t f (refuse EndOfFile)

-- does a token with this property come next?
unfoldable pub peek : (Token → Bool) → Parser Bool
peek test = do
  t ← look
  with_some t (λ x. return (test x)) (return false)

-- if so, it is taken
unfoldable pub accept : (Token → Bool) → Parser Bool
accept test = do
  comes ← peek test
  given comes then (do take; return true) else return false

-- a token is due that gives a value: another is refused with n, not taken
unfoldable pub expect : {A : Type 0} → ParserError → (Token → Option A) → Parser A
expect n pick = due (λ x. with_some (pick x) (λ v. do take; return v) (refuse n))

abbrev pub next_is : ℕ → Parser Bool
next_is s = peek (is_symbol s)

abbrev pub next_is_word : Bytes → Parser Bool
next_is_word w = peek (is_word w)

abbrev pub symbol_if : ℕ → Parser Bool
symbol_if s = accept (is_symbol s)

abbrev pub word_if : Bytes → Parser Bool
word_if w = accept (is_word w)

abbrev pub symbol_due : ℕ → Parser (Unit {0})
symbol_due s = expect ExpectSymbol (λ t. when (is_symbol s t) tt)

abbrev pub ident_due : Parser Bytes
ident_due = expect ExpectIdent ident_of

abbrev pub word_due : Bytes → Parser (Unit {0})
word_due w = expect ExpectWord (λ t. when (is_word w t) tt)

abbrev pub string_due : Parser Bytes
string_due = expect ExpectString string_of

-- a word that must not stand here, not taken
unfoldable pub word_forbidden : Bytes → Parser (Unit {0})
word_forbidden w = do
  stands ← next_is_word w
  given stands then refuse ForbiddenWord else return tt

unfoldable pub words_forbidden : List Bytes → Parser (Unit {0})
words_forbidden [] a = return tt a
words_forbidden (w ∷ ws) a = (do word_forbidden w; words_forbidden ws) a

-- the first of these words that comes next is taken and decides; with none of them, the last
unfoldable pub choose : {A : Type 0} → List (Bytes × Parser A) → Parser A → Parser A
choose [] other a = other a
choose (c ∷ cs) other a = (do this_one ← word_if c.0; given this_one then c.1 else choose cs other) a

-- ---- repetition
module _ {A B : Type 0} (add : A → B → B) (stop : B) where
  -- what stands after one turn: nothing more, or the value of the turn and then the rest
  abbrev pub after_turn : Parser B → Option A → Parser B
  after_turn rest none = return stop
  after_turn rest (some x) = add x <$> rest

  unfoldable pub many_for : ℕ → Parser (Option A) → Parser B
  many_for zero turn a = return stop a
  many_for (suc n) turn a = (turn >>= after_turn (many_for n turn)) a

  -- Turns until one answers none. A turn that goes on takes a token, so one turn more than tokens left is enough (`ManyLaw`).
  unfoldable pub many : Parser (Option A) → Parser B
  many turn a = many_for (suc (count a)) turn a

-- one more item unless this symbol comes, which is not taken; one more item after this symbol, if it comes
module _ {A : Type 0} where
  unfoldable pub unless_next : ℕ → Parser A → Parser (Option A)
  unless_next s item = do
    closed ← next_is s
    given closed then return none else (some <$> item)

  unfoldable pub after_next : ℕ → Parser A → Parser (Option A)
  after_next s item = do
    goes_on ← symbol_if s
    given goes_on then (some <$> item) else return none

-- ---- all of this file, for a proof that computes
unfoldable pub opened : Unit {0}
unfolding ◌>>=◌ ◌>>◌ ◌<$>◌ return refuse given◌then◌else◌ with_some here look take due peek accept expect word_forbidden words_forbidden choose many_for many unless_next after_next
opened = tt
