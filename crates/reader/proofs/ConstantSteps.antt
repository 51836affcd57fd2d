-- How constants are read.
use Rattle.std.proofs.Common.{◌≡◌, ℕ, ◌≤◌, Bool, true, false, leb, Ok, codes, length, ap, ◌∙◌, arith}
use Rattle.std.proofs.lemmas.Bool.Decides.{nat_tests}
use Rattle.token.specs.declared.answer.Kind.{Kind}
use Rattle.token.specs.declared.answer.Kind.TheVariants.{End, Symbol, IntLit, Ident, FloatLit, StrLit}
use Rattle.token.specs.declared.answer.Look.{Look}
use Rattle.token.specs.Token.{Bytes, Token, Ahead, next, end, fault, place, taken, look_at, looked, numbered, byted, spelled}
use Rattle.grammar.specs.declared.fault.ReadFault.TheVariants.{Reader}
use Rattle.grammar.specs.declared.fault.ParserError.TheVariants.{EndOfFile, IncorrectInput}
use Rattle.grammar.specs.Parse.{Reply, ok, refused, Parser, ◌>>=◌, ◌>>◌, return, refuse, given◌then◌else◌, with_some, look, take, due, expect, choose, word_if}
use Rattle.grammar.specs.Tree.{Item, Value, nothing, one}
use Rattle.grammar.specs.Grammar.{signed_number, signed_value, full_ident}
use Rattle.reader.specs.WordConstant.{word_constant}

-- what is due, by the kind of what comes next
abbrev pub due_look : {A : Type 0} → (Token → Parser A) → Ahead → Kind → Reply A
due_look f a End = refused (Reader (record { error = EndOfFile; place = place a })) a
due_look f a Symbol = f (Token.symbol (byted a 0)) a
due_look f a IntLit = f (Token.number (numbered a)) a
due_look f a Ident = f (Token.ident (spelled a)) a
due_look f a FloatLit = f (Token.float (spelled a)) a
due_look f a StrLit = f (Token.string (spelled a)) a

due-is : {A : Type 0} (f : Token → Parser A) (a : Ahead) (l : Look) → Ok l ≡ looked a → due f a ≡ due_look f a l.kind
unfolding due look ◌>>=◌ with_some refuse
due-is f (next (Token.symbol b) p a) l e = let s : l ≡ look_at Symbol 1 p = cc in rw s
due-is f (next (Token.number n) p a) l e = let s : l ≡ look_at IntLit 0 p = cc in rw s
due-is f (next (Token.ident w) p a) l e = let s : l ≡ look_at Ident (length w) p = cc in rw s
due-is f (next (Token.float w) p a) l e = let s : l ≡ look_at FloatLit (length w) p = cc in rw s
due-is f (next (Token.string w) p a) l e = let s : l ≡ look_at StrLit (length w) p = cc in rw s
due-is f (end p) l e = let s : l ≡ look_at End 0 p = cc in rw s
due-is f (fault x p) l e = cc

pub due-at : {A : Type 0} (f : Token → Parser A) (a : Ahead) (l : Look) (k : Kind) → Ok l ≡ looked a → l.kind ≡ k → due f a ≡ due_look f a k
due-at f a l k e h = due-is f a l e ∙ ap (due_look f a) h

-- a number after its sign
module _ (a : Ahead) (l : Look) (seen : Ok l ≡ looked a) (b : Ahead) (rest : b ≡ taken a) (negative : Bool) where
  abbrev signs : Bool → Token → Parser Value
  signs sign x = with_some (signed_value sign x) (λ v. do take; return v) (refuse IncorrectInput)

  pub positive_is : (n : ℕ) → negative ≡ false → n ≡ numbered a → l.kind ≡ IntLit → signed_number negative a ≡ ok (one (Item.constant (Value.unsigned n)) nothing) b
  unfolding signed_number expect ◌>>=◌ ◌>>◌ take return with_some given◌then◌else◌
  positive_is n z e k = rw (z, e, rest, due-at (signs false) a l IntLit seen k)

  pub negative_is : (n : ℕ) → negative ≡ true → n ≡ numbered a → n ≤ 9223372036854775808 → l.kind ≡ IntLit → signed_number negative a ≡ ok (one (Item.constant (Value.minus n)) nothing) b
  unfolding signed_number expect ◌>>=◌ ◌>>◌ take return with_some given◌then◌else◌
  negative_is n z e h k = let few : numbered a ≤ 9223372036854775808 = omega arith in let t : leb (numbered a) 9223372036854775808 ≡ true = grind (arith, nat_tests) in rw (z, e, rest, due-at (signs true) a l IntLit seen k, t)

  pub float_is : l.kind ≡ FloatLit → signed_number negative a ≡ ok (one (Item.constant (Value.float negative (spelled a))) nothing) b
  unfolding signed_number expect ◌>>=◌ ◌>>◌ take return with_some given◌then◌else◌
  float_is k = rw (rest, due-at (signs negative) a l FloatLit seen k)

-- ---- words
module _ (a : Ahead) {b : Ahead} where
  pub true_is : word_if (codes "true") a ≡ ok true b → word_constant a ≡ ok (one (Item.constant (Value.truth true)) nothing) b
  unfolding choose ◌>>=◌ given◌then◌else◌ return
  true_is e = rw e

  module _ (e : word_if (codes "true") a ≡ ok false b) {c : Ahead} where
    pub false_is : word_if (codes "false") b ≡ ok true c → word_constant a ≡ ok (one (Item.constant (Value.truth false)) nothing) c
    unfolding choose ◌>>=◌ given◌then◌else◌ return
    false_is h = rw (e, h)

    pub path-is : {p : Bytes} {d : Ahead} → word_if (codes "false") b ≡ ok false c → full_ident c ≡ ok p d → word_constant a ≡ ok (one (Item.constant (Value.path p)) nothing) d
    unfolding choose ◌>>=◌ given◌then◌else◌ return
    path-is h k = rw (e, h, k)
