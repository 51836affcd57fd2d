-- How constants begin.
use Rattle.std.proofs.Common.{◌≡◌, true, false, eqb, ◌≢◌, ◌⊎◌, Ok, Err, sym, refl, ap, ◌∙◌, inl, inr, arith}
use Rattle.std.proofs.lemmas.Bool.Decides.{nat_tests}
use Rattle.token.specs.declared.answer.Kind.TheVariants.{End, Symbol, IntLit, Ident, FloatLit, StrLit}
use Rattle.token.specs.declared.answer.Look.{Look}
use Rattle.token.specs.declared.answer.SourceFault.{SourceFault}
use Rattle.token.specs.Token.{Token, Ahead, next, end, fault, place, taken, numbered, byted, spelled, looked}
use Rattle.grammar.specs.declared.fault.ParserError.{ParserError}
use Rattle.grammar.specs.declared.fault.ParserError.TheVariants.{EndOfFile, ExpectConstant}
use Rattle.grammar.specs.declared.fault.ReadFault.{ReadFault}
use Rattle.grammar.specs.declared.fault.ReadFault.TheVariants.{Source, Reader}
use Rattle.grammar.specs.Parse.{ok, refused, Parser, ◌>>=◌, ◌>>◌, return, refuse, given◌then◌else◌, look, take, due}
use Rattle.grammar.specs.Tree.{Item, Value, nothing, one}
use Rattle.grammar.specs.Grammar.{Inner, message_constant, list_constant, constant, constant_at, signed_number}
use Rattle.reader.specs.WordConstant.{word_constant}
use Rattle.reader.proofs.ConstantSteps.{due-at, positive_is, float_is}

-- the reader's refusal where it stands
abbrev pub refusal_at : ParserError → Ahead → ReadFault
refusal_at n a = Reader (record { error = n; place = place a })

pub broken_is : {A : Type 0} (f : Token → Parser A) (a : Ahead) (x : SourceFault) → Err x ≡ looked a → due f a ≡ refused (Source x) a
unfolding due look ◌>>=◌
broken_is f (next t p a) x e = cc
broken_is f (end p) x e = cc
broken_is f (fault n p) x e = let s : x ≡ record { fault = n; place = p } = cc in ap (λ (y : SourceFault). refused (Source y) (fault n p)) (sym s)

module _ (a : Ahead) (l : Look) (seen : Ok l ≡ looked a) (inner : Inner) where
  pub begins-message : l.kind ≡ Symbol → byted a 0 ≡ 123 → constant inner a ≡ inner message_constant a
  unfolding constant_at given◌then◌else◌
  begins-message k e = due-at (constant_at inner) a l Symbol seen k ∙ rw e

  pub begins-list : l.kind ≡ Symbol → byted a 0 ≡ 91 → constant inner a ≡ inner list_constant a
  unfolding constant_at given◌then◌else◌
  begins-list k e = due-at (constant_at inner) a l Symbol seen k ∙ rw e

  pub begins_plus : l.kind ≡ Symbol → byted a 0 ≡ 43 → constant inner a ≡ signed_number false (taken a)
  unfolding constant_at given◌then◌else◌ ◌>>◌ take
  begins_plus k e = due-at (constant_at inner) a l Symbol seen k ∙ rw e

  pub begins-minus : l.kind ≡ Symbol → byted a 0 ≡ 45 → constant inner a ≡ signed_number true (taken a)
  unfolding constant_at given◌then◌else◌ ◌>>◌ take
  begins-minus k e = due-at (constant_at inner) a l Symbol seen k ∙ rw e

  pub begins_none : l.kind ≡ Symbol → byted a 0 ≢ 123 → byted a 0 ≢ 91 → byted a 0 ≢ 43 → byted a 0 ≢ 45 → constant inner a ≡ refused (refusal_at ExpectConstant a) a
  unfolding constant_at given◌then◌else◌ refuse
  begins_none k n₁ n₂ n₃ n₄ =
      let t₁ : eqb (byted a 0) 123 ≡ false = grind (arith, nat_tests) in
      let t₂ : eqb (byted a 0) 91 ≡ false = grind (arith, nat_tests) in
      let t₃ : eqb (byted a 0) 43 ≡ false = grind (arith, nat_tests) in
      let t₄ : eqb (byted a 0) 45 ≡ false = grind (arith, nat_tests) in
      due-at (constant_at inner) a l Symbol seen k ∙ rw (t₁, t₂, t₃, t₄)

  pub begins-end : l.kind ≡ End → constant inner a ≡ refused (refusal_at EndOfFile a) a
  begins-end k = due-at (constant_at inner) a l End seen k

  begins-number : l.kind ≡ IntLit → constant inner a ≡ signed_number false a
  unfolding constant_at ◌>>◌ take return
  begins-number k = due-at (constant_at inner) a l IntLit seen k ∙ sym (positive_is a l seen (taken a) refl false (numbered a) refl refl k)

  begins-float : l.kind ≡ FloatLit → constant inner a ≡ signed_number false a
  unfolding constant_at ◌>>◌ take return
  begins-float k = due-at (constant_at inner) a l FloatLit seen k ∙ sym (float_is a l seen (taken a) refl false k)

  pub begins-numeral : (l.kind ≡ IntLit) ⊎ (l.kind ≡ FloatLit) → constant inner a ≡ signed_number false a
  begins-numeral (inl k) = begins-number k
  begins-numeral (inr k) = begins-float k

  pub begins-text : l.kind ≡ StrLit → constant inner a ≡ ok (one (Item.constant (Value.string (spelled a))) nothing) (taken a)
  unfolding constant_at ◌>>◌ take return
  begins-text k = due-at (constant_at inner) a l StrLit seen k

  pub begins-word : l.kind ≡ Ident → constant inner a ≡ word_constant a
  unfolding constant_at
  begins-word k = due-at (constant_at inner) a l Ident seen k
