use Rattle.std.proofs.Common.{◌≢◌, sym, refl, ◌∙◌, rules}
use Rattle.token.specs.Token.{spelled, byted}
use Rattle.grammar.specs.Tree as tree
use Rattle.grammar.specs.Tree.{one, nothing}
use Rattle.grammar.specs.Grammar.{constant_at}
use Rattle.store.specs.declared.parts.Item.TheVariants.{Constant}
use Rattle.store.specs.declared.parts.Value.TheVariants.{Text}
use Rattle.reader.proofs.Texts.{grew_same}
use Rattle.reader.proofs.Leaves.{kept-text}
use Rattle.reader.proofs.Beginnings.{broken_is, begins-end, begins-message, begins-list, begins_plus, begins-minus, begins_none, begins-numeral, begins-text, begins-word}
use Rattle.reader.proofs.Chains.{err_exit}
use Rattle.reader.proofs.parser.Parser.next_plain_constant.Goals as goal

pub returns-in_err-look-clause-begins : goal.returns-in_err-look-clause-begins
returns-in_err-look-clause-begins g c =
    rw (err_exit _ c.from_residual.ensures) (λ inner. broken_is (constant_at inner) _ _ c.in_err-look.ensures, grew_same c.args.self.now.out.now)

pub returns-in_err-next_signed_number-in-43-clause-begins : goal.returns-in_err-next_signed_number-in-43-clause-begins
returns-in_err-next_signed_number-in-43-clause-begins g c =
    let e = c.in_err-next_signed_number-in-43.ensures.reads in
    rw (err_exit _ c.from_residual-in_err-next_signed_number-in-43.ensures) (λ inner. begins_plus _ _ c.in_ok-look.ensures inner c.in-Symbol.is (sym c.byte.ensures ∙ c.in-43.is) ∙ rw (← c.take.ensures) e.0, e.1)

pub returns-in_err-next_signed_number-in-45-clause-begins : goal.returns-in_err-next_signed_number-in-45-clause-begins
returns-in_err-next_signed_number-in-45-clause-begins g c =
    let e = c.in_err-next_signed_number-in-45.ensures.reads in
    rw (err_exit _ c.from_residual-in_err-next_signed_number-in-45.ensures) (λ inner. begins-minus _ _ c.in_ok-look.ensures inner c.in-Symbol.is (sym c.byte.ensures ∙ c.in-45.is) ∙ rw (← c.take-in-45.ensures) e.0, e.1)

pub returns-in_err-next_signed_number-in-IntLit-clause-begins : goal.returns-in_err-next_signed_number-in-IntLit-clause-begins
returns-in_err-next_signed_number-in-IntLit-clause-begins g c =
    let e = c.in_err-next_signed_number-in-IntLit.ensures.reads in
    rw (err_exit _ c.from_residual-in_err-next_signed_number-in-IntLit.ensures) (λ inner. begins-numeral _ _ c.in_ok-look.ensures inner c.in-IntLit.is ∙ e.0, e.1)

pub returns-in_err-next_word_constant-in-Ident-clause-begins : goal.returns-in_err-next_word_constant-in-Ident-clause-begins
returns-in_err-next_word_constant-in-Ident-clause-begins g c =
    let e = c.in_err-next_word_constant-in-Ident.ensures.reads in
    rw (err_exit _ c.from_residual-in_err-next_word_constant-in-Ident.ensures) (λ inner. begins-word _ _ c.in_ok-look.ensures inner c.in-Ident.is ∙ e.0, e.1)

pub returns-in-123-clause-begins : goal.returns-in-123-clause-begins
returns-in-123-clause-begins g c = record { is = λ inner. begins-message _ _ c.in_ok-look.ensures inner c.in-Symbol.is (sym c.byte.ensures ∙ c.in-123.is); stays = refl; same = refl }

pub returns-in-91-clause-begins : goal.returns-in-91-clause-begins
returns-in-91-clause-begins g c = record { is = λ inner. begins-list _ _ c.in_ok-look.ensures inner c.in-Symbol.is (sym c.byte.ensures ∙ c.in-91.is); stays = refl; same = refl }

pub returns-in_ok-next_signed_number-in-43-clause-begins : goal.returns-in_ok-next_signed_number-in-43-clause-begins
returns-in_ok-next_signed_number-in-43-clause-begins g c =
    let e = c.in_ok-next_signed_number-in-43.ensures.reads in
    (e.0, λ inner. begins_plus _ _ c.in_ok-look.ensures inner c.in-Symbol.is (sym c.byte.ensures ∙ c.in-43.is) ∙ rw (← c.take.ensures) e.1, e.2)

pub returns-in_ok-next_signed_number-in-45-clause-begins : goal.returns-in_ok-next_signed_number-in-45-clause-begins
returns-in_ok-next_signed_number-in-45-clause-begins g c =
    let e = c.in_ok-next_signed_number-in-45.ensures.reads in
    (e.0, λ inner. begins-minus _ _ c.in_ok-look.ensures inner c.in-Symbol.is (sym c.byte.ensures ∙ c.in-45.is) ∙ rw (← c.take-in-45.ensures) e.1, e.2)

pub returns-in_default-clause-begins : goal.returns-in_default-clause-begins
returns-in_default-clause-begins g c =
    let a = (g.S.Source.ahead c.args.self.now.source.now) in
    let n₁ : byted a 0 ≢ 123 = λ e. search rules in
    let n₂ : byted a 0 ≢ 91 = λ e. search rules in
    let n₃ : byted a 0 ≢ 43 = λ e. search rules in
    let n₄ : byted a 0 ≢ 45 = λ e. search rules in
    (λ inner. rw c.refusal.ensures (begins_none a _ c.in_ok-look.ensures inner c.in-Symbol.is n₁ n₂ n₃ n₄), grew_same c.args.self.now.out.now)

pub returns-in_ok-next_signed_number-in-IntLit-clause-begins : goal.returns-in_ok-next_signed_number-in-IntLit-clause-begins
returns-in_ok-next_signed_number-in-IntLit-clause-begins g c =
    let e = c.in_ok-next_signed_number-in-IntLit.ensures.reads in
    (e.0, λ inner. begins-numeral _ _ c.in_ok-look.ensures inner c.in-IntLit.is ∙ e.1, e.2)

pub returns-in-StrLit-clause-begins : goal.returns-in-StrLit-clause-begins
returns-in-StrLit-clause-begins g c =
    let a = (g.S.Source.ahead c.args.self.now.source.now) in
    let text = c.take_text-text.ensures in (
      one (tree.Item.constant (tree.Value.string (spelled a))) nothing,
      λ inner. rw text.rest (begins-text a _ c.in_ok-look.ensures inner c.in-StrLit.is),
      kept-text c.args.self.now.out.now (λ u. Constant (Text u)) (λ v. tree.Item.constant (tree.Value.string v)) (λ bs u. refl) (λ m u h. h) (λ v. refl) text.text text.at c.put.ensures.does,
    )

pub returns-in_ok-next_word_constant-in-Ident-clause-begins : goal.returns-in_ok-next_word_constant-in-Ident-clause-begins
returns-in_ok-next_word_constant-in-Ident-clause-begins g c =
    let e = c.in_ok-next_word_constant-in-Ident.ensures.reads in
    (e.0, λ inner. begins-word _ _ c.in_ok-look.ensures inner c.in-Ident.is ∙ e.1, e.2)

pub returns-in-End-clause-begins : goal.returns-in-End-clause-begins
returns-in-End-clause-begins g c = (λ inner. rw c.refusal-in-End.ensures (begins-end _ _ c.in_ok-look.ensures inner c.in-End.is), grew_same c.args.self.now.out.now)
