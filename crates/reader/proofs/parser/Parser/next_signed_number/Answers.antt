use Rattle.std.proofs.Common.{refl}
use Rattle.token.specs.Token.{spelled}
use Rattle.grammar.specs.Tree as tree
use Rattle.grammar.specs.Tree.{one, nothing}
use Rattle.store.specs.declared.parts.Item.TheVariants.{Constant}
use Rattle.store.specs.declared.parts.Value.TheVariants.{Unsigned, Minus, Float}
use Rattle.reader.proofs.Leaves.{kept-plain, kept-text}
use Rattle.reader.proofs.ConstantSteps.{positive_is, negative_is, float_is}
use Rattle.reader.proofs.parser.Parser.next_signed_number.Goals as goal

pub returns-else-n-gt-MOST_BELOW_ZERO-clause-reads : goal.returns-else-n-gt-MOST_BELOW_ZERO-clause-reads
returns-else-n-gt-MOST_BELOW_ZERO-clause-reads g c =
    let n = c.number-n.result in (
      one (tree.Item.constant (tree.Value.minus n)) nothing,
      negative_is (g.S.Source.ahead c.args.self.now.source.now) c.in_ok-look.field-0 c.in_ok-look.ensures (g.S.Source.ahead c.take.new.self) c.take.ensures c.args.negative n c.if-not-negative.false c.number-n.ensures c.if-n-gt-MOST_BELOW_ZERO.false c.in-IntLit.is,
      kept-plain c.args.self.now.out.now (Constant (Minus n)) c.put-in-IntLit.ensures.does tt refl,
    )

pub returns-then-not-negative-clause-reads : goal.returns-then-not-negative-clause-reads
returns-then-not-negative-clause-reads g c =
    let n = c.number-n.result in (
      one (tree.Item.constant (tree.Value.unsigned n)) nothing,
      positive_is (g.S.Source.ahead c.args.self.now.source.now) c.in_ok-look.field-0 c.in_ok-look.ensures (g.S.Source.ahead c.take.new.self) c.take.ensures c.args.negative n c.if-not-negative.true c.number-n.ensures c.in-IntLit.is,
      kept-plain c.args.self.now.out.now (Constant (Unsigned n)) c.put.ensures.does tt refl,
    )

pub returns-in-FloatLit-clause-reads : goal.returns-in-FloatLit-clause-reads
returns-in-FloatLit-clause-reads g c =
    let a = (g.S.Source.ahead c.args.self.now.source.now) in
    let negative = c.args.negative in
    let text = c.take_text-text.ensures in (
      one (tree.Item.constant (tree.Value.float negative (spelled a))) nothing,
      float_is a c.in_ok-look.field-0 c.in_ok-look.ensures (g.S.Source.ahead c.take_text-text.new.self.source.now) text.rest negative c.in-FloatLit.is,
      kept-text c.args.self.now.out.now (λ u. Constant (Float negative u)) (λ v. tree.Item.constant (tree.Value.float negative v)) (λ bs u. refl) (λ m u h. h) (λ v. refl) text.text text.at c.put-in-FloatLit.ensures.does,
    )
