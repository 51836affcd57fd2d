use Rattle.std.proofs.Common.{true, false, refl}
use Rattle.grammar.specs.Tree as tree
use Rattle.grammar.specs.Tree.{one, nothing}
use Rattle.reader.proofs.Runs.{got}
use Rattle.store.specs.declared.parts.Item.TheVariants.{Constant}
use Rattle.store.specs.declared.parts.Value.TheVariants.{Path, Truth}
use Rattle.reader.proofs.Leaves.{kept-plain, kept-text}
use Rattle.reader.proofs.ConstantSteps.{true_is, false_is, path-is}
use Rattle.reader.proofs.parser.Parser.next_word_constant.Goals as goal

pub returns-then-branch-clause-reads : goal.returns-then-branch-clause-reads
returns-then-branch-clause-reads g c =
    let d = got c.in_ok-next_ident_if_eq.ensures c.if-branch.true in
    let i = tree.Item.constant (tree.Value.truth true) in
    (one i nothing, true_is _ d, kept-plain c.args.self.now.out.now (Constant (Truth true)) c.put.ensures.does tt refl)

pub returns-then-branch-2-clause-reads : goal.returns-then-branch-2-clause-reads
returns-then-branch-2-clause-reads g c =
    let d = got c.in_ok-next_ident_if_eq.ensures c.if-branch.false in
    let e = got c.in_ok-next_ident_if_eq-2.ensures c.if-branch-2.true in
    let i = tree.Item.constant (tree.Value.truth false) in
    (one i nothing, false_is _ d e, kept-plain c.args.self.now.out.now (Constant (Truth false)) c.put-then-branch-2.ensures.does tt refl)

pub returns-clause-reads : goal.returns-clause-reads
returns-clause-reads g c =
    let d = got c.in_ok-next_ident_if_eq.ensures c.if-branch.false in
    let e = got c.in_ok-next_ident_if_eq-2.ensures c.if-branch-2.false in
    let n = c.in_ok-path.ensures.reads in
    let i = tree.Item.constant (tree.Value.path n.0) in
    (one i nothing, path-is _ d e n.1, kept-text c.args.self.now.out.now (λ u. Constant (Path u)) (λ v. tree.Item.constant (tree.Value.path v)) (λ bs u. refl) (λ m u h. h) (λ v. refl) n.3 n.2 c.put-2.ensures.does)
