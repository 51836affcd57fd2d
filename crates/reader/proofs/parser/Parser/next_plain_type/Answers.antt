use Rattle.std.proofs.Common.{Some as some, None as none, true, false, sym, refl, ap, ◌∙◌, rules}
use Rattle.grammar.specs.Tree as tree
use Rattle.grammar.specs.Tree.{one, nothing}
use Rattle.store.specs.declared.parts.Item.{Item}
use Rattle.store.specs.declared.parts.Shape.{Shape}
use Rattle.store.proofs.Keeping.{grew_join}
use Rattle.reader.proofs.Runs.{got}
use Rattle.reader.proofs.Texts.{grew_same}
use Rattle.reader.proofs.Leaves.{kept-plain, kept-text}
use Rattle.reader.proofs.TypeSteps.{type-refused, type-scalar, map-refused, map-is, name-refused, name-is, map-took}
use Rattle.reader.proofs.Chains.{err_exit}
use Rattle.reader.proofs.parser.Parser.next_plain_type.Goals as goal

pub returns-in_err-scalar-clause-begins : goal.returns-in_err-scalar-clause-begins
returns-in_err-scalar-clause-begins g c =
    rw (err_exit _ c.from_residual.ensures) (λ inner. type-refused inner _ (sym c.in_err-scalar.ensures), grew_same c.args.self.now.out.now)

pub returns-in-Some-clause-begins : goal.returns-in-Some-clause-begins
returns-in-Some-clause-begins g c =
    let d = got c.in_ok-scalar.ensures c.in-Some.is in
    (one (tree.Item.type (tree.Shape.scalar c.in-Some.scalar)) nothing, λ inner. type-scalar inner _ d, kept-plain c.args.self.now.out.now (Item.Type (Shape.Scalar c.in-Some.scalar)) c.put.ensures.does tt refl)

pub returns-in_err-next_ident_if_eq-clause-begins : goal.returns-in_err-next_ident_if_eq-clause-begins
returns-in_err-next_ident_if_eq-clause-begins g c =
    let d = got c.in_ok-scalar.ensures c.in_default.is in
    rw (err_exit _ c.from_residual-in_err-next_ident_if_eq.ensures) (λ inner. map-refused inner _ d (sym c.in_err-next_ident_if_eq.ensures), grew_same c.args.self.now.out.now)

pub returns-then-branch-clause-begins : goal.returns-then-branch-clause-begins
returns-then-branch-clause-begins g c =
    let d = got c.in_ok-scalar.ensures c.in_default.is in
    let e = got c.in_ok-next_ident_if_eq.ensures c.if-branch.true in
    record { is = λ inner. map-is inner _ d e; took = map-took _ d e; same = refl }

pub returns-in_err-name-clause-begins : goal.returns-in_err-name-clause-begins
returns-in_err-name-clause-begins g c =
    let d = got c.in_ok-scalar.ensures c.in_default.is in
    let e = got c.in_ok-next_ident_if_eq.ensures c.if-branch.false in
    let n = c.in_err-name.ensures.reads in
    rw (err_exit _ c.from_residual-in_err-name.ensures) (λ inner. name-refused inner _ d e n.0, n.1)

pub returns-clause-begins : goal.returns-clause-begins
returns-clause-begins g c =
    let d = got c.in_ok-scalar.ensures c.in_default.is in
    let e = got c.in_ok-next_ident_if_eq.ensures c.if-branch.false in
    let n = c.in_ok-name.ensures.reads in
    let i = tree.Item.type (tree.Shape.named n.0) in
    (one i nothing, λ inner. name-is inner _ d e n.1, kept-text c.args.self.now.out.now (λ u. Item.Type (Shape.Named u)) (λ v. tree.Item.type (tree.Shape.named v)) (λ bs u. refl) (λ m u h. h) (λ v. refl) n.3 n.2 c.put-2.ensures.does)
