use Rattle.std.proofs.Common.{sym, refl}
use Rattle.grammar.specs.Tree as tree
use Rattle.grammar.specs.Tree.{one, nothing}
use Rattle.reader.proofs.Runs.{got}
use Rattle.store.specs.declared.parts.Item.TheVariants.{ExtensionPart, DirectPart}
use Rattle.reader.proofs.Leaves.{kept-text}
use Rattle.reader.proofs.Naming.{extension-is, direct_is}
use Rattle.reader.proofs.parser.Parser.next_option_name_component.Goals as goal

pub returns-then-branch-clause-reads : goal.returns-then-branch-clause-reads
returns-then-branch-clause-reads g c =
    let d = got c.in_ok-next_symbol_if_eq.ensures c.if-branch.true in
    let n = c.in_ok-name.ensures.reads in (
      one (tree.Item.extension_part n.0) nothing,
      extension-is _ d n.1 (sym c.in_ok-next_symbol_expect_eq.ensures),
      kept-text c.args.self.now.out.now ExtensionPart tree.Item.extension_part (λ bs u. refl) (λ m u h. h) (λ v. refl) n.3 n.2 c.put.ensures.does,
    )

pub returns-clause-reads : goal.returns-clause-reads
returns-clause-reads g c =
    let d = got c.in_ok-next_symbol_if_eq.ensures c.if-branch.false in
    let n = c.in_ok-name-2.ensures.reads in (
      one (tree.Item.direct_part n.0) nothing,
      direct_is _ d n.1,
      kept-text c.args.self.now.out.now DirectPart tree.Item.direct_part (λ bs u. refl) (λ m u h. h) (λ v. refl) n.3 n.2 c.put-2.ensures.does,
    )
