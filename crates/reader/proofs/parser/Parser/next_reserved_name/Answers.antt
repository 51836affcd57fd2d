use Rattle.std.proofs.Common.{refl, rules}
use Rattle.grammar.specs.Parse.{◌<$>◌}
use Rattle.grammar.specs.Tree as tree
use Rattle.grammar.specs.Tree.{one, nothing}
use Rattle.store.specs.declared.parts.Item.TheVariants.{ReservedName}
use Rattle.reader.proofs.Leaves.{kept-text}
use Rattle.reader.proofs.parser.Parser.next_reserved_name.Goals as goal

pub returns-clause-reads : goal.returns-clause-reads
unfolding ◌<$>◌
returns-clause-reads g c =
    let n = c.in_ok-name.ensures.reads in (
      one (tree.Item.reserved_name n.0) nothing,
      search rules,
      kept-text c.args.self.now.out.now ReservedName tree.Item.reserved_name (λ bs u. refl) (λ m u h. h) (λ v. refl) n.3 n.2 c.put.ensures.does,
    )
