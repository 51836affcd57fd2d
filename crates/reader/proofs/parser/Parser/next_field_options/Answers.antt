use Rattle.grammar.specs.Tree.{nothing}
use Rattle.grammar.specs.Grammar.{bracketed_options}
use Rattle.reader.proofs.Chains.{chain, returned, on_false}
use Rattle.reader.proofs.Runs.{got}
use Rattle.reader.proofs.Leaves.{kept-nothing}
use Rattle.reader.proofs.parser.Parser.next_field_options.Goals as goal

pub returns-then-not-branch-clause-reads : goal.returns-then-not-branch-clause-reads
unfolding bracketed_options
returns-then-not-branch-clause-reads g c =
    let d = got c.in_ok-next_symbol_if_eq.ensures c.if-not-branch.true in
    (nothing, chain _ _ _ d (on_false _ _ _ (returned _ _)), kept-nothing c.args.self.now.out.now)
