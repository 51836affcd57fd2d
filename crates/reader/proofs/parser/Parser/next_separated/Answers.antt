use Rattle.grammar.specs.Tree.{nothing, ◌beside◌}
use Rattle.grammar.proofs.Progress.{turn-after}
use Rattle.reader.proofs.Runs.{run_start, run_goes, run_stops, after_goes, after_stops, separated-is, got}
use Rattle.store.proofs.Keeping.{kept_join}
use Rattle.reader.proofs.Leaves.{kept-nothing}
use Rattle.reader.proofs.Naming.{forests}
use Rattle.reader.proofs.parser.Parser.next_separated.Goals as goal

pub parts-init : goal.parts-init
parts-init g c = (nothing, kept-nothing c.next.new.parser.out.now, run_start forests _ (turn-after c.args.separator _ (g.met.P.Part.takes c.args.part.now)).onward _, c.in_ok-next.ensures.same)

pub parts-preserved : goal.parts-preserved
parts-preserved g c =
    let i = c.parts.invariant in
    let next = c.in_ok-next-2.ensures.reads in
    let d = got c.in_ok-next_symbol_if_eq.ensures c.if-branch.true in (
      i.0 beside next.0,
      kept_join i.1 next.2,
      run_goes forests _ (turn-after c.args.separator _ (g.met.P.Part.takes c.args.part.now)).onward _ _ _ i.2 (after_goes c.args.separator (g.P.Part.production c.args.part.now) _ d next.1),
      record { store = cc; source = cc },
    )

pub returns-clause-reads : goal.returns-clause-reads
returns-clause-reads g c =
    let first = c.in_ok-next.ensures.reads in
    let i = c.parts.invariant in
    let d = got c.in_ok-next_symbol_if_eq.ensures c.if-branch.false in (
      first.0 beside i.0,
      separated-is c.args.separator (g.P.Part.production c.args.part.now) _ first.1 (run_stops forests _ (turn-after c.args.separator _ (g.met.P.Part.takes c.args.part.now)).onward _ _ _ i.2 (after_stops c.args.separator (g.P.Part.production c.args.part.now) _ d)),
      kept_join first.2 i.1,
    )
