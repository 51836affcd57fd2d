use Rattle.std.proofs.Common.{◌≡◌, sym, ◌∙◌, rules, refl, ap, subst, reverse}
use Rattle.store.proofs.Keeping.{grew_join}
use Rattle.store.specs.Stacks.{room}
use Rattle.reader.proofs.TurnSteps.{reached_start, reached_on, reached_refuses, nested_refuses, nested_gives}
use Rattle.reader.specs.Turns.{Within}
use Rattle.reader.proofs.Chains.{err_exit}
use Rattle.reader.proofs.parser.Parser.next_nested.Goals as goal

pub turns-init : goal.turns-init
turns-init g c = record { reached = reached_start c.new-frames.result _ _ c.args.self.now.out.now (subst (λ fs. Within c.args.first fs) (sym (ap reverse c.new-frames.ensures.items)) c.requires); same = record { store = refl; source = refl } }

pub next_turn-requires : goal.next_turn-requires
next_turn-requires g c = record { within = c.turns.invariant.reached.within; incomplete = sym c.is_complete.ensures ∙ c.turns-test.true }

pub returns-in_err-due-clause-reads : goal.returns-in_err-due-clause-reads
returns-in_err-due-clause-reads g c =
    let e = c.in_err-due.ensures.turns in
    let size : room c.new-frames.result ≡ c.args.nesting.left = search rules in
    rw (err_exit _ c.from_residual.ensures) (
      nested_refuses c.new-frames.result c.args.nesting.syntax c.new-frames.ensures.items size _ c.requires _ (reached_refuses c.turns.invariant.reached e.0 c.args.nesting.syntax),
      grew_join c.turns.invariant.reached.did.grew e.1,
    )

pub turns-smaller : goal.turns-smaller
turns-smaller g c = c.in_ok-due.ensures.turns.on

pub turns-preserved : goal.turns-preserved
turns-preserved g c = record { reached = reached_on c.turns.invariant.reached c.in_ok-due.ensures.turns; same = record { store = cc; source = cc } }

pub returns-clause-reads : goal.returns-clause-reads
returns-clause-reads g c =
    let size : room c.new-frames.result ≡ c.args.nesting.left = search rules in
    nested_gives c.new-frames.result c.args.nesting.syntax c.new-frames.ensures.items size _ c.requires _ c.turns.invariant.reached (sym c.is_complete.ensures ∙ c.turns-test.false)
