use Rattle.std.proofs.Common.{sym, ◌∙◌}
use Rattle.reader.proofs.Chains.{err_exit}
use Rattle.reader.proofs.Runs.{got}
use Rattle.reader.proofs.ScalarSteps.{scalar-refused, scalar-found, scalar-next, scalar-none}
use Rattle.reader.proofs.tokenizer.scalars.next_scalar_opt.Goals as goal

pub returns-in_err-next_scalar_if_eq : goal.returns-in_err-next_scalar_if_eq
returns-in_err-next_scalar_if_eq g c =
    rw (err_exit _ c.from_residual.ensures) (sym (c.loop-scalar.invariant ∙ scalar-refused c.loop-scalar.scalar-index c.loop-scalar-test.true _ (sym c.in_err-next_scalar_if_eq.ensures)))

pub returns-then-branch : goal.returns-then-branch
returns-then-branch g c = sym (c.loop-scalar.invariant ∙ scalar-found c.loop-scalar.scalar-index c.loop-scalar-test.true _ (got c.in_ok-next_scalar_if_eq.ensures c.if-branch.true))

pub loop-scalar-preserved : goal.loop-scalar-preserved
loop-scalar-preserved g c = c.loop-scalar.invariant ∙ scalar-next c.loop-scalar.scalar-index c.loop-scalar-test.true _ (got c.in_ok-next_scalar_if_eq.ensures c.if-branch.false)

pub returns : goal.returns
returns g c = sym (c.loop-scalar.invariant ∙ scalar-none c.loop-scalar.scalar-index c.loop-scalar-test.false _)
