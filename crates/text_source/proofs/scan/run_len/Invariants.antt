use Rattle.std.proofs.Common.{ℕ, Bool}
use Rattle.token.specs.Runs.{runs}
use Rattle.token.proofs.Steps.{Along}
use Rattle.text_source.specs.Computing.{Computes}
use Rattle.text_source.proofs.scan.run_len.Given as goal

abbrev pub invariant-loop-i : goal.invariant-loop-i
invariant-loop-i g l = (ok : _ → ℕ → Bool) (to : _ → ℕ → _) → Computes (goal.P-post g l.passes) ok → Computes (goal.N-post g l.next) to → Along ok to l.state l.s l.i (runs ok to l.fn.start l.s)
