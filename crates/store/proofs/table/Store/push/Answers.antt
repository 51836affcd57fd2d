use Rattle.std.proofs.Common.{sym, subst, arith}
use Rattle.std.proofs.lemmas.Grind.{common_steps}
use Rattle.store.specs.Held.{pushed}
use Rattle.store.specs.Means.{Pushes}
use Rattle.store.proofs.Meaning.{pushes}
use Rattle.store.proofs.table.Store.push.Goals as goal

pub returns-clause-does : goal.returns-clause-does
unfolding pushed
returns-clause-does c = grind (arith, common_steps)

pub returns-clause-means : goal.returns-clause-means
returns-clause-means c = subst (Pushes _) (sym (returns-clause-does c)) (pushes _ _)
