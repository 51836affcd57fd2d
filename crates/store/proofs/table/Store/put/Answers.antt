use Rattle.std.proofs.Common.{sym, subst, arith}
use Rattle.std.proofs.lemmas.Grind.{common_steps}
use Rattle.store.specs.Held.{put}
use Rattle.store.specs.Means.{Puts}
use Rattle.store.proofs.Meaning.{puts}
use Rattle.store.proofs.table.Store.put.Goals as goal

pub returns-clause-does : goal.returns-clause-does
unfolding put
returns-clause-does c = grind (arith, common_steps)

pub returns-clause-means : goal.returns-clause-means
returns-clause-means c = subst (Puts _ _) (sym (returns-clause-does c)) (puts _ _)
