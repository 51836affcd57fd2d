use Rattle.std.proofs.Common.{sym, subst, arith}
use Rattle.std.proofs.lemmas.Grind.{common_steps}
use Rattle.store.specs.Held.{put_open}
use Rattle.store.specs.Means.{Opens}
use Rattle.store.proofs.Meaning.{opens}
use Rattle.store.proofs.table.Store.open.Goals as goal

pub returns-then-stored-clause-does : goal.returns-then-stored-clause-does
unfolding put_open
returns-then-stored-clause-does c = grind (arith, common_steps)

pub returns-then-stored-clause-means : goal.returns-then-stored-clause-means
returns-then-stored-clause-means c = subst (Opens _ _) (sym (returns-then-stored-clause-does c)) (opens _ _)

pub returns-else-stored-clause-does : goal.returns-else-stored-clause-does
unfolding put_open
returns-else-stored-clause-does c = grind (arith, common_steps)

pub returns-else-stored-clause-means : goal.returns-else-stored-clause-means
returns-else-stored-clause-means c = subst (Opens _ _) (sym (returns-else-stored-clause-does c)) (opens _ _)
