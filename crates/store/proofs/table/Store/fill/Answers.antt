use Rattle.std.proofs.Common.{sym, subst, arith}
use Rattle.std.proofs.lemmas.Grind.{common_steps}
use Rattle.store.specs.Held.{fill}
use Rattle.store.specs.Means.{Fills}
use Rattle.store.proofs.Meaning.{fills}
use Rattle.store.proofs.table.Store.fill.Goals as goal

pub returns-then-may_change-clause-does : goal.returns-then-may_change-clause-does
unfolding fill
returns-then-may_change-clause-does c = grind (arith, common_steps)

pub returns-then-may_change-clause-means : goal.returns-then-may_change-clause-means
returns-then-may_change-clause-means c = subst (Fills _ _) (sym (returns-then-may_change-clause-does c)) (fills _ _)

pub returns-else-may_change-clause-does : goal.returns-else-may_change-clause-does
unfolding fill
returns-else-may_change-clause-does c = grind (arith, common_steps)

pub returns-else-may_change-clause-means : goal.returns-else-may_change-clause-means
returns-else-may_change-clause-means c = subst (Fills _ _) (sym (returns-else-may_change-clause-does c)) (fills _ _)

pub returns-in_default-clause-does : goal.returns-in_default-clause-does
unfolding fill
returns-in_default-clause-does c = grind (arith, common_steps)

pub returns-in_default-clause-means : goal.returns-in_default-clause-means
returns-in_default-clause-means c = subst (Fills _ _) (sym (returns-in_default-clause-does c)) (fills _ _)
