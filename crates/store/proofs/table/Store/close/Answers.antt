use Rattle.std.proofs.Common.{sym, subst, arith}
use Rattle.std.proofs.lemmas.Grind.{common_steps}
use Rattle.store.specs.Held.{close}
use Rattle.store.specs.Means.{Closes}
use Rattle.store.proofs.Meaning.{closes}
use Rattle.store.proofs.table.Store.close.Goals as goal

pub returns-in-Some-clause-does : goal.returns-in-Some-clause-does
unfolding close
returns-in-Some-clause-does c = grind (arith, common_steps)

pub returns-in-Some-clause-means : goal.returns-in-Some-clause-means
returns-in-Some-clause-means c = subst (Closes _) (sym (returns-in-Some-clause-does c)) (closes _)

pub returns-in_default-clause-does : goal.returns-in_default-clause-does
unfolding close
returns-in_default-clause-does c = grind (arith, common_steps)

pub returns-in_default-clause-means : goal.returns-in_default-clause-means
returns-in_default-clause-means c = subst (Closes _) (sym (returns-in_default-clause-does c)) (closes _)
