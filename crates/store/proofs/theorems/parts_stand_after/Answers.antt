use Rattle.store.proofs.Links.{parts_stand_after}
use Rattle.store.proofs.theorems.parts_stand_after.Goals as goal

pub returns : goal.returns
returns c = parts_stand_after
