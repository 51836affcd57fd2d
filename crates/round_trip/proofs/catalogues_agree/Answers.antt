use Rattle.round_trip.proofs.WholeLaw.{whole}
use Rattle.round_trip.proofs.catalogues_agree.Goals as goal

pub returns : goal.returns
returns c = whole
