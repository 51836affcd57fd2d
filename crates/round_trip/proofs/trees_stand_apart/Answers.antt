use Rattle.round_trip.proofs.PlacesApart.{kept-apart}
use Rattle.round_trip.proofs.trees_stand_apart.Goals as goal

pub returns : goal.returns
returns c = kept-apart
