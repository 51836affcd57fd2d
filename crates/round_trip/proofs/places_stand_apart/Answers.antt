use Rattle.round_trip.proofs.PlacesApart.{places-apart}
use Rattle.round_trip.proofs.places_stand_apart.Goals as goal

pub returns : goal.returns
returns c = places-apart
