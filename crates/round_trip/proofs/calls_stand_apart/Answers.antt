use Rattle.round_trip.proofs.CallsApart.{calls_apart}
use Rattle.round_trip.proofs.calls_stand_apart.Goals as goal

pub returns : goal.returns
returns c = calls_apart
