use Rattle.round_trip.proofs.Room.{room_back}
use Rattle.round_trip.proofs.room_comes_back.Goals as goal

pub returns : goal.returns
returns c = room_back
