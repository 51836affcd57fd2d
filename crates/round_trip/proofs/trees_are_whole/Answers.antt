use Rattle.round_trip.proofs.ReaderShape.{reader_shaped}
use Rattle.round_trip.proofs.trees_are_whole.Goals as goal

pub returns : goal.returns
returns c = reader_shaped
