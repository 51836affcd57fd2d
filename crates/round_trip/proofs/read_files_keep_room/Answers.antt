use Rattle.round_trip.proofs.ReaderShape.{read_room}
use Rattle.round_trip.proofs.read_files_keep_room.Goals as goal

pub returns : goal.returns
returns c = read_room
