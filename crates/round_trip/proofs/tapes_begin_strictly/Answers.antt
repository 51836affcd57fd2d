use Rattle.round_trip.proofs.TapeStrict.{tape-first}
use Rattle.round_trip.proofs.tapes_begin_strictly.Goals as goal

pub returns : goal.returns
returns c = tape-first
