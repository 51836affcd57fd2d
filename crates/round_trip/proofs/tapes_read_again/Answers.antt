use Rattle.round_trip.proofs.TapeAgain.{tape-again}
use Rattle.round_trip.proofs.tapes_read_again.Goals as goal

pub returns : goal.returns
returns c = tape-again
