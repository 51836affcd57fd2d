use Rattle.round_trip.proofs.TapeStrict.{tape_strict}
use Rattle.round_trip.proofs.tapes_are_strict.Goals as goal

pub returns : goal.returns
returns c = tape_strict
