use Rattle.round_trip.proofs.TapeStrict.{tape_one_way}
use Rattle.round_trip.proofs.tapes_agree.Goals as goal

pub returns : goal.returns
returns c = tape_one_way
