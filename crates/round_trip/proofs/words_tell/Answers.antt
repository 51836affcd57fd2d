use Rattle.round_trip.proofs.TapeAgain.{words_tell}
use Rattle.round_trip.proofs.words_tell.Goals as goal

pub returns : goal.returns
returns c = words_tell
