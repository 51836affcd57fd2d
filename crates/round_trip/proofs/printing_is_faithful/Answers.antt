use Rattle.round_trip.proofs.Same.{reads_back, reads_anywhere, tells_apart}
use Rattle.round_trip.proofs.printing_is_faithful.Goals as goal

pub returns : goal.returns
returns c = (reads_back, reads_anywhere, tells_apart)
