use Rattle.round_trip.proofs.ExamplesHold.{examples}
use Rattle.round_trip.proofs.examples_stand.Goals as goal

pub returns : goal.returns
returns c = examples
