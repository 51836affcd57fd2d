use Rattle.tape_source.proofs.Lawful.{lawful-from}
use Rattle.round_trip.proofs.tapes_are_lawful.Goals as goal

pub returns : goal.returns
returns c = lawful-from
