use Rattle.round_trip.proofs.PrintedWords.{print-fits}
use Rattle.round_trip.proofs.prints_fit.Goals as goal

pub returns : goal.returns
returns c = print-fits
