use Rattle.round_trip.proofs.PrintedWords.{print_bound}
use Rattle.round_trip.proofs.words_are_bounded.Goals as goal

pub returns : goal.returns
returns c = print_bound
