use Rattle.round_trip.proofs.ReaderShape.{read_fits}
use Rattle.round_trip.proofs.read_files_fit.Goals as goal

pub returns : goal.returns
returns c = read_fits
