use Rattle.reader.proofs.DecodeSteps.{keeps_both}
use Rattle.reader.proofs.decode.Decoder.keep.Goals as goal

pub returns : goal.returns
returns c = keeps_both c.args.out.now c.append.new.out _ _ _ _ _ _ c.args.turn.within c.in_ok-middle.ensures c.in_ok-utf8.ensures
