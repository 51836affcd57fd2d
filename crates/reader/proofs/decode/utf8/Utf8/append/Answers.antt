use Rattle.std.proofs.Common.{rules}
use Rattle.reader.proofs.Texts.{wrote_byte}
use Rattle.reader.proofs.decode.utf8.Utf8.append.Goals as goal

pub returns : goal.returns
returns c = let w = wrote_byte c.args.out.now c.in-Some.b c.push.ensures.does in search rules
