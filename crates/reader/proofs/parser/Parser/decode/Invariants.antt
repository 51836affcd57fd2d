use Rattle.std.proofs.Common.{◌≡◌, drop}
use Rattle.token.specs.Token.{Bytes, spelled}
use Rattle.grammar.specs.Decode.{decode}
use Rattle.reader.specs.Escapes.{within_of}
use Rattle.reader.specs.Replies.{Wrote, kept, KeepsLoans}
use Rattle.reader.proofs.DecodeSteps.{decode_from}
use Rattle.reader.proofs.parser.Parser.decode.Given as goal

-- `sofar` was kept, and the bytes that are left decode to what follows it
abbrev pub invariant-loop-k : goal.invariant-loop-k
invariant-loop-k g l =
    (sofar : Bytes) × record {
      text : Wrote (kept l.initial.self) (kept l.self) sofar;
      left : decode_from (within_of l.decoder.within) l.decoder.utf8 sofar (drop l.k (spelled (g.S.Source.ahead l.fn.self.source.now))) ≡ decode (spelled (g.S.Source.ahead l.fn.self.source.now));
      rest : g.S.Source.ahead l.self.source.now ≡ g.S.Source.ahead l.fn.self.source.now;
      same : KeepsLoans l.fn.self l.self;
    }
