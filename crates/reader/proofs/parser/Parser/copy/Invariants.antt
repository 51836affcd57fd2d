use Rattle.std.proofs.Common.{◌≡◌, take}
use Rattle.token.specs.Token.{spelled}
use Rattle.reader.specs.Replies.{Wrote, kept, KeepsLoans}
use Rattle.reader.proofs.parser.Parser.copy.Given as goal

abbrev pub invariant-loop-k : goal.invariant-loop-k
invariant-loop-k g l = record {
  text : Wrote (kept l.initial.self) (kept l.self) (take l.k (spelled (g.S.Source.ahead l.fn.self.source.now)));
  rest : g.S.Source.ahead l.self.source.now ≡ g.S.Source.ahead l.fn.self.source.now;
  same : KeepsLoans l.fn.self l.self;
}
