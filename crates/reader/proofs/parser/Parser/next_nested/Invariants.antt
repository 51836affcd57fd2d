use Rattle.reader.specs.Replies.{kept, KeepsLoans}
use Rattle.reader.specs.Turns.{fuel}
use Rattle.reader.proofs.TurnSteps.{Reached}
use Rattle.reader.proofs.parser.Parser.next_nested.Given as goal

abbrev pub invariant-turns : goal.invariant-turns
invariant-turns g l = record {
  reached : Reached l.initial.frames l.frames l.fn.first l.due (g.S.Source.ahead l.initial.self.source.now) (g.S.Source.ahead l.self.source.now) (kept l.initial.self) (kept l.self);
  same : KeepsLoans l.fn.self l.self;
}

abbrev pub decreases-turns : goal.decreases-turns
decreases-turns g l = fuel l.due (g.S.Source.ahead l.self.source.now)
