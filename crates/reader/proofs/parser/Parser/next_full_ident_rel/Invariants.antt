use Rattle.std.proofs.Common.{[], ◌++◌}
use Rattle.token.specs.Token.{Bytes, count}
use Rattle.reader.specs.Replies.{Wrote, kept, KeepsLoans}
use Rattle.reader.proofs.Runs.{Sofar}
use Rattle.reader.proofs.Naming.{dot_turn}
use Rattle.reader.proofs.parser.Parser.next_full_ident_rel.Given as goal

abbrev pub invariant-parts : goal.invariant-parts
invariant-parts g l = (w : Bytes) × Wrote (kept l.initial.self) (kept l.self) w × Sofar ◌++◌ [] dot_turn (g.S.Source.ahead l.initial.self.source.now) w (g.S.Source.ahead l.self.source.now) × KeepsLoans l.fn.self l.self

abbrev pub decreases-parts : goal.decreases-parts
decreases-parts g l = count (g.S.Source.ahead l.self.source.now)
