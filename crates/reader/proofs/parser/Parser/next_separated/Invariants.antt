use Rattle.token.specs.Token.{count}
use Rattle.grammar.specs.Parse.{after_next}
use Rattle.grammar.specs.Tree.{Forest, nothing, ◌beside◌}
use Rattle.store.specs.Means.{Kept}
use Rattle.reader.specs.Replies.{kept, KeepsLoans}
use Rattle.reader.proofs.Runs.{Sofar}
use Rattle.reader.proofs.parser.Parser.next_separated.Given as goal

abbrev pub invariant-parts : goal.invariant-parts
invariant-parts g l = (f : Forest) × Kept (kept l.initial.self) (kept l.self) f × Sofar ◌beside◌ nothing (after_next l.separator (g.P.Part.production l.part)) (g.S.Source.ahead l.initial.self.source.now) f (g.S.Source.ahead l.self.source.now) × KeepsLoans l.fn.self l.self

abbrev pub decreases-parts : goal.decreases-parts
decreases-parts g l = count (g.S.Source.ahead l.self.source.now)
