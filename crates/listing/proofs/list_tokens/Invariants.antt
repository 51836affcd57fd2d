use Rattle.std.proofs.Common.{vec_items}
use Rattle.token.specs.Token.{count}
use Rattle.listing.proofs.Pushed.{Sofar}
use Rattle.listing.proofs.list_tokens.Given as goal

abbrev pub invariant-loop-out : goal.invariant-loop-out
invariant-loop-out g l = Sofar (g.S.Source.ahead l.initial.source) (g.S.Source.ahead l.source) (vec_items l.out)

abbrev pub decreases-loop-out : goal.decreases-loop-out
decreases-loop-out g l = count (g.S.Source.ahead l.source)
