use Rattle.grammar.proofs.GrammarProgress.{productions_take, repetitions_unfold}
use Rattle.grammar.proofs.theorems.reading_goes_on.Goals as goal

pub returns : goal.returns
returns c = (productions_take, repetitions_unfold)
