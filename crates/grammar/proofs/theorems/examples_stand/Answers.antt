use Rattle.grammar.proofs.ExamplesHold.{examples}
use Rattle.grammar.proofs.theorems.examples_stand.Goals as goal

pub returns : goal.returns
returns c = examples
