use Rattle.tape_source.proofs.Samples.{tape_examples}
use Rattle.tape_source.proofs.examples.tape_examples_stand.Goals as goal

pub returns : goal.returns
returns c = tape_examples
