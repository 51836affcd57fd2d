use Rattle.text_source.proofs.Computed.{examples}
use Rattle.text_source.proofs.examples.text_examples_stand.Goals as goal

pub returns : goal.returns
returns c = examples
