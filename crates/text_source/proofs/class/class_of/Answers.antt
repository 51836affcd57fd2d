-- The test: the table is the rule at 0, 1, .. 255.
use Rattle.std.proofs.Common.{refl, rules}
use Rattle.text_source.specs.Classes.{class_of}
use Rattle.text_source.proofs.Classes.{at}
use Rattle.text_source.proofs.class.class_of.Goals as goal

pub returns : goal.returns
unfolding class_of
returns c = at class_of _ refl c.args.b _ (search rules)
