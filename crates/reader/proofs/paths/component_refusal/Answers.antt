use Rattle.std.proofs.Common.{arith, ltb-false, ltb-true}
use Rattle.reader.proofs.Components.{other}
use Rattle.reader.proofs.paths.component_refusal.Goals as goal

pub returns-in_default-4 : goal.returns-in_default-4
returns-in_default-4 c = other c.args.component.now (omega (arith, ltb-true, ltb-false)) (λ n a. omega (arith, ltb-true, ltb-false)) (λ n a b. omega (arith, ltb-true, ltb-false))
