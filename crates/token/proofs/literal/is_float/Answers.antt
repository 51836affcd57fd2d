use Rattle.std.proofs.Common.{sym, ◌∙◌, arith, rules}
use Rattle.std.proofs.lemmas.List.{get_or_past}
use Rattle.std.proofs.lemmas.Bool.Decides.{nat_tests}
use Rattle.token.specs.Law.{exponent_or_nothing, is_fraction}
use Rattle.token.proofs.Floats.{and_then, rest, float-on, float_off}
use Rattle.token.proofs.literal.is_float.Goals as goal

pub returns-in-46 : goal.returns-in-46
returns-in-46 c =
    and_then exponent_or_nothing (rest c.args.s.now) c.after_decimals.result c.is_some_and.result c.after_decimals.ensures _ c.is_some_and.ensures (λ t q. search rules)
    ∙ sym (float-on c.args.s.now (grind (arith, nat_tests)) (grind (arith, nat_tests)))

pub returns-in_default : goal.returns-in_default
returns-in_default c =
    and_then is_fraction c.args.s.now c.after_decimals-in_default.result c.is_some_and-in_default.result c.after_decimals-in_default.ensures _ c.is_some_and-in_default.ensures (λ t q. search rules)
    ∙ sym (float_off c.args.s.now (grind (arith, nat_tests, get_or_past c.args.s.now 0 0)))
