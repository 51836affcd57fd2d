use Rattle.std.proofs.Common.{sym, ◌∙◌, arith}
use Rattle.std.proofs.lemmas.Bool.Decides.{nat_tests}
use Rattle.token.specs.Law.{exponent_or_nothing}
use Rattle.token.proofs.Floats.{fraction_on, rest_then}
use Rattle.token.proofs.literal.is_fraction.Goals as goal

pub returns-in-46 : goal.returns-in-46
returns-in-46 c =
    c.is_exponent_or_nothing.ensures
    ∙ rest_then exponent_or_nothing _ c.digits_len.result c.digits_len.ensures.counts
    ∙ sym (fraction_on c.args.s.now (grind (arith, nat_tests)) (grind (arith, nat_tests)))
