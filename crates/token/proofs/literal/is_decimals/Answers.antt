use Rattle.std.proofs.Common.{◌≡◌, eqb, length, ◌∙◌, rules}
use Rattle.token.specs.Law.{nothing_more}
use Rattle.token.proofs.Floats.{and_then, none_left}
use Rattle.token.proofs.literal.is_decimals.Goals as goal

pub returns : goal.returns
returns c = and_then nothing_more c.args.s.now c.after_decimals.result c.is_some_and.result c.after_decimals.ensures _ c.is_some_and.ensures (λ t q. let e : c.is_some_and.result ≡ eqb (length t.now) 0 = search rules in e ∙ none_left t.now)
