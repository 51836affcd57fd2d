use Rattle.std.proofs.Common.{◌≡◌, ◌<◌, true, Ok, Some, Option, Result, length, sym, ap, ◌∙◌, subst, rules}
use Rattle.std.proofs.lemmas.Bool.{ltb-true}
use Rattle.token.specs.declared.answer.Fault.{Fault}
use Rattle.token.specs.Token.{taken}
use Rattle.text_source.specs.declared.front.Span.{Span}
use Rattle.text_source.specs.Fronts.{extent}
use Rattle.text_source.specs.Found.{found, holds}
use Rattle.text_source.proofs.Streams.{past_token}
use Rattle.text_source.proofs.source.calls.TextSourceSource.take.Goals as goal

pub returns-in-Ok-Some : goal.returns-in-Ok-Some
returns-in-Ok-Some c =
    let t = c.args.self.now in
    let u = t.cursor in
    let x = c.in-Ok-Some.span in
    let is : t.next ≡ Ok (Some x) = search rules in
    let whole : extent x < length u.rest.now = ltb-true _ _ (subst (λ (o : Result (Option Span) Fault). holds o (length u.rest.now) ≡ true) is t.whole) in
    c.seek.ensures
    ∙ past_token u.place c.skip.result.place u.rest.now c.skip.result.rest.now x c.width.result whole c.width.ensures c.skip.ensures.rest c.skip.ensures.place
    ∙ ap (λ (o : Result (Option Span) Fault). taken (found u.place u.rest.now o)) (sym is)
