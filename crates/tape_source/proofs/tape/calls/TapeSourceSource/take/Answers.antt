use Rattle.std.proofs.Common.{◌≡◌, ℕ, ◌+◌, ◌<◌, true, drop, Ok, Some, Option, Result, length, sym, ap, ◌∙◌, subst, rules}
use Rattle.std.proofs.lemmas.List.{take_rest}
use Rattle.std.proofs.lemmas.Bool.{ltb-true}
use Rattle.token.specs.declared.answer.Fault.{Fault}
use Rattle.token.specs.Token.{taken}
use Rattle.tape_source.specs.declared.front.Span.{Span}
use Rattle.tape_source.specs.Tape.{scan}
use Rattle.tape_source.specs.Front.{extent, found, holds}
use Rattle.tape_source.proofs.Steps.{past_token}
use Rattle.tape_source.proofs.tape.calls.TapeSourceSource.take.Goals as goal

pub returns-in-Ok-Some : goal.returns-in-Ok-Some
returns-in-Ok-Some c =
    let t = c.args.self.now in
    let x = c.in-Ok-Some.span in
    let is : t.next ≡ Ok (Some x) = search rules in
    let whole : extent x < length t.rest.now = ltb-true _ _ (subst (λ (o : Result (Option Span) Fault). holds o (length t.rest.now) ≡ true) is t.whole) in
    c.read.ensures
    ∙ ap (scan 0 (t.at + c.width-width.result)) (take_rest t.rest.now c.width-width.result)
    ∙ ap (λ (w : ℕ). scan 0 (t.at + w) (drop w t.rest.now)) c.width-width.ensures
    ∙ past_token t.at (extent x) t.rest.now whole
    ∙ ap (λ (o : Result (Option Span) Fault). taken (found t.at t.rest.now o)) (sym is)
