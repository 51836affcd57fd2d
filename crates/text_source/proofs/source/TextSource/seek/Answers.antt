use Rattle.std.proofs.Common.{◌≡◌, ◌<◌, length, Ok, Some, sym, ◌∙◌, ap, subst, arith}
use Rattle.std.proofs.lemmas.Bool.{lt-ltb}
use Rattle.token.specs.Law.{lawful}
use Rattle.text_source.specs.Fronts.{extent}
use Rattle.text_source.specs.Found.{found}
use Rattle.text_source.specs.Text.{stream}
use Rattle.text_source.proofs.Laws.{stream-lawful}
use Rattle.text_source.proofs.Streams.{past_blanks, past_gap, at_token, at_fault, at-end}
use Rattle.text_source.proofs.source.TextSource.seek.Goals as goal
use Rattle.text_source.proofs.source.TextSource.seek.Goals.{In-Ok-Token}

pub loop-text-init : goal.loop-text-init
loop-text-init c =
    past_blanks c.args.from.place c.past_blanks-cursor.result.place c.args.from.rest.now c.past_blanks-cursor.result.rest.now c.past_blanks-cursor.ensures.rest c.past_blanks-cursor.ensures.place

pub loop-text-preserved : goal.loop-text-preserved
loop-text-preserved c =
    let q = c.skip.result in
    let r = c.past_blanks-cursor-in-Ok-Gap.result in
    past_blanks q.place r.place q.rest.now r.rest.now c.past_blanks-cursor-in-Ok-Gap.ensures.rest c.past_blanks-cursor-in-Ok-Gap.ensures.place
    ∙ past_gap c.loop-text.cursor.place c.loop-text.cursor.rest.now c.in-Some.text.bytes.now c.in-Some.ensures c.in-Some.text.some
    c.in-Ok-Gap.field-0 c.in-Ok-Gap.more q.place q.rest.now c.in-Ok-Gap.ensures.meaning c.in-Ok-Gap.field-0-is c.skip.ensures.rest c.skip.ensures.place
    ∙ c.loop-text.invariant

-- a token stands at the cursor
token : (c : In-Ok-Token) → let p = c.loop-text.cursor.place in let s = c.loop-text.cursor.rest.now in found p s (Ok (Some c.in-Ok-Token.span)) ≡ stream 0 p s
token c =
    at_token c.loop-text.cursor.place c.loop-text.cursor.rest.now c.in-Some.text.bytes.now c.in-Some.ensures c.in-Some.text.some
    c.in-Ok-Token.field-0 c.in-Ok-Token.span c.in-Ok-Token.ensures.meaning c.in-Ok-Token.field-0-is

pub invariant_of-result : goal.invariant_of-result
invariant_of-result c =
    let u = c.loop-text.cursor in
    record {
      whole = lt-ltb _ _ (subst (λ s. extent c.in-Ok-Token.span < length s) c.in-Some.ensures (rw c.in-Ok-Token.field-0-is at c.in-Ok-Token.ensures.within));
      law = ap lawful (token (goal.at.invariant_of-result c).In-Ok-Token) ∙ stream-lawful 0 u.place u.rest.now (omega arith) (omega arith);
    }

pub returns-in-Ok-Token : goal.returns-in-Ok-Token
returns-in-Ok-Token c = token (goal.at.returns-in-Ok-Token c).In-Ok-Token ∙ c.loop-text.invariant

pub returns-in-Err : goal.returns-in-Err
returns-in-Err c =
    at_fault c.loop-text.cursor.place c.loop-text.cursor.rest.now c.in-Some.text.bytes.now c.in-Some.ensures c.in-Some.text.some c.in-Err.fault c.in-Err.ensures.meaning
    ∙ c.loop-text.invariant

pub returns : goal.returns
returns c = sym (at-end c.loop-text.cursor.place c.loop-text.cursor.rest.now c.in_default.ensures) ∙ c.loop-text.invariant
