use Rattle.std.proofs.Common.{◌≡◌, ◌+◌, ◌*◌, drop, sym, ◌∙◌, arith}
use Rattle.text_source.specs.Base.{radix}
use Rattle.text_source.specs.Numerals.{read_in}
use Rattle.text_source.proofs.Digits.{radix_positive, read_more, read_bad, read_all, read_big}
use Rattle.text_source.proofs.numeral.read_in.Goals as goal
use Rattle.text_source.proofs.numeral.read_in.Goals.{After-appended}

pub returns-in_err-digit_in : goal.returns-in_err-digit_in
returns-in_err-digit_in c =
    let none = c.in_err-digit_in.was in
    c.from_residual.ensures
    ∙ sym (read_bad (radix c.args.base) c.loop-b.value c.args.s.now c.loop-b.b-index c.loop-b-test.true (cc))
    ∙ c.loop-b.invariant.1

-- one digit more
step : (c : After-appended) → read_in (radix c.args.base) (c.loop-b.value * radix c.args.base + c.in_ok-digit_in.field-0) (drop (c.loop-b.b-index + 1) c.args.s.now) ≡ read_in (radix c.args.base) 0 c.args.s.now
step c =
    let some = c.in_ok-digit_in.was in
    let e = read_more (radix c.args.base) c.loop-b.value c.in_ok-digit_in.field-0 c.args.s.now c.loop-b.b-index c.loop-b-test.true (cc) in
    cc

pub returns-in_err-value : goal.returns-in_err-value
returns-in_err-value c =
    c.from_residual-in_err-value.ensures
    ∙ sym (read_big (radix c.args.base) (c.loop-b.value * radix c.args.base + c.in_ok-digit_in.field-0) (drop (c.loop-b.b-index + 1) c.args.s.now) (radix_positive c.args.base) (omega (arith, c.in_err-value.ensures)))
    ∙ step (goal.at.returns-in_err-value c).After-appended

pub loop-b-preserved : goal.loop-b-preserved
loop-b-preserved c =
    let made = c.in_ok-value.ensures in
    let e = step (goal.at.loop-b-preserved c).After-appended in
    (omega (arith, made.0, made.1), cc made.1)

pub returns : goal.returns
returns c = sym (read_all (radix c.args.base) c.loop-b.value c.args.s.now c.loop-b.b-index c.loop-b-test.false c.loop-b.invariant.0) ∙ c.loop-b.invariant.1
