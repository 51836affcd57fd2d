use Rattle.std.proofs.Common.{◌≡◌, ◌+◌, ◌<◌, ◌≤◌, Err, take, sym, ap, ◌∙◌, rules}
use Rattle.token.specs.declared.answer.Fault.TheVariants.{TokenTooLong}
use Rattle.token.specs.Runs.{before}
use Rattle.token.specs.Token.{Bytes, float}
use Rattle.text_source.specs.Fronts.{meant, head, tail}
use Rattle.text_source.specs.Lexemes.{lexed, is_hex, in_number, number_or_float, float_or_bad, numeral}
use Rattle.text_source.specs.Numerals.{int_lit}
use Rattle.text_source.proofs.Fronts.{run_on, numeral-long, numeral-short, text-is}
use Rattle.text_source.proofs.lexer.Begun.read_number.Goals as goal
use Rattle.text_source.proofs.lexer.Begun.read_number.Goals.{After-run_len-more, In_ok-check_len, at-In_ok-check_len}

-- how far the number runs
reached : (c : After-run_len-more) → c.run_len-more.result ≡ run_on c.args.self.now.bytes.now
reached c =
    let s = c.args.self.now.bytes.now in
    let e = c.run_len-more.ensures.counts (in_number (is_hex (head s) (tail s))) before (λ t b r p. search rules) (λ t b u p. search rules) in
    cc

pub returns-in_err-check_len-clause-meaning : goal.returns-in_err-check_len-clause-meaning
returns-in_err-check_len-clause-meaning c =
    let s = c.args.self.now.bytes.now in
    let e : c.from_residual.result ≡ Err TokenTooLong = search rules in
    let long : 1023 < c.run_len-more.result + 1 = search rules in
    ap (meant s) e ∙ numeral-long s c.run_len-more.result (reached (goal.at.returns-in_err-check_len-clause-meaning c).After-run_len-more) long

-- a run that is not too long is judged as a number
judged : (c : In_ok-check_len) → let s = c.args.self.now.bytes.now in let text = take (c.run_len-more.result + 1) s in number_or_float text c.run_len-more.result (int_lit text) ≡ numeral (head s) (tail s)
judged c =
    let short : c.run_len-more.result + 1 ≤ 1023 = search rules in
    numeral-short c.args.self.now.bytes.now c.run_len-more.result c.args.self.now.some (reached (at-In_ok-check_len c).After-run_len-more) short

pub returns-in-Some-clause-meaning : goal.returns-in-Some-clause-meaning
returns-in-Some-clause-meaning c =
    let text = take (c.run_len-more.result + 1) c.args.self.now.bytes.now in
    ap (number_or_float text c.run_len-more.result) c.in-Some.ensures ∙ judged (goal.at.returns-in-Some-clause-meaning c).In_ok-check_len

pub returns-in-None-clause-meaning : goal.returns-in-None-clause-meaning
returns-in-None-clause-meaning c =
    let s = c.args.self.now.bytes.now in
    let more = c.run_len-more.result in
    let text = take (more + 1) s in
    ap (λ (u : Bytes). lexed (float u) more) (sym (text-is s more c.args.self.now.some))
    ∙ ap (float_or_bad text more) c.if-is_float.ensures
    ∙ ap (number_or_float text more) c.in-None.ensures
    ∙ judged (goal.at.returns-in-None-clause-meaning c).In_ok-check_len

pub returns-in-None-2-clause-meaning : goal.returns-in-None-2-clause-meaning
returns-in-None-2-clause-meaning c =
    let more = c.run_len-more.result in
    let text = take (more + 1) c.args.self.now.bytes.now in
    ap (float_or_bad text more) c.if-is_float.ensures ∙ ap (number_or_float text more) c.in-None-2.ensures ∙ judged (goal.at.returns-in-None-2-clause-meaning c).In_ok-check_len
