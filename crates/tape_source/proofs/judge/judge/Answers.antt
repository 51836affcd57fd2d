use Rattle.std.proofs.Common.{◌≡◌, ◌/◌, ◌%◌, ◌^◌, Ok, get_or, drop, ap, sym, ◌∙◌}
use Rattle.std.proofs.lemmas.List.{take_rest}
use Rattle.std.proofs.lemmas.Nat.{and_mask}
use Rattle.tape_source.specs.declared.kind.WordKind.TheVariants as kinds
use Rattle.tape_source.specs.WordKind.{kind_in}
use Rattle.tape_source.proofs.Steps.{step-first}
use Rattle.tape_source.proofs.ByKind.{by_text}
use Rattle.tape_source.proofs.judge.judge.Goals as goal

pub returns-in-Text : goal.returns-in-Text
returns-in-Text c =
    let ws = c.args.words.now in
    let first = step-first ws c.in-len1-up.len_at_least in
    let mask = and_mask (get_or ws 0 0) 29 in
    let tail = take_rest ws 1 in
    let kind : kind_in (get_or ws 0 0 / 2 ^ 29) ≡ Ok (kinds.Text c.in-Text.text) = sym c.in_ok-try_from.ensures ∙ ap Ok c.in-Text.is in
    let e = by_text (get_or ws 0 0 / 2 ^ 29) (get_or ws 0 0 % 2 ^ 29) (drop 1 ws) c.in-Text.text kind in
    let h = c.judge_text.ensures in
    cc
