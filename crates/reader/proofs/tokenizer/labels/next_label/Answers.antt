use Rattle.std.proofs.Common.{sym, ◌∙◌, rules}
use Rattle.grammar.specs.Parse.{refuse}
use Rattle.reader.specs.Modes.{syntax_in, mode_in}
use Rattle.reader.proofs.Chains.{err_exit}
use Rattle.reader.proofs.Runs.{got}
use Rattle.reader.proofs.LabelSteps.{label-refused, label-found, label-next, label-due, label_free}
use Rattle.reader.proofs.tokenizer.labels.next_label.Goals as goal

pub returns-in_err-next_label_if_eq : goal.returns-in_err-next_label_if_eq
returns-in_err-next_label_if_eq g c =
    rw (err_exit _ c.from_residual-in_err-next_label_if_eq.ensures) (sym (c.loop-rule.invariant ∙ label-refused (syntax_in c.args.mode) (mode_in c.args.mode) c.loop-rule.rule-index c.loop-rule-test.true _ (sym c.in_err-next_label_if_eq.ensures)))

pub returns-then-branch-2 : goal.returns-then-branch-2
returns-then-branch-2 g c = sym (c.loop-rule.invariant ∙ label-found (syntax_in c.args.mode) (mode_in c.args.mode) c.loop-rule.rule-index c.loop-rule-test.true _ (got c.in_ok-next_label_if_eq.ensures c.if-branch-2.true))

pub loop-rule-preserved : goal.loop-rule-preserved
loop-rule-preserved g c = c.loop-rule.invariant ∙ label-next (syntax_in c.args.mode) (mode_in c.args.mode) c.loop-rule.rule-index c.loop-rule-test.true _ (got c.in_ok-next_label_if_eq.ensures c.if-branch-2.false)

pub returns-then-some_label_required : goal.returns-then-some_label_required
unfolding refuse
returns-then-some_label_required g c =
    let h = c.loop-rule.invariant ∙ label-due (syntax_in c.args.mode) (mode_in c.args.mode) c.loop-rule.rule-index c.loop-rule-test.false _ (sym c.some_label_required.ensures ∙ c.if-some_label_required.true) in
    search rules

pub returns : goal.returns
returns g c = sym (c.loop-rule.invariant ∙ label_free (syntax_in c.args.mode) (mode_in c.args.mode) c.loop-rule.rule-index c.loop-rule-test.false _ (sym c.some_label_required.ensures ∙ c.if-some_label_required.false))
