use Rattle.std.proofs.Common.{◌≡◌, drop}
use Rattle.grammar.specs.Grammar.{label, label_in}
use Rattle.reader.specs.Modes.{syntax_in, mode_in}
use Rattle.reader.proofs.LabelSteps.{tried}
use Rattle.reader.proofs.tokenizer.labels.next_label.Given as goal

-- no label that was tried is there
abbrev pub invariant-loop-rule : goal.invariant-loop-rule
invariant-loop-rule g l = label (syntax_in l.mode) (mode_in l.mode) (g.S.Source.ahead l.fn.s) ≡ label_in (syntax_in l.mode) (mode_in l.mode) (drop l.rule-index tried) (g.S.Source.ahead l.s)
