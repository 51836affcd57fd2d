use Rattle.std.proofs.Common.{◌==◌, ◌≡◌, ℕ, false, eqb, length, ap, ◌∙◌, rules, arith}
use Rattle.std.proofs.lemmas.Bool.Decides.{nat_tests}
use Rattle.std.proofs.lemmas.Iterator.{YieldsList-from_slice}
use Rattle.std.proofs.lemmas.Iterator.Consumers.{YieldsList-from_enumerate}
use Rattle.std.proofs.lemmas.Iterator.Search.{all_from_yields_List}
use borrow.Author.Tests.{tests}
use Rattle.token.specs.Token.{spelled, byted}
use Rattle.reader.proofs.Spelling.{same_unless, same_by_bytes}
use Rattle.reader.proofs.tokenizer.spells.Goals as goal

pub returns-then-text_len-word : goal.returns-then-text_len-word
returns-then-text_len-word g c =
    all_from_yields_List (λ (p : ℕ × ℕ). byted (g.S.Source.ahead c.args.s.now) p.0 == p.1) _ _ _ c.all.ensures.ran (YieldsList-from_enumerate {s = c.enumerate.result} (YieldsList-from_slice c.args.word.now (cc)) (cc)) (λ x b q k. search (rules, tests))
    ∙ same_by_bytes 0 (spelled (g.S.Source.ahead c.args.s.now)) c.args.word.now (omega (arith, c.text_len.ensures))

pub returns-else-text_len-word : goal.returns-else-text_len-word
returns-else-text_len-word g c =
    let differ = same_unless (spelled (g.S.Source.ahead c.args.s.now)) c.args.word.now (λ e. c.if-text_len-word.false (c.text_len.ensures ∙ ap length e)) in
    let lengths : eqb c.text_len.result (length c.args.word.now) ≡ false = grind (arith, nat_tests) in
    rw differ lengths
