-- A print and a load that follow the ledger carry a file from one catalogue to another.
use Rattle.std.proofs.Common.{◌≡◌, ℕ, List, ◌++◌, length, drop, sym, ap, ◌∙◌, arith}
use Rattle.tape_source.specs.Tape.{tape}
use Rattle.grammar.specs.Ledger as ledger
use Rattle.grammar.specs.Ledger.{Ledger, Refusal, Answer, answered, refused_by}
use Rattle.round_trip.specs.Calls.{opened, Call, Run, answer, after}
use Rattle.round_trip.specs.Whole.{Carrying, with_words}
use Rattle.round_trip.proofs.WholeLaw.{seam, whole}

abbrev Said : Type 0
Said = Answer ℕ × List ℕ

module _ (east west : Run opened) (from into : Ledger) (at_east : after east ≡ from) (at_west : after west ≡ into) (k : ℕ) (buffer then_holds : List ℕ) where
  -- what the print gave, by the list of calls
  told : (x : Answer ℕ) → (x, then_holds) ≡ answer from (Call.print k buffer) → answer (after east) (Call.print k buffer) ≡ (x, then_holds)
  told x e = ap (λ (l : Ledger). answer l (Call.print k buffer)) at_east ∙ sym e

  pub not_carried : (r : Refusal) → (refused_by r, then_holds) ≡ answer from (Call.print k buffer) → Carrying east west k buffer then_holds (refused_by r) into
  not_carried r e = record {
    whole = whole east west;
    written = sym (ap (λ (x : Said). x.1) (told (refused_by r) e));
    not_printed = λ s h.
        let p : ◌≡◌ {A = Answer ℕ} (refused_by r) (refused_by s) = sym (ap (λ (x : Said). x.0) (told (refused_by r) e)) ∙ h in
        (ap (with_words 0) p, sym at_west);
    printed = λ words h well.
        let p : refused_by r ≡ answered (length words) = ap (λ (x : Said). x.0) (sym (told (refused_by r) e) ∙ h) in
        let z : ◌≡◌ {A = ℕ} 0 1 = cc in
        absurd (omega arith);
  }

  pub carried : (n : ℕ) (words : List ℕ) → (answered n, then_holds) ≡ answer from (Call.print k buffer) → n ≡ length words → then_holds ≡ words ++ drop (length words) buffer →
      (said : Answer ℕ) (later : Ledger) → said ≡ (ledger.load into (tape words)).answer → later ≡ (ledger.load into (tape words)).ledger →
      Carrying east west k buffer then_holds (with_words n said) later
  carried n words e count content said later answers leaves = record {
    whole = whole east west;
    written = sym (ap (λ (x : Said). x.1) (told (answered n) e));
    not_printed = λ s h.
        let p : answered n ≡ refused_by s = sym (ap (λ (x : Said). x.0) (told (answered n) e)) ∙ h in
        let z : ◌≡◌ {A = ℕ} 0 1 = cc in
        absurd (omega arith);
    printed = λ ws h well.
        let p : answered n ≡ answered (length ws) = ap (λ (x : Said). x.0) (sym (told (answered n) e) ∙ h) in
        let m : n ≡ length ws = cc in
        let q : then_holds ≡ ws ++ drop (length ws) buffer = ap (λ (x : Said). x.1) (sym (told (answered n) e) ∙ h) in
        let same : words ≡ ws = seam words ws (drop (length words) buffer) (drop (length ws) buffer) (sym count ∙ m) (sym content ∙ q) in
        let a : ledger.load into (tape words) ≡ ledger.load (after west) (tape ws) =
        ap (λ (l : Ledger). ledger.load l (tape words)) (sym at_west) ∙ ap (λ (v : List ℕ). ledger.load (after west) (tape v)) same in (
          ap (λ (x : Answer ℕ). with_words n x) (answers ∙ ap (λ (x : ledger.Loaded). x.answer) a) ∙ ap (λ (i : ℕ). with_words i (ledger.load (after west) (tape ws)).answer) m,
          leaves ∙ ap (λ (x : ledger.Loaded). x.ledger) a,
        );
  }
