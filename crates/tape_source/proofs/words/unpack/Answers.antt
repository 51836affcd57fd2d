use Rattle.std.proofs.Common.{◌≡◌, ℕ, ◌+◌, ◌<◌, get_or, set, sym, subst, arith}
use Rattle.std.proofs.lemmas.List.Edits.{fill_by_more}
use Rattle.tape_source.specs.Tape.{byte_in}
use Rattle.tape_source.proofs.Tabs.{is-tab}
use Rattle.tape_source.proofs.words.unpack.Goals as goal

pub loop-k-preserved : goal.loop-k-preserved
loop-k-preserved c =
    subst (λ b. (k : ℕ) → k < c.loop-k.k + 1 → get_or (set c.loop-k.text c.loop-k.k b) k 0 ≡ byte_in c.args.words.now k) (sym c.byte_at.ensures)
    (fill_by_more (byte_in c.args.words.now) c.loop-k.text c.loop-k.k 0 (omega arith) c.loop-k.invariant)

pub returns : goal.returns
returns c = is-tab (byte_in c.args.words.now) c.loop-k.text _ c.loop-k.auto.text (λ k h. c.loop-k.invariant k (omega arith))
