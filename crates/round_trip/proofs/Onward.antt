-- A call that follows the ledger goes on from what a list of calls leads to.
use Rattle.std.proofs.Common.{◌≡◌, refl, ap, ◌∙◌}
use mathlib.Core.Logic.{∥∥₁_map}
use Rattle.grammar.specs.Ledger as ledger
use Rattle.grammar.specs.Ledger.{Ledger}
use Rattle.round_trip.specs.Calls.{Mode, opened, Call, Run, begin, ◌then◌, Answers, answer, stepped, after, Reached, Follows, Replies, replies, History, AsTheLedger}

pub new_reached : Reached opened ledger.new
new_reached = ∣ (begin, tt, refl) ∣₁

pub onward : {m n : Mode} (c : Call m n) (said : Answers c) (before later : Ledger) → Follows c said before later → Reached m before → Reached n later
onward {m} {n} c said before later e h =
    ∥∥₁_map {B = (r : Run n) × (said : Replies r) × History r said later} h (λ x. (x.0 then c, (x.1, said), (before, x.2, e)))

-- ---- every answer along a list of calls
pub history_means : {m : Mode} (r : Run m) (said : Replies r) (l : Ledger) → History r said l → l ≡ after r
history_means begin said l s = s
history_means (r then c) said l s = s.2.leaves ∙ ap (λ (x : Ledger). stepped x c) (history_means r said.0 s.0 s.1)

pub history_answers : {m : Mode} (r : Run m) (said : Replies r) (l : Ledger) → History r said l → said ≡ replies r
history_answers begin said l s = refl
history_answers (r then c) said l s =
    let p = history_answers r said.0 s.0 s.1 in
    let q = s.2.answers ∙ ap (λ (x : Ledger). answer x c) (history_means r said.0 s.0 s.1) in
    λ i. (p i, q i)

pub as_the_ledger : {m : Mode} (r : Run m) → AsTheLedger r
as_the_ledger r = record { every_answer = history_answers r; every_file = history_means r }
