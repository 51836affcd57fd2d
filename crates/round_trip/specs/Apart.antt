-- Ledgers, answers and calls apart from places: places decide nothing in any call but `places`.
use Rattle.std.specs.Prelude.{◌≡◌, ℕ, List, map}
use Rattle.token.specs.Token.{Bytes, nowhere, Ahead}
use Rattle.grammar.specs.Erase.{erased}
use Rattle.grammar.specs.Ledger.{Standing, Ledger, Refusal, Answer, answered, refused_by, Loaded, load, forget, print, find}
use Rattle.round_trip.specs.Alike.{Alike, bare}

abbrev pub standing_erased : Standing → Standing
standing_erased s = record { file_model = erased s.file_model; took_records = s.took_records; took_text = s.took_text }

abbrev pub ledger_erased : Ledger → Ledger
ledger_erased l = record { is_open = l.is_open; files = map standing_erased l.files }

abbrev pub refusal_erased : Refusal → Refusal
refusal_erased r = record { layer = r.layer; number = r.number; where_met = nowhere }

abbrev pub answer_erased : {A : Type 0} → (A → A) → Answer A → Answer A
answer_erased e (answered x) = answered (e x)
answer_erased e (refused_by r) = refused_by (refusal_erased r)

abbrev pub loaded_erased : Loaded → Loaded
loaded_erased d = record { answer = answer_erased (λ n. n) d.answer; ledger = ledger_erased d.ledger; source = bare d.source }

-- two ledgers are equal apart from places
abbrev pub Apart : Ledger → Ledger → Type 0
Apart l k = ledger_erased l ≡ ledger_erased k

-- the same answer, its place apart; ledgers equal and sources alike again
pub record LoadedAlike (d e : Loaded) : Type 0 where
  pub answers : answer_erased (λ n. n) d.answer ≡ answer_erased (λ n. n) e.answer
  pub ledgers : Apart d.ledger e.ledger
  pub sources : Alike d.source e.source

-- ---- the theorem: no call tells two such ledgers, or two such sources, apart
pub record CallsApart : Type 0 where
  pub loads : (l k : Ledger) (a b : Ahead) → Apart l k → Alike a b → LoadedAlike (load l a) (load k b)
  pub forgets : (l k : Ledger) → Apart l k → answer_erased ledger_erased (forget l) ≡ answer_erased ledger_erased (forget k)
  pub prints : (l k : Ledger) (i : ℕ) (buffer : List ℕ) → Apart l k → print l i buffer ≡ print k i buffer
  pub finds : (l k : Ledger) (i : ℕ) (name : Bytes) (number : ℕ) → Apart l k → find l i name number ≡ find k i name number
