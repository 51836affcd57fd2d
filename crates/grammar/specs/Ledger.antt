-- A plain catalogue: what each call answers, and what stands afterwards.
use Rattle.std.specs.Prelude.{ℕ, zero, suc, ◌+◌, Bool, true, false, List, [], ◌∷◌, ◌++◌, length, drop, Some as some, None as none, Option, nat_le}
use Rattle.token.specs.declared.answer.Place.{Place}
use Rattle.token.specs.Token.{Bytes, nowhere, Ahead}
use Rattle.grammar.specs.declared.fault.ReadFault.{ReadFault}
use Rattle.grammar.specs.declared.fault.CatalogueFault.{CatalogueFault}
use Rattle.grammar.specs.declared.fault.CatalogueFault.TheVariants.{NoFile, NoRecords, NoText, NoSlot, BufferShort}
use Rattle.grammar.specs.Refusals.{read_layer, read_number, read_place, catalogue_number}
use Rattle.grammar.specs.Parse.{Reply, ok, refused}
use Rattle.grammar.specs.Tree.{Tree, tree_records, tree_text}
use Rattle.grammar.specs.Grammar.{file}
use Rattle.grammar.specs.Model.{FileDescriptor, model}
use Rattle.grammar.specs.Print as printing
use Rattle.grammar.specs.Places as finding

-- a file that stands: its model, and the records and the text that it took
pub record Standing : Type 0 where
  pub file_model : FileDescriptor
  pub took_records : ℕ
  pub took_text : ℕ

-- files are kept oldest first
pub record Ledger : Type 0 where
  pub is_open : Bool
  pub files : List Standing

pub record Refusal : Type 0 where
  pub layer : ℕ
  pub number : ℕ
  pub where_met : Place

pub data Answer (A : Type 0) : Type 0 where
  answered : A → Answer A
  refused_by : Refusal → Answer A

abbrev pub refusal : ℕ → ℕ → Place → Refusal
refusal l n p = record { layer = l; number = n; where_met = p }

-- layers 1 and 2, at a place of the input
abbrev pub by_reading : ReadFault → Refusal
by_reading e = refusal (read_layer e) (read_number e) (read_place e)

-- layer 3, whose place is 0, 0
abbrev pub by_catalogue : CatalogueFault → Refusal
by_catalogue f = refusal 3 (catalogue_number f) nowhere

abbrev pub refuse : {A : Type 0} → CatalogueFault → Answer A
refuse f = refused_by (by_catalogue f)

abbrev pub new : Ledger
new = record { is_open = true; files = [] }

abbrev pub records_taken : List Standing → ℕ
records_taken [] = 0
records_taken (f ∷ fs) = f.took_records + records_taken fs

abbrev pub text_taken : List Standing → ℕ
text_taken [] = 0
text_taken (f ∷ fs) = f.took_text + text_taken fs

abbrev pub with_files : Ledger → List Standing → Ledger
with_files l fs = record { is_open = l.is_open; files = fs }

-- ---- load
-- what load answers, what stands then, and what is ahead of the source then
pub record Loaded : Type 0 where
  pub answer : Answer ℕ
  pub ledger : Ledger
  pub source : Ahead

abbrev pub not_loaded : Ledger → Refusal → Ahead → Loaded
not_loaded l r a = record { answer = refused_by r; ledger = l; source = a }

abbrev pub kept : Tree → Standing
kept t = record { file_model = model t; took_records = tree_records t; took_text = tree_text t }

abbrev pub entered : Ledger → Tree → Ahead → Loaded
entered l t a =
    elim (nat_le (records_taken l.files + tree_records t) 1024) [
      | false ↦ not_loaded l (by_catalogue NoRecords) a
      | true ↦
          elim (nat_le (text_taken l.files + tree_text t) 8192) [
            | false ↦ not_loaded l (by_catalogue NoText) a
            | true ↦
                record { answer = answered (length l.files); ledger = with_files l (l.files ++ kept t ∷ []); source = a }
          ]
    ]

abbrev pub after_reading : Ledger → Reply Tree → Loaded
after_reading l (ok t a) = entered l t a
after_reading l (refused e a) = not_loaded l (by_reading e) a

unfoldable pub load : Ledger → Ahead → Loaded
load l a = elim (nat_le 8 (length l.files)) [ true ↦ not_loaded l (by_catalogue NoSlot) a | false ↦ after_reading l (file a) ]

-- ---- forget: the newest file goes
abbrev pub without_last : Standing → List Standing → List Standing
without_last f [] = []
without_last f (g ∷ gs) = f ∷ without_last g gs

unfoldable pub forget : Ledger → Answer Ledger
forget l = elim l.files [ [] ↦ refuse NoFile | f ∷ fs ↦ answered (with_files l (without_last f fs)) ]

-- ---- print, places, find: the ledger stays
abbrev pub file_at : List Standing → ℕ → Option FileDescriptor
file_at [] k = none
file_at (f ∷ fs) zero = some f.file_model
file_at (f ∷ fs) (suc k) = file_at fs k

-- words into a buffer: how many, and the buffer then; the rest of it is untouched
abbrev pub written : List ℕ → List ℕ → Answer (ℕ × List ℕ)
written ws buffer = elim (nat_le (length ws) (length buffer)) [ true ↦ answered (length ws, ws ++ drop (length ws) buffer) | false ↦ refuse BufferShort ]

unfoldable pub print : Ledger → ℕ → List ℕ → Answer (ℕ × List ℕ)
print l k buffer = elim (file_at l.files k) [ none ↦ refuse NoFile | some m ↦ written (printing.print m) buffer ]

unfoldable pub places : Ledger → ℕ → List ℕ → Answer (ℕ × List ℕ)
places l k buffer = elim (file_at l.files k) [ none ↦ refuse NoFile | some m ↦ written (finding.places m) buffer ]

unfoldable pub find : Ledger → ℕ → Bytes → ℕ → Answer (Option (ℕ × ℕ))
find l k name number = elim (file_at l.files k) [ none ↦ refuse NoFile | some m ↦ answered (finding.find m name number) ]

-- ---- close and reopen only switch it
abbrev pub close : Ledger → Ledger
close l = record { is_open = false; files = l.files }

abbrev pub reopen : Ledger → Ledger
reopen l = record { is_open = true; files = l.files }

-- ---- all of this file, for a proof that computes
unfoldable pub opened : Unit {0}
unfolding load forget print places find
opened = tt
