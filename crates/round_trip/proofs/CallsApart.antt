-- No call tells apart what is equal apart from places.
use Rattle.std.proofs.Common.{◌≡◌, ℕ, zero, suc, ◌+◌, Bool, true, false, leb, List, [], ◌∷◌, ◌++◌, map, length, Some as some, None as none, Option, sym, refl, ap, ◌∙◌, ap₂}
use Rattle.token.specs.Token.{Bytes, Ahead}
use Rattle.grammar.specs.Parse.{Reply, ok, refused}
use Rattle.grammar.specs.Tree.{Tree, lengths, tree_records, tree_text}
use Rattle.grammar.specs.Grammar.{file}
use Rattle.grammar.specs.Model.{FileDescriptor}
use Rattle.grammar.specs.Erase.{erased}
use Rattle.grammar.specs.Ledger.{Standing, Ledger, Answer, answered, by_catalogue, refuse, Loaded, records_taken, text_taken, with_files, not_loaded, kept, entered, after_reading, load, without_last, forget, file_at, written, print, find}
use Rattle.grammar.specs.Print as printing
use Rattle.grammar.specs.Places as finding
use Rattle.grammar.specs.declared.fault.ReadFault.TheVariants.{Source, Reader}
use Rattle.grammar.specs.declared.fault.CatalogueFault.TheVariants.{NoFile, NoRecords, NoText, NoSlot}
use Rattle.round_trip.specs.Alike.{bare, tree_erased}
use Rattle.round_trip.specs.Apart.{standing_erased, ledger_erased, answer_erased, loaded_erased, CallsApart}
use Rattle.round_trip.proofs.Blind.{remap}
use Rattle.round_trip.proofs.GrammarBlind.{file_blind}
use Rattle.round_trip.proofs.ModelErased.{model-erased, records-same, text_same}
use Rattle.round_trip.proofs.PlacesApart.{alike-bare, bare_alike}
use Rattle.round_trip.proofs.PrintBlind.{print_blind, find_blind}

abbrev bare_files : List Standing → List Standing
bare_files = map standing_erased

length-same : (fs : List Standing) → length (bare_files fs) ≡ length fs
length-same [] = refl
length-same (f ∷ fs) = ap suc (length-same fs)

records_taken-same : (fs : List Standing) → records_taken (bare_files fs) ≡ records_taken fs
records_taken-same [] = refl
records_taken-same (f ∷ fs) = ap (λ n. f.took_records + n) (records_taken-same fs)

text_taken-same : (fs : List Standing) → text_taken (bare_files fs) ≡ text_taken fs
text_taken-same [] = refl
text_taken-same (f ∷ fs) = ap (λ n. f.took_text + n) (text_taken-same fs)

files-append : (fs : List Standing) (f : Standing) → bare_files (fs ++ f ∷ []) ≡ bare_files fs ++ standing_erased f ∷ []
files-append [] f = refl
files-append (g ∷ fs) f = ap (λ gs. standing_erased g ∷ gs) (files-append fs f)

text_of : (t : Tree) → tree_text (tree_erased t) ≡ tree_text t
text_of t = ap (λ n. lengths t.packages + n) (text_same t.items)

kept_same : (t : Tree) → kept (tree_erased t) ≡ standing_erased (kept t)
kept_same t = λ i. record { file_model = model-erased t i; took_records = records-same t.items i; took_text = text_of t i }

-- `entered` once its two tests are known
abbrev enter : Bool → Bool → Ledger → Tree → Ahead → Loaded
enter r x l t a =
    elim r [
      | false ↦ not_loaded l (by_catalogue NoRecords) a
      | true ↦
          elim x [
            | false ↦ not_loaded l (by_catalogue NoText) a
            | true ↦
                record { answer = answered (length l.files); ledger = with_files l (l.files ++ kept t ∷ []); source = a }
          ]
    ]

entered_blind : (l : Ledger) (t : Tree) (a : Ahead) → entered (ledger_erased l) (tree_erased t) (bare a) ≡ loaded_erased (entered l t a)
entered_blind l t a =
    ap₂ (λ r x. enter r x (ledger_erased l) (tree_erased t) (bare a))
    (ap₂ (λ m n. leb (m + n) 1024) (records_taken-same l.files) (records-same t.items))
    (ap₂ (λ m n. leb (m + n) 8192) (text_taken-same l.files) (text_of t))
    ∙ go (leb (records_taken l.files + tree_records t) 1024) (leb (text_taken l.files + tree_text t) 8192)
  where
    go : (r x : Bool) → enter r x (ledger_erased l) (tree_erased t) (bare a) ≡ loaded_erased (enter r x l t a)
    go false x = refl
    go true false = refl
    go true true =
        let files : bare_files l.files ++ kept (tree_erased t) ∷ [] ≡ bare_files (l.files ++ kept t ∷ []) = ap (λ f. bare_files l.files ++ f ∷ []) (kept_same t) ∙ sym (files-append l.files (kept t)) in
        ap₂ (λ n fs. record { answer = answered n; ledger = record { is_open = l.is_open; files = fs }; source = bare a }) (length-same l.files) files

reading_blind : (l : Ledger) (r : Reply Tree) → after_reading (ledger_erased l) (remap tree_erased r) ≡ loaded_erased (after_reading l r)
reading_blind l (ok t a) = entered_blind l t a
reading_blind l (refused (Source f) a) = refl
reading_blind l (refused (Reader f) a) = refl

pub load_blind : (l : Ledger) (a : Ahead) → load (ledger_erased l) (bare a) ≡ loaded_erased (load l a)
unfolding load
load_blind l a =
    ap₂ (λ n r. at (leb 8 n) (ledger_erased l) r (bare a)) (length-same l.files) (file_blind.blind a) ∙ go (leb 8 (length l.files))
  where
    at : Bool → Ledger → Reply Tree → Ahead → Loaded
    at b k r c = elim b [ true ↦ not_loaded k (by_catalogue NoSlot) c | false ↦ after_reading k r ]

    go : (b : Bool) → at b (ledger_erased l) (remap tree_erased (file a)) (bare a) ≡ loaded_erased (at b l (file a) a)
    go true = refl
    go false = reading_blind l (file a)

without_last_blind : (f : Standing) (fs : List Standing) → without_last (standing_erased f) (bare_files fs) ≡ bare_files (without_last f fs)
without_last_blind f [] = refl
without_last_blind f (g ∷ fs) = ap (λ gs. standing_erased f ∷ gs) (without_last_blind g fs)

pub forget_blind : (l : Ledger) → forget (ledger_erased l) ≡ answer_erased ledger_erased (forget l)
unfolding forget
forget_blind l = go l.files
  where
    go : (fs : List Standing) → forget (record { is_open = l.is_open; files = bare_files fs }) ≡ answer_erased ledger_erased (forget (record { is_open = l.is_open; files = fs }))
    go [] = refl
    go (f ∷ fs) = ap (λ gs. answered (record { is_open = l.is_open; files = gs })) (without_last_blind f fs)

abbrev model_at : Option FileDescriptor → Option FileDescriptor
model_at none = none
model_at (some m) = some (erased m)

file_at_blind : (fs : List Standing) (i : ℕ) → file_at (bare_files fs) i ≡ model_at (file_at fs i)
file_at_blind [] i = refl
file_at_blind (f ∷ fs) zero = refl
file_at_blind (f ∷ fs) (suc i) = file_at_blind fs i

pub prints-same : (l : Ledger) (i : ℕ) (buffer : List ℕ) → print (ledger_erased l) i buffer ≡ print l i buffer
unfolding print
prints-same l i buffer = ap at (file_at_blind l.files i) ∙ go (file_at l.files i)
  where
    at : Option FileDescriptor → Answer (ℕ × List ℕ)
    at o = elim o [ none ↦ refuse NoFile | some m ↦ written (printing.print m) buffer ]

    go : (o : Option FileDescriptor) → at (model_at o) ≡ at o
    go none = refl
    go (some m) = ap (λ ws. written ws buffer) (print_blind m)

pub finds-same : (l : Ledger) (i : ℕ) (name : Bytes) (number : ℕ) → find (ledger_erased l) i name number ≡ find l i name number
unfolding find
finds-same l i name number = ap at (file_at_blind l.files i) ∙ go (file_at l.files i)
  where
    at : Option FileDescriptor → Answer (Option (ℕ × ℕ))
    at o = elim o [ none ↦ refuse NoFile | some m ↦ answered (finding.find m name number) ]

    go : (o : Option FileDescriptor) → at (model_at o) ≡ at o
    go none = refl
    go (some m) = ap answered (find_blind m name number)

pub calls_apart : CallsApart
calls_apart = record {
  loads = λ l k a b e h.
      (let same : loaded_erased (load l a) ≡ loaded_erased (load k b) = sym (load_blind l a) ∙ ap₂ load e (alike-bare h) ∙ load_blind k b in
      record { answers = ap (λ d. d.answer) same; ledgers = ap (λ d. d.ledger) same; sources = bare_alike _ _ (ap (λ d. d.source) same) });
  forgets = λ l k e. sym (forget_blind l) ∙ ap forget e ∙ forget_blind k;
  prints = λ l k i buffer e. sym (prints-same l i buffer) ∙ ap (λ x. print x i buffer) e ∙ prints-same k i buffer;
  finds = λ l k i name number e. sym (finds-same l i name number) ∙ ap (λ x. find x i name number) e ∙ finds-same k i name number;
}
