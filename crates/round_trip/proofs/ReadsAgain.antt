-- The words that a file is printed as are a lawful tape, which is read as that file apart from places, and takes no more room.
use Rattle.std.proofs.Common.{◌≡◌, ℕ, ◌+◌, ◌≤◌, T, List, [], ◌++◌, length, Some as some, sym, refl, ap, ◌∙◌, subst, append-nil, arith}
use Rattle.token.specs.Token.{nowhere, Ahead}
use Rattle.token.specs.Law.{lawful}
use Rattle.grammar.specs.Parse.{Reply, ok, refused}
use Rattle.grammar.specs.Tree.{Tree, lengths, tree_records, tree_text}
use Rattle.grammar.specs.Grammar.{file}
use Rattle.grammar.specs.Model.{model}
use Rattle.grammar.specs.Erase.{erased}
use Rattle.grammar.specs.Print as printing
use Rattle.round_trip.specs.Alike.{Alike}
use Rattle.tape_source.specs.Tape.{tape, most_words}
use Rattle.grammar.specs.Ledger.{Standing, kept}
use Rattle.round_trip.specs.Calls.{as_read, meant}
use Rattle.round_trip.proofs.Canon.{FileOk}
use Rattle.round_trip.proofs.Well.{well_of}
use Rattle.round_trip.proofs.FileReads.{readable}
use Rattle.round_trip.proofs.Printed.{printed_formed}
use Rattle.round_trip.proofs.ReaderShape.{read_room, read_fits}
use Rattle.round_trip.proofs.ModelErased.{records-same, text_same}
use Rattle.round_trip.proofs.TapeAgain.{tape-again}
use Rattle.tape_source.proofs.Lawful.{lawful-from}
use Rattle.round_trip.proofs.Same.{read_anywhere, means-again}

-- A file comes from a source: a lawful one is read as it, and it is within a catalogue's room.
pub record Origin (f : Standing) : Type 0 where
  pub source : Ahead
  pub law : T (lawful source)
  pub read : meant source ≡ some f
  pub few : f.took_records ≤ 1024
  pub short : f.took_text ≤ 8192

pub record Again (f : Standing) : Type 0 where
  pub well : T (lawful (tape (printing.print f.file_model)))
  pub again : Standing
  pub reads : meant (tape (printing.print f.file_model)) ≡ some again
  pub alike : erased again.file_model ≡ erased f.file_model
  pub no_more_records : again.took_records ≤ f.took_records
  pub no_more_text : again.took_text ≤ f.took_text

tape_of : (ts : printing.Tokens) (a : Ahead) → Alike (tape (printing.tape ts ++ [])) a → Alike (tape (printing.tape ts)) a
tape_of ts a h = subst (λ (ws : List ℕ). Alike (tape ws) a) (append-nil (printing.tape ts)) h

again_kept : (a b : Ahead) → T (lawful a) → (t : Tree) → file a ≡ ok t b → tree_records t ≤ 1024 → tree_text t ≤ 8192 → Again (kept t)
again_kept a b law t e few short =
    let m = model t in
    let h : FileOk m = readable a (well_of a law) t b e in
    let bound : length (printing.print m) ≤ 49165 = read_fits a b t e few short in
    let fits : length (printing.print m ++ []) ≤ most_words = subst (λ (ws : List ℕ). length ws ≤ most_words) (sym (append-nil (printing.print m))) (omega arith) in
    let z = read_anywhere m h (tape (printing.print m)) (tape_of (printing.print_tokens m) _ (tape-again (printing.print_tokens m) [] nowhere (printed_formed m h) fits)) in
    let room = read_room a b t e in
    let records : tree_records z.tree ≡ _ = sym (records-same z.tree.items) ∙ ap tree_records z.is-tree in
    let text : tree_text z.tree ≡ _ = sym (ap (λ n. lengths z.tree.packages + n) (text_same z.tree.items)) ∙ ap tree_text z.is-tree in
    record {
      well = lawful-from (printing.print m) 0 (omega arith);
      again = kept z.tree;
      reads = ap as_read z.is_read;
      alike = means-again m h z.tree z.is-tree;
      no_more_records = subst (λ n. n ≤ tree_records t) (sym records) room.no_more_records;
      no_more_text = subst (λ n. n ≤ tree_text t) (sym text) room.no_more_text;
    }

-- what was read as this file
record ReadFile (x : Reply Tree) (f : Standing) : Type 0 where
  tree : Tree
  rest : Ahead
  is_read : x ≡ ok tree rest
  is-file : kept tree ≡ f

read_file : (x : Reply Tree) (f : Standing) → as_read x ≡ some f → ReadFile x f
read_file (ok t b) f e = record { tree = t; rest = b; is_read = refl; is-file = cc }
read_file (refused why b) f e = absurd (let z : ◌≡◌ {A = ℕ} 0 1 = cc in omega arith)

pub reads_again : (f : Standing) → Origin f → Again f
reads_again f o =
    let r = read_file (file o.source) f o.read in
    subst Again r.is-file
    (again_kept o.source r.rest o.law r.tree r.is_read
    (subst (λ (x : Standing). x.took_records ≤ 1024) (sym r.is-file) o.few)
    (subst (λ (x : Standing). x.took_text ≤ 8192) (sym r.is-file) o.short))
