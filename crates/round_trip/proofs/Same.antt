-- Files that are printed alike are alike, apart from places.
use Rattle.std.proofs.Common.{◌≡◌, ℕ, [], ◌∷◌, sym, refl, ap, ◌∙◌, subst, arith}
use Rattle.token.specs.declared.answer.Place.{Place}
use Rattle.token.specs.Token.{Ahead, next, end, fault, nowhere, unplaced}
use Rattle.grammar.specs.Parse.{Reply, ok, refused}
use Rattle.grammar.specs.Tree.{Tree}
use Rattle.grammar.specs.Grammar as g
use Rattle.grammar.specs.Model.{FileDescriptor, model}
use Rattle.grammar.specs.Erase.{erased}
use Rattle.grammar.specs.Print as p
use Rattle.round_trip.specs.Alike.{Alike, bare, tree_erased}
use Rattle.round_trip.specs.Faithful.{Readable, ReadsBack, ReadsAnywhere, TellsApart}
use Rattle.round_trip.proofs.Canon.{FileOk, tree_of}
use Rattle.round_trip.proofs.FileAgain.{file_read}
use Rattle.round_trip.proofs.FileMeans.{model_of_tree}
use Rattle.round_trip.proofs.FileReads.{readable}
use Rattle.round_trip.proofs.Printed.{printed_formed}
use Rattle.round_trip.proofs.TapeAgain.{words_tell}
use Rattle.round_trip.proofs.PlacesApart.{alike-bare}
use Rattle.round_trip.proofs.Blind.{remap}
use Rattle.round_trip.proofs.GrammarBlind.{file_blind}
use Rattle.round_trip.proofs.ModelErased.{model-erased}
use Rattle.round_trip.proofs.Well.{well_of}

abbrev tree_or : Tree → Reply Tree → Tree
tree_or d (ok t a) = t
tree_or d (refused why a) = d

pub same-tokens : (m n : FileDescriptor) → FileOk m → FileOk n → p.print_tokens m ≡ p.print_tokens n → erased m ≡ erased n
same-tokens m n h k e =
    sym (model_of_tree m h)
    ∙ ap (λ r. model (tree_or (tree_of m) r)) (sym (file_read m h nowhere) ∙ ap (λ ts. g.file (unplaced ts (end nowhere))) e ∙ file_read n k nowhere)
    ∙ model_of_tree n k

pub same_words : (m n : FileDescriptor) → FileOk m → FileOk n → p.print m ≡ p.print n → erased m ≡ erased n
same_words m n h k e = same-tokens m n h k (words_tell (p.print_tokens m) (p.print_tokens n) (printed_formed m h) (printed_formed n k) e)

pub readable_good : (m : FileDescriptor) → Readable m → FileOk m
readable_good m r = subst FileOk r.is_model (readable r.source (well_of r.source r.law) r.tree r.rest r.is_read)

pub reads_back : ReadsBack
reads_back m r q = let h = readable_good m r in (tree_of m, file_read m h q, model_of_tree m h)

pub tells_apart : TellsApart
tells_apart m n r q e = same_words m n (readable_good m r) (readable_good n q) e

-- ---- wherever the tokens stand
unplaced-bare : (ts : p.Tokens) → bare (unplaced ts (end nowhere)) ≡ unplaced ts (end nowhere)
unplaced-bare [] = refl
unplaced-bare (t ∷ ts) = ap (next t nowhere) (unplaced-bare ts)

-- a tree that was read to a clean end, and is this one apart from places
pub record ReadAs (u : Tree) (x : Reply Tree) : Type 0 where
  pub tree : Tree
  pub end-place : Place
  pub is_read : x ≡ ok tree (end end-place)
  pub is-tree : tree_erased tree ≡ u

read_as : (u : Tree) (x : Reply Tree) → remap tree_erased x ≡ ok u (end nowhere) → ReadAs u x
read_as u (ok t (next k p b)) e = absurd (let z : ◌≡◌ {A = ℕ} 0 1 = cc in omega arith)
read_as u (ok t (end p)) e = record { tree = t; end-place = p; is_read = refl; is-tree = cc }
read_as u (ok t (fault n p)) e = absurd (let z : ◌≡◌ {A = ℕ} 0 1 = cc in omega arith)
read_as u (refused why b) e = absurd (let z : ◌≡◌ {A = ℕ} 0 1 = cc in omega arith)

pub read_anywhere : (m : FileDescriptor) → FileOk m → (a : Ahead) → Alike a (unplaced (p.print_tokens m) (end nowhere)) → ReadAs (tree_of m) (g.file a)
read_anywhere m h a k =
    read_as (tree_of m) (g.file a) (sym (file_blind.blind a) ∙ ap g.file (alike-bare k ∙ unplaced-bare (p.print_tokens m)) ∙ file_read m h nowhere)

-- what it means
pub means-again : (m : FileDescriptor) → FileOk m → (t : Tree) → tree_erased t ≡ tree_of m → erased (model t) ≡ erased m
means-again m h t e = sym (model-erased t) ∙ ap model e ∙ model_of_tree m h

pub reads_anywhere : ReadsAnywhere
reads_anywhere m r a k =
    let h = readable_good m r in
    let z = read_anywhere m h a k in
    (z.tree, z.end-place, z.is_read, means-again m h z.tree z.is-tree)
