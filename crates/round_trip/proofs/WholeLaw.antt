-- What two catalogues owe each other holds of any two lists of calls.
use Rattle.std.proofs.Common.{◌≡◌, ℕ, zero, suc, ◌+◌, Bool, true, false, not, ◌&&◌, T, ltb, leb, ◌↔◌, List, [], ◌∷◌, ◌++◌, length, take, drop, Some as some, None as none, Option, sym, refl, ap, ◌∙◌, subst, arith, le-leb, leb-true}
use lib.Seq.{take-append_seam}
use Rattle.token.specs.Token.{Ahead}
use Rattle.token.specs.Law.{lawful}
use Rattle.grammar.specs.Parse.{Reply, ok, refused}
use Rattle.grammar.specs.Tree.{Tree, tree_records, tree_text}
use Rattle.grammar.specs.Grammar.{file}
use Rattle.grammar.specs.Model.{FileDescriptor}
use Rattle.grammar.specs.Erase.{erased}
use Rattle.grammar.specs.Print as printing
use Rattle.tape_source.specs.Tape.{tape}
use Rattle.grammar.specs.Ledger as ledger
use Rattle.grammar.specs.Ledger.{Ledger, Standing, Answer, answered, refuse, kept, records_taken, text_taken, file_at, written}
use Rattle.grammar.specs.declared.fault.CatalogueFault.TheVariants.{NoFile, BufferShort}
use Rattle.round_trip.specs.Calls.{Mode, opened, Call, Run, begin, ◌then◌, answer, with_buffer, after, meant, as_read, fits, if_it_fits, accepted, left, standing}
use Rattle.round_trip.specs.Whole.{numbered, EqualApart, Prints, Free, Accepted, Accepts, Printable, Carried, Carries, Whole}
use Rattle.round_trip.proofs.Again.{and_left, and_right}
use Rattle.round_trip.proofs.Escapes.{both}
use Rattle.round_trip.proofs.Onward.{as_the_ledger}
use Rattle.round_trip.proofs.PrintBlind.{prints_no_place}
use Rattle.round_trip.proofs.ReadsAgain.{Origin, Again, reads_again}
use Rattle.round_trip.proofs.StandingLaw.{slot-taken, kept_if, entered_by, loaded_by, files_stand}

-- ---- a slot and room
pub free : (fs : List Standing) (f : Standing) → fits fs f ≡ true → Free fs f.took_records f.took_text
free fs f e =
    let s = ltb (length fs) 8 in
    let r = leb (records_taken fs + f.took_records) 1024 in
    let t = leb (text_taken fs + f.took_text) 8192 in
    let sr = and_left (s && r) t e in
    record {
      slot = leb-true (suc (length fs)) 8 (and_left s r sr);
      records_free = leb-true (records_taken fs + f.took_records) 1024 (and_right s r sr);
      text_free = leb-true (text_taken fs + f.took_text) 8192 (and_right (s && r) t e);
    }

pub fitting : (fs : List Standing) (f : Standing) → Free fs f.took_records f.took_text → fits fs f ≡ true
fitting fs f h =
    let s = ltb (length fs) 8 in
    let r = leb (records_taken fs + f.took_records) 1024 in
    let t = leb (text_taken fs + f.took_text) 8192 in
    both (s && r) t (both s r (le-leb (suc (length fs)) 8 h.slot) (le-leb (records_taken fs + f.took_records) 1024 h.records_free)) (le-leb (text_taken fs + f.took_text) 8192 h.text_free)

-- ---- a load answers a number exactly when it is accepted
abbrev Has : Option Standing → Type 0
Has none = ⊥
Has (some f) = Unit {0}

module _ (l : Ledger) where
  tests_answer : (b c : Bool) (t : Tree) (a : Ahead) → Accepted (entered_by l b c t a).answer ≡ Has (kept_if l (true && b && c) (kept t))
  tests_answer true true t a = refl
  tests_answer true false t a = refl
  tests_answer false true t a = refl
  tests_answer false false t a = refl

  reply_answer : (d : Bool) → ltb (length l.files) 8 ≡ d → (a : Ahead) (reply : Reply Tree) → Accepted (loaded_by l (not d) a reply).answer ≡ Has (if_it_fits l.files (as_read reply))
  reply_answer true e a (refused why r) = refl
  reply_answer false e a (refused why r) = refl
  reply_answer true e a (ok t r) =
      let b = leb (records_taken l.files + tree_records t) 1024 in
      let c = leb (text_taken l.files + tree_text t) 8192 in
      subst (λ (x : Bool). Accepted (entered_by l b c t r).answer ≡ Has (kept_if l (x && b && c) (kept t))) (sym e) (tests_answer b c t r)
  reply_answer false e a (ok t r) =
      let b = leb (records_taken l.files + tree_records t) 1024 in
      let c = leb (text_taken l.files + tree_text t) 8192 in
      subst (λ (x : Bool). ⊥ ≡ Has (kept_if l (x && b && c) (kept t))) (sym e) refl

  pub load-answer : (a : Ahead) → Accepted (ledger.load l a).answer ≡ Has (accepted l.files a)
  unfolding ledger.load
  load-answer a =
      subst (λ (x : Bool). Accepted (loaded_by l x a (file a)).answer ≡ Has (accepted l.files a)) (sym (slot-taken (length l.files)))
      (reply_answer (ltb (length l.files) 8) refl a (file a))

-- ---- where a file that stands comes from
abbrev pub Origins : List Standing → Type 0
Origins [] = Unit {0}
Origins (f ∷ fs) = Origin f × Origins fs

origins_added : (fs : List Standing) (f : Standing) → Origins fs → Origin f → Origins (fs ++ f ∷ [])
origins_added [] f os o = (o, tt)
origins_added (g ∷ fs) f os o = (os.0, origins_added fs f os.1 o)

pub origin_of : (fs : List Standing) (k : ℕ) (f : Standing) → Origins fs → numbered fs k ≡ some f → Origin f
origin_of [] k f os e = let z : ◌≡◌ {A = ℕ} 0 1 = cc in absurd (omega arith)
origin_of (g ∷ fs) zero f os e = let h : g ≡ f = cc in subst Origin h os.0
origin_of (g ∷ fs) (suc k) f os e = origin_of fs k f os.1 e

read_and_fits : (fs : List Standing) (o : Option Standing) (f : Standing) → if_it_fits fs o ≡ some f → (o ≡ some f) × (fits fs f ≡ true)
read_and_fits fs none f e = let z : ◌≡◌ {A = ℕ} 0 1 = cc in absurd (omega arith)
read_and_fits fs (some g) f e = go (fits fs g) refl e
  where
    go : (b : Bool) → fits fs g ≡ b → elim b [ true ↦ some g | false ↦ none ] ≡ some f → (some g ≡ some f) × (fits fs f ≡ true)
    go true h p = let q : g ≡ f = cc in (p, subst (λ (x : Standing). fits fs x ≡ true) q h)
    go false h p = let z : ◌≡◌ {A = ℕ} 0 1 = cc in absurd (omega arith)

made : (fs : List Standing) (a : Ahead) → T (lawful a) → (f : Standing) → accepted fs a ≡ some f → Origin f
made fs a law f e =
    let h = read_and_fits fs (meant a) f e in
    let room = free fs f h.1 in
    record { source = a; law = law; read = h.0; few = omega (arith, room.records_free); short = omega (arith, room.text_free) }

module _ (back : ℕ → List Standing) (known : (j : ℕ) → Origins (back j)) where
  load_origins : (a : Ahead) → T (lawful a) → (k : ℕ) (o : Option Standing) → accepted (back 0) a ≡ o → Origins (elim o [ none ↦ back k | some f ↦ elim k [ zero ↦ back 0 ++ f ∷ [] | suc j ↦ back j ] ])
  load_origins a law k none e = known k
  load_origins a law zero (some f) e = origins_added (back 0) f (known 0) (made (back 0) a law f e)
  load_origins a law (suc j) (some f) e = known j

  forget_origins : (k : ℕ) (fs : List Standing) → Origins (elim fs [ [] ↦ back k | f ∷ fs ↦ back (suc k) ])
  forget_origins k [] = known k
  forget_origins k (f ∷ fs) = known (suc k)

pub origins : {m : Mode} (k : ℕ) (r : Run m) → Origins (left k r)
unfolding left
origins k begin = tt
origins k (r then Call.load a law) = load_origins (λ j. left j r) (λ j. origins j r) a law k (accepted (left 0 r) a) refl
origins k (r then Call.forget) = forget_origins (λ j. left j r) (λ j. origins j r) k (left 0 r)
origins k (r then Call.print i b) = origins k r
origins k (r then Call.places i b) = origins k r
origins k (r then Call.close) = origins k r
origins k (r then Call.find i w n) = origins k r
origins k (r then Call.reopen) = origins k r

-- ---- printing
model_at : (fs : List Standing) (k : ℕ) (f : Standing) → numbered fs k ≡ some f → file_at fs k ≡ some f.file_model
model_at [] k f e = let z : ◌≡◌ {A = ℕ} 0 1 = cc in absurd (omega arith)
model_at (g ∷ fs) zero f e = let h : g ≡ f = cc in ap (λ (x : Standing). some x.file_model) h
model_at (g ∷ fs) (suc k) f e = model_at fs k f e

abbrev print_from : Option FileDescriptor → List ℕ → Answer (ℕ × List ℕ)
print_from o buffer = elim o [ none ↦ refuse NoFile | some m ↦ written (printing.print m) buffer ]

-- what print answers of a file that stands
print_of : (r : Run opened) (k : ℕ) (f : Standing) → numbered (standing r) k ≡ some f → (buffer : List ℕ) → answer (after r) (Call.print k buffer) ≡ with_buffer buffer (written (printing.print f.file_model) buffer)
unfolding ledger.print
print_of r k f e buffer =
    let stands : numbered (after r).files k ≡ some f = subst (λ (fs : List Standing). numbered fs k ≡ some f) (sym (files_stand r)) e in
    ap (λ (o : Option FileDescriptor). with_buffer buffer (print_from o buffer)) (model_at (after r).files k f stands)

abbrev written_if : Bool → List ℕ → List ℕ → Answer (ℕ × List ℕ)
written_if b ws buffer = elim b [ true ↦ answered (length ws, ws ++ drop (length ws) buffer) | false ↦ refuse BufferShort ]

printable : (r : Run opened) → Printable r
printable r k f e =
    let ws = printing.print f.file_model in
    (ws, λ buffer h. print_of r k f e buffer ∙ ap (λ (b : Bool). with_buffer buffer (written_if b ws buffer)) (le-leb (length ws) (length buffer) h))

pub seam : (ws vs xs ys : List ℕ) → length ws ≡ length vs → ws ++ xs ≡ vs ++ ys → ws ≡ vs
seam ws vs xs ys e h =
    sym (take-append_seam ws xs) ∙ ap (λ (k : ℕ). take k (ws ++ xs)) e ∙ ap (take (length vs)) h ∙ take-append_seam vs ys

written-words : (b : Bool) (ws vs buffer : List ℕ) → with_buffer buffer (written_if b ws buffer) ≡ (answered (length vs), vs ++ drop (length vs) buffer) → ws ≡ vs
written-words true ws vs buffer e =
    let p : answered (length ws) ≡ answered (length vs) = ap (λ (x : Answer ℕ × List ℕ). x.0) e in
    let n : length ws ≡ length vs = cc in
    seam ws vs (drop (length ws) buffer) (drop (length vs) buffer) n (ap (λ (x : Answer ℕ × List ℕ). x.1) e)
written-words false ws vs buffer e =
    let p : ◌≡◌ {A = Answer ℕ} (refuse BufferShort) (answered (length vs)) = ap (λ (x : Answer ℕ × List ℕ). x.0) e in
    let z : ◌≡◌ {A = ℕ} 0 1 = cc in
    absurd (omega arith)

-- the words written of a file are its model's
words_of : (r : Run opened) (k : ℕ) (f : Standing) → numbered (standing r) k ≡ some f → (buffer words : List ℕ) → Prints r k buffer words → printing.print f.file_model ≡ words
words_of r k f e buffer words h =
    let ws = printing.print f.file_model in
    written-words (leb (length ws) (length buffer)) ws words buffer (sym (print_of r k f e buffer) ∙ h)

-- ---- loading a file whose meaning is known
abbrev back_to : (fs : List Standing) → Option Standing → List Standing
back_to fs o = elim o [ none ↦ fs | some f ↦ fs ++ f ∷ [] ]

accepted_as : (fs : List Standing) (a : Ahead) (f : Standing) → meant a ≡ some f → accepted fs a ≡ kept_if ledger.new (fits fs f) f
accepted_as fs a f e = ap (if_it_fits fs) e

load-stands : (r : Run opened) (a : Ahead) (law : T (lawful a)) (f : Standing) → accepted (standing r) a ≡ some f → standing (r then Call.load a law) ≡ standing r ++ f ∷ []
unfolding left
load-stands r a law f e = ap (back_to (left 0 r)) e

has_fits : (b : Bool) (f : Standing) → Has (kept_if ledger.new b f) → b ≡ true
has_fits true f h = refl
has_fits false f h = absurd h

module _ (into : Run opened) (a : Ahead) (law : T (lawful a)) (f : Standing) (e : meant a ≡ some f) where
  abbrev is_accepted : Type 0
  is_accepted = Accepted (answer (after into) (Call.load a law)).0

  answers_as : is_accepted ≡ Has (kept_if ledger.new (fits (standing into) f) f)
  answers_as = load-answer (after into) a ∙ ap (λ (fs : List Standing). Has (accepted fs a)) (files_stand into) ∙ ap Has (accepted_as (standing into) a f e)

  only_if : is_accepted → fits (standing into) f ≡ true
  only_if h = has_fits (fits (standing into) f) f (subst (λ (X : Type 0). X) answers_as h)

  if_fits : fits (standing into) f ≡ true → is_accepted
  if_fits h = subst (λ (X : Type 0). X) (sym answers_as) (subst (λ (b : Bool). Has (kept_if ledger.new b f)) (sym h) tt)

  then_stands : is_accepted → standing (into then Call.load a law) ≡ standing into ++ f ∷ []
  then_stands h = load-stands into a law f (accepted_as (standing into) a f e ∙ ap (λ (b : Bool). kept_if ledger.new b f) (only_if h))

-- ---- what is accepted
has : (o : Option Standing) → Has o ↔ ((f : Standing) × (o ≡ some f))
has none = (λ h. absurd h, λ x. never x.0 x.1)
  where
    never : (f : Standing) → none ≡ some f → ⊥
    never f e = let z : ◌≡◌ {A = ℕ} 0 1 = cc in omega arith
has (some f) = (λ h. (f, refl), λ x. tt)

as_types : (A B : Type 0) (C : Type 0) → A ≡ B → B ↔ C → A ↔ C
as_types A B C e h = (λ a. h.0 (subst (λ (X : Type 0). X) e a), λ c. subst (λ (X : Type 0). X) (sym e) (h.1 c))

forget-answer : (l : Ledger) → Accepted (answer l Call.forget) ≡ Has (numbered l.files 0)
unfolding ledger.forget
forget-answer l = go l.files
  where
    go : (fs : List Standing) → Accepted (answer (record { is_open = l.is_open; files = fs }) Call.forget) ≡ Has (numbered fs 0)
    go [] = refl
    go (f ∷ fs) = refl

pub accepts : (r : Run opened) → Accepts r
accepts r = record {
  loads = λ a h. as_types _ _ _ (load-answer (after r) a ∙ ap (λ (fs : List Standing). Has (accepted fs a)) (files_stand r)) (has (accepted (standing r) a));
  forgets = as_types _ _ _ (forget-answer (after r) ∙ ap (λ (fs : List Standing). Has (numbered fs 0)) (files_stand r)) (has (numbered (standing r) 0));
}

-- ---- the two catalogues
again_of : (r : Run opened) (k : ℕ) (f : Standing) → numbered (standing r) k ≡ some f → Again f
again_of r k f e = reads_again f (origin_of (standing r) k f (origins 0 r) e)

pub carries : (out into : Run opened) → Carries out into
carries out into k f e buffer words h =
    subst (λ (ws : List ℕ). Carried f ws into) (words_of out k f e buffer words h)
    (let g = again_of out k f e in
    let a = tape (printing.print f.file_model) in
    record {
      well = g.well;
      again = g.again;
      counted = g.reads;
      exactly = (λ y. free (standing into) g.again (only_if into a g.well g.again g.reads y), λ y. if_fits into a g.well g.again g.reads (fitting (standing into) g.again y));
      stands = then_stands into a g.well g.again g.reads;
      alike = g.alike;
      no_more_records = g.no_more_records;
      no_more_text = g.no_more_text;
    })

-- equal words are read as equal files
same_reading : (e w : Standing) → Again e → Again w → printing.print e.file_model ≡ printing.print w.file_model → EqualApart e w
same_reading e w g h p =
    let o : some g.again ≡ some h.again = sym g.reads ∙ ap (λ (ws : List ℕ). meant (tape ws)) p ∙ h.reads in
    let q : g.again ≡ h.again = cc in
    sym g.alike ∙ ap (λ (f : Standing). erased f.file_model) q ∙ h.alike

pub whole : (east west : Run opened) → Whole east west
whole east west = record {
  east_answers = as_the_ledger east;
  west_answers = as_the_ledger west;
  east_accepts = accepts east;
  west_accepts = accepts west;
  east_files = files_stand east;
  west_files = files_stand west;
  east_prints = printable east;
  west_prints = printable west;
  same_words = λ i j e w at_i at_j eb wb ew ww prints_e prints_w.
      let p = words_of east i e at_i eb ew prints_e in
      let q = words_of west j w at_j wb ww prints_w in (
        λ h. same_reading e w (again_of east i e at_i) (again_of west j w at_j) (p ∙ h ∙ sym q),
        λ h. sym p ∙ prints_no_place e.file_model w.file_model h ∙ q,
      );
  westward = carries east west;
  eastward = carries west east;
}
