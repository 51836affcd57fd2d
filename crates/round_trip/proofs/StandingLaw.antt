-- After every list of calls the ledger's files are the accepted loads that no accepted forget removed.
use Rattle.std.proofs.Common.{◌≡◌, ℕ, zero, suc, ◌+◌, ◌<◌, Bool, true, false, not, ◌&&◌, ltb, leb, List, [], ◌∷◌, ◌++◌, length, Some as some, None as none, Option, sym, refl, ap, ◌∙◌, subst, arith, le-leb, leb-false, leb-true}
use borrow.Author.Tests.{lt-leb}
use Rattle.token.specs.Token.{Ahead, nowhere}
use Rattle.grammar.specs.Parse.{Reply, ok, refused}
use Rattle.grammar.specs.Tree.{Tree, tree_records, tree_text}
use Rattle.grammar.specs.Grammar.{file}
use Rattle.grammar.specs.Ledger as ledger
use Rattle.grammar.specs.Ledger.{Ledger, Standing, answered, kept, records_taken, text_taken, without_last, after_reading, not_loaded, refusal, with_files, Loaded}
use Rattle.round_trip.specs.Calls.{Mode, Call, Run, begin, ◌then◌, stepped, after, as_read, if_it_fits, accepted, left, standing}

-- ---- what a load leaves
abbrev pub added : List Standing → Option Standing → List Standing
added fs none = fs
added fs (some f) = fs ++ f ∷ []

pub slot-taken : (n : ℕ) → leb 8 n ≡ not (ltb n 8)
slot-taken n = go (ltb n 8) refl
  where
    go : (b : Bool) → ltb n 8 ≡ b → leb 8 n ≡ not b
    go true e = lt-leb 8 n (leb-true (suc n) 8 e)
    go false e = le-leb 8 n (let h : 8 < suc n = leb-false (suc n) 8 e in omega arith)

module _ (l : Ledger) where
  abbrev pub kept_if : Bool → Standing → Option Standing
  kept_if b f = elim b [ true ↦ some f | false ↦ none ]

  abbrev pub entered_by : Bool → Bool → Tree → Ahead → Loaded
  entered_by b c t a =
      elim b [
        | false ↦ not_loaded l (refusal 3 41 nowhere) a
        | true ↦
            elim c [
              | false ↦ not_loaded l (refusal 3 42 nowhere) a
              | true ↦
                  record { answer = answered (length l.files); ledger = with_files l (l.files ++ kept t ∷ []); source = a }
            ]
      ]

  abbrev pub loaded_by : Bool → Ahead → Reply Tree → Loaded
  loaded_by full a reply = elim full [ true ↦ not_loaded l (refusal 3 43 nowhere) a | false ↦ after_reading l reply ]

  -- the tests one after another are the test of all
  tests : (b c : Bool) (t : Tree) (a : Ahead) → (entered_by b c t a).ledger.files ≡ added l.files (kept_if (true && b && c) (kept t))
  tests true true t a = refl
  tests true false t a = refl
  tests false true t a = refl
  tests false false t a = refl

  reply_files : (d : Bool) → ltb (length l.files) 8 ≡ d → (a : Ahead) (reply : Reply Tree) → (loaded_by (not d) a reply).ledger.files ≡ added l.files (if_it_fits l.files (as_read reply))
  reply_files true e a (refused why r) = refl
  reply_files false e a (refused why r) = refl
  reply_files true e a (ok t r) =
      let b = leb (records_taken l.files + tree_records t) 1024 in
      let c = leb (text_taken l.files + tree_text t) 8192 in
      subst (λ (x : Bool). (entered_by b c t r).ledger.files ≡ added l.files (kept_if (x && b && c) (kept t))) (sym e) (tests b c t r)
  reply_files false e a (ok t r) =
      let b = leb (records_taken l.files + tree_records t) 1024 in
      let c = leb (text_taken l.files + tree_text t) 8192 in
      subst (λ (x : Bool). l.files ≡ added l.files (kept_if (x && b && c) (kept t))) (sym e) refl

  pub load-files : (a : Ahead) → (ledger.load l a).ledger.files ≡ added l.files (accepted l.files a)
  unfolding ledger.load
  load-files a =
      subst (λ (x : Bool). (loaded_by x a (file a)).ledger.files ≡ added l.files (accepted l.files a)) (sym (slot-taken (length l.files)))
      (reply_files (ltb (length l.files) 8) refl a (file a))

-- ---- what a forget leaves
abbrev pub but_newest : List Standing → List Standing
but_newest [] = []
but_newest (f ∷ fs) = without_last f fs

pub forget-files : (l : Ledger) → (stepped l Call.forget).files ≡ but_newest l.files
unfolding ledger.forget
forget-files l = go l.files
  where
    go : (fs : List Standing) → (stepped (record { is_open = l.is_open; files = fs }) Call.forget).files ≡ but_newest fs
    go [] = refl
    go (f ∷ fs) = refl

-- so many of the newest are gone
abbrev pub but : ℕ → List Standing → List Standing
but zero fs = fs
but (suc k) fs = but k (but_newest fs)

but_none : (k : ℕ) → but k [] ≡ []
but_none zero = refl
but_none (suc k) = but_none k

without_added : (g f : Standing) (fs : List Standing) → without_last g (fs ++ f ∷ []) ≡ g ∷ fs
without_added g f [] = refl
without_added g f (h ∷ fs) = ap {B = List Standing} (λ x. g ∷ x) (without_added h f fs)

but-added : (fs : List Standing) (f : Standing) → but_newest (fs ++ f ∷ []) ≡ fs
but-added [] f = refl
but-added (g ∷ fs) f = without_added g f fs

-- ---- every list of calls
abbrev step_load : ℕ → List Standing → (ℕ → List Standing) → Option Standing → List Standing
step_load k now_standing back o = elim o [ none ↦ back k | some f ↦ elim k [ zero ↦ now_standing ++ f ∷ [] | suc j ↦ back j ] ]

abbrev step_forget : ℕ → (ℕ → List Standing) → List Standing → List Standing
step_forget k back now_standing = elim now_standing [ [] ↦ back k | f ∷ fs ↦ back (suc k) ]

load_step : (k : ℕ) (fs : List Standing) (back : ℕ → List Standing) → ((j : ℕ) → back j ≡ but j fs) → (o : Option Standing) → step_load k (back 0) back o ≡ but k (added fs o)
load_step k fs back h none = h k
load_step zero fs back h (some f) = ap (λ (x : List Standing). x ++ f ∷ []) (h 0)
load_step (suc k) fs back h (some f) = h k ∙ ap (but k) (sym (but-added fs f))

forget-step : (k : ℕ) (fs : List Standing) (back : ℕ → List Standing) → ((j : ℕ) → back j ≡ but j fs) → step_forget k back fs ≡ but k (but_newest fs)
forget-step k [] back h = h k
forget-step k (f ∷ fs) back h = h (suc k)

pub left-files : {m : Mode} (k : ℕ) (r : Run m) → left k r ≡ but k (after r).files
unfolding left
left-files k begin = sym (but_none k)
left-files k (r then Call.load a h) =
    let fs = (after r).files in
    ap (λ (x : List Standing). step_load k (left 0 r) (λ j. left j r) (accepted x a)) (left-files 0 r)
    ∙ load_step k fs (λ j. left j r) (λ j. left-files j r) (accepted fs a)
    ∙ ap (but k) (sym (load-files (after r) a))
left-files k (r then Call.forget) =
    let fs = (after r).files in
    ap (λ (x : List Standing). step_forget k (λ j. left j r) x) (left-files 0 r)
    ∙ forget-step k fs (λ j. left j r) (λ j. left-files j r)
    ∙ ap (but k) (sym (forget-files (after r)))
left-files k (r then Call.print i b) = left-files k r
left-files k (r then Call.places i b) = left-files k r
left-files k (r then Call.close) = left-files k r
left-files k (r then Call.find i w n) = left-files k r
left-files k (r then Call.reopen) = left-files k r

pub files_stand : {m : Mode} (r : Run m) → (after r).files ≡ standing r
files_stand r = sym (left-files 0 r)
