-- The calls of a catalogue, the lists of them that compile, and what stands after one.
use Rattle.std.specs.Prelude.{◌≡◌, ℕ, zero, suc, ◌+◌, Bool, true, false, ◌&&◌, T, List, [], ◌∷◌, ◌++◌, length, Some as some, None as none, Option, nat_le, nat_lt}
use Rattle.token.specs.Token.{Bytes, Ahead}
use Rattle.token.specs.Law.{lawful}
use Rattle.grammar.specs.Parse.{Reply, ok, refused}
use Rattle.grammar.specs.Tree.{Tree}
use Rattle.grammar.specs.Grammar.{file}
use Rattle.grammar.specs.Ledger as ledger
use Rattle.grammar.specs.Ledger.{Ledger, Standing, Answer, answered, refused_by, kept, records_taken, text_taken}

pub data Mode : Type 0 where
  opened closed : Mode

-- A call with its arguments: a source by its meaning when load begins, an output buffer by its words.
-- A call that an open or a closed catalogue does not take is no call of that mode.
pub data Call : Mode → Mode → Type 0 where
  load : (source : Ahead) → T (lawful source) → Call opened opened
  forget : Call opened opened
  print places : (number : ℕ) (buffer : List ℕ) → Call opened opened
  close : Call opened closed
  find : (number : ℕ) (message : Bytes) (field : ℕ) → Call closed closed
  reopen : Call closed opened

-- A catalogue made new, and the calls sent to it, the newest last.
infixl 20 ◌then◌
pub data Run : Mode → Type 0 where
  begin : Run opened
  ◌then◌ : {m n : Mode} → Run m → Call m n → Run n

-- ---- what the ledger gives
-- the kind of a call's answer, with the output buffer then, or with what is then ahead of the source
abbrev pub Answers : {m n : Mode} → Call m n → Type 0
Answers (load a h) = Answer ℕ × Ahead
Answers forget = Answer (Unit {0})
Answers (print k b) = Answer ℕ × List ℕ
Answers (places k b) = Answer ℕ × List ℕ
Answers close = Unit {0}
Answers (find k w n) = Answer (Option (ℕ × ℕ))
Answers reopen = Unit {0}

-- a refusal leaves the buffer as it was
abbrev pub with_buffer : List ℕ → Answer (ℕ × List ℕ) → Answer ℕ × List ℕ
with_buffer b (answered x) = (answered x.0, x.1)
with_buffer b (refused_by r) = (refused_by r, b)

abbrev pub done : Answer Ledger → Answer (Unit {0})
done (answered l) = answered tt
done (refused_by r) = refused_by r

abbrev pub answer : {m n : Mode} → Ledger → (c : Call m n) → Answers c
answer l (load a h) = ((ledger.load l a).answer, (ledger.load l a).source)
answer l forget = done (ledger.forget l)
answer l (print k b) = with_buffer b (ledger.print l k b)
answer l (places k b) = with_buffer b (ledger.places l k b)
answer l close = tt
answer l (find k w n) = ledger.find l k w n
answer l reopen = tt

-- a refusal leaves the ledger as it was
abbrev pub or_as_it_was : Ledger → Answer Ledger → Ledger
or_as_it_was l (answered k) = k
or_as_it_was l (refused_by r) = l

abbrev pub stepped : {m n : Mode} → Ledger → Call m n → Ledger
stepped l (load a h) = (ledger.load l a).ledger
stepped l forget = or_as_it_was l (ledger.forget l)
stepped l (print k b) = l
stepped l (places k b) = l
stepped l close = ledger.close l
stepped l (find k w n) = l
stepped l reopen = ledger.reopen l

abbrev pub after : {m : Mode} → Run m → Ledger
after begin = ledger.new
after (r then c) = stepped (after r) c

-- what a call owes: it answers what the ledger answers, and leaves what the ledger leaves
pub record Follows {m n : Mode} (c : Call m n) (said : Answers c) (before later : Ledger) : Type 0 where
  pub answers : said ≡ answer before c
  pub leaves : later ≡ stepped before c

-- the answers to all calls of a list, and those that the ledger gives
abbrev pub Replies : {m : Mode} → Run m → Type 0
Replies begin = Unit {0}
Replies (r then c) = Replies r × Answers c

abbrev pub replies : {m : Mode} → (r : Run m) → Replies r
replies begin = tt
replies (r then c) = (replies r, answer (after r) c)

-- A catalogue was new, was sent these calls, gave these answers and means that now: each call did what it owes.
abbrev pub History : {m : Mode} → (r : Run m) → Replies r → Ledger → Type 0
History begin said l = l ≡ ledger.new
History (r then c) said l = (before : Ledger) × History r said.0 before × Follows c said.1 before l

-- some such list leads to it
abbrev pub Reached : Mode → Ledger → Type 0
Reached m l = ∥ ((r : Run m) × (said : Replies r) × History r said l) ∥₁

-- every answer and every output buffer is as the ledger gives it, and so is what the catalogue means
pub record AsTheLedger {m : Mode} (r : Run m) : Type 0 where
  pub every_answer : (said : Replies r) (l : Ledger) → History r said l → said ≡ replies r
  pub every_file : (said : Replies r) (l : Ledger) → History r said l → l ≡ after r

-- ---- what stands, without the ledger: the accepted loads that no accepted forget removed, oldest first
-- what the definition gives a source's tokens, if the reader takes them: the model, and the room counted for it
abbrev pub as_read : Reply Tree → Option Standing
as_read (ok t rest) = some (kept t)
as_read (refused why rest) = none

abbrev pub meant : Ahead → Option Standing
meant a = as_read (file a)

-- a slot, and the room counted for a file, are free beside these files
abbrev pub fits : List Standing → Standing → Bool
fits fs f = nat_lt (length fs) 8 && nat_le (records_taken fs + f.took_records) 1024 && nat_le (text_taken fs + f.took_text) 8192

abbrev pub if_it_fits : List Standing → Option Standing → Option Standing
if_it_fits fs none = none
if_it_fits fs (some f) = elim (fits fs f) [ true ↦ some f | false ↦ none ]

-- the file of a load that is accepted beside these files
abbrev pub accepted : List Standing → Ahead → Option Standing
accepted fs a = if_it_fits fs (meant a)

-- The files left when as many of the newest are removed: from the newest call back, an accepted forget removes one more, and
-- an accepted load is removed, or else stands. A forget is accepted where a file stands.
unfoldable pub left : {m : Mode} → ℕ → Run m → List Standing
left k begin = []
left k (r then load a h) = elim (accepted (left 0 r) a) [ none ↦ left k r | some f ↦ elim k [ zero ↦ left 0 r ++ f ∷ [] | suc j ↦ left j r ] ]
left k (r then forget) = elim (left 0 r) [ [] ↦ left k r | f ∷ fs ↦ left (suc k) r ]
left k (r then print i b) = left k r
left k (r then places i b) = left k r
left k (r then close) = left k r
left k (r then find i w n) = left k r
left k (r then reopen) = left k r

abbrev pub standing : {m : Mode} → Run m → List Standing
standing r = left 0 r
