-- What two catalogues owe each other, after any two lists of calls.
use Rattle.std.specs.Prelude.{◌≡◌, ℕ, zero, suc, ◌+◌, ◌<◌, ◌≤◌, T, ◌↔◌, List, [], ◌∷◌, ◌++◌, length, drop, Some as some, None as none, Option}
use Rattle.token.specs.Token.{Ahead}
use Rattle.token.specs.Law.{lawful}
use Rattle.grammar.specs.Erase.{erased}
use Rattle.tape_source.specs.Tape.{tape}
use Rattle.grammar.specs.Ledger.{Ledger, Refusal, Standing, Answer, answered, refused_by, records_taken, text_taken}
use Rattle.round_trip.specs.Calls.{opened, Call, Run, ◌then◌, answer, after, AsTheLedger, meant, accepted, standing}

-- the file of a number, from 0
abbrev pub numbered : List Standing → ℕ → Option Standing
numbered [] k = none
numbered (f ∷ fs) zero = some f
numbered (f ∷ fs) (suc k) = numbered fs k

-- equal once every line and column is 0
abbrev pub EqualApart : Standing → Standing → Type 0
EqualApart f g = erased f.file_model ≡ erased g.file_model

-- The words that print writes of a file into a buffer: as many as it answers, and the rest of the buffer is untouched.
abbrev pub Prints : Run opened → ℕ → List ℕ → List ℕ → Type 0
Prints r k buffer words = answer (after r) (Call.print k buffer) ≡ (answered (length words), words ++ drop (length words) buffer)

-- a slot is free, and so is this room
pub record Free (files : List Standing) (records text : ℕ) : Type 0 where
  pub slot : length files < 8
  pub records_free : records_taken files + records ≤ 1024
  pub text_free : text_taken files + text ≤ 8192

abbrev pub Accepted : {A : Type 0} → Answer A → Type 0
Accepted (answered x) = Unit {0}
Accepted (refused_by r) = ⊥

-- what is accepted is what is not refused: a load that is read and fits, and a forget where a file stands
pub record Accepts (r : Run opened) : Type 0 where
  pub loads : (a : Ahead) (h : T (lawful a)) → Accepted (answer (after r) (Call.load a h)).0 ↔ ((f : Standing) × (accepted (standing r) a ≡ some f))
  pub forgets : Accepted (answer (after r) Call.forget) ↔ ((f : Standing) × (numbered (standing r) 0 ≡ some f))

-- every file that stands is printed into a buffer that is long enough
abbrev pub Printable : Run opened → Type 0
Printable r = (k : ℕ) (f : Standing) → numbered (standing r) k ≡ some f →
    (words : List ℕ) × ((buffer : List ℕ) → length words ≤ length buffer → Prints r k buffer words)

-- Words that were written of a file, loaded as a tape into another catalogue.
pub record Carried (f : Standing) (words : List ℕ) (into : Run opened) : Type 0 where
  pub well : T (lawful (tape words))
  -- what the definition gives those words: the model, and the room counted for them
  pub again : Standing
  pub counted : meant (tape words) ≡ some again
  pub exactly : Accepted (answer (after into) (Call.load (tape words) well)).0 ↔ Free (standing into) again.took_records again.took_text
  pub stands : Accepted (answer (after into) (Call.load (tape words) well)).0 → standing (into then Call.load (tape words) well) ≡ standing into ++ again ∷ []
  pub alike : EqualApart again f
  pub no_more_records : again.took_records ≤ f.took_records
  pub no_more_text : again.took_text ≤ f.took_text

abbrev pub Carries : Run opened → Run opened → Type 0
Carries out into = (k : ℕ) (f : Standing) → numbered (standing out) k ≡ some f → (buffer words : List ℕ) → Prints out k buffer words → Carried f words into

-- two catalogues, each with its own list of calls, both open
pub record Whole (east west : Run opened) : Type 0 where
  pub east_answers : AsTheLedger east
  pub west_answers : AsTheLedger west
  pub east_accepts : Accepts east
  pub west_accepts : Accepts west
  pub east_files : (after east).files ≡ standing east
  pub west_files : (after west).files ≡ standing west
  pub east_prints : Printable east
  pub west_prints : Printable west
  pub same_words : (i j : ℕ) (e w : Standing) → numbered (standing east) i ≡ some e → numbered (standing west) j ≡ some w →
      (east_buffer west_buffer east_words west_words : List ℕ) → Prints east i east_buffer east_words → Prints west j west_buffer west_words →
      (east_words ≡ west_words) ↔ EqualApart e w
  pub westward : Carries east west
  pub eastward : Carries west east

-- A file of the east printed into a buffer, and just the words written loaded as a tape into the west: what is answered, and what
-- the buffer and the west hold then.
abbrev pub with_words : ℕ → Answer ℕ → Answer (ℕ × ℕ)
with_words n (answered k) = answered (n, k)
with_words n (refused_by r) = refused_by r

pub record Carrying (east west : Run opened) (k : ℕ) (buffer buffer_then : List ℕ) (said : Answer (ℕ × ℕ)) (west_then : Ledger) : Type 0 where
  pub whole : Whole east west
  pub written : buffer_then ≡ (answer (after east) (Call.print k buffer)).1
  pub not_printed : (r : Refusal) → (answer (after east) (Call.print k buffer)).0 ≡ refused_by r → (said ≡ refused_by r) × (west_then ≡ after west)
  pub printed : (words : List ℕ) → Prints east k buffer words → (well : T (lawful (tape words))) →
      (said ≡ with_words (length words) (answer (after west) (Call.load (tape words) well)).0) × (west_then ≡ after (west then Call.load (tape words) well))
