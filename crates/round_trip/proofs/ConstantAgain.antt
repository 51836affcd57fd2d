-- The way back for constants: the tokens that a constant is printed as are read as that constant.
use Rattle.std.proofs.Common.{◌≡◌, ℕ, zero, suc, true, false, ◌||◌, leb, List, ◌∷◌, ◌++◌, codes, Option, sym, refl, ap, ◌∙◌, subst}
use Rattle.token.specs.Token.{Bytes, Token, Ahead, next, nowhere, unplaced}
use Rattle.grammar.specs.Parse.{ok, Parser, ◌>>=◌, ◌>>◌, ◌<$>◌, return, refuse, given◌then◌else◌, with_some, due, look, take, peek, accept, expect, choose, same, is_symbol, symbol_if, next_is, unless_next, after_next, many}
use Rattle.grammar.specs.declared.kinds.Syntax.{Syntax}
use Rattle.grammar.specs.Tree.{Key, Value, Item, Forest, nothing, one, ◌beside◌}
use Rattle.grammar.specs.Grammar as g
use Rattle.grammar.specs.Model.{Constant, Constants, no_constants, next_constant, Entries, no_entries, next_entry}
use Rattle.grammar.specs.Print as p
use Rattle.token.specs.Law.{well}
unfoldable pub use Rattle.round_trip.specs.Canon.{constant_tree, constants_tree, entries_tree}
use Rattle.round_trip.proofs.Again.{All}
use Rattle.grammar.proofs.ManyLaw.{run, many_stops, many_goes}
use Rattle.grammar.proofs.Progress.{Turns, turn_unless, turn-after}
use Rattle.grammar.proofs.GrammarProgress.{constant-takes, entry-takes, nested-takes}
use Rattle.grammar.specs.Decode.{parts}
use Rattle.round_trip.proofs.PathAgain.{Words, words, tail, NoDotNext, path-parts, path_starts, path-again, dotted-again}

abbrev pub WordOk : Bytes → Type 0
WordOk w = well (Token.ident w) ≡ true

-- a path of identifiers that hold no dot
pub record PathOk (t : Bytes) : Type 0 where
  pub first : ℕ
  pub letters : Bytes
  pub others : List Bytes
  pub are_words : Words ((first ∷ letters) ∷ others)
  pub words-ok : All WordOk ((first ∷ letters) ∷ others)
  pub joined : t ≡ (first ∷ letters) ++ tail others

-- the same, perhaps with a dot in front
pub data FullOk : Bytes → Type 0 where
  relative : {t : Bytes} → PathOk t → FullOk t
  absolute : {t : Bytes} → PathOk t → FullOk (g.dot ∷ t)

abbrev pub KeyOk : Key → Type 0
KeyOk (Key.plain n) = WordOk n
KeyOk (Key.extension t) = FullOk t
KeyOk (Key.any_type t u) = FullOk t × FullOk u

-- a constant that the reader can give, with so many brackets left to open
abbrev mutual
  pub Good : Constant → ℕ → Type 0
  Good (Constant.unsigned n) room = well (Token.number n) ≡ true
  Good (Constant.minus n) room = leb n 9223372036854775808 ≡ true
  Good (Constant.float negative t) room = well (Token.float t) ≡ true
  Good (Constant.truth b) room = Unit {0}
  Good (Constant.path t) room = (ok : PathOk t) × (same (ok.first ∷ ok.letters) (codes "true") ≡ false) × (same (ok.first ∷ ok.letters) (codes "false") ≡ false)
  Good (Constant.string t) room = well (Token.string t) ≡ true
  Good (Constant.message es) zero = ⊥
  Good (Constant.message es) (suc room) = GoodEntries es room
  Good (Constant.list cs) zero = ⊥
  Good (Constant.list cs) (suc room) = GoodList cs room

  pub GoodList : Constants → ℕ → Type 0
  GoodList no_constants room = Unit {0}
  GoodList (next_constant c cs) room = Good c room × GoodList cs room

  pub GoodEntries : Entries → ℕ → Type 0
  GoodEntries no_entries room = Unit {0}
  GoodEntries (next_entry k c es) room = KeyOk k × Good c room × GoodEntries es room

-- ---- paths
pub others_words : {w : Bytes} {ws : List Bytes} → Words (w ∷ ws) → Words ws
others_words (Words.more h hs) = hs

module _ (t : Bytes) (h : PathOk t) (ts : p.Tokens) where
  pub starts : p.path t ts ≡ Token.ident (h.first ∷ h.letters) ∷ words h.others ts
  starts = ap (λ u. p.path u ts) h.joined ∙ path_starts h.first h.letters h.others h.are_words ts

  path_read : (rest : Ahead) → NoDotNext (unplaced ts rest) → g.full_ident (unplaced (p.path t ts) rest) ≡ ok t (unplaced ts rest)
  path_read rest e =
      subst (λ u. g.full_ident (unplaced (p.path u ts) rest) ≡ ok u (unplaced ts rest)) (sym h.joined)
      (path-again h.first h.letters h.others h.are_words ts rest e)

-- the first token that a path is printed as, and the others
abbrev pub first_token : {t : Bytes} → FullOk t → Token
first_token (relative h) = Token.ident (h.first ∷ h.letters)
first_token (absolute h) = p.sign g.dot

abbrev pub other_tokens : {t : Bytes} → FullOk t → p.Printer
other_tokens (relative h) ts = words h.others ts
other_tokens (absolute h) ts = Token.ident (h.first ∷ h.letters) ∷ words h.others ts

pub full_starts : {t : Bytes} (h : FullOk t) (ts : p.Tokens) → p.path t ts ≡ first_token h ∷ other_tokens h ts
unfolding p.path words parts
full_starts (relative h) ts = starts _ h ts
full_starts (absolute h) ts =
    ap (λ l. p.all_after p.after_dot g.dot l ts) (ap (parts g.dot) h.joined ∙ path-parts h.first h.letters h.others h.are_words)

pub full_read : {t : Bytes} (h : FullOk t) (ts : p.Tokens) (rest : Ahead) → NoDotNext (unplaced ts rest) → g.full_ident (unplaced (p.path t ts) rest) ≡ ok t (unplaced ts rest)
unfolding g.full_ident ◌>>=◌ ◌>>◌ return look take accept peek given◌then◌else◌ with_some
full_read (relative h) ts rest e = path_read _ h ts rest e
full_read (absolute h) ts rest e =
    ap (λ l. g.full_ident (unplaced l rest)) (full_starts (absolute h) ts)
    ∙ run (λ n. return (g.dot ∷ n)) (dotted-again ts rest e (h.first ∷ h.letters) h.others (others_words h.are_words)) (ap (λ u. ok (g.dot ∷ u) (unplaced ts rest)) (sym h.joined))

-- ---- keys
key_read : (k : Key) → KeyOk k → (ts : p.Tokens) (rest : Ahead) → g.key (unplaced (p.key k ts) rest) ≡ ok k (unplaced ts rest)
unfolding g.key g.key_end ◌>>=◌ ◌>>◌ ◌<$>◌ return look take accept peek expect due with_some given◌then◌else◌
key_read (Key.plain n) h ts rest = refl
key_read (Key.extension t) h ts rest = run g.key_end (full_read h (p.sign g.bracket_end ∷ ts) rest refl) refl
key_read (Key.any_type t u) h ts rest =
    run g.key_end (full_read h.0 (p.sign g.slash ∷ p.path u (p.sign g.bracket_end ∷ ts)) rest refl)
    (run _ (full_read h.1 (p.sign g.bracket_end ∷ ts) rest refl) refl)

module _ (s : Syntax) where
  -- ---- the turns of the two repetitions
  abbrev comma_turn : ℕ → Parser (Option Forest)
  comma_turn room = after_next g.comma (g.constant (g.nested s room))

  abbrev entry_turn : ℕ → Parser (Option Forest)
  entry_turn room = unless_next g.brace_end (g.entry (g.nested s room))

  comma_turns : (room : ℕ) → Turns (comma_turn room)
  comma_turns room = turn-after _ _ (constant-takes (g.nested s room) (nested-takes s room))

  entry_turns : (room : ℕ) → Turns (entry_turn room)
  entry_turns room = turn_unless _ _ (entry-takes (g.nested s room) (nested-takes s room))

  -- ---- what comes next where a repetition may stop
  no_dot_more : (cs : Constants) (ts : p.Tokens) (rest : Ahead) → NoDotNext (unplaced (p.more_items cs (p.sign g.bracket_end ∷ ts)) rest)
  unfolding p.more_items accept peek look with_some return given◌then◌else◌ ◌>>=◌ ◌>>◌
  no_dot_more no_constants ts rest = refl
  no_dot_more (next_constant c cs) ts rest = refl

  -- no list ends at the first token of a constant
  not_ended : (c : Constant) (room : ℕ) → Good c room → (ts : p.Tokens) (rest : Ahead) →
      symbol_if g.bracket_end (unplaced (p.constant c ts) rest) ≡ ok false (unplaced (p.constant c ts) rest)
  unfolding p.constant accept peek look with_some return given◌then◌else◌ ◌>>=◌ ◌>>◌
  not_ended (Constant.unsigned n) room h ts rest = refl
  not_ended (Constant.minus n) room h ts rest = refl
  not_ended (Constant.float true t) room h ts rest = refl
  not_ended (Constant.float false t) room h ts rest = refl
  not_ended (Constant.truth true) room h ts rest = refl
  not_ended (Constant.truth false) room h ts rest = refl
  not_ended (Constant.path t) room h ts rest = subst (λ l. symbol_if g.bracket_end (unplaced l rest) ≡ ok false (unplaced l rest)) (sym (starts t h.0 ts)) refl
  not_ended (Constant.string t) room h ts rest = refl
  not_ended (Constant.message es) room h ts rest = refl
  not_ended (Constant.list cs) room h ts rest = refl

  -- ---- constants
  plain-path : (t : Bytes) (room : ℕ) → Good (Constant.path t) room → (ts : p.Tokens) (rest : Ahead) → NoDotNext (unplaced ts rest) →
      g.constant (g.nested s room) (unplaced (p.path t ts) rest) ≡ ok (one (Item.constant (Value.path t)) nothing) (unplaced ts rest)
  unfolding g.constant_at choose due look accept peek with_some return given◌then◌else◌ ◌>>=◌ ◌>>◌
  plain-path t room h ts rest e =
      ap (λ l. g.constant (g.nested s room) (unplaced l rest)) (starts t h.0 ts)
      ∙ rw h.1 (rw h.2 (run _ (ap (λ l. g.full_ident (unplaced l rest)) (sym (starts t h.0 ts)) ∙ path_read t h.0 ts rest e) refl))

  no_dot_entries : (es : Entries) (ts : p.Tokens) (rest : Ahead) → NoDotNext (unplaced (p.entries es (p.sign g.brace_end ∷ ts)) rest)
  unfolding p.entries accept peek look with_some return given◌then◌else◌ ◌>>=◌ ◌>>◌
  no_dot_entries no_entries ts rest = refl
  no_dot_entries (next_entry (Key.plain n) c es) ts rest = refl
  no_dot_entries (next_entry (Key.extension t) c es) ts rest = refl
  no_dot_entries (next_entry (Key.any_type t u) c es) ts rest = refl

  no_separator : (es : Entries) (ts : p.Tokens) (rest : Ahead) →
      let a = unplaced (p.entries es (p.sign g.brace_end ∷ ts)) rest in accept (λ t. is_symbol g.comma t || is_symbol g.semicolon t) a ≡ ok false a
  unfolding p.entries accept peek look with_some return given◌then◌else◌ ◌>>=◌ ◌>>◌
  no_separator no_entries ts rest = refl
  no_separator (next_entry (Key.plain n) c es) ts rest = refl
  no_separator (next_entry (Key.extension t) c es) ts rest = refl
  no_separator (next_entry (Key.any_type t u) c es) ts rest = refl

  not_closed : (k : Key) (ts : p.Tokens) (rest : Ahead) → next_is g.brace_end (unplaced (p.key k ts) rest) ≡ ok false (unplaced (p.key k ts) rest)
  unfolding peek look with_some return ◌>>=◌
  not_closed (Key.plain n) ts rest = refl
  not_closed (Key.extension t) ts rest = refl
  not_closed (Key.any_type t u) ts rest = refl

  mutual
    unfolding p.constant constant_tree g.constant_at g.signed_number g.nested g.message_of g.list_of choose due look take accept peek expect with_some return refuse given◌then◌else◌ ◌>>=◌ ◌>>◌ unless_next p.list_items constants_tree g.list_items g.separated after_next p.more_items ◌<$>◌ p.entries entries_tree g.entry

    pub constant_read : (c : Constant) (room : ℕ) → Good c room → (ts : p.Tokens) (rest : Ahead) → NoDotNext (unplaced ts rest) →
        g.constant (g.nested s room) (unplaced (p.constant c ts) rest) ≡ ok (constant_tree c) (unplaced ts rest)
    constant_read (Constant.unsigned n) room h ts rest e = refl
    constant_read (Constant.minus n) room h ts rest e = rw h refl
    constant_read (Constant.float true t) room h ts rest e = refl
    constant_read (Constant.float false t) room h ts rest e = refl
    constant_read (Constant.truth true) room h ts rest e = refl
    constant_read (Constant.truth false) room h ts rest e = refl
    constant_read (Constant.path t) room h ts rest e = plain-path t room h ts rest e
    constant_read (Constant.string t) room h ts rest e = refl
    constant_read (Constant.message es) zero h ts rest e = absurd h
    constant_read (Constant.message es) (suc room) h ts rest e = run _ (entries_read es room h ts rest) refl
    constant_read (Constant.list cs) zero h ts rest e = absurd h
    constant_read (Constant.list cs) (suc room) h ts rest e = run _ (list_read cs room h ts rest) refl

    pub list_read : (cs : Constants) (room : ℕ) → GoodList cs room → (ts : p.Tokens) (rest : Ahead) →
        g.list_items (g.nested s room) (unplaced (p.list_items cs (p.sign g.bracket_end ∷ ts)) rest) ≡ ok (constants_tree cs) (unplaced ts rest)
    list_read no_constants room h ts rest = refl
    list_read (next_constant c cs) room h ts rest =
        run _ (not_ended c room h.0 _ rest)
        (run _ (run _ (constant_read c room h.0 _ rest (no_dot_more cs ts rest)) (run _ (more_read cs room h.1 ts rest) refl)) refl)

    pub more_read : (cs : Constants) (room : ℕ) → GoodList cs room → (ts : p.Tokens) (rest : Ahead) →
        many ◌beside◌ nothing (comma_turn room) (unplaced (p.more_items cs (p.sign g.bracket_end ∷ ts)) rest) ≡ ok (constants_tree cs) (next (p.sign g.bracket_end) nowhere (unplaced ts rest))
    more_read no_constants room h ts rest = many_stops ◌beside◌ nothing _ (comma_turns room).onward refl
    more_read (next_constant c cs) room h ts rest =
        many_goes ◌beside◌ nothing _ (comma_turns room).onward
        (run _ (constant_read c room h.0 _ rest (no_dot_more cs ts rest)) refl)
        (more_read cs room h.1 ts rest)

    pub entries_read : (es : Entries) (room : ℕ) → GoodEntries es room → (ts : p.Tokens) (rest : Ahead) →
        many ◌beside◌ nothing (entry_turn room) (unplaced (p.entries es (p.sign g.brace_end ∷ ts)) rest) ≡ ok (entries_tree es) (next (p.sign g.brace_end) nowhere (unplaced ts rest))
    entries_read no_entries room h ts rest = many_stops ◌beside◌ nothing _ (entry_turns room).onward refl
    entries_read (next_entry k c es) room h ts rest =
        many_goes ◌beside◌ nothing _ (entry_turns room).onward
        (run _ (not_closed k _ rest)
        (run _ (run _ (key_read k h.0 _ rest) (run _ (constant_read c room h.1 _ rest (no_dot_entries es ts rest)) (run _ (no_separator es ts rest) refl))) refl))
        (entries_read es room h.2 ts rest)
