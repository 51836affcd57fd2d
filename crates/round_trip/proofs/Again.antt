-- Printing and then reading, in general: words that a token is none of, lists with separators, and runs of statements.
use Rattle.std.proofs.Common.{◌≡◌, ℕ, Bool, true, false, not, ◌&&◌, eqb, List, [], ◌∷◌, ◌++◌, map, Some as some, None as none, Option, sym, refl, ap, ◌∙◌, subst, true≢false}
use Rattle.token.specs.declared.answer.Place.{Place}
use Rattle.token.specs.Token.{Bytes, Token, Ahead, next, nowhere, unplaced}
use Rattle.grammar.specs.Parse.{ok, Parser, ◌>>=◌, ◌>>◌, ◌<$>◌, return, given◌then◌else◌, with_some, look, take, peek, accept, choose, word_if, word_forbidden, words_forbidden, is_word, next_is_word, after_next, many}
use Rattle.grammar.specs.declared.kinds.Scalar.{Scalar}
use Rattle.grammar.specs.Tree.{Forest, nothing, node, ◌beside◌}
use Rattle.grammar.specs.Grammar as g
use Rattle.grammar.specs.Print as p
unfoldable pub use Rattle.round_trip.specs.Canon.{adding, trees}
use Rattle.grammar.proofs.ManyLaw.{run, many_stops, many_goes}
use Rattle.grammar.specs.Progress.{Takes}
use Rattle.grammar.proofs.Progress.{Turns, turn-after}
use Rattle.grammar.specs.Kinds.{scalar_word}

-- ---- options
abbrev unsome : {A : Type 0} → A → Option A → A
unsome d none = d
unsome d (some x) = x

pub some_inj : {A : Type 0} {x y : A} → some x ≡ some y → x ≡ y
some_inj {x = x} e = ap (unsome x) e

abbrev is_some : {A : Type 0} → Option A → Type 0
is_some none = ⊥
is_some (some x) = Unit {0}

pub none_some : {A : Type 0} {x : A} → none ≡ some x → ⊥
none_some e = subst is_some (sym e) tt

-- ---- forests
pub beside_nothing : (f : Forest) → f beside nothing ≡ f
beside_nothing nothing = refl
beside_nothing (node i p r) = ap (node i p) (beside_nothing r)

pub beside_assoc : (f h k : Forest) → (f beside h) beside k ≡ f beside (h beside k)
beside_assoc nothing h k = refl
beside_assoc (node i p r) h k = ap (node i p) (beside_assoc r h k)

-- ---- tests
pub and_left : (a b : Bool) → (a && b) ≡ true → a ≡ true
and_left true b e = refl
and_left false b e = absurd (true≢false (sym e))

pub and_right : (a b : Bool) → (a && b) ≡ true → b ≡ true
and_right true b e = e
and_right false b e = absurd (true≢false (sym e))

pub not_true : (a : Bool) → not a ≡ true → a ≡ false
not_true true e = sym e
not_true false e = refl

-- ---- a token that is none of these words
abbrev pub skips : Token → List Bytes → Bool
skips t [] = true
skips t (w ∷ ws) = not (is_word w t) && skips t ws

pub skips-first : (t : Token) (w : Bytes) (ws : List Bytes) → skips t (w ∷ ws) ≡ true → is_word w t ≡ false
skips-first t w ws e = not_true _ (and_left _ _ e)

pub skips_others : (t : Token) (w : Bytes) (ws : List Bytes) → skips t (w ∷ ws) ≡ true → skips t ws ≡ true
skips_others t w ws e = and_right (not (is_word w t)) _ e

pub skips-left : (t : Token) (ws vs : List Bytes) → skips t (ws ++ vs) ≡ true → skips t ws ≡ true
skips-left t [] vs e = refl
skips-left t (w ∷ ws) vs e = rw (skips-first t w (ws ++ vs) e) (skips-left t ws vs (skips_others t w (ws ++ vs) e))

pub skips_right : (t : Token) (ws vs : List Bytes) → skips t (ws ++ vs) ≡ true → skips t vs ≡ true
skips_right t [] vs e = e
skips_right t (w ∷ ws) vs e = skips_right t ws vs (skips_others t w (ws ++ vs) e)

pub symbol-skips : (b : ℕ) (ws : List Bytes) → skips (Token.symbol b) ws ≡ true
symbol-skips b [] = refl
symbol-skips b (w ∷ ws) = symbol-skips b ws

abbrev pub words_of : {A : Type 0} → List (Bytes × A) → List Bytes
words_of [] = []
words_of (c ∷ cs) = c.0 ∷ words_of cs

module _ (t : Token) (q : Place) (a : Ahead) where
  pub not_next : (w : Bytes) → is_word w t ≡ false → next_is_word w (next t q a) ≡ ok false (next t q a)
  unfolding peek look with_some return given◌then◌else◌ ◌>>=◌ ◌>>◌
  not_next w e = rw e refl

  pub not_word : (w : Bytes) → is_word w t ≡ false → word_if w (next t q a) ≡ ok false (next t q a)
  unfolding accept peek look with_some return given◌then◌else◌ ◌>>=◌ ◌>>◌
  not_word w e = rw e refl

  pub choose-skips : {A : Type 0} (cs : List (Bytes × Parser A)) (other : Parser A) → skips t (words_of cs) ≡ true → choose cs other (next t q a) ≡ other (next t q a)
  unfolding choose ◌>>=◌ given◌then◌else◌
  choose-skips [] other e = refl
  choose-skips (c ∷ cs) other e = run _ (not_word c.0 (skips-first t _ _ e)) (choose-skips cs other (skips_others t c.0 _ e))

  pub forbidden_skips : (ws : List Bytes) → skips t ws ≡ true → words_forbidden ws (next t q a) ≡ ok tt (next t q a)
  unfolding words_forbidden word_forbidden return ◌>>=◌ ◌>>◌ given◌then◌else◌
  forbidden_skips [] e = refl
  forbidden_skips (w ∷ ws) e = run _ (run _ (not_next w (skips-first t w ws e)) refl) (forbidden_skips ws (skips_others t w ws e))

  pub scalar_or-skips : (ss : List Scalar) (other : Parser Forest) → skips t (map scalar_word ss) ≡ true → g.scalar_or ss other (next t q a) ≡ other (next t q a)
  unfolding g.scalar_or ◌>>=◌ given◌then◌else◌
  scalar_or-skips [] other e = refl
  scalar_or-skips (s ∷ ss) other e = run _ (not_word (scalar_word s) (skips-first t (scalar_word s) (map scalar_word ss) e)) (scalar_or-skips ss other (skips_others t (scalar_word s) (map scalar_word ss) e))

-- ---- lists of what holds
abbrev pub All : {X : Type 0} → (X → Type 0) → List X → Type 0
All P [] = Unit {0}
All P (x ∷ xs) = P x × All P xs

-- ---- runs of turns
-- a reader reads what a printer prints, whatever stands behind
abbrev pub Reads : {A : Type 0} → Parser A → p.Printer → A → Type 0
Reads item pr x = (us : p.Tokens) (rest : Ahead) → item (unplaced (pr us) rest) ≡ ok x (unplaced us rest)

abbrev pub Runs : {A B : Type 0} → (A → B → B) → B → Parser (Option A) → p.Printer → (B → B) → Type 0
Runs {B = B} add stop turn pr f =
    (us : p.Tokens) (rest : Ahead) (y : B) (b : Ahead) → many add stop turn (unplaced us rest) ≡ ok y b → many add stop turn (unplaced (pr us) rest) ≡ ok (f y) b

module _ {A B : Type 0} (add : A → B → B) (stop : B) (turn : Parser (Option A)) (turns : Turns turn) where
  pub run-one : (pr : p.Printer) (x : A) → Reads turn pr (some x) → Runs add stop turn pr (add x)
  run-one pr x h us rest y b e = many_goes add stop turn turns.onward (h us rest) e

  pub run-all : {X : Type 0} (shown : X → p.Printer) (tree : X → A) (P : X → Type 0) → ((x : X) → P x → Reads turn (shown x) (some (tree x))) →
      (xs : List X) → All P xs → Runs add stop turn (p.all shown xs) (adding add tree xs)
  run-all shown tree P h [] ps us rest y b e = e
  run-all shown tree P h (x ∷ xs) ps us rest y b e = run-one (shown x) (tree x) (h x ps.0) _ rest _ b (run-all shown tree P h xs ps.1 us rest y b e)

-- ---- lists with a separator, up to a symbol that ends them
pub trees_beside : {X : Type 0} (tree : X → Forest) (xs : List X) (y : Forest) → trees tree xs beside y ≡ adding ◌beside◌ tree xs y
trees_beside tree [] y = refl
trees_beside tree (x ∷ xs) y = beside_assoc (tree x) (trees tree xs) y ∙ ap (λ f. tree x beside f) (trees_beside tree xs y)

-- an item is read before each of these symbols
abbrev pub ReadsBefore : Parser Forest → (ℕ → Type 0) → p.Printer → Forest → Type 0
ReadsBefore item Before pr x = (b : ℕ) → Before b → (us : p.Tokens) (rest : Ahead) → item (unplaced (pr (p.sign b ∷ us)) rest) ≡ ok x (next (p.sign b) nowhere (unplaced us rest))

module _ {X : Type 0} (item : Parser Forest) (takes : Takes item) (shown : X → p.Printer) (tree : X → Forest) (P : X → Type 0) (Before : ℕ → Type 0)
    (reads : (x : X) → P x → ReadsBefore item Before (shown x) (tree x)) (sep stop : ℕ) (sep_before : Before sep) (stop_before : Before stop)
    (sep_is : eqb sep sep ≡ true) (stop_is : eqb stop sep ≡ false) where
  after_read : (xs : List X) → All P xs → (us : p.Tokens) (rest : Ahead) →
      many ◌beside◌ nothing (after_next sep item) (unplaced (p.all_after shown sep xs (p.sign stop ∷ us)) rest) ≡ ok (trees tree xs) (next (p.sign stop) nowhere (unplaced us rest))
  unfolding after_next accept peek look take with_some return given◌then◌else◌ ◌>>=◌ ◌>>◌ ◌<$>◌
  after_read [] ps us rest = many_stops ◌beside◌ nothing _ (turn-after sep item takes).onward (rw stop_is refl)
  after_read (x ∷ []) ps us rest =
      many_goes ◌beside◌ nothing _ (turn-after sep item takes).onward (rw sep_is (run _ (reads x ps.0 stop stop_before _ rest) refl)) (after_read [] tt us rest)
  after_read (x ∷ x' ∷ xs) ps us rest =
      many_goes ◌beside◌ nothing _ (turn-after sep item takes).onward (rw sep_is (run _ (reads x ps.0 sep sep_before _ rest) refl)) (after_read (x' ∷ xs) ps.1 us rest)

  pub separated_read : (x : X) (xs : List X) → P x → All P xs → (us : p.Tokens) (rest : Ahead) →
      g.separated sep item (unplaced (p.separated shown sep (x ∷ xs) (p.sign stop ∷ us)) rest) ≡ ok (trees tree (x ∷ xs)) (next (p.sign stop) nowhere (unplaced us rest))
  unfolding g.separated return ◌>>=◌
  separated_read x [] h ps us rest = run _ (reads x h stop stop_before us rest) (run _ (after_read [] tt us rest) refl)
  separated_read x (x' ∷ xs) h ps us rest = run _ (reads x h sep sep_before _ rest) (run _ (after_read (x' ∷ xs) ps us rest) refl)
