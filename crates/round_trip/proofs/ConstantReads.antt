-- Every constant that is read can be printed and read again.
use Rattle.std.proofs.Common.{◌≡◌, ℕ, suc, Bool, true, false, List, [], ◌∷◌, ◌++◌, map, Some as some, codes, refl, ap, ◌∙◌, subst}
use Rattle.token.specs.declared.answer.Place.{Place}
use Rattle.token.specs.Token.{Bytes, Token, Ahead, next, end, fault}
use Rattle.grammar.specs.Parse.{Parser, ◌>>=◌, ◌>>◌, return, take}
use Rattle.grammar.specs.Tree.{Key, Value, Item, Forest, nothing, one, ◌beside◌}
use Rattle.token.specs.Law.{well}
use Rattle.grammar.specs.declared.fault.ParserError.TheVariants.{IncorrectInput, ExpectConstant, IntegerOverflow}
use Rattle.round_trip.proofs.Well.{Well}
use Rattle.grammar.specs.Grammar as g
use Rattle.grammar.specs.Model as m
use Rattle.grammar.specs.Model.{Constant, Part, parts_of}
use Rattle.round_trip.proofs.ConstantAgain.{FullOk, KeyOk, relative, absolute, first_token, Good, GoodList, GoodEntries}
use Rattle.round_trip.proofs.ConstantMeans.{parts_beside}
use Rattle.round_trip.proofs.Again.{skips-first, skips_right, some_inj, none_some}
use Rattle.round_trip.proofs.Outcome.{Result, Gives, then_result, g_take, g_bind, g_then, g_map, g_return, g_refuse, g_if, g_due, g_expect, g_any, g_accept, g_many, g_unless, g_after, HeadSkips, HeadIs, choose_result}
use Rattle.round_trip.proofs.Leaves.{ident_gives, full_gives, full_result, PathAt, FullAt}

-- a tree that is one constant, or one entry
pub record IsConstant (room : ℕ) (f : Forest) : Type 0 where
  pub it : Constant
  pub is_it : parts_of f ≡ m.Part.piece (m.Piece.constant it) ∷ []
  pub good : Good it room

pub record IsEntry (room : ℕ) (f : Forest) : Type 0 where
  pub key : Key
  pub value : Constant
  pub is_it : parts_of f ≡ m.Part.piece (m.Piece.entry key value) ∷ []
  pub key_good : KeyOk key
  pub good : Good value room

-- trees of several
pub record AreConstants (room : ℕ) (f : Forest) : Type 0 where
  pub they : List Constant
  pub are_they : parts_of f ≡ map (λ c. m.Part.piece (m.Piece.constant c)) they
  pub good : GoodList (m.all_constants they) room

pub record AreEntries (room : ℕ) (f : Forest) : Type 0 where
  pub they : List (Key × Constant)
  pub are_they : parts_of f ≡ map (λ e. m.Part.piece (m.Piece.entry e.0 e.1)) they
  pub good : GoodEntries (m.all_entries they) room

-- ---- keys
key_end_gives : (name : Bytes) → FullOk name → Gives (g.key_end name) KeyOk
unfolding g.key_end
key_end_gives name h =
    g_bind (g_accept _) (λ any u. g_if
    (λ e. g_bind full_gives (λ t k. g_then (g_any _ _) (g_return _ (h, k))))
    (λ e. g_then (g_any _ _) (g_return _ h)))

key_gives : Gives g.key KeyOk
unfolding g.key
key_gives = g_bind (g_accept _) (λ b u. g_if (λ e. g_bind full_gives key_end_gives) (λ e. g_map _ ident_gives (λ w h. h)))

-- ---- numbers with a sign
-- a plain value
abbrev Plain : ℕ → Value → Type 0
Plain room (Value.unsigned n) = Good (Constant.unsigned n) room
Plain room (Value.minus n) = Unit {0}
Plain room (Value.float b t) = Good (Constant.float b t) room
Plain room (Value.truth b) = ⊥
Plain room (Value.path t) = ⊥
Plain room (Value.string t) = ⊥
Plain room Value.message = ⊥
Plain room Value.list = ⊥

signed-law : (room : ℕ) (negative : Bool) (t : Token) (v : Value) → well t ≡ true → g.signed_value negative t ≡ some v → Plain room v
signed-law room negative (Token.symbol y) v o e = absurd (none_some e)
signed-law room true (Token.number y) v o e = subst (Plain room) (some_inj e) tt
signed-law room false (Token.number y) v o e = subst (Plain room) (some_inj e) o
signed-law room negative (Token.ident y) v o e = absurd (none_some e)
signed-law room negative (Token.float y) v o e = subst (Plain room) (some_inj e) o
signed-law room negative (Token.string y) v o e = absurd (none_some e)

plain-constant : (room : ℕ) (v : Value) → Plain room v → g.in_range v ≡ true → IsConstant room (one (Item.constant v) nothing)
unfolding parts_of
plain-constant room (Value.unsigned n) h e = record { it = Constant.unsigned n; is_it = refl; good = h }
plain-constant room (Value.minus n) h e = record { it = Constant.minus n; is_it = refl; good = e }
plain-constant room (Value.float b t) h e = record { it = Constant.float b t; is_it = refl; good = h }
plain-constant room (Value.truth b) h e = absurd h
plain-constant room (Value.path t) h e = absurd h
plain-constant room (Value.string t) h e = absurd h
plain-constant room Value.message h e = absurd h
plain-constant room Value.list h e = absurd h

signed_gives : (room : ℕ) (negative : Bool) → Gives (g.signed_number negative) (IsConstant room)
unfolding g.signed_number
signed_gives room negative = g_bind (g_expect IncorrectInput _ (signed-law room negative)) (λ v h. g_if (λ e. g_return _ (plain-constant room v h e)) (λ e. g_refuse IntegerOverflow))

-- ---- what a bracket of each kind gives
abbrev pub ConstantBrackets : ℕ → g.Inner → Type 0
ConstantBrackets room inner = Gives (inner g.Bracket.message_constant) (IsConstant room) × Gives (inner g.Bracket.list_constant) (IsConstant room)

pub lawful-next : (t : Token) (q : Place) (b : Ahead) → well t ≡ true → Well b → Well (next t q b)
unfolding Well
lawful-next t q b o l = (o, l)

seen : {A : Type 0} {Q : A → Type 0} {p : Parser A} → Gives p Q → (t : Token) (q : Place) (b : Ahead) → well t ≡ true → Well b → Result (λ x c. Q x) (p (next t q b))
seen h t q b o l = h.gives (next t q b) (lawful-next t q b o l)

abbrev begins_ident : Ahead → Type 0
begins_ident (next (Token.symbol x) q b) = ⊥
begins_ident (next (Token.number x) q b) = ⊥
begins_ident (next (Token.ident x) q b) = Unit {0}
begins_ident (next (Token.float x) q b) = ⊥
begins_ident (next (Token.string x) q b) = ⊥
begins_ident (end q) = ⊥
begins_ident (fault n q) = ⊥

full_to_path : (w : Bytes) (q : Place) (b : Ahead) (t : Bytes) → FullAt (next (Token.ident w) q b) t → PathAt (next (Token.ident w) q b) t
full_to_path w q b t h = go t h.0 h.1
  where
    go : (t : Bytes) (h : FullOk t) → HeadIs (first_token h) (next (Token.ident w) q b) → PathAt (next (Token.ident w) q b) t
    go t (relative h) i = (h, i)
    go t (absolute h) i = absurd (subst begins_ident i.2 tt)

-- ---- repetitions of trees
pub g_until : (s : ℕ) {item : Parser Forest} (P R : Forest → Type 0) → Gives item P → R nothing → ((x y : Forest) → P x → R y → R (x beside y)) → Gives (g.forests_until s item) R
g_until s P R h k more = g_many ◌beside◌ nothing P (g_unless s h) k more

pub g_separated : (s : ℕ) {item : Parser Forest} (P R : Forest → Type 0) {S : Forest → Type 0} → Gives item P → R nothing → ((x y : Forest) → P x → R y → R (x beside y)) → ((x y : Forest) → P x → R y → S (x beside y)) → Gives (g.separated s item) S
unfolding g.separated
g_separated s P R h k more all = g_bind h (λ x p. g_bind (g_many ◌beside◌ nothing P (g_after s h) k more) (λ y r. g_return _ (all x y p r)))

module _ (room : ℕ) (inner : g.Inner) (inner_gives : ConstantBrackets room inner) where
  -- where a token was seen
  taken_gives : {A : Type 0} {Q : A → Type 0} {p : Parser A} → Gives p Q → (t : Token) (q : Place) (b : Ahead) → Well b → Result (λ x c. Q x) ((take >> p) (next t q b))
  unfolding take ◌>>◌
  taken_gives h t q b l = h.gives b l

  truth-constant : (b : Bool) → IsConstant room (one (Item.constant (Value.truth b)) nothing)
  unfolding parts_of
  truth-constant b = record { it = Constant.truth b; is_it = refl; good = tt }

  path-constant : (a : Ahead) (t : Bytes) → PathAt a t → HeadSkips (codes "true" ∷ codes "false" ∷ []) a → IsConstant room (one (Item.constant (Value.path t)) nothing)
  unfolding parts_of
  path-constant a t h k =
      let e = subst (HeadSkips (codes "true" ∷ codes "false" ∷ [])) h.1.2 k in
      let w = Token.ident (h.0.first ∷ h.0.letters) in
      record { it = Constant.path t; is_it = refl; good = (h.0, skips-first w (codes "true") (codes "false" ∷ []) e, skips-first w (codes "false") [] (skips_right w (codes "true" ∷ []) (codes "false" ∷ []) e)) }

  string-constant : (w : Bytes) → well (Token.string w) ≡ true → IsConstant room (one (Item.constant (Value.string w)) nothing)
  unfolding parts_of
  string-constant w o = record { it = Constant.string w; is_it = refl; good = o }

  constant_at_result : (t : Token) → well t ≡ true → (q : Place) (b : Ahead) → Well b → Result (λ f c. IsConstant room f) (g.constant_at inner t (next t q b))
  unfolding g.constant_at
  constant_at_result (Token.symbol x) o q b l =
      seen (g_if (λ e. inner_gives.0) (λ e. g_if (λ e. inner_gives.1) (λ e. g_if (λ e. g_then g_take (signed_gives room false)) (λ e. g_if (λ e. g_then g_take (signed_gives room true)) (λ e. g_refuse ExpectConstant))))) (Token.symbol x) q b o l
  constant_at_result (Token.number n) o q b l = taken_gives (g_return _ (plain-constant room (Value.unsigned n) o refl)) (Token.number n) q b l
  constant_at_result (Token.ident w) o q b l =
      choose_result (IsConstant room) _ _ (next (Token.ident w) q b) (lawful-next (Token.ident w) q b o l) (g_return _ (truth-constant true), (g_return _ (truth-constant false), tt))
      (λ k. path-after w q b (lawful-next (Token.ident w) q b o l) k)
    where
      path-after : (w : Bytes) (q : Place) (b : Ahead) → Well (next (Token.ident w) q b) → HeadSkips (codes "true" ∷ codes "false" ∷ []) (next (Token.ident w) q b) →
          Result (λ f c. IsConstant room f) ((g.full_ident >>= (λ p. g.constant_of (Value.path p))) (next (Token.ident w) q b))
      path-after w q b l k = unfold ◌>>=◌ return in
          then_result (λ t c. FullAt (next (Token.ident w) q b) t) (λ f c. IsConstant room f) (g.full_ident (next (Token.ident w) q b)) (λ p. g.constant_of (Value.path p)) (full_result (next (Token.ident w) q b) l)
          (λ t c h l'. (path-constant (next (Token.ident w) q b) t (full_to_path w q b t h) k, l'))
  constant_at_result (Token.float w) o q b l = taken_gives (g_return _ (plain-constant room (Value.float false w) o refl)) (Token.float w) q b l
  constant_at_result (Token.string w) o q b l = taken_gives (g_return _ (string-constant w o)) (Token.string w) q b l

  pub constant_gives : Gives (g.constant inner) (IsConstant room)
  constant_gives = g_due _ constant_at_result

  -- ---- entries and lists
  entry-made : (k : Key) (f : Forest) → KeyOk k → IsConstant room f → IsEntry room (one (Item.key k) f)
  unfolding parts_of
  entry-made k f h c = record { key = k; value = c.it; is_it = ap (λ ps. m.Part.piece (m.Piece.entry k (m.the_constant ps)) ∷ []) c.is_it; key_good = h; good = c.good }

  entry_gives : Gives (g.entry inner) (IsEntry room)
  unfolding g.entry
  entry_gives = g_bind key_gives (λ k h. g_bind (g_accept _) (λ b u. g_bind (g_if (λ e. constant_gives) (λ e. inner_gives.0)) (λ f c. g_then (g_accept _) (g_return _ (entry-made k f h c)))))

  constants-made : (x y : Forest) → IsConstant room x → AreConstants room y → AreConstants room (x beside y)
  constants-made x y c r = record {
    they = c.it ∷ r.they;
    are_they = parts_beside x y ∙ ap (λ ps. ps ++ parts_of y) c.is_it ∙ ap (λ ps. m.Part.piece (m.Piece.constant c.it) ∷ ps) r.are_they;
    good = (c.good, r.good);
  }

  no_constants-made : AreConstants room nothing
  unfolding parts_of
  no_constants-made = record { they = []; are_they = refl; good = tt }

  entries-made : (x y : Forest) → IsEntry room x → AreEntries room y → AreEntries room (x beside y)
  entries-made x y c r = record {
    they = (c.key, c.value) ∷ r.they;
    are_they = parts_beside x y ∙ ap (λ ps. ps ++ parts_of y) c.is_it ∙ ap (λ ps. m.Part.piece (m.Piece.entry c.key c.value) ∷ ps) r.are_they;
    good = (c.key_good, c.good, r.good);
  }

  no_entries-made : AreEntries room nothing
  unfolding parts_of
  no_entries-made = record { they = []; are_they = refl; good = tt }

  list_items_gives : Gives (g.list_items inner) (AreConstants room)
  unfolding g.list_items
  list_items_gives =
      g_bind (g_accept _) (λ b u. g_if (λ e. g_return _ no_constants-made)
      (λ e. g_bind (g_separated g.comma (IsConstant room) (AreConstants room) constant_gives no_constants-made constants-made constants-made) (λ f h. g_then (g_any _ _) (g_return _ h))))

  constants_back : (cs : List Constant) → m.constants (map (λ c. m.Part.piece (m.Piece.constant c)) cs) ≡ cs
  constants_back [] = refl
  constants_back (c ∷ cs) = ap (λ l. c ∷ l) (constants_back cs)

  entries_back : (es : List (Key × Constant)) → m.entries (map (λ e. m.Part.piece (m.Piece.entry e.0 e.1)) es) ≡ es
  entries_back [] = refl
  entries_back (e ∷ es) = ap (λ l. (e.0, e.1) ∷ l) (entries_back es)

  list-made : (f : Forest) → AreConstants room f → IsConstant (suc room) (one (Item.constant Value.list) f)
  unfolding parts_of
  list-made f h = record {
    it = Constant.list (m.all_constants h.they);
    is_it = ap (λ cs. m.Part.piece (m.Piece.constant (Constant.list (m.all_constants cs))) ∷ []) (ap m.constants h.are_they ∙ constants_back h.they);
    good = h.good;
  }

  message-made : (f : Forest) → AreEntries room f → IsConstant (suc room) (one (Item.constant Value.message) f)
  unfolding parts_of
  message-made f h = record {
    it = Constant.message (m.all_entries h.they);
    is_it = ap (λ es. m.Part.piece (m.Piece.constant (Constant.message (m.all_entries es))) ∷ []) (ap m.entries h.are_they ∙ entries_back h.they);
    good = h.good;
  }

  pub list_of_gives : Gives (g.list_of inner) (IsConstant (suc room))
  unfolding g.list_of
  list_of_gives = g_then (g_any _ _) (g_bind list_items_gives (λ f h. g_return _ (list-made f h)))

  pub message_of_gives : Gives (g.message_of inner) (IsConstant (suc room))
  unfolding g.message_of
  message_of_gives = g_then (g_any _ _) (g_bind (g_until g.brace_end (IsEntry room) (AreEntries room) entry_gives no_entries-made entries-made) (λ f h. g_then (g_any _ _) (g_return _ (message-made f h))))
