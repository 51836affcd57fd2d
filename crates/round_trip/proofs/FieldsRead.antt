-- Every field that is read can be printed and read again.
use Rattle.std.proofs.Common.{◌≡◌, ℕ, zero, suc, true, false, leb, ◌⊎◌, List, [], ◌∷◌, ◌++◌, map, Some as some, None as none, codes, Option, sym, refl, ap, ◌∙◌, subst, inl, inr, true≢false}
use Rattle.token.specs.declared.answer.Place.{Place}
use Rattle.token.specs.Token.{Bytes, Token, Ahead, next, end, fault, place}
use Rattle.grammar.specs.Parse.{Parser, ◌>>=◌, ◌>>◌, return, refuse, here, take, choose, is_word, ident_due, symbol_due}
use Rattle.grammar.specs.declared.kinds.Syntax.{Syntax}
use Rattle.grammar.specs.declared.kinds.Rule.{Rule}
use Rattle.grammar.specs.declared.kinds.Scalar.{Scalar}
use Rattle.grammar.specs.Tree.{Shape, Item, Forest, nothing, one, ◌beside◌}
use Rattle.grammar.specs.declared.fault.ParserError.TheVariants.{OneOfInGroup}
use Rattle.grammar.specs.Kinds.{scalar_word, scalars}
use Rattle.round_trip.proofs.Well.{Well}
use Rattle.grammar.specs.Grammar as g
use Rattle.grammar.specs.Model as m
use Rattle.grammar.specs.Model.{ProtoOption, FieldType, Field, Fields, Part, parts_of}
use Rattle.round_trip.proofs.ConstantAgain.{WordOk}
use Rattle.round_trip.proofs.ConstantMeans.{parts_beside}
use Rattle.round_trip.proofs.FieldAgain.{scalar-skips}
use Rattle.round_trip.proofs.Again.{All, skips, skips-first, skips-left, skips_right}
use Rattle.round_trip.proofs.Canon.{Opens, OptionOk, TypeOk, LabelOk, FieldOk, FieldsOk, no_group, group_word, type_words, statement_words, label_words}
use Rattle.round_trip.proofs.Outcome.{Result, Gives, then_result, g_bind, g_then, g_return, g_refuse, g_if, g_any, HeadSkips, HeadIs, if_result, word_result, next_result, skips-more, skips_join, lawful-taken}
use Rattle.round_trip.proofs.Leaves.{ident_gives, full_result, FullAt, path_skips_of, number_gives, group_name_gives, drop_result}
use Rattle.round_trip.proofs.ConstantReads.{ConstantBrackets}
use Rattle.round_trip.proofs.PartsRead.{PartGood, Fine, options_good, fields_good, bracketed_gives}

-- ---- types
pub record IsType (s : Syntax) (room : ℕ) (f : Forest) : Type 0 where
  pub it : FieldType
  pub is_it : parts_of f ≡ m.Part.piece (m.Piece.type it) ∷ []
  pub good : TypeOk s it room
  pub plain : no_group it

-- in a body that is open, the parts that are kept; in that of `extend` these are fields
abbrev pub IsField : Part → Type 0
IsField (m.Part.piece x) = ⊥
IsField (m.Part.held x) = ⊥
IsField (m.Part.declared (m.Declared.field f)) = Unit {0}
IsField (m.Part.declared (m.Declared.oneof o)) = ⊥
IsField (m.Part.declared (m.Declared.message n c p ms)) = ⊥
IsField (m.Part.declared (m.Declared.enum e)) = ⊥
IsField (m.Part.declared (m.Declared.extension e)) = ⊥
IsField (m.Part.other x) = ⊥

pub record FieldsFine (s : Syntax) (mode : g.Mode) (room : ℕ) (f : Forest) : Type 0 where
  pub fine : Fine s mode room f
  pub are_fields : All IsField (parts_of f)

abbrev pub BodyFine : Syntax → g.Mode → Forest → ℕ → Type 0
BodyFine s g.Mode.message f room = Fine s g.Mode.message room f
BodyFine s g.Mode.oneof f room = Fine s g.Mode.oneof room f
BodyFine s g.Mode.extend f room = FieldsFine s g.Mode.extend room f

pub record InnerGood (s : Syntax) (room : ℕ) (inner : g.Inner) : Type 0 where
  pub constants : ConstantBrackets room inner
  pub maps : Gives (inner g.Bracket.map_type) (λ f. IsType s room f × (k : FieldType) × (v : FieldType) × (parts_of f ≡ m.Part.piece (m.Piece.type (FieldType.map_of k v)) ∷ []) × TypeOk s (FieldType.map_of k v) room)
  pub bodies : (mode : g.Mode) → Gives (inner (g.Bracket.body mode)) (λ f. Opens (BodyFine s mode f) room)

-- the token that a type begins with
abbrev HeadFact : Ahead → FieldType → Type 0
HeadFact a (FieldType.scalar x) = HeadIs (Token.ident (scalar_word x)) a
HeadFact a (FieldType.named t) = FullAt a t × HeadSkips type_words a
HeadFact a (FieldType.map_of k v) = HeadIs (Token.ident (codes "map")) a
HeadFact a (FieldType.group n fs) = ⊥

record TypeAt (s : Syntax) (room : ℕ) (a : Ahead) (f : Forest) : Type 0 where
  it : FieldType
  is_it : parts_of f ≡ m.Part.piece (m.Piece.type it) ∷ []
  good : TypeOk s it room
  plain : no_group it
  head : HeadFact a it

-- the token at the head, or none that is a word
abbrev head_or : Ahead → Token
head_or (next t p b) = t
head_or (end p) = Token.symbol 0
head_or (fault n p) = Token.symbol 0

scalar_no_map : (x : Scalar) → is_word (codes "map") (Token.ident (scalar_word x)) ≡ false
scalar_no_map x = skips-first (Token.ident (scalar_word x)) (codes "map") (codes "optional" ∷ codes "repeated" ∷ codes "required" ∷ []) (skips-left (Token.ident (scalar_word x)) label_words group_word (skips_right (Token.ident (scalar_word x)) statement_words (label_words ++ group_word) (scalar-skips x)))

scalar_or_result : (Q : Forest → Ahead → Type 0) (a : Ahead) → Well a → ((x : Scalar) → HeadIs (Token.ident (scalar_word x)) a → (b : Ahead) → Q (one (Item.type (Shape.scalar x)) nothing) b) →
    (ss : List Scalar) (other : Parser Forest) → (HeadSkips (map scalar_word ss) a → Result Q (other a)) → Result Q (g.scalar_or ss other a)
unfolding g.scalar_or
scalar_or_result Q a l h [] other k = k (skips_none a)
  where
    skips_none : (a : Ahead) → HeadSkips [] a
    skips_none (next t p b) = refl
    skips_none (end p) = tt
    skips_none (fault n p) = tt
scalar_or_result Q a l h (x ∷ ss) other k =
    word_result Q (scalar_word x) (g.type_of (Shape.scalar x)) (g.scalar_or ss other) a l (λ i b l'. unfold return in (h x i b, l'))
    (λ e. scalar_or_result Q a l h ss other (λ e'. k (skips-more (scalar_word x) (map scalar_word ss) a e e')))

module _ (s : Syntax) (room : ℕ) (inner : g.Inner) (inner_good : InnerGood s room inner) where
  scalar-at : (a : Ahead) (x : Scalar) → HeadIs (Token.ident (scalar_word x)) a → TypeAt s room a (one (Item.type (Shape.scalar x)) nothing)
  unfolding parts_of
  scalar-at a x i = record { it = FieldType.scalar x; is_it = refl; good = tt; plain = tt; head = i }

  named-at : (a : Ahead) (t : Bytes) → FullAt a t → HeadSkips type_words a → TypeAt s room a (one (Item.type (Shape.named t)) nothing)
  unfolding parts_of
  named-at a t h k = record { it = FieldType.named t; is_it = refl; good = (h.0, path_skips_of type_words a t h k); plain = tt; head = (h, k) }

  type_result : (a : Ahead) → Well a → Result (λ f b. TypeAt s room a f) (g.type inner a)
  unfolding g.type choose ◌>>=◌ return
  type_result a l =
      scalar_or_result (λ f b. TypeAt s room a f) a l (λ x i b. scalar-at a x i) scalars _ (λ e.
      word_result (λ f b. TypeAt s room a f) (codes "map") (inner g.Bracket.map_type) _ a l
      (λ i b l'. drop_result (λ f c. IsType s room f × (k : FieldType) × (v : FieldType) × (parts_of f ≡ m.Part.piece (m.Piece.type (FieldType.map_of k v)) ∷ []) × TypeOk s (FieldType.map_of k v) room) (λ f c. TypeAt s room a f) (inner g.Bracket.map_type b)
      (λ f c h. record { it = FieldType.map_of h.1 h.2; is_it = h.3; good = h.4; plain = tt; head = i }) (inner_good.maps.gives b l'))
      (λ e'. then_result (λ t c. FullAt a t) (λ f c. TypeAt s room a f) (g.full_ident a) _ (full_result a l)
      (λ t c h l'. (named-at a t h (skips_join (map scalar_word scalars) (codes "map" ∷ []) a e e'), l'))))

  pub type_gives : Gives (g.type inner) (IsType s room)
  type_gives = record { gives = λ a l. drop_result (λ f b. TypeAt s room a f) (λ f b. IsType s room f) (g.type inner a) (λ f b h. record { it = h.it; is_it = h.is_it; good = h.good; plain = h.plain }) (type_result a l) }

  module _ (mode : g.Mode) where
    -- ---- labels
    LabelNone : Ahead → Type 0
    LabelNone a = (HeadIs (Token.ident (codes "map")) a × (g.map_allowed mode ≡ true)) ⊎ (HeadSkips label_words a × (g.label_required s mode ≡ false))

    LabelAt : Ahead → Option Rule → Ahead → Type 0
    LabelAt a none b = (b ≡ a) × LabelNone a
    LabelAt a (some r) b = g.label_allowed s mode r ≡ true

    label_result : (a : Ahead) → Well a → Result (LabelAt a) (g.label s mode a)
    unfolding g.label g.label_in return refuse take ◌>>◌ LabelAt LabelNone
    label_result a l =
        next_result (LabelAt a) (codes "map") _ _ a l (λ i. if_result (LabelAt a) (g.map_allowed mode) _ _ a (λ e. ((refl, inl (i, e)), l)) (λ e. tt)) (λ k0.
        next_result (LabelAt a) (codes "optional") _ _ a l (λ i. if_result (LabelAt a) (g.label_allowed s mode Rule.Optional) _ _ a (λ e. (e, lawful-taken a l)) (λ e. tt)) (λ k1.
        next_result (LabelAt a) (codes "repeated") _ _ a l (λ i. if_result (LabelAt a) (g.label_allowed s mode Rule.Repeated) _ _ a (λ e. (e, lawful-taken a l)) (λ e. tt)) (λ k2.
        next_result (LabelAt a) (codes "required") _ _ a l (λ i. if_result (LabelAt a) (g.label_allowed s mode Rule.Required) _ _ a (λ e. (e, lawful-taken a l)) (λ e. tt)) (λ k3.
        if_result (LabelAt a) (g.label_required s mode) _ _ a (λ e. tt) (λ e.
        ((refl, inr (skips-more (codes "map") (codes "optional" ∷ codes "repeated" ∷ codes "required" ∷ []) a k0 (skips-more (codes "optional") (codes "repeated" ∷ codes "required" ∷ []) a k1 (skips-more (codes "repeated") (codes "required" ∷ []) a k2 k3)), e)), l))))))

    -- ---- fields
    head-skips : (ws : List Bytes) (t : Token) (a : Ahead) → HeadIs t a → HeadSkips ws a → skips t ws ≡ true
    head-skips ws t a i k = subst (HeadSkips ws) i.2 k

    unlabelled : (a : Ahead) (t : FieldType) → HeadFact a t → HeadSkips statement_words a → HeadSkips group_word a → LabelNone a → LabelOk s mode none t
    unfolding LabelNone
    unlabelled a (FieldType.scalar x) i k g (inl h) =
        absurd (true≢false (subst (λ c. is_word (codes "map") (head_or c) ≡ false) h.0.2 (subst (λ c. is_word (codes "map") (head_or c) ≡ false) (sym i.2) (scalar_no_map x))))
    unlabelled a (FieldType.scalar x) i k g (inr h) = h.1
    unlabelled a (FieldType.named t) i k g (inl h) = absurd (true≢false (sym (head-skips type_words (Token.ident (codes "map")) a h.0 i.1)))
    unlabelled a (FieldType.named t) i k g (inr h) = (h.1, path_skips_of statement_words a t i.0 k, path_skips_of label_words a t i.0 h.0, path_skips_of group_word a t i.0 g)
    unlabelled a (FieldType.map_of c v) i k g (inl h) = h.1
    unlabelled a (FieldType.map_of c v) i k g (inr h) = absurd (true≢false (sym (head-skips label_words (Token.ident (codes "map")) a i h.0)))
    unlabelled a (FieldType.group n fs) i k g h = absurd i

    unlabelled_group : (a : Ahead) (n : Bytes) (fs : Fields) → HeadIs (Token.ident (codes "group")) a → LabelNone a → LabelOk s mode none (FieldType.group n fs)
    unfolding LabelNone
    unlabelled_group a n fs i (inl h) = absurd (true≢false (subst (λ c. is_word (codes "map") (head_or c) ≡ false) h.0.2 (subst (λ c. is_word (codes "map") (head_or c) ≡ false) (sym i.2) refl)))
    unlabelled_group a n fs i (inr h) = h.1

    with_label : (r : Rule) (a : Ahead) (t : FieldType) → g.label_allowed s mode r ≡ true → HeadFact a t → HeadSkips group_word a → LabelOk s mode (some r) t
    with_label r a (FieldType.scalar x) h i k = h
    with_label r a (FieldType.named t) h i k = (h, path_skips_of group_word a t i.0 k)
    with_label r a (FieldType.map_of c v) h i k = h
    with_label r a (FieldType.group n fs) h i k = h

    field-ok : (rule : Option Rule) (t : FieldType) (n : Bytes) (k : ℕ) (os : List ProtoOption) (p : Place) → TypeOk s t room → no_group t → LabelOk s mode rule t → WordOk n → leb k 2147483647 ≡ true → All (OptionOk room) os →
        FieldOk s (Field.field rule t (m.field_name t n) k os p) mode room
    field-ok rule (FieldType.scalar x) n k os p h g l w e o = (h, l, o, e, w)
    field-ok rule (FieldType.named x) n k os p h g l w e o = (h, l, o, e, w)
    field-ok rule (FieldType.map_of c v) n k os p h g l w e o = (h, l, o, e, w)
    field-ok rule (FieldType.group x fs) n k os p h g l w e o = absurd g

    one_field : (i : Item) (x : Forest) (f : Field) → m.part i (parts_of x) ≡ m.Part.declared (m.Declared.field f) → FieldOk s f mode room → FieldsFine s mode room (one i x)
    unfolding parts_of
    one_field i x f e h = record { fine = (subst (PartGood s mode room) (sym e) h, tt); are_fields = (subst IsField (sym e) tt, tt) }

    plain_result : (a : Ahead) → Well a → (rule : Option Rule) (p : Place) → ((t : FieldType) → HeadFact a t → LabelOk s mode rule t) → Result (λ f b. FieldsFine s mode room f) (g.plain_field inner rule p a)
    unfolding g.plain_field ◌>>=◌
    plain_result a l rule p labels =
        then_result (λ f b. TypeAt s room a f) (λ f b. FieldsFine s mode room f) (g.type inner a) _ (type_result a l) (λ tf b h l'.
        (after tf h).gives b l')
      where
        made : (tf : Forest) → TypeAt s room a tf → (n : Bytes) → WordOk n → (k : ℕ) → leb k 2147483647 ≡ true → (os : Forest) → Fine s mode room os → FieldsFine s mode room (one (Item.field rule n k p) (tf beside os))
        made tf h n w k e os o =
            one_field (Item.field rule n k p) (tf beside os) (Field.field rule h.it (m.field_name h.it n) k (m.options (parts_of os)) p)
            (ap (λ ps. m.Part.declared (m.Declared.field (m.field_from rule n k p ps))) (parts_beside tf os ∙ ap (λ ps. ps ++ parts_of os) h.is_it))
            (field-ok rule h.it n k (m.options (parts_of os)) p h.good h.plain (labels h.it h.head) w e (options_good s mode room (parts_of os) o))

        after : (tf : Forest) → TypeAt s room a tf → Gives (ident_due >>= (λ name. symbol_due g.equals >> (g.field_number >>= (λ number. g.bracketed_options inner >>= (λ options. symbol_due g.semicolon >> return (one (Item.field rule name number p) (tf beside options))))))) (FieldsFine s mode room)
        after tf h = g_bind ident_gives (λ n w. g_then (g_any _ _) (g_bind number_gives (λ k e. g_bind (bracketed_gives s mode room inner inner_good.constants) (λ os o. g_then (g_any _ _) (g_return _ (made tf h n w k e os o))))))

    fields-list : (fs : List Field) (r : ℕ) → All (λ f. FieldOk s f g.Mode.message r) fs → FieldsOk s (m.all_fields fs) r
    fields-list [] r h = tt
    fields-list (f ∷ fs) r h = (h.0, fields-list fs r h.1)

    group-type : (n : Bytes) (x : Forest) (r : ℕ) → g.capital n ≡ true → Opens (BodyFine s g.Mode.message x) r → TypeOk s (FieldType.group n (m.all_fields (m.fields (parts_of x)))) r
    group-type n x zero c h = h
    group-type n x (suc r) c h = (c, fields-list (m.fields (parts_of x)) r (fields_good s g.Mode.message r (parts_of x) h))

    group_gives : (rule : Option Rule) (p : Place) → ((n : Bytes) (fs : Fields) → LabelOk s mode rule (FieldType.group n fs)) → Gives (g.group inner rule p) (FieldsFine s mode room)
    unfolding g.group parts_of
    group_gives rule p labels =
        g_bind group_name_gives (λ n w. g_then (g_any _ _) (g_bind number_gives (λ k e. g_bind (inner_good.bodies g.Mode.message) (λ x h. g_if (λ u. g_refuse OneOfInGroup)
        (λ u. g_return _ (one_field (Item.field rule [] k p) (one (Item.type (Shape.group n)) x) (Field.field rule (FieldType.group n (m.all_fields (m.fields (parts_of x)))) (map m.lower n) k [] p) refl
        (group-type n x room w.1 h, labels n _, (refl, refl), e, w.0)))))))

    after_label_result : (rule : Option Rule) (p : Place) (a : Ahead) → Well a → (HeadIs (Token.ident (codes "group")) a → (n : Bytes) (fs : Fields) → LabelOk s mode rule (FieldType.group n fs)) → (HeadSkips group_word a → (t : FieldType) → HeadFact a t → LabelOk s mode rule t) →
        Result (λ f b. FieldsFine s mode room f) (choose ((codes "group", g.group inner rule p) ∷ []) (g.plain_field inner rule p) a)
    unfolding choose
    after_label_result rule p a l h k =
        word_result (λ f b. FieldsFine s mode room f) (codes "group") (g.group inner rule p) _ a l (λ i b l'. (group_gives rule p (h i)).gives b l') (λ e. plain_result a l rule p (k e))

    pub field_result : (a : Ahead) → Well a → HeadSkips statement_words a → Result (λ f b. FieldsFine s mode room f) (g.field s inner mode a)
    unfolding g.field here ◌>>=◌ LabelAt
    field_result a l k =
        then_result (LabelAt a) (λ f b. FieldsFine s mode room f) (g.label s mode a) _ (label_result a l) go
      where
        go : (rule : Option Rule) (b : Ahead) → LabelAt a rule b → Well b → Result (λ f b. FieldsFine s mode room f) (choose ((codes "group", g.group inner rule (place a)) ∷ []) (g.plain_field inner rule (place a)) b)
        go none b h l' = after_label_result none (place a) b l' (λ i n fs. unlabelled_group b n fs i (subst LabelNone (sym h.0) h.1)) (λ e t i. unlabelled b t i (subst (HeadSkips statement_words) (sym h.0) k) e (subst LabelNone (sym h.0) h.1))
        go (some r) b h l' = after_label_result (some r) (place a) b l' (λ i n fs. h) (λ e t i. with_label r b t h i e)
