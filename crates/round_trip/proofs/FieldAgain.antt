-- The way back for types, fields, groups and what else stands in a body.
use Rattle.std.proofs.Common.{◌≡◌, ℕ, zero, suc, true, false, leb, List, [], ◌∷◌, ◌++◌, map, Some as some, None as none, codes, Option, sym, refl, ap, ◌∙◌, subst}
use Rattle.token.specs.Token.{Bytes, Token, Ahead, next, nowhere, place, unplaced}
use Rattle.grammar.specs.Parse.{ok, Parser, ◌>>=◌, ◌>>◌, ◌<$>◌, return, given◌then◌else◌, with_some, due, here, look, take, peek, accept, expect, choose, is_symbol, unless_next, many}
use Rattle.grammar.specs.declared.kinds.Syntax.{Syntax}
use Rattle.grammar.specs.declared.kinds.Syntax.TheVariants.{Proto2, Proto3}
use Rattle.grammar.specs.declared.kinds.Rule.{Rule}
use Rattle.grammar.specs.declared.kinds.Scalar.{Scalar}
use Rattle.grammar.specs.Tree.{Shape, Item, Forest, nothing, node, one, ◌beside◌}
use Rattle.grammar.specs.Grammar as g
use Rattle.grammar.specs.Model.{ProtoOption, FieldType, Field, Fields, no_fields, next_field}
use Rattle.grammar.specs.Print as p
use Rattle.grammar.proofs.ManyLaw.{run, many_stops}
use Rattle.grammar.proofs.Progress.{Turns, turn_unless}
use Rattle.grammar.proofs.GrammarProgress.{statement-takes, nested-takes}
use Rattle.grammar.specs.Kinds.{rule_word, scalar_word, scalars}
use Rattle.round_trip.proofs.PathAgain.{NoDotNext}
use Rattle.round_trip.proofs.ConstantAgain.{FullOk, first_token, other_tokens, relative, absolute, full_starts, full_read}
use Rattle.round_trip.proofs.Again.{skips, skips-first, skips-left, skips_right, symbol-skips, choose-skips, forbidden_skips, scalar_or-skips, not_next, All, trees, Reads, Runs, run-one, beside_nothing, beside_assoc}
use Rattle.round_trip.proofs.Canon.{option_tree, kept_name, type_tree, field_tree, fields_tree, head_of, PathSkips, group_word, type_words, statement_words, label_words, no_group, OptionOk, LabelOk, EndOk, TypeOk, FieldOk, FieldsOk}
use Rattle.round_trip.proofs.OptionAgain.{bracketed_read}

-- ---- bodies
abbrev pub body_turn : Syntax → ℕ → g.Mode → Parser (Option Forest)
body_turn s room mode = unless_next g.brace_end (g.statement s (g.nested s room) mode)

pub body_turns : (s : Syntax) (room : ℕ) (mode : g.Mode) → Turns (body_turn s room mode)
body_turns s room mode = turn_unless _ _ (statement-takes (g.nested s room) (nested-takes s room) s mode)

pub closes : (item : Parser Forest) (turns : Turns (unless_next g.brace_end item)) (us : p.Tokens) (rest : Ahead) →
    many ◌beside◌ nothing (unless_next g.brace_end item) (unplaced (p.sign g.brace_end ∷ us) rest) ≡ ok nothing (next (p.sign g.brace_end) nowhere (unplaced us rest))
unfolding unless_next peek look with_some return given◌then◌else◌ ◌>>=◌
closes item turns us rest = many_stops ◌beside◌ nothing _ turns.onward refl

pub body_read : (s : Syntax) (room : ℕ) (mode : g.Mode) (pr : p.Printer) (f : Forest → Forest) → Runs ◌beside◌ nothing (body_turn s room mode) pr f →
    Reads (g.nested s (suc room) (g.Bracket.body mode)) (p.body pr) (f nothing)
unfolding g.nested g.body_of ◌>>=◌ ◌>>◌ return look take expect due with_some
body_read s room mode pr f h us rest = run _ (h _ rest nothing _ (closes _ (body_turns s room mode) us rest)) refl

-- ---- types
pub path-skips : {t : Bytes} (h : FullOk t) (ws : List Bytes) → PathSkips t ws → skips (first_token h) ws ≡ true
path-skips h ws e = subst (λ l. skips (head_of l) ws ≡ true) (full_starts h []) e

scalar_read : (x : Scalar) (inner : g.Inner) (a : Ahead) → g.type inner (next (Token.ident (scalar_word x)) nowhere a) ≡ ok (one (Item.type (Shape.scalar x)) nothing) a
unfolding g.type g.scalar_or ◌>>=◌ ◌>>◌ return look take accept peek with_some given◌then◌else◌
scalar_read Scalar.Int32 inner a = refl
scalar_read Scalar.Int64 inner a = refl
scalar_read Scalar.Uint32 inner a = refl
scalar_read Scalar.Uint64 inner a = refl
scalar_read Scalar.Sint32 inner a = refl
scalar_read Scalar.Sint64 inner a = refl
scalar_read Scalar.Bool inner a = refl
scalar_read Scalar.Fixed64 inner a = refl
scalar_read Scalar.Sfixed64 inner a = refl
scalar_read Scalar.Double inner a = refl
scalar_read Scalar.String inner a = refl
scalar_read Scalar.Bytes inner a = refl
scalar_read Scalar.Fixed32 inner a = refl
scalar_read Scalar.Sfixed32 inner a = refl
scalar_read Scalar.Float inner a = refl

-- no scalar's word is one of these
pub scalar-skips : (x : Scalar) → skips (Token.ident (scalar_word x)) (statement_words ++ label_words ++ group_word) ≡ true
scalar-skips Scalar.Int32 = refl
scalar-skips Scalar.Int64 = refl
scalar-skips Scalar.Uint32 = refl
scalar-skips Scalar.Uint64 = refl
scalar-skips Scalar.Sint32 = refl
scalar-skips Scalar.Sint64 = refl
scalar-skips Scalar.Bool = refl
scalar-skips Scalar.Fixed64 = refl
scalar-skips Scalar.Sfixed64 = refl
scalar-skips Scalar.Double = refl
scalar-skips Scalar.String = refl
scalar-skips Scalar.Bytes = refl
scalar-skips Scalar.Fixed32 = refl
scalar-skips Scalar.Sfixed32 = refl
scalar-skips Scalar.Float = refl

named_read : (inner : g.Inner) {t : Bytes} (h : FullOk t) → PathSkips t type_words → (us : p.Tokens) (rest : Ahead) → NoDotNext (unplaced us rest) →
    g.type inner (unplaced (p.path t us) rest) ≡ ok (one (Item.type (Shape.named t)) nothing) (unplaced us rest)
unfolding g.type ◌>>=◌ return
named_read inner h e us rest d =
    let k = path-skips h type_words e in
    ap (λ l. g.type inner (unplaced l rest)) (full_starts h us)
    ∙ scalar_or-skips (first_token h) nowhere (unplaced (other_tokens h us) rest) scalars _ (skips-left (first_token h) (map scalar_word scalars) (codes "map" ∷ []) k)
    ∙ choose-skips (first_token h) nowhere (unplaced (other_tokens h us) rest) ((codes "map", inner g.Bracket.map_type) ∷ []) _ (skips_right (first_token h) (map scalar_word scalars) (codes "map" ∷ []) k)
    ∙ run _ (ap (λ l. g.full_ident (unplaced l rest)) (sym (full_starts h us)) ∙ full_read h us rest d) refl

pub type_read : (s : Syntax) (t : FieldType) (room : ℕ) → TypeOk s t room → no_group t → (us : p.Tokens) (rest : Ahead) → NoDotNext (unplaced us rest) →
    g.type (g.nested s room) (unplaced (p.type t us) rest) ≡ ok (type_tree t) (unplaced us rest)
unfolding p.type type_tree g.nested g.map_of g.type g.scalar_or choose ◌>>=◌ ◌>>◌ return look take accept peek expect due with_some given◌then◌else◌
type_read s (FieldType.scalar x) room h n us rest d = scalar_read x (g.nested s room) (unplaced us rest)
type_read s (FieldType.named t) room h n us rest d = named_read (g.nested s room) h.0 h.1 us rest d
type_read s (FieldType.map_of k v) zero h n us rest d = absurd h
type_read s (FieldType.map_of k v) (suc room) h n us rest d =
    run _ (type_read s k room h.0 h.2 (p.sign g.comma ∷ p.type v (p.sign g.angle_end ∷ us)) rest refl)
    (run _ (type_read s v room h.1 h.3 (p.sign g.angle_end ∷ us) rest refl) refl)
type_read s (FieldType.group g fs) room h n us rest d = absurd n

-- ---- labels
module _ (s : Syntax) (mode : g.Mode) where
  label_read : (r : Rule) (a : Ahead) → g.label_allowed s mode r ≡ true → g.label s mode (next (Token.ident (rule_word r)) nowhere a) ≡ ok (some r) a
  unfolding g.label g.label_in ◌>>=◌ ◌>>◌ return look take peek with_some given◌then◌else◌
  label_read Rule.Optional a e = rw e refl
  label_read Rule.Repeated a e = rw e refl
  label_read Rule.Required a e = rw e refl

  map-label : (a : Ahead) → g.map_allowed mode ≡ true → g.label s mode (next (Token.ident (codes "map")) nowhere a) ≡ ok none (next (Token.ident (codes "map")) nowhere a)
  unfolding g.label ◌>>=◌ ◌>>◌ return look take peek with_some given◌then◌else◌
  map-label a e = rw e refl

  no_label : (t : Token) (a : Ahead) → skips t label_words ≡ true → g.label_required s mode ≡ false → g.label s mode (next t nowhere a) ≡ ok none (next t nowhere a)
  unfolding g.label g.label_in ◌>>=◌ ◌>>◌ return given◌then◌else◌
  no_label t a e h =
      run _ (not_next t nowhere a (codes "map") (skips-first t (codes "map") (codes "optional" ∷ codes "repeated" ∷ codes "required" ∷ []) e))
      (run _ (not_next t nowhere a (codes "optional") (skips-first t (codes "optional") (codes "repeated" ∷ codes "required" ∷ []) (skips_right t (codes "map" ∷ []) (codes "optional" ∷ codes "repeated" ∷ codes "required" ∷ []) e)))
      (run _ (not_next t nowhere a (codes "repeated") (skips-first t (codes "repeated") (codes "required" ∷ []) (skips_right t (codes "map" ∷ codes "optional" ∷ []) (codes "repeated" ∷ codes "required" ∷ []) e)))
      (run _ (not_next t nowhere a (codes "required") (skips-first t (codes "required") [] (skips_right t (codes "map" ∷ codes "optional" ∷ codes "repeated" ∷ []) (codes "required" ∷ []) e)))
      (rw h refl))))

-- ---- a field's statement
-- a token that can begin a field
pub record Begins (t : Token) : Type 0 where
  pub no_statement : skips t statement_words ≡ true
  pub no_close : is_symbol g.brace_end t ≡ false
  pub no_empty : is_symbol g.semicolon t ≡ false

module _ (s : Syntax) (inner : g.Inner) (t : Token) (a : Ahead) (h : skips t statement_words ≡ true) where
  abbrev five : List Bytes
  five = codes "reserved" ∷ codes "oneof" ∷ codes "extend" ∷ codes "message" ∷ codes "enum" ∷ []

  to-field : (mode : g.Mode) → g.option_or_field s inner mode (next t nowhere a) ≡ g.field s inner mode (next t nowhere a)
  unfolding g.option_or_field
  to-field mode = choose-skips t nowhere a ((codes "option", g.option_statement inner) ∷ []) _ (skips_right t (five ++ codes "extensions" ∷ []) (codes "option" ∷ []) h)

  declares : (mode : g.Mode) → g.declaration s inner nowhere mode (next t nowhere a) ≡ g.field s inner mode (next t nowhere a)
  unfolding g.declaration ◌>>◌
  declares g.Mode.message = choose-skips t nowhere a (g.message_declarations inner nowhere) _ (skips-left t five (codes "extensions" ∷ codes "option" ∷ []) h) ∙ go s ∙ to-field g.Mode.message
    where
      go : (x : Syntax) → g.extensions_or x (g.option_or_field s inner g.Mode.message) (next t nowhere a) ≡ g.option_or_field s inner g.Mode.message (next t nowhere a)
      go Proto2 = choose-skips t nowhere a ((codes "extensions", g.extensions) ∷ []) _ (skips-left t (codes "extensions" ∷ []) (codes "option" ∷ []) (skips_right t five (codes "extensions" ∷ codes "option" ∷ []) h))
      go Proto3 = run _ (forbidden_skips t nowhere a (codes "extensions" ∷ []) (skips-left t (codes "extensions" ∷ []) (codes "option" ∷ []) (skips_right t five (codes "extensions" ∷ codes "option" ∷ []) h))) refl
  declares g.Mode.oneof = run _ (forbidden_skips t nowhere a g.message_words (skips-left t g.message_words (codes "option" ∷ []) h)) (to-field g.Mode.oneof)
  declares g.Mode.extend = run _ (forbidden_skips t nowhere a (g.message_words ++ codes "option" ∷ []) h) refl

abbrev after_label : g.Inner → Option Rule → Parser Forest
after_label inner rule = choose ((codes "group", g.group inner rule nowhere) ∷ []) (g.plain_field inner rule nowhere)

module _ (s : Syntax) (room : ℕ) (mode : g.Mode) where
  turn_at : (t : Token) (b : Ahead) {rule : Option Rule} {a' c : Ahead} {x : Forest} → Begins t →
      g.label s mode (next t nowhere b) ≡ ok rule a' → after_label (g.nested s room) rule a' ≡ ok x c → body_turn s room mode (next t nowhere b) ≡ ok (some x) c
  unfolding unless_next g.statement g.field here ◌>>=◌ ◌>>◌ ◌<$>◌ return look take accept peek with_some given◌then◌else◌
  turn_at t b begins label_e field_e =
      rw begins.no_close (rw begins.no_empty (run _ (declares s (g.nested s room) t b begins.no_statement mode ∙ run _ label_e field_e) refl))

  field-turn : (t : Token) {a b a' c : Ahead} {rule : Option Rule} {x : Forest} → a ≡ next t nowhere b → Begins t →
      g.label s mode a ≡ ok rule a' → after_label (g.nested s room) rule a' ≡ ok x c → body_turn s room mode a ≡ ok (some x) c
  field-turn t {b} {a'} {c} {rule} {x} e begins label_e field_e =
      ap (body_turn s room mode) e ∙ turn_at t b begins (ap (g.label s mode) (sym e) ∙ label_e) field_e

-- ---- what stands after the label
has_none : (fs : Fields) → g.has_oneof (fields_tree fs) ≡ false
unfolding fields_tree field_tree
has_none no_fields = refl
has_none (next_field (Field.field r t n k os place) fs) = has_none fs

module _ (s : Syntax) (room : ℕ) (rule : Option Rule) (k : ℕ) (k_ok : leb k 2147483647 ≡ true) where
  -- a name, a number and options behind a type
  plain_read : (t : FieldType) → TypeOk s t room → no_group t → (n : Bytes) (os : List ProtoOption) → All (OptionOk room) os → (us : p.Tokens) (rest : Ahead) →
      g.plain_field (g.nested s room) rule nowhere (unplaced (p.type t (Token.ident n ∷ p.sign g.equals ∷ Token.number k ∷ p.bracketed_options os (p.sign g.semicolon ∷ us))) rest)
      ≡ ok (one (Item.field rule n k nowhere) (type_tree t beside trees option_tree os)) (unplaced us rest)
  unfolding g.plain_field g.field_number accept peek ◌>>=◌ ◌>>◌ return look take expect due with_some given◌then◌else◌
  plain_read t h g n os hs us rest =
      run _ (type_read s t room h g _ rest refl)
      (rw k_ok (run _ (bracketed_read s room os hs us rest) refl))

  group_read : (name : Bytes) (fs : Fields) (inner : ℕ) → g.capital name ≡ true → Reads (g.nested s (suc inner) (g.Bracket.body g.Mode.message)) (p.body (p.fields fs)) (fields_tree fs) → (us : p.Tokens) (rest : Ahead) →
      g.group (g.nested s (suc inner)) rule nowhere (next (Token.ident name) nowhere (next (p.sign g.equals) nowhere (next (Token.number k) nowhere (unplaced (p.body (p.fields fs) us) rest))))
      ≡ ok (one (Item.field rule [] k nowhere) (one (Item.type (Shape.group name)) (fields_tree fs))) (unplaced us rest)
  unfolding g.group g.group_name g.field_number ◌>>=◌ ◌>>◌ return look take expect due with_some given◌then◌else◌
  group_read name fs inner c h us rest = rw c (rw k_ok (run _ (h us rest) (rw (has_none fs) refl)))

abbrev GroupWord : FieldType → Type 0
GroupWord (FieldType.scalar x) = Unit {0}
GroupWord (FieldType.named t) = PathSkips t group_word
GroupWord (FieldType.map_of k v) = Unit {0}
GroupWord (FieldType.group n fs) = Unit {0}

abbrev field_tail : FieldType → Bytes → ℕ → List ProtoOption → p.Printer
field_tail t n k os us = p.type t (p.field_name t n (p.sign g.equals ∷ Token.number k ∷ p.field_end t os us))

group_word_of : (s : Syntax) (mode : g.Mode) (r : Option Rule) (t : FieldType) → LabelOk s mode r t → GroupWord t
group_word_of s mode (some r) (FieldType.scalar x) h = tt
group_word_of s mode (some r) (FieldType.named t) h = h.1
group_word_of s mode (some r) (FieldType.map_of k v) h = tt
group_word_of s mode (some r) (FieldType.group n fs) h = tt
group_word_of s mode none (FieldType.scalar x) h = tt
group_word_of s mode none (FieldType.named t) h = h.3
group_word_of s mode none (FieldType.map_of k v) h = tt
group_word_of s mode none (FieldType.group n fs) h = tt

allowed_of : (s : Syntax) (mode : g.Mode) (r : Rule) (t : FieldType) → LabelOk s mode (some r) t → g.label_allowed s mode r ≡ true
allowed_of s mode r (FieldType.scalar x) h = h
allowed_of s mode r (FieldType.named t) h = h.0
allowed_of s mode r (FieldType.map_of k v) h = h
allowed_of s mode r (FieldType.group n fs) h = h

ident-begins : (w : Bytes) → skips (Token.ident w) statement_words ≡ true → Begins (Token.ident w)
ident-begins w h = record { no_statement = h; no_close = refl; no_empty = refl }

rule_begins : (r : Rule) → Begins (Token.ident (rule_word r))
rule_begins Rule.Optional = ident-begins _ refl
rule_begins Rule.Repeated = ident-begins _ refl
rule_begins Rule.Required = ident-begins _ refl

path-begins : {t : Bytes} (h : FullOk t) → PathSkips t statement_words → Begins (first_token h)
path-begins (relative k) e = ident-begins _ (path-skips (relative k) statement_words e)
path-begins (absolute k) e = record { no_statement = symbol-skips g.dot statement_words; no_close = refl; no_empty = refl }

module _ (s : Syntax) (mode : g.Mode) (room : ℕ) where
  -- the turn of a field, given how what stands after its label is read
  labelled : (r : Option Rule) (t : FieldType) (n : Bytes) (k : ℕ) (os : List ProtoOption) (x : Forest) → TypeOk s t room → LabelOk s mode r t →
      Reads (after_label (g.nested s room) r) (field_tail t n k os) x → Reads (body_turn s room mode) (p.◌·◌ (p.label r) (field_tail t n k os)) (some x)
  unfolding p.type
  labelled (some r) t n k os x h l e us rest = field-turn s room mode (Token.ident (rule_word r)) refl (rule_begins r) (label_read s mode r _ (allowed_of s mode r t l)) (e us rest)
  labelled none (FieldType.scalar y) n k os x h l e us rest =
      field-turn s room mode (Token.ident (scalar_word y)) refl (ident-begins _ (skips-left (Token.ident (scalar_word y)) statement_words (label_words ++ group_word) (scalar-skips y)))
      (no_label s mode _ _ (skips-left (Token.ident (scalar_word y)) label_words group_word (skips_right (Token.ident (scalar_word y)) statement_words (label_words ++ group_word) (scalar-skips y))) l) (e us rest)
  labelled none (FieldType.named t) n k os x h l e us rest =
      field-turn s room mode (first_token h.0) (ap (λ ts. unplaced ts rest) (full_starts h.0 _)) (path-begins h.0 l.1)
      (subst (λ ts. g.label s mode (unplaced ts rest) ≡ ok none (unplaced ts rest)) (sym (full_starts h.0 (p.field_name (FieldType.named t) n (p.sign g.equals ∷ Token.number k ∷ p.field_end (FieldType.named t) os us))))
      (no_label s mode _ _ (path-skips h.0 label_words l.2) l.0)) (e us rest)
  labelled none (FieldType.map_of c v) n k os x h l e us rest = field-turn s room mode (Token.ident (codes "map")) refl (ident-begins _ refl) (map-label s mode _ l) (e us rest)
  labelled none (FieldType.group m fs) n k os x h l e us rest = field-turn s room mode (Token.ident (codes "group")) refl (ident-begins _ refl) (no_label s mode _ _ refl l) (e us rest)

module _ (s : Syntax) where
  mutual
    unfolding p.type p.field p.fields p.field_end type_tree field_tree fields_tree choose ◌>>=◌ ◌>>◌ return look take accept peek with_some given◌then◌else◌

    tail_read : (t : FieldType) (room : ℕ) → TypeOk s t room → GroupWord t → (r : Option Rule) (n : Bytes) (k : ℕ) (os : List ProtoOption) → leb k 2147483647 ≡ true → EndOk s room t n os →
        Reads (after_label (g.nested s room) r) (field_tail t n k os) (one (Item.field r (kept_name t n) k nowhere) (type_tree t beside trees option_tree os))
    tail_read (FieldType.scalar x) room h w r n k os k_ok e us rest =
        choose-skips (Token.ident (scalar_word x)) nowhere _ ((codes "group", g.group (g.nested s room) r nowhere) ∷ []) _ (skips_right (Token.ident (scalar_word x)) (statement_words ++ label_words) group_word (scalar-skips x))
        ∙ plain_read s room r k k_ok (FieldType.scalar x) h tt n os e us rest
    tail_read (FieldType.named t) room h w r n k os k_ok e us rest =
        ap (λ l. after_label (g.nested s room) r (unplaced l rest)) (full_starts h.0 _)
        ∙ choose-skips (first_token h.0) nowhere _ ((codes "group", g.group (g.nested s room) r nowhere) ∷ []) _ (path-skips h.0 group_word w)
        ∙ ap (λ l. g.plain_field (g.nested s room) r nowhere (unplaced l rest)) (sym (full_starts h.0 _))
        ∙ plain_read s room r k k_ok (FieldType.named t) h tt n os e us rest
    tail_read (FieldType.map_of c v) room h w r n k os k_ok e us rest = plain_read s room r k k_ok (FieldType.map_of c v) h tt n os e us rest
    tail_read (FieldType.group m fs) zero h w r n k os k_ok e us rest = absurd h
    tail_read (FieldType.group m fs) (suc room) h w r n k os k_ok e us rest =
        group_read s (suc room) r k k_ok m fs room h.0 (λ vs b. body_read s room g.Mode.message (p.fields fs) (λ y. fields_tree fs beside y) (fields-run fs room h.1) vs b ∙ ap (λ f. ok f (unplaced vs b)) (beside_nothing (fields_tree fs))) us rest
        ∙ ap (λ os. ok (one (Item.field r [] k nowhere) (node (Item.type (Shape.group m)) (fields_tree fs) (trees option_tree os))) (unplaced us rest)) (sym e.1)

    pub field_read : (f : Field) (mode : g.Mode) (room : ℕ) → FieldOk s f mode room → Reads (body_turn s room mode) (p.field f) (some (field_tree f))
    field_read (Field.field r t n k os place) mode room h = labelled s mode room r t n k os _ h.0 h.1 (tail_read t room h.0 (group_word_of s mode r t h.1) r n k os h.3 h.2)

    pub fields-run : (fs : Fields) (room : ℕ) → FieldsOk s fs room → Runs ◌beside◌ nothing (body_turn s room g.Mode.message) (p.fields fs) (λ y. fields_tree fs beside y)
    fields-run no_fields room h us rest y b e = e
    fields-run (next_field f fs) room h us rest y b e =
        run-one ◌beside◌ nothing (body_turn s room g.Mode.message) (body_turns s room g.Mode.message) (p.field f) (field_tree f) (field_read f g.Mode.message room h.0) _ rest _ b (fields-run fs room h.1 us rest y b e) ∙ ap (λ f. ok f b) (sym (beside_assoc (field_tree f) (fields_tree fs) y))
