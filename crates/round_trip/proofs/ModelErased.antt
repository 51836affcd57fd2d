-- The model of a tree without places is the model without places; and places take no room.
use Rattle.std.proofs.Common.{◌≡◌, ℕ, ◌+◌, Bool, List, [], ◌∷◌, ◌++◌, map, Option, sym, refl, ap, ◌∙◌, ap₂}
use Rattle.token.specs.declared.answer.Place.{Place}
use Rattle.token.specs.Token.{nowhere, Bytes}
use Rattle.grammar.specs.declared.kinds.Rule.{Rule}
use Rattle.grammar.specs.Tree.{Item, Value, Shape, Forest, nothing, node, Tree, item_text, records, text}
use Rattle.grammar.specs.Model as m
use Rattle.grammar.specs.Model.{Piece, Held, Declared, Other, Part, FieldType, Field, Fields, Messages, piece, held, declared, other, found, in_pieces, in_held, in_declared, in_other}
use Rattle.grammar.specs.Erase.{type_erased, field_erased, fields_erased, oneof_erased, member_erased, extension_erased, enum_erased, service_erased, contents_erased, messages_erased, erased}
use Rattle.round_trip.specs.Alike.{item_erased, forest_erased, tree_erased}

-- ---- a part without places
abbrev piece_erased : Piece → Piece
piece_erased (Piece.name_part n) = Piece.name_part n
piece_erased (Piece.constant c) = Piece.constant c
piece_erased (Piece.entry k c) = Piece.entry k c
piece_erased (Piece.type t) = Piece.type (type_erased t)

abbrev declared_erased : Declared → Declared
declared_erased (Declared.field f) = Declared.field (field_erased f)
declared_erased (Declared.oneof o) = Declared.oneof (oneof_erased o)
declared_erased (Declared.message n c p ms) = Declared.message n (contents_erased c) nowhere (messages_erased ms)
declared_erased (Declared.enum e) = Declared.enum (enum_erased e)
declared_erased (Declared.extension e) = Declared.extension (extension_erased e)

abbrev other_erased : Other → Other
other_erased (Other.import i) = Other.import i
other_erased (Other.enum_value v) = Other.enum_value v
other_erased (Other.method x) = Other.method x
other_erased (Other.service s) = Other.service (service_erased s)

abbrev part_erased : Part → Part
part_erased (piece x) = piece (piece_erased x)
part_erased (held x) = held x
part_erased (declared x) = declared (declared_erased x)
part_erased (other x) = other (other_erased x)

abbrev all_erased : List Part → List Part
all_erased = map part_erased

-- ---- what is found in parts without places
map-append : {A B : Type 0} (f : A → B) (xs ys : List A) → map f (xs ++ ys) ≡ map f xs ++ map f ys
map-append f [] ys = refl
map-append f (x ∷ xs) ys = ap (λ zs. f x ∷ zs) (map-append f xs ys)

module _ {A : Type 0} where
  found-same : (f : Part → List A) → ((p : Part) → f (part_erased p) ≡ f p) → (ps : List Part) → found f (all_erased ps) ≡ found f ps
  found-same f h [] = refl
  found-same f h (p ∷ ps) = ap₂ ◌++◌ (h p) (found-same f h ps)

  found-erased : (f : Part → List A) (e : A → A) → ((p : Part) → f (part_erased p) ≡ map e (f p)) → (ps : List Part) → found f (all_erased ps) ≡ map e (found f ps)
  found-erased f e h [] = refl
  found-erased f e h (p ∷ ps) = ap₂ ◌++◌ (h p) (found-erased f e h ps) ∙ sym (map-append e (f p) (found f ps))

  pieces_same : (f : Piece → List A) → ((x : Piece) → f (piece_erased x) ≡ f x) → (p : Part) → in_pieces f (part_erased p) ≡ in_pieces f p
  pieces_same f h (piece x) = h x
  pieces_same f h (held x) = refl
  pieces_same f h (declared x) = refl
  pieces_same f h (other x) = refl

  pieces_erased : (f : Piece → List A) (e : A → A) → ((x : Piece) → f (piece_erased x) ≡ map e (f x)) → (p : Part) → in_pieces f (part_erased p) ≡ map e (in_pieces f p)
  pieces_erased f e h (piece x) = h x
  pieces_erased f e h (held x) = refl
  pieces_erased f e h (declared x) = refl
  pieces_erased f e h (other x) = refl

  held_same : (f : Held → List A) (p : Part) → in_held f (part_erased p) ≡ in_held f p
  held_same f (piece x) = refl
  held_same f (held x) = refl
  held_same f (declared x) = refl
  held_same f (other x) = refl

  declared-map : (f : Declared → List A) (e : A → A) → ((x : Declared) → f (declared_erased x) ≡ map e (f x)) → (p : Part) → in_declared f (part_erased p) ≡ map e (in_declared f p)
  declared-map f e h (piece x) = refl
  declared-map f e h (held x) = refl
  declared-map f e h (declared x) = h x
  declared-map f e h (other x) = refl

  other-same : (f : Other → List A) → ((x : Other) → f (other_erased x) ≡ f x) → (p : Part) → in_other f (part_erased p) ≡ in_other f p
  other-same f h (piece x) = refl
  other-same f h (held x) = refl
  other-same f h (declared x) = refl
  other-same f h (other x) = h x

  other-map : (f : Other → List A) (e : A → A) → ((x : Other) → f (other_erased x) ≡ map e (f x)) → (p : Part) → in_other f (part_erased p) ≡ map e (in_other f p)
  other-map f e h (piece x) = refl
  other-map f e h (held x) = refl
  other-map f e h (declared x) = refl
  other-map f e h (other x) = h x

name_parts-same : (ps : List Part) → m.name_parts (all_erased ps) ≡ m.name_parts ps
name_parts-same = found-same _ (pieces_same _ (elim [ Piece.name_part n ↦ refl | Piece.constant c ↦ refl | Piece.entry k c ↦ refl | Piece.type t ↦ refl ]))

constants-same : (ps : List Part) → m.constants (all_erased ps) ≡ m.constants ps
constants-same = found-same _ (pieces_same _ (elim [ Piece.name_part n ↦ refl | Piece.constant c ↦ refl | Piece.entry k c ↦ refl | Piece.type t ↦ refl ]))

entries-same : (ps : List Part) → m.entries (all_erased ps) ≡ m.entries ps
entries-same = found-same _ (pieces_same _ (elim [ Piece.name_part n ↦ refl | Piece.constant c ↦ refl | Piece.entry k c ↦ refl | Piece.type t ↦ refl ]))

types-erased : (ps : List Part) → m.types (all_erased ps) ≡ map type_erased (m.types ps)
types-erased = found-erased _ _ (pieces_erased _ _ (elim [ Piece.name_part n ↦ refl | Piece.constant c ↦ refl | Piece.entry k c ↦ refl | Piece.type t ↦ refl ]))

options-same : (ps : List Part) → m.options (all_erased ps) ≡ m.options ps
options-same = found-same _ (held_same _)

reserved_ranges-same : (ps : List Part) → m.reserved_ranges (all_erased ps) ≡ m.reserved_ranges ps
reserved_ranges-same = found-same _ (held_same _)

reserved_names-same : (ps : List Part) → m.reserved_names (all_erased ps) ≡ m.reserved_names ps
reserved_names-same = found-same _ (held_same _)

extension_ranges-same : (ps : List Part) → m.extension_ranges (all_erased ps) ≡ m.extension_ranges ps
extension_ranges-same = found-same _ (held_same _)

fields_map : (ps : List Part) → m.fields (all_erased ps) ≡ map field_erased (m.fields ps)
fields_map = found-erased _ _ (declared-map _ _ (elim [ Declared.field f ↦ refl | Declared.oneof o ↦ refl | Declared.message n c p ms ↦ refl | Declared.enum e ↦ refl | Declared.extension e ↦ refl ]))

members-map : (ps : List Part) → m.members (all_erased ps) ≡ map member_erased (m.members ps)
members-map = found-erased _ _ (declared-map _ _ (elim [ Declared.field f ↦ refl | Declared.oneof o ↦ refl | Declared.message n c p ms ↦ refl | Declared.enum e ↦ refl | Declared.extension e ↦ refl ]))

enums-map : (ps : List Part) → m.enums (all_erased ps) ≡ map enum_erased (m.enums ps)
enums-map = found-erased _ _ (declared-map _ _ (elim [ Declared.field f ↦ refl | Declared.oneof o ↦ refl | Declared.message n c p ms ↦ refl | Declared.enum e ↦ refl | Declared.extension e ↦ refl ]))

extensions-map : (ps : List Part) → m.extensions (all_erased ps) ≡ map extension_erased (m.extensions ps)
extensions-map = found-erased _ _ (declared-map _ _ (elim [ Declared.field f ↦ refl | Declared.oneof o ↦ refl | Declared.message n c p ms ↦ refl | Declared.enum e ↦ refl | Declared.extension e ↦ refl ]))

imports-same : (ps : List Part) → m.imports (all_erased ps) ≡ m.imports ps
imports-same = found-same _ (other-same _ (elim [ Other.import i ↦ refl | Other.enum_value v ↦ refl | Other.method x ↦ refl | Other.service s ↦ refl ]))

enum_values-same : (ps : List Part) → m.enum_values (all_erased ps) ≡ m.enum_values ps
enum_values-same = found-same _ (other-same _ (elim [ Other.import i ↦ refl | Other.enum_value v ↦ refl | Other.method x ↦ refl | Other.service s ↦ refl ]))

methods-same : (ps : List Part) → m.methods (all_erased ps) ≡ m.methods ps
methods-same = found-same _ (other-same _ (elim [ Other.import i ↦ refl | Other.enum_value v ↦ refl | Other.method x ↦ refl | Other.service s ↦ refl ]))

services-map : (ps : List Part) → m.services (all_erased ps) ≡ map service_erased (m.services ps)
services-map = found-erased _ _ (other-map _ _ (elim [ Other.import i ↦ refl | Other.enum_value v ↦ refl | Other.method x ↦ refl | Other.service s ↦ refl ]))

messages-map : (ps : List Part) → m.messages (all_erased ps) ≡ messages_erased (m.messages ps)
unfolding messages_erased
messages-map [] = refl
messages-map (piece x ∷ ps) = messages-map ps
messages-map (held x ∷ ps) = messages-map ps
messages-map (declared (Declared.field f) ∷ ps) = messages-map ps
messages-map (declared (Declared.oneof o) ∷ ps) = messages-map ps
messages-map (declared (Declared.message n c p ms) ∷ ps) = ap (Messages.next_message n (contents_erased c) nowhere (messages_erased ms)) (messages-map ps)
messages-map (declared (Declared.enum e) ∷ ps) = messages-map ps
messages-map (declared (Declared.extension e) ∷ ps) = messages-map ps
messages-map (other x ∷ ps) = messages-map ps

-- ---- what one item means
the_type-erased : (ts : List FieldType) → m.the_type (map type_erased ts) ≡ type_erased (m.the_type ts)
unfolding type_erased
the_type-erased [] = refl
the_type-erased (t ∷ ts) = refl

type_pair-erased : (ts : List FieldType) → m.type_pair (map type_erased ts) ≡ type_erased (m.type_pair ts)
unfolding type_erased
type_pair-erased [] = refl
type_pair-erased (t ∷ ts) = ap (FieldType.map_of (type_erased t)) (the_type-erased ts)

all_fields-erased : (fs : List Field) → m.all_fields (map field_erased fs) ≡ fields_erased (m.all_fields fs)
unfolding fields_erased
all_fields-erased [] = refl
all_fields-erased (f ∷ fs) = ap (Fields.next_field (field_erased f)) (all_fields-erased fs)

field_name-erased : (t : FieldType) (n : Bytes) → m.field_name (type_erased t) n ≡ m.field_name t n
unfolding type_erased
field_name-erased (FieldType.scalar s) n = refl
field_name-erased (FieldType.named p) n = refl
field_name-erased (FieldType.map_of k v) n = refl
field_name-erased (FieldType.group g fs) n = refl

type_from-erased : (s : Shape) (ps : List Part) → m.type_from s (all_erased ps) ≡ type_erased (m.type_from s ps)
unfolding type_erased
type_from-erased (Shape.scalar s) ps = refl
type_from-erased (Shape.named n) ps = refl
type_from-erased Shape.map ps = ap m.type_pair (types-erased ps) ∙ type_pair-erased (m.types ps)
type_from-erased (Shape.group n) ps = ap (λ fs. FieldType.group n (m.all_fields fs)) (fields_map ps) ∙ ap (FieldType.group n) (all_fields-erased (m.fields ps))

constant_from-same : (v : Value) (ps : List Part) → m.constant_from v (all_erased ps) ≡ m.constant_from v ps
constant_from-same (Value.unsigned n) ps = refl
constant_from-same (Value.minus n) ps = refl
constant_from-same (Value.float b t) ps = refl
constant_from-same (Value.truth b) ps = refl
constant_from-same (Value.path t) ps = refl
constant_from-same (Value.string t) ps = refl
constant_from-same Value.message ps = ap (λ es. m.Constant.message (m.all_entries es)) (entries-same ps)
constant_from-same Value.list ps = ap (λ cs. m.Constant.list (m.all_constants cs)) (constants-same ps)

field_from-erased : (r : Option Rule) (n : Bytes) (k : ℕ) (p : Place) (ps : List Part) → m.field_from r n k nowhere (all_erased ps) ≡ field_erased (m.field_from r n k p ps)
unfolding field_erased
field_from-erased r n k p ps =
    let t = m.the_type (m.types ps) in
    let e : m.the_type (m.types (all_erased ps)) ≡ type_erased t = ap m.the_type (types-erased ps) ∙ the_type-erased (m.types ps) in
    ap₂ (λ u os. Field.field r u (m.field_name u n) k os nowhere) e (options-same ps) ∙ ap (λ w. Field.field r (type_erased t) w k (m.options ps) nowhere) (field_name-erased t n)

the_field-erased : (fs : List Field) → m.the_field (map field_erased fs) ≡ field_erased (m.the_field fs)
unfolding field_erased type_erased
the_field-erased [] = refl
the_field-erased (f ∷ fs) = refl

contents-map : (ps : List Part) → m.contents (all_erased ps) ≡ contents_erased (m.contents ps)
contents-map ps = λ i. record {
  options = options-same ps i;
  numbers = reserved_ranges-same ps i;
  names = reserved_names-same ps i;
  extensible = extension_ranges-same ps i;
  members = members-map ps i;
  enums = enums-map ps i;
  extensions = extensions-map ps i;
}

part-map : (x : Item) (ps : List Part) → m.part (item_erased x) (all_erased ps) ≡ part_erased (m.part x ps)
part-map (Item.import v p) ps = refl
part-map Item.option ps = λ i. held (Held.option (record { name = name_parts-same ps i; value = m.first_or (m.Constant.truth Bool.false) (constants-same ps i) }))
part-map (Item.direct_part n) ps = refl
part-map (Item.extension_part p) ps = refl
part-map (Item.constant v) ps = ap (λ c. piece (Piece.constant c)) (constant_from-same v ps)
part-map (Item.key k) ps = ap (λ cs. piece (Piece.entry k (m.first_or (m.Constant.truth Bool.false) cs))) (constants-same ps)
part-map (Item.reserved_range a b) ps = refl
part-map (Item.extension_range a b) ps = refl
part-map (Item.reserved_name n) ps = refl
part-map (Item.message n p) ps = ap₂ (λ c ms. declared (Declared.message n c nowhere ms)) (contents-map ps) (messages-map ps)
part-map (Item.field r n k p) ps = ap (λ f. declared (Declared.field f)) (field_from-erased r n k p ps)
part-map (Item.type s) ps = ap (λ t. piece (Piece.type t)) (type_from-erased s ps)
part-map (Item.oneof n p) ps = λ i. declared (Declared.oneof (record { name = n; options = options-same ps i; fields = fields_map ps i; place = nowhere }))
part-map (Item.extension e) ps = ap (λ f. declared (Declared.extension (record { extendee = e; extends = f }))) (ap m.the_field (fields_map ps) ∙ the_field-erased (m.fields ps))
part-map (Item.enum n p) ps = λ i. declared (Declared.enum (record { name = n; options = options-same ps i; numbers = reserved_ranges-same ps i; names = reserved_names-same ps i; values = enum_values-same ps i; place = nowhere }))
part-map (Item.enum_value n k) ps = λ i. other (Other.enum_value (record { name = n; number = k; options = options-same ps i }))
part-map (Item.service n p) ps = λ i. other (Other.service (record { name = n; options = options-same ps i; methods = methods-same ps i; place = nowhere }))
part-map (Item.method n ci a co b) ps = λ i. other (Other.method (record { name = n; from_client = ci; input = a; from_server = co; output = b; options = options-same ps i }))

parts-map : (f : Forest) → m.parts_of (forest_erased f) ≡ all_erased (m.parts_of f)
unfolding m.parts_of
parts-map nothing = refl
parts-map (node x inner rest) = ap₂ ◌∷◌ (ap (m.part (item_erased x)) (parts-map inner) ∙ part-map x (m.parts_of inner)) (parts-map rest)

pub model-erased : (t : Tree) → m.model (tree_erased t) ≡ erased (m.model t)
unfolding m.model erased
model-erased t = ap at (parts-map t.items) ∙ go (m.parts_of t.items)
  where
    at : List Part → m.FileDescriptor
    at ps = record { syntax = t.syntax; imports = m.imports ps; package_path = m.last_or [] t.packages; options = m.options ps; messages = m.messages ps; enums = m.enums ps; extensions = m.extensions ps; services = m.services ps }

    go : (ps : List Part) → at (all_erased ps) ≡ erased (at ps)
    go ps = λ i. record { syntax = t.syntax; imports = imports-same ps i; package_path = m.last_or [] t.packages; options = options-same ps i; messages = messages-map ps i; enums = enums-map ps i; extensions = extensions-map ps i; services = services-map ps i }

-- ---- room
item_text-same : (x : Item) → item_text (item_erased x) ≡ item_text x
item_text-same (Item.import v p) = refl
item_text-same Item.option = refl
item_text-same (Item.direct_part n) = refl
item_text-same (Item.extension_part p) = refl
item_text-same (Item.constant v) = refl
item_text-same (Item.key k) = refl
item_text-same (Item.reserved_range a b) = refl
item_text-same (Item.extension_range a b) = refl
item_text-same (Item.reserved_name n) = refl
item_text-same (Item.message n p) = refl
item_text-same (Item.field r n k p) = refl
item_text-same (Item.type s) = refl
item_text-same (Item.oneof n p) = refl
item_text-same (Item.extension p) = refl
item_text-same (Item.enum n p) = refl
item_text-same (Item.enum_value n k) = refl
item_text-same (Item.service n p) = refl
item_text-same (Item.method n ci a co b) = refl

pub records-same : (f : Forest) → records (forest_erased f) ≡ records f
unfolding records
records-same nothing = refl
records-same (node x p r) = ap₂ (λ a b. 1 + a + b) (records-same p) (records-same r)

pub text_same : (f : Forest) → text (forest_erased f) ≡ text f
unfolding text
text_same nothing = refl
text_same (node x p r) = ap₂ ◌+◌ (ap₂ ◌+◌ (item_text-same x) (text_same p)) (text_same r)
