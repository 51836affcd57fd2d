-- The tree that a printed file is read as takes no more room than the tree that the file came from.
use Rattle.std.proofs.Common.{◌≡◌, ℕ, ◌+◌, ◌<◌, ◌≤◌, false, List, [], ◌∷◌, length, Option, refl, ◌∙◌, arith}
use Rattle.token.specs.declared.answer.Place.{Place}
use Rattle.token.specs.Token.{nowhere, Bytes}
use Rattle.grammar.specs.declared.kinds.Rule.{Rule}
use Rattle.grammar.specs.Tree.{Key, Value, Shape, Item, Forest, nothing, node, one, ◌beside◌, Tree, records, text, lengths, item_text, tree_records, tree_text}
use Rattle.grammar.specs.Model as m
use Rattle.grammar.specs.Model.{Constant, FieldType, Field, Messages, no_messages, next_message, Part, Piece, Held, Declared, Other, parts_of, part, model, last_or}
use Rattle.round_trip.specs.Room.{Complete, Shaped, Named, RoomBack}
use Rattle.round_trip.specs.Canon.{adding, constant_tree, constants_tree, entries_tree, part_tree, option_tree, range_tree, name_tree, kept_name, type_tree, field_tree, fields_tree, member_tree, extension_tree, value_tree, enum_tree, contents_tree, messages_tree, method_tree, service_tree, import_tree, package_list, tree_of}

-- ---- a forest's size, by what each record weighs
unfoldable pub size : (Item → ℕ) → Forest → ℕ
size w nothing = 0
size w (node item parts rest) = w item + size w parts + size w rest

unfoldable pub total : {X : Type 0} → (Item → ℕ) → (X → Forest) → List X → ℕ
total w tree [] = 0
total w tree (x ∷ xs) = size w (tree x) + total w tree xs

pub size_one : (w : Item → ℕ) (i : Item) (f : Forest) → size w (one i f) ≡ w i + size w f
unfolding size
size_one w i f = omega arith

pub size_beside : (w : Item → ℕ) (f h : Forest) → size w (f beside h) ≡ size w f + size w h
unfolding size
size_beside w nothing h = omega arith
size_beside w (node i p r) h = let ih = size_beside w r h in omega arith

pub size_adding : {X : Type 0} (w : Item → ℕ) (tree : X → Forest) (xs : List X) (y : Forest) → size w (adding ◌beside◌ tree xs y) ≡ total w tree xs + size w y
unfolding total
size_adding w tree [] y = omega arith
size_adding w tree (x ∷ xs) y = let ih = size_adding w tree xs y in size_beside w (tree x) (adding ◌beside◌ tree xs y) ∙ omega arith

-- messages alone
unfoldable pub total_messages : (Item → ℕ) → Messages → ℕ
total_messages w ms = size w (messages_tree ms nothing)

pub size_messages : (w : Item → ℕ) (ms : Messages) (y : Forest) → size w (messages_tree ms y) ≡ total_messages w ms + size w y
unfolding size messages_tree total_messages
size_messages w no_messages y = omega arith
size_messages w (next_message n c p inner rest) y = let ih = size_messages w rest y in omega arith

pub messages-next : (w : Item → ℕ) (n : Bytes) (c : m.Contents) (p : Place) (inner rest : Messages) → total_messages w (next_message n c p inner rest) ≡ w (Item.message n nowhere) + size w (contents_tree c (messages_tree inner)) + total_messages w rest
unfolding size messages_tree total_messages
messages-next w n c p inner rest = refl

pub size_records : (f : Forest) → size (λ i. 1) f ≡ records f
unfolding size records
size_records nothing = refl
size_records (node i p r) = let a = size_records p in let b = size_records r in omega arith

pub size_text : (f : Forest) → size item_text f ≡ text f
unfolding size text
size_text nothing = refl
size_text (node i p r) = let a = size_text p in let b = size_text r in omega arith

-- ---- what a part of the model weighs
abbrev part_forest : Part → Forest
part_forest (Part.piece (Piece.name_part n)) = part_tree n
part_forest (Part.piece (Piece.constant c)) = constant_tree c
part_forest (Part.piece (Piece.entry k c)) = one (Item.key k) (constant_tree c)
part_forest (Part.piece (Piece.type t)) = type_tree t
part_forest (Part.held (Held.option o)) = option_tree o
part_forest (Part.held (Held.reserved_range r)) = range_tree Item.reserved_range r
part_forest (Part.held (Held.reserved_name n)) = name_tree n
part_forest (Part.held (Held.extension_range r)) = range_tree Item.extension_range r
part_forest (Part.declared (Declared.field f)) = field_tree f
part_forest (Part.declared (Declared.oneof o)) = member_tree (m.Member.oneof o)
part_forest (Part.declared (Declared.message n c p ms)) = one (Item.message n nowhere) (contents_tree c (messages_tree ms))
part_forest (Part.declared (Declared.enum e)) = enum_tree e
part_forest (Part.declared (Declared.extension e)) = extension_tree e
part_forest (Part.other (Other.import i)) = import_tree i
part_forest (Part.other (Other.enum_value v)) = value_tree v
part_forest (Part.other (Other.method x)) = method_tree x
part_forest (Part.other (Other.service s)) = service_tree s

abbrev entry_tree : Key × Constant → Forest
entry_tree e = one (Item.key e.0) (constant_tree e.1)

module _ (w : Item → ℕ) where
  -- all that can be found in parts, kind by kind
  abbrev found_all : List Part → ℕ
  found_all ps =
      total w part_tree (m.name_parts ps) + total w constant_tree (m.constants ps) + total w entry_tree (m.entries ps) + total w type_tree (m.types ps)
      + (total w option_tree (m.options ps) + total w (range_tree Item.reserved_range) (m.reserved_ranges ps) + total w name_tree (m.reserved_names ps) + total w (range_tree Item.extension_range) (m.extension_ranges ps))
      + (total w member_tree (m.members ps) + total_messages w (m.messages ps) + total w enum_tree (m.enums ps) + total w extension_tree (m.extensions ps))
      + (total w import_tree (m.imports ps) + total w value_tree (m.enum_values ps) + total w method_tree (m.methods ps) + total w service_tree (m.services ps))

  -- each part is found once
  found_once : (ps : List Part) → found_all ps ≡ total w part_forest ps
  unfolding total size messages_tree total_messages
  found_once [] = omega arith
  found_once (Part.piece (Piece.name_part n) ∷ ps) = let ih = found_once ps in omega arith
  found_once (Part.piece (Piece.constant c) ∷ ps) = let ih = found_once ps in omega arith
  found_once (Part.piece (Piece.entry k c) ∷ ps) = let ih = found_once ps in omega arith
  found_once (Part.piece (Piece.type t) ∷ ps) = let ih = found_once ps in omega arith
  found_once (Part.held (Held.option o) ∷ ps) = let ih = found_once ps in omega arith
  found_once (Part.held (Held.reserved_range r) ∷ ps) = let ih = found_once ps in omega arith
  found_once (Part.held (Held.reserved_name n) ∷ ps) = let ih = found_once ps in omega arith
  found_once (Part.held (Held.extension_range r) ∷ ps) = let ih = found_once ps in omega arith
  found_once (Part.declared (Declared.field f) ∷ ps) = let ih = found_once ps in omega arith
  found_once (Part.declared (Declared.oneof o) ∷ ps) = let ih = found_once ps in omega arith
  found_once (Part.declared (Declared.message n c p ms) ∷ ps) = let ih = found_once ps in omega arith
  found_once (Part.declared (Declared.enum e) ∷ ps) = let ih = found_once ps in omega arith
  found_once (Part.declared (Declared.extension e) ∷ ps) = let ih = found_once ps in omega arith
  found_once (Part.other (Other.import i) ∷ ps) = let ih = found_once ps in omega arith
  found_once (Part.other (Other.enum_value v) ∷ ps) = let ih = found_once ps in omega arith
  found_once (Part.other (Other.method x) ∷ ps) = let ih = found_once ps in omega arith
  found_once (Part.other (Other.service s) ∷ ps) = let ih = found_once ps in omega arith

  -- fields are members
  fields-members : (ps : List Part) → total w field_tree (m.fields ps) ≤ total w member_tree (m.members ps)
  unfolding total
  fields-members [] = omega arith
  fields-members (Part.piece x ∷ ps) = fields-members ps
  fields-members (Part.held x ∷ ps) = fields-members ps
  fields-members (Part.declared (Declared.field f) ∷ ps) = let ih = fields-members ps in omega arith
  fields-members (Part.declared (Declared.oneof o) ∷ ps) = let ih = fields-members ps in omega arith
  fields-members (Part.declared (Declared.message n c p ms) ∷ ps) = fields-members ps
  fields-members (Part.declared (Declared.enum e) ∷ ps) = fields-members ps
  fields-members (Part.declared (Declared.extension e) ∷ ps) = fields-members ps
  fields-members (Part.other x ∷ ps) = fields-members ps

  -- what is made of a list
  first_in : {X : Type 0} (tree : X → Forest) (d : X) (xs : List X) → 1 ≤ length xs → size w (tree (m.first_or d xs)) ≤ total w tree xs
  unfolding total
  first_in tree d [] h = omega arith
  first_in tree d (x ∷ xs) h = omega arith

  pair_in : (ts : List FieldType) → 2 ≤ length ts → size w (type_tree (m.type_pair ts)) ≤ w (Item.type Shape.map) + total w type_tree ts
  unfolding total type_tree size
  pair_in [] h = omega arith
  pair_in (t ∷ []) h = omega arith
  pair_in (t ∷ u ∷ us) h = simp size_beside (omega arith)

  constants_in : (cs : List Constant) → size w (constants_tree (m.all_constants cs)) ≡ total w constant_tree cs
  unfolding total constants_tree size
  constants_in [] = refl
  constants_in (c ∷ cs) = let ih = constants_in cs in size_beside w (constant_tree c) _ ∙ omega arith

  entries_in : (es : List (Key × Constant)) → size w (entries_tree (m.all_entries es)) ≡ total w entry_tree es
  unfolding total entries_tree size
  entries_in [] = refl
  entries_in (e ∷ es) = let ih = entries_in es in omega arith

  fields_in : (fs : List Field) → size w (fields_tree (m.all_fields fs)) ≡ total w field_tree fs
  unfolding total fields_tree size
  fields_in [] = refl
  fields_in (f ∷ fs) = let ih = fields_in fs in size_beside w (field_tree f) _ ∙ omega arith

-- ---- a weight by which no place counts, nor a name that is dropped
pub record Fair (w : Item → ℕ) : Type 0 where
  pub fair_message : (n : Bytes) (p : Place) → w (Item.message n nowhere) ≤ w (Item.message n p)
  pub fair_field : (r : Option Rule) (n : Bytes) (k : ℕ) (p : Place) → w (Item.field r n k nowhere) ≤ w (Item.field r n k p)
  pub fair_group : (r : Option Rule) (n : Bytes) (k : ℕ) (p : Place) → w (Item.field r [] k nowhere) ≤ w (Item.field r n k p)
  pub fair_oneof : (n : Bytes) (p : Place) → w (Item.oneof n nowhere) ≤ w (Item.oneof n p)
  pub fair_enum : (n : Bytes) (p : Place) → w (Item.enum n nowhere) ≤ w (Item.enum n p)
  pub fair_service : (n : Bytes) (p : Place) → w (Item.service n nowhere) ≤ w (Item.service n p)

module _ (w : Item → ℕ) (fair : Fair w) where
  kept_weighs : (t : FieldType) (r : Option Rule) (n : Bytes) (k : ℕ) (p : Place) → w (Item.field r (kept_name t (m.field_name t n)) k nowhere) ≤ w (Item.field r n k p)
  kept_weighs (FieldType.scalar s) r n k p = fair.fair_field r n k p
  kept_weighs (FieldType.named t) r n k p = fair.fair_field r n k p
  kept_weighs (FieldType.map_of s t) r n k p = fair.fair_field r n k p
  kept_weighs (FieldType.group g fs) r n k p = fair.fair_group r n k p

  constant_weighs : (v : Value) (ps : List Part) → size w (constant_tree (m.constant_from v ps)) ≤ w (Item.constant v) + total w part_forest ps
  unfolding size constant_tree
  constant_weighs (Value.unsigned n) ps = omega arith
  constant_weighs (Value.minus n) ps = omega arith
  constant_weighs (Value.float negative t) ps = omega arith
  constant_weighs (Value.truth b) ps = omega arith
  constant_weighs (Value.path t) ps = omega arith
  constant_weighs (Value.string t) ps = omega arith
  constant_weighs Value.message ps = omega (arith, found_once w ps, entries_in w (m.entries ps))
  constant_weighs Value.list ps = omega (arith, found_once w ps, constants_in w (m.constants ps))

  type_weighs : (s : Shape) (ps : List Part) → Complete (Item.type s) ps → size w (type_tree (m.type_from s ps)) ≤ w (Item.type s) + total w part_forest ps
  unfolding size type_tree
  type_weighs (Shape.scalar s) ps h = omega arith
  type_weighs (Shape.named n) ps h = omega arith
  type_weighs Shape.map ps h = omega (arith, found_once w ps, pair_in w (m.types ps) h)
  type_weighs (Shape.group n) ps h = omega (arith, found_once w ps, fields_in w (m.fields ps), fields-members w ps)

  -- a record of the model weighs no more than the record that it came from
  part_weighs : (i : Item) (ps : List Part) → Complete i ps → size w (part_forest (part i ps)) ≤ w i + total w part_forest ps
  unfolding size messages_tree field_tree
  part_weighs (Item.import v p) ps h = omega arith
  part_weighs Item.option ps h = simp (size_beside, size_adding) (omega (arith, found_once w ps, first_in w constant_tree (Constant.truth false) (m.constants ps) h))
  part_weighs (Item.direct_part n) ps h = omega arith
  part_weighs (Item.extension_part p) ps h = omega arith
  part_weighs (Item.constant v) ps h = constant_weighs v ps
  part_weighs (Item.key k) ps h = omega (arith, found_once w ps, first_in w constant_tree (Constant.truth false) (m.constants ps) h)
  part_weighs (Item.reserved_range m n) ps h = omega arith
  part_weighs (Item.extension_range m n) ps h = omega arith
  part_weighs (Item.reserved_name n) ps h = omega arith
  part_weighs (Item.message n p) ps h = simp (size_adding, size_messages) (omega (arith, found_once w ps, fair.fair_message n p))
  part_weighs (Item.field r n k p) ps h =
      simp (size_beside, size_adding) (omega (arith, found_once w ps, first_in w type_tree (FieldType.named []) (m.types ps) h, kept_weighs (m.the_type (m.types ps)) r n k p))
  part_weighs (Item.type s) ps h = type_weighs s ps h
  part_weighs (Item.oneof n p) ps h = simp size_adding (omega (arith, found_once w ps, fields-members w ps, fair.fair_oneof n p))
  part_weighs (Item.extension e) ps h = omega (arith, found_once w ps, fields-members w ps, first_in w field_tree (m.the_field []) (m.fields ps) h)
  part_weighs (Item.enum n p) ps h = simp size_adding (omega (arith, found_once w ps, fair.fair_enum n p))
  part_weighs (Item.enum_value n k) ps h = simp size_adding (omega (arith, found_once w ps))
  part_weighs (Item.service n p) ps h = simp size_adding (omega (arith, found_once w ps, fair.fair_service n p))
  part_weighs (Item.method n ci i co o) ps h = simp size_adding (omega (arith, found_once w ps))

  parts_weigh : (f : Forest) → Shaped f → total w part_forest (parts_of f) ≤ size w f
  unfolding total size parts_of
  parts_weigh nothing h = omega arith
  parts_weigh (node i p r) h = omega (arith, part_weighs i (parts_of p) h.0, parts_weigh p h.1, parts_weigh r h.2)

  pub items_weigh : (t : Tree) → Shaped t.items → size w (tree_of (model t)).items ≤ size w t.items
  unfolding tree_of model size
  items_weigh t h = simp (size_adding, size_messages) (omega (arith, found_once w (parts_of t.items), parts_weigh t.items h))

-- ---- packages
pub last_length : (d : Bytes) (ps : List Bytes) → length (last_or d ps) ≤ length d + lengths ps
unfolding lengths
last_length d [] = omega arith
last_length d (p ∷ ps) = omega (arith, last_length p ps)

package_length : (p : Bytes) → lengths (package_list p) ≡ length p
unfolding lengths
package_length [] = refl
package_length (c ∷ cs) = omega arith

one_by_each : Fair (λ i. 1)
one_by_each = record {
  fair_message = λ n p. omega arith;
  fair_field = λ r n k p. omega arith;
  fair_group = λ r n k p. omega arith;
  fair_oneof = λ n p. omega arith;
  fair_enum = λ n p. omega arith;
  fair_service = λ n p. omega arith;
}

text_by_each : Fair item_text
text_by_each = record {
  fair_message = λ n p. omega arith;
  fair_field = λ r n k p. omega arith;
  fair_group = λ r n k p. omega arith;
  fair_oneof = λ n p. omega arith;
  fair_enum = λ n p. omega arith;
  fair_service = λ n p. omega arith;
}

pub records-kept : (t : Tree) → Shaped t.items → tree_records (tree_of (model t)) ≤ tree_records t
records-kept t h = omega (arith, items_weigh (λ i. 1) one_by_each t h, size_records t.items, size_records (tree_of (model t)).items)

items-text-kept : (t : Tree) → Shaped t.items → text (tree_of (model t)).items ≤ text t.items
items-text-kept t h = omega (arith, items_weigh item_text text_by_each t h, size_text t.items, size_text (tree_of (model t)).items)

pub text-kept : (t : Tree) → Shaped t.items → tree_text (tree_of (model t)) ≤ tree_text t
unfolding tree_of model
text-kept t h = omega (arith, items-text-kept t h, package_length (last_or [] t.packages), last_length [] t.packages)

-- an earlier package is dropped
dropped : (ps : List Bytes) → Named ps → 2 ≤ length ps → length (last_or [] ps) < lengths ps
unfolding lengths
dropped [] n k = omega arith
dropped (p ∷ []) n k = omega arith
dropped (p ∷ q ∷ ps) n k = omega (arith, last_length q ps)

pub text_less : (t : Tree) → Shaped t.items → Named t.packages → 2 ≤ length t.packages → tree_text (tree_of (model t)) < tree_text t
unfolding tree_of model
text_less t h n k = omega (arith, items-text-kept t h, package_length (last_or [] t.packages), dropped t.packages n k)

pub room_back : RoomBack
room_back t h = record {
  no_more_records = records-kept t h.items_whole;
  no_more_text = text-kept t h.items_whole;
  less_text = text_less t h.items_whole h.packages_named;
}
