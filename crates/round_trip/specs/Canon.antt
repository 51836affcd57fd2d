-- The tree that a printed file is read as.
use Rattle.std.specs.Prelude.{ℕ, List, [], ◌∷◌}
use Rattle.token.specs.Token.{Bytes, nowhere}
use Rattle.grammar.specs.Tree.{Value, Shape, Item, Forest, nothing, node, one, ◌beside◌, Tree}
use Rattle.grammar.specs.Model.{Constant, Constants, no_constants, next_constant, Entries, no_entries, next_entry, NamePart, ProtoOption, FieldType, Field, Fields, no_fields, next_field, Member, Range, Extension, EnumValue, Enumeration, Contents, Messages, no_messages, next_message, Method, Service, Import, FileDescriptor}

-- ---- lists
abbrev pub adding : {A B X : Type 0} → (A → B → B) → (X → A) → List X → B → B
adding add tree [] y = y
adding add tree (x ∷ xs) y = add (tree x) (adding add tree xs y)

abbrev pub trees : {X : Type 0} → (X → Forest) → List X → Forest
trees tree xs = adding ◌beside◌ tree xs nothing

-- the tree that a constant is read as
unfoldable mutual
  pub constant_tree : Constant → Forest
  constant_tree (Constant.unsigned n) = one (Item.constant (Value.unsigned n)) nothing
  constant_tree (Constant.minus n) = one (Item.constant (Value.minus n)) nothing
  constant_tree (Constant.float negative t) = one (Item.constant (Value.float negative t)) nothing
  constant_tree (Constant.truth b) = one (Item.constant (Value.truth b)) nothing
  constant_tree (Constant.path t) = one (Item.constant (Value.path t)) nothing
  constant_tree (Constant.string t) = one (Item.constant (Value.string t)) nothing
  constant_tree (Constant.message es) = one (Item.constant Value.message) (entries_tree es)
  constant_tree (Constant.list cs) = one (Item.constant Value.list) (constants_tree cs)

  pub constants_tree : Constants → Forest
  constants_tree no_constants = nothing
  constants_tree (next_constant c cs) = constant_tree c beside constants_tree cs

  pub entries_tree : Entries → Forest
  entries_tree no_entries = nothing
  entries_tree (next_entry k c es) = node (Item.key k) (constant_tree c) (entries_tree es)

-- ---- trees
abbrev pub part_tree : NamePart → Forest
part_tree (NamePart.direct n) = one (Item.direct_part n) nothing
part_tree (NamePart.extension t) = one (Item.extension_part t) nothing

abbrev pub option_tree : ProtoOption → Forest
option_tree o = one Item.option (trees part_tree o.name beside constant_tree o.value)

abbrev pub range_tree : (ℕ → ℕ → Item) → Range → Forest
range_tree item r = one (item r.from r.to) nothing

abbrev pub name_tree : Bytes → Forest
name_tree n = one (Item.reserved_name n) nothing

-- a group's field keeps no name
abbrev pub kept_name : FieldType → Bytes → Bytes
kept_name (FieldType.scalar s) n = n
kept_name (FieldType.named t) n = n
kept_name (FieldType.map_of k v) n = n
kept_name (FieldType.group g fs) n = []

unfoldable mutual
  pub type_tree : FieldType → Forest
  type_tree (FieldType.scalar s) = one (Item.type (Shape.scalar s)) nothing
  type_tree (FieldType.named t) = one (Item.type (Shape.named t)) nothing
  type_tree (FieldType.map_of k v) = one (Item.type Shape.map) (type_tree k beside type_tree v)
  type_tree (FieldType.group g fs) = one (Item.type (Shape.group g)) (fields_tree fs)

  pub field_tree : Field → Forest
  field_tree (Field.field r t n k os place) = one (Item.field r (kept_name t n) k nowhere) (type_tree t beside trees option_tree os)

  pub fields_tree : Fields → Forest
  fields_tree no_fields = nothing
  fields_tree (next_field f fs) = field_tree f beside fields_tree fs

abbrev pub member_tree : Member → Forest
member_tree (Member.field f) = field_tree f
member_tree (Member.oneof o) = one (Item.oneof o.name nowhere) (adding ◌beside◌ option_tree o.options (trees field_tree o.fields))

abbrev pub extension_tree : Extension → Forest
extension_tree e = one (Item.extension e.extendee) (field_tree e.extends)

abbrev pub value_tree : EnumValue → Forest
value_tree v = one (Item.enum_value v.name v.number) (trees option_tree v.options)

abbrev pub reserved_trees : List Range → List Bytes → Forest → Forest
reserved_trees rs ns y = adding ◌beside◌ (range_tree Item.reserved_range) rs (adding ◌beside◌ name_tree ns y)

abbrev pub enum_tree : Enumeration → Forest
enum_tree e = one (Item.enum e.name nowhere) (adding ◌beside◌ option_tree e.options (reserved_trees e.numbers e.names (trees value_tree e.values)))

-- the parts of a message, given those of the messages in it
abbrev pub contents_tree : Contents → (Forest → Forest) → Forest
contents_tree c inner =
    adding ◌beside◌ option_tree c.options (
    reserved_trees c.numbers c.names (
    adding ◌beside◌ (range_tree Item.extension_range) c.extensible (
    adding ◌beside◌ member_tree c.members (
    inner (
    adding ◌beside◌ enum_tree c.enums (
    trees extension_tree c.extensions))))))

unfoldable pub messages_tree : Messages → Forest → Forest
messages_tree no_messages y = y
messages_tree (next_message n c place inner rest) y = node (Item.message n nowhere) (contents_tree c (messages_tree inner)) (messages_tree rest y)

abbrev pub method_tree : Method → Forest
method_tree m = one (Item.method m.name m.from_client m.input m.from_server m.output) (trees option_tree m.options)

abbrev pub service_tree : Service → Forest
service_tree s = one (Item.service s.name nowhere) (adding ◌beside◌ option_tree s.options (trees method_tree s.methods))

abbrev pub import_tree : Import → Forest
import_tree i = one (Item.import i.visibility i.path) nothing

abbrev pub package_list : Bytes → List Bytes
package_list [] = []
package_list (c ∷ cs) = (c ∷ cs) ∷ []

unfoldable pub tree_of : FileDescriptor → Tree
tree_of m = record {
  syntax = m.syntax;
  packages = package_list m.package_path;
  items =
      adding ◌beside◌ import_tree m.imports (
      adding ◌beside◌ option_tree m.options (
      messages_tree m.messages (
      adding ◌beside◌ enum_tree m.enums (
      adding ◌beside◌ extension_tree m.extensions (
      trees service_tree m.services)))));
}

-- ---- all of this file, for a proof that computes
unfoldable pub opened : Unit {0}
unfolding constant_tree constants_tree entries_tree type_tree field_tree fields_tree messages_tree tree_of
opened = tt
