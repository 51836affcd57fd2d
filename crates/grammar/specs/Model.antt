-- The model of a file, and what the reader's tree means in it.
use Rattle.std.specs.Prelude.{ℕ, ◌+◌, Bool, true, false, List, [], ◌∷◌, ◌++◌, map, ℤ, None as none, Option}
use Rattle.token.specs.declared.answer.Place.{Place}
use Rattle.token.specs.Token.{nowhere, Bytes}
use Rattle.grammar.specs.declared.kinds.Syntax.{Syntax}
use Rattle.grammar.specs.declared.kinds.ImportVis.{ImportVis}
use Rattle.grammar.specs.declared.kinds.Rule.{Rule}
use Rattle.grammar.specs.declared.kinds.Scalar.{Scalar}
use Rattle.grammar.specs.Tree.{Value, Key, Shape, Item, Forest, nothing, node, Tree}
use Rattle.token.specs.Law.{between}

-- ---- constants and options. A message constant keeps every value of a repeated name, in order.
mutual
  pub data Constant : Type 0 where
    unsigned : ℕ → Constant
    minus : ℕ → Constant
    float : Bool → Bytes → Constant
    truth : Bool → Constant
    path : Bytes → Constant
    string : Bytes → Constant
    message : Entries → Constant
    list : Constants → Constant

  pub data Constants : Type 0 where
    no_constants : Constants
    next_constant : Constant → Constants → Constants

  pub data Entries : Type 0 where
    no_entries : Entries
    next_entry : Key → Constant → Entries → Entries

pub data NamePart : Type 0 where
  direct : Bytes → NamePart
  extension : Bytes → NamePart

-- a name of one direct part is a built-in option's
pub record ProtoOption : Type 0 where
  pub name : List NamePart
  pub value : Constant

-- ---- fields
mutual
  pub data FieldType : Type 0 where
    scalar : Scalar → FieldType
    named : Bytes → FieldType
    map_of : FieldType → FieldType → FieldType
    group : Bytes → Fields → FieldType

  pub data Field : Type 0 where
    field : Option Rule → FieldType → Bytes → ℕ → List ProtoOption → Place → Field

  pub data Fields : Type 0 where
    no_fields : Fields
    next_field : Field → Fields → Fields

pub record OneOf : Type 0 where
  pub name : Bytes
  pub options : List ProtoOption
  pub fields : List Field
  pub place : Place

pub data Member : Type 0 where
  field : Field → Member
  oneof : OneOf → Member

pub record Range : Type 0 where
  pub from : ℕ
  pub to : ℕ

pub record Extension : Type 0 where
  pub extendee : Bytes
  pub extends : Field

-- ---- enums
pub record EnumValue : Type 0 where
  pub name : Bytes
  pub number : ℤ
  pub options : List ProtoOption

pub record Enumeration : Type 0 where
  pub name : Bytes
  pub options : List ProtoOption
  pub numbers : List Range
  pub names : List Bytes
  pub values : List EnumValue
  pub place : Place

-- ---- messages
-- what a message has but for the messages in it
pub record Contents : Type 0 where
  pub options : List ProtoOption
  pub numbers : List Range
  pub names : List Bytes
  pub extensible : List Range
  pub members : List Member
  pub enums : List Enumeration
  pub extensions : List Extension

-- messages side by side, each with those in it
pub data Messages : Type 0 where
  no_messages : Messages
  next_message : Bytes → Contents → Place → Messages → Messages → Messages

-- ---- services
pub record Method : Type 0 where
  pub name : Bytes
  pub from_client : Bool
  pub input : Bytes
  pub from_server : Bool
  pub output : Bytes
  pub options : List ProtoOption

pub record Service : Type 0 where
  pub name : Bytes
  pub options : List ProtoOption
  pub methods : List Method
  pub place : Place

-- ---- files
pub record Import : Type 0 where
  pub visibility : ImportVis
  pub path : Bytes

pub record FileDescriptor : Type 0 where
  pub syntax : Syntax
  pub imports : List Import
  -- with a leading dot; the root is empty
  pub package_path : Bytes
  pub options : List ProtoOption
  pub messages : Messages
  pub enums : List Enumeration
  pub extensions : List Extension
  pub services : List Service

-- ---- what one node of the tree means, by where it can stand
-- in an option, a constant or a field
pub data Piece : Type 0 where
  name_part : NamePart → Piece
  constant : Constant → Piece
  entry : Key → Constant → Piece
  type : FieldType → Piece

-- in a body
pub data Held : Type 0 where
  option : ProtoOption → Held
  reserved_range : Range → Held
  reserved_name : Bytes → Held
  extension_range : Range → Held

pub data Declared : Type 0 where
  field : Field → Declared
  oneof : OneOf → Declared
  message : Bytes → Contents → Place → Messages → Declared
  enum : Enumeration → Declared
  extension : Extension → Declared

-- in one kind of body, or at the top level, alone
pub data Other : Type 0 where
  import : Import → Other
  enum_value : EnumValue → Other
  method : Method → Other
  service : Service → Other

pub data Part : Type 0 where
  piece : Piece → Part
  held : Held → Part
  declared : Declared → Part
  other : Other → Part

-- what f finds in each
abbrev pub found : {A : Type 0} → (Part → List A) → List Part → List A
found f [] = []
found f (p ∷ ps) = f p ++ found f ps

-- ---- the parts of each kind, in order
abbrev pub in_pieces : {A : Type 0} → (Piece → List A) → Part → List A
in_pieces f (piece x) = f x
in_pieces f (held x) = []
in_pieces f (declared x) = []
in_pieces f (other x) = []

abbrev pub in_held : {A : Type 0} → (Held → List A) → Part → List A
in_held f (piece x) = []
in_held f (held x) = f x
in_held f (declared x) = []
in_held f (other x) = []

abbrev pub in_declared : {A : Type 0} → (Declared → List A) → Part → List A
in_declared f (piece x) = []
in_declared f (held x) = []
in_declared f (declared x) = f x
in_declared f (other x) = []

abbrev pub in_other : {A : Type 0} → (Other → List A) → Part → List A
in_other f (piece x) = []
in_other f (held x) = []
in_other f (declared x) = []
in_other f (other x) = f x

abbrev pub name_parts : List Part → List NamePart
name_parts = found (in_pieces (elim [ name_part n ↦ n ∷ [] | constant c ↦ [] | entry k c ↦ [] | type t ↦ [] ]))

abbrev pub constants : List Part → List Constant
constants = found (in_pieces (elim [ name_part n ↦ [] | constant c ↦ c ∷ [] | entry k c ↦ [] | type t ↦ [] ]))

abbrev pub entries : List Part → List (Key × Constant)
entries = found (in_pieces (elim [ name_part n ↦ [] | constant c ↦ [] | entry k c ↦ (k, c) ∷ [] | type t ↦ [] ]))

abbrev pub types : List Part → List FieldType
types = found (in_pieces (elim [ name_part n ↦ [] | constant c ↦ [] | entry k c ↦ [] | type t ↦ t ∷ [] ]))

abbrev pub options : List Part → List ProtoOption
options = found (in_held (elim [ option o ↦ o ∷ [] | reserved_range r ↦ [] | reserved_name n ↦ [] | extension_range r ↦ [] ]))

abbrev pub reserved_ranges : List Part → List Range
reserved_ranges = found (in_held (elim [ option o ↦ [] | reserved_range r ↦ r ∷ [] | reserved_name n ↦ [] | extension_range r ↦ [] ]))

abbrev pub reserved_names : List Part → List Bytes
reserved_names = found (in_held (elim [ option o ↦ [] | reserved_range r ↦ [] | reserved_name n ↦ n ∷ [] | extension_range r ↦ [] ]))

abbrev pub extension_ranges : List Part → List Range
extension_ranges = found (in_held (elim [ option o ↦ [] | reserved_range r ↦ [] | reserved_name n ↦ [] | extension_range r ↦ r ∷ [] ]))

abbrev pub fields : List Part → List Field
fields = found (in_declared (elim [ field f ↦ f ∷ [] | oneof o ↦ [] | message n c p ms ↦ [] | enum e ↦ [] | extension e ↦ [] ]))

abbrev pub members : List Part → List Member
members = found (in_declared (elim [ field f ↦ Member.field f ∷ [] | oneof o ↦ Member.oneof o ∷ [] | message n c p ms ↦ [] | enum e ↦ [] | extension e ↦ [] ]))

abbrev pub enums : List Part → List Enumeration
enums = found (in_declared (elim [ field f ↦ [] | oneof o ↦ [] | message n c p ms ↦ [] | enum e ↦ e ∷ [] | extension e ↦ [] ]))

abbrev pub extensions : List Part → List Extension
extensions = found (in_declared (elim [ field f ↦ [] | oneof o ↦ [] | message n c p ms ↦ [] | enum e ↦ [] | extension e ↦ e ∷ [] ]))

abbrev pub message_first : Declared → Messages → Messages
message_first (field f) ms = ms
message_first (oneof o) ms = ms
message_first (message n c p inner) ms = next_message n c p inner ms
message_first (enum e) ms = ms
message_first (extension e) ms = ms

abbrev pub messages : List Part → Messages
messages [] = no_messages
messages (p ∷ ps) = elim p [ piece x ↦ messages ps | held x ↦ messages ps | declared d ↦ message_first d (messages ps) | other x ↦ messages ps ]

abbrev pub imports : List Part → List Import
imports = found (in_other (elim [ import i ↦ i ∷ [] | enum_value v ↦ [] | method m ↦ [] | service s ↦ [] ]))

abbrev pub enum_values : List Part → List EnumValue
enum_values = found (in_other (elim [ import i ↦ [] | enum_value v ↦ v ∷ [] | method m ↦ [] | service s ↦ [] ]))

abbrev pub methods : List Part → List Method
methods = found (in_other (elim [ import i ↦ [] | enum_value v ↦ [] | method m ↦ m ∷ [] | service s ↦ [] ]))

abbrev pub services : List Part → List Service
services = found (in_other (elim [ import i ↦ [] | enum_value v ↦ [] | method m ↦ [] | service s ↦ s ∷ [] ]))

-- ---- what an item means, given what its parts mean
abbrev pub first_or : {A : Type 0} → A → List A → A
first_or d [] = d
first_or d (x ∷ xs) = x

abbrev pub the_constant : List Part → Constant
the_constant ps = first_or (Constant.truth false) (constants ps)

abbrev pub all_constants : List Constant → Constants
all_constants [] = no_constants
all_constants (c ∷ cs) = next_constant c (all_constants cs)

abbrev pub all_entries : List (Key × Constant) → Entries
all_entries [] = no_entries
all_entries (e ∷ es) = next_entry e.0 e.1 (all_entries es)

abbrev pub constant_from : Value → List Part → Constant
constant_from (Value.unsigned n) ps = Constant.unsigned n
constant_from (Value.minus n) ps = Constant.minus n
constant_from (Value.float negative t) ps = Constant.float negative t
constant_from (Value.truth b) ps = Constant.truth b
constant_from (Value.path t) ps = Constant.path t
constant_from (Value.string t) ps = Constant.string t
constant_from Value.message ps = Constant.message (all_entries (entries ps))
constant_from Value.list ps = Constant.list (all_constants (constants ps))

abbrev pub the_type : List FieldType → FieldType
the_type ts = first_or (FieldType.named []) ts

abbrev pub type_pair : List FieldType → FieldType
type_pair [] = FieldType.named []
type_pair (t ∷ ts) = FieldType.map_of t (the_type ts)

abbrev pub all_fields : List Field → Fields
all_fields [] = no_fields
all_fields (f ∷ fs) = next_field f (all_fields fs)

-- a group keeps only its fields
abbrev pub type_from : Shape → List Part → FieldType
type_from (Shape.scalar s) ps = FieldType.scalar s
type_from (Shape.named n) ps = FieldType.named n
type_from Shape.map ps = type_pair (types ps)
type_from (Shape.group n) ps = FieldType.group n (all_fields (fields ps))

abbrev pub lower : ℕ → ℕ
lower c = elim (between 65 90 c) [ true ↦ c + 32 | false ↦ c ]

-- a group's field has the group's name in lower case
abbrev pub field_name : FieldType → Bytes → Bytes
field_name (FieldType.scalar s) n = n
field_name (FieldType.named p) n = n
field_name (FieldType.map_of k v) n = n
field_name (FieldType.group g fs) n = map lower g

abbrev pub field_from : Option Rule → Bytes → ℕ → Place → List Part → Field
field_from rule name number place ps =
    let t = the_type (types ps) in
    Field.field rule t (field_name t name) number (options ps) place

abbrev pub the_field : List Field → Field
the_field fs = first_or (Field.field none (FieldType.named []) [] 0 [] nowhere) fs

abbrev pub contents : List Part → Contents
contents ps = record {
  options = options ps;
  numbers = reserved_ranges ps;
  names = reserved_names ps;
  extensible = extension_ranges ps;
  members = members ps;
  enums = enums ps;
  extensions = extensions ps;
}

abbrev pub part : Item → List Part → Part
part (Item.import v p) ps = other (import (record { visibility = v; path = p }))
part Item.option ps = held (option (record { name = name_parts ps; value = the_constant ps }))
part (Item.direct_part n) ps = piece (name_part (direct n))
part (Item.extension_part p) ps = piece (name_part (NamePart.extension p))
part (Item.constant v) ps = piece (constant (constant_from v ps))
part (Item.key k) ps = piece (entry k (the_constant ps))
part (Item.reserved_range m n) ps = held (reserved_range (record { from = m; to = n }))
part (Item.extension_range m n) ps = held (extension_range (record { from = m; to = n }))
part (Item.reserved_name n) ps = held (reserved_name n)
part (Item.message n p) ps = declared (message n (contents ps) p (messages ps))
part (Item.field r n k p) ps = declared (field (field_from r n k p ps))
part (Item.type s) ps = piece (type (type_from s ps))
part (Item.oneof n p) ps = declared (oneof (record { name = n; options = options ps; fields = fields ps; place = p }))
part (Item.extension e) ps = declared (extension (record { extendee = e; extends = the_field (fields ps) }))
part (Item.enum n p) ps = declared (enum (record { name = n; options = options ps; numbers = reserved_ranges ps; names = reserved_names ps; values = enum_values ps; place = p }))
part (Item.enum_value n k) ps = other (enum_value (record { name = n; number = k; options = options ps }))
part (Item.service n p) ps = other (service (record { name = n; options = options ps; methods = methods ps; place = p }))
part (Item.method n ci i co o) ps = other (method (record { name = n; from_client = ci; input = i; from_server = co; output = o; options = options ps }))

unfoldable pub parts_of : Forest → List Part
parts_of nothing = []
parts_of (node item inner rest) = part item (parts_of inner) ∷ parts_of rest

-- the last package wins
abbrev pub last_or : Bytes → List Bytes → Bytes
last_or d [] = d
last_or d (p ∷ ps) = last_or p ps

unfoldable pub model : Tree → FileDescriptor
model t =
    let ps = parts_of t.items in
    record {
      syntax = t.syntax;
      imports = imports ps;
      package_path = last_or [] t.packages;
      options = options ps;
      messages = messages ps;
      enums = enums ps;
      extensions = extensions ps;
      services = services ps;
    }

-- ---- all of this file, for a proof that computes
unfoldable pub opened : Unit {0}
unfolding parts_of model
opened = tt
