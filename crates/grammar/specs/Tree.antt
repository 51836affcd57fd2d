-- What the reader keeps of a file: a forest in which each node is one record of the catalogue.
use Rattle.std.specs.Prelude.{ℕ, ◌+◌, Bool, List, [], ◌∷◌, length, ℤ, Option}
use Rattle.grammar.specs.declared.kinds.Syntax.{Syntax}
use Rattle.grammar.specs.declared.kinds.ImportVis.{ImportVis}
use Rattle.grammar.specs.declared.kinds.Rule.{Rule}
use Rattle.grammar.specs.declared.kinds.Scalar.{Scalar}
use Rattle.token.specs.declared.answer.Place.{Place}
use Rattle.token.specs.Token.{Bytes}

-- a constant but for what a message or a list holds
pub data Value : Type 0 where
  unsigned : ℕ → Value
  minus : ℕ → Value
  float : Bool → Bytes → Value
  truth : Bool → Value
  path : Bytes → Value
  string : Bytes → Value
  message list : Value

-- a name in a message constant: `a`, `[a.b]`, `[a.b/c.d]`
pub data Key : Type 0 where
  plain : Bytes → Key
  extension : Bytes → Key
  any_type : Bytes → Bytes → Key

-- a type but for what a map or a group holds
pub data Shape : Type 0 where
  scalar : Scalar → Shape
  named : Bytes → Shape
  map : Shape
  group : Bytes → Shape

-- one record, without its parts
pub data Item : Type 0 where
  import : ImportVis → Bytes → Item
  option : Item
  direct_part : Bytes → Item
  extension_part : Bytes → Item
  constant : Value → Item
  key : Key → Item
  reserved_range : ℕ → ℕ → Item
  extension_range : ℕ → ℕ → Item
  reserved_name : Bytes → Item
  message : Bytes → Place → Item
  -- a group's field has no name here: it is the group's in lower case
  field : Option Rule → Bytes → ℕ → Place → Item
  type : Shape → Item
  oneof : Bytes → Place → Item
  extension : Bytes → Item
  enum : Bytes → Place → Item
  enum_value : Bytes → ℤ → Item
  service : Bytes → Place → Item
  method : Bytes → Bool → Bytes → Bool → Bytes → Item

-- nothing, or a node with its parts, then the nodes after it
pub data Forest : Type 0 where
  nothing : Forest
  node : Item → Forest → Forest → Forest

abbrev pub one : Item → Forest → Forest
one item parts = node item parts nothing

infixr 30 ◌beside◌
abbrev pub ◌beside◌ : Forest → Forest → Forest
nothing beside g = g
node item parts rest beside g = node item parts (rest beside g)

-- ---- a file as read: its packages are no records
pub record Tree : Type 0 where
  pub syntax : Syntax
  pub packages : List Bytes
  pub items : Forest

-- ---- the room that it takes
abbrev pub value_text : Value → ℕ
value_text (unsigned n) = 0
value_text (minus n) = 0
value_text (float negative t) = length t
value_text (truth b) = 0
value_text (path t) = length t
value_text (string t) = length t
value_text message = 0
value_text list = 0

abbrev pub key_text : Key → ℕ
key_text (plain n) = length n
key_text (extension p) = length p
key_text (any_type p t) = length p + length t

abbrev pub shape_text : Shape → ℕ
shape_text (scalar s) = 0
shape_text (named p) = length p
shape_text map = 0
shape_text (group n) = length n

abbrev pub item_text : Item → ℕ
item_text (import v p) = length p
item_text option = 0
item_text (direct_part n) = length n
item_text (extension_part p) = length p
item_text (constant v) = value_text v
item_text (key k) = key_text k
item_text (reserved_range m n) = 0
item_text (extension_range m n) = 0
item_text (reserved_name n) = length n
item_text (message n p) = length n
item_text (field r n k p) = length n
item_text (type s) = shape_text s
item_text (oneof n p) = length n
item_text (extension p) = length p
item_text (enum n p) = length n
item_text (enum_value n k) = length n
item_text (service n p) = length n
item_text (method n ci i co o) = length n + length i + length o

unfoldable pub records : Forest → ℕ
records nothing = 0
records (node item parts rest) = 1 + records parts + records rest

unfoldable pub text : Forest → ℕ
text nothing = 0
text (node item parts rest) = item_text item + text parts + text rest

unfoldable pub lengths : List Bytes → ℕ
lengths [] = 0
lengths (p ∷ ps) = length p + lengths ps

abbrev pub tree_records : Tree → ℕ
tree_records t = records t.items

abbrev pub tree_text : Tree → ℕ
tree_text t = lengths t.packages + text t.items

-- ---- all of this file, for a proof that computes
unfoldable pub opened : Unit {0}
unfolding records text lengths
opened = tt
