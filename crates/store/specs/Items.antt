-- What a record's item stands for: the item of a tree, with the bytes of its texts.
use Rattle.std.specs.Prelude.{ℕ, ◌-◌, ◌≤◌, true, false, ◌&&◌, [], take, drop, nat_le}
use Rattle.token.specs.Token.{Bytes}
use Rattle.grammar.specs.Tree as tree
use Rattle.store.specs.declared.parts.Span.{Span}
use Rattle.store.specs.declared.parts.Value.{Value}
use Rattle.store.specs.declared.parts.Key.{Key}
use Rattle.store.specs.declared.parts.Shape.{Shape}
use Rattle.store.specs.declared.parts.Item.{Item}
use Rattle.store.specs.Held.{most_text}

-- the bytes of a span
abbrev pub bytes_of : Bytes → Span → Bytes
bytes_of bs s = take (s.to - s.from) (drop s.from bs)

-- the same, where it lies within the table; else nothing
abbrev pub text_in : Bytes → Span → Bytes
text_in bs s = elim (nat_le s.from s.to && nat_le s.to most_text) [ true ↦ bytes_of bs s | false ↦ [] ]

abbrev pub value_of : Bytes → Value → tree.Value
value_of bs (Value.Unsigned n) = tree.Value.unsigned n
value_of bs (Value.Minus n) = tree.Value.minus n
value_of bs (Value.Float negative t) = tree.Value.float negative (bytes_of bs t)
value_of bs (Value.Truth b) = tree.Value.truth b
value_of bs (Value.Path t) = tree.Value.path (bytes_of bs t)
value_of bs (Value.Text t) = tree.Value.string (bytes_of bs t)
value_of bs Value.Message = tree.Value.message
value_of bs Value.List = tree.Value.list

abbrev pub key_of : Bytes → Key → tree.Key
key_of bs (Key.Plain n) = tree.Key.plain (bytes_of bs n)
key_of bs (Key.Extension p) = tree.Key.extension (bytes_of bs p)
key_of bs (Key.AnyType p t) = tree.Key.any_type (bytes_of bs p) (bytes_of bs t)

abbrev pub shape_of : Bytes → Shape → tree.Shape
shape_of bs (Shape.Scalar s) = tree.Shape.scalar s
shape_of bs (Shape.Named p) = tree.Shape.named (bytes_of bs p)
shape_of bs Shape.Map = tree.Shape.map
shape_of bs (Shape.Group n) = tree.Shape.group (bytes_of bs n)

abbrev pub item_of : Bytes → Item → tree.Item
item_of bs (Item.Import v p) = tree.Item.import v (bytes_of bs p)
item_of bs Item.Setting = tree.Item.option
item_of bs (Item.DirectPart n) = tree.Item.direct_part (bytes_of bs n)
item_of bs (Item.ExtensionPart p) = tree.Item.extension_part (bytes_of bs p)
item_of bs (Item.Constant v) = tree.Item.constant (value_of bs v)
item_of bs (Item.Name k) = tree.Item.key (key_of bs k)
item_of bs (Item.ReservedRange m n) = tree.Item.reserved_range m n
item_of bs (Item.ExtensionRange m n) = tree.Item.extension_range m n
item_of bs (Item.ReservedName n) = tree.Item.reserved_name (bytes_of bs n)
item_of bs (Item.Message n p) = tree.Item.message (bytes_of bs n) p
item_of bs (Item.Field r n k p) = tree.Item.field r (bytes_of bs n) k p
item_of bs (Item.Type s) = tree.Item.type (shape_of bs s)
item_of bs (Item.OneOf n p) = tree.Item.oneof (bytes_of bs n) p
item_of bs (Item.Extension p) = tree.Item.extension (bytes_of bs p)
item_of bs (Item.Enum n p) = tree.Item.enum (bytes_of bs n) p
item_of bs (Item.EnumValue n k) = tree.Item.enum_value (bytes_of bs n) k
item_of bs (Item.Service n p) = tree.Item.service (bytes_of bs n) p
item_of bs (Item.Method n from_client i from_server o) = tree.Item.method (bytes_of bs n) from_client (bytes_of bs i) from_server (bytes_of bs o)

-- ---- every text of the item ends by n
abbrev pub EndsBy : ℕ → Span → Type 0
EndsBy n s = s.to ≤ n

abbrev pub ValueBy : ℕ → Value → Type 0
ValueBy n (Value.Unsigned v) = Unit {0}
ValueBy n (Value.Minus v) = Unit {0}
ValueBy n (Value.Float negative t) = EndsBy n t
ValueBy n (Value.Truth b) = Unit {0}
ValueBy n (Value.Path t) = EndsBy n t
ValueBy n (Value.Text t) = EndsBy n t
ValueBy n Value.Message = Unit {0}
ValueBy n Value.List = Unit {0}

abbrev pub KeyBy : ℕ → Key → Type 0
KeyBy n (Key.Plain t) = EndsBy n t
KeyBy n (Key.Extension t) = EndsBy n t
KeyBy n (Key.AnyType p t) = EndsBy n p × EndsBy n t

abbrev pub ShapeBy : ℕ → Shape → Type 0
ShapeBy n (Shape.Scalar s) = Unit {0}
ShapeBy n (Shape.Named p) = EndsBy n p
ShapeBy n Shape.Map = Unit {0}
ShapeBy n (Shape.Group g) = EndsBy n g

abbrev pub ItemBy : ℕ → Item → Type 0
ItemBy n (Item.Import v p) = EndsBy n p
ItemBy n Item.Setting = Unit {0}
ItemBy n (Item.DirectPart t) = EndsBy n t
ItemBy n (Item.ExtensionPart t) = EndsBy n t
ItemBy n (Item.Constant v) = ValueBy n v
ItemBy n (Item.Name k) = KeyBy n k
ItemBy n (Item.ReservedRange a b) = Unit {0}
ItemBy n (Item.ExtensionRange a b) = Unit {0}
ItemBy n (Item.ReservedName t) = EndsBy n t
ItemBy n (Item.Message t p) = EndsBy n t
ItemBy n (Item.Field r t k p) = EndsBy n t
ItemBy n (Item.Type s) = ShapeBy n s
ItemBy n (Item.OneOf t p) = EndsBy n t
ItemBy n (Item.Extension t) = EndsBy n t
ItemBy n (Item.Enum t p) = EndsBy n t
ItemBy n (Item.EnumValue t k) = EndsBy n t
ItemBy n (Item.Service t p) = EndsBy n t
ItemBy n (Item.Method t from_client i from_server o) = EndsBy n t × EndsBy n i × EndsBy n o
