-- What is read of a record stays as it is while text is appended.
use Rattle.std.proofs.Common.{◌≡◌, ℕ, ◌+◌, ◌-◌, ◌<◌, ◌≤◌, List, [], ◌∷◌, map, length, get_or, drop, sym, refl, ap, ◌∙◌, le_trans, arith, length-drop, length-take, get_or-drop, get_or-take, ext_get_or}
use Rattle.std.proofs.lemmas.List.Elements.{All-head, All-tail, All-weaker}
use Rattle.token.specs.Token.{Bytes}
use Rattle.grammar.specs.Tree as tree
use Rattle.store.specs.declared.parts.Span.{Span}
use Rattle.store.specs.declared.parts.Value.{Value}
use Rattle.store.specs.declared.parts.Key.{Key}
use Rattle.store.specs.declared.parts.Shape.{Shape}
use Rattle.store.specs.declared.parts.Item.{Item}
use Rattle.store.specs.declared.parts.Record.{Record}
use Rattle.store.specs.Items.{bytes_of, value_of, key_of, shape_of, item_of, ValueBy, KeyBy, ShapeBy, ItemBy}
use Rattle.store.specs.Means.{row_of, AllBy}

module _ (old new : Bytes) (n : ℕ) (long : length new ≡ length old) (stand : (k : ℕ) → k < n → get_or new k 0 ≡ get_or old k 0) where
  pub bytes_same : (s : Span) → s.to ≤ n → bytes_of new s ≡ bytes_of old s
  bytes_same s by =
      ext_get_or 0 _ _ (simp (length-take, length-drop) (omega arith))
      (λ i l.
      let less : i < s.to - s.from = omega (arith, length-take (s.to - s.from) (drop s.from new)) in
      get_or-take (s.to - s.from) (drop s.from new) i 0 less ∙ get_or-drop s.from new i 0
      ∙ stand (s.from + i) (omega arith)
      ∙ sym (get_or-take (s.to - s.from) (drop s.from old) i 0 less ∙ get_or-drop s.from old i 0))

  value_same : (v : Value) → ValueBy n v → value_of new v ≡ value_of old v
  value_same (Value.Unsigned v) by = refl
  value_same (Value.Minus v) by = refl
  value_same (Value.Float negative t) by = ap (tree.Value.float negative) (bytes_same t by)
  value_same (Value.Truth b) by = refl
  value_same (Value.Path t) by = ap tree.Value.path (bytes_same t by)
  value_same (Value.Text t) by = ap tree.Value.string (bytes_same t by)
  value_same Value.Message by = refl
  value_same Value.List by = refl

  key-same : (x : Key) → KeyBy n x → key_of new x ≡ key_of old x
  key-same (Key.Plain t) by = ap tree.Key.plain (bytes_same t by)
  key-same (Key.Extension t) by = ap tree.Key.extension (bytes_same t by)
  key-same (Key.AnyType p t) by = let x = bytes_same p by.0 in let y = bytes_same t by.1 in λ i. tree.Key.any_type (x i) (y i)

  shape_same : (s : Shape) → ShapeBy n s → shape_of new s ≡ shape_of old s
  shape_same (Shape.Scalar s) by = refl
  shape_same (Shape.Named p) by = ap tree.Shape.named (bytes_same p by)
  shape_same Shape.Map by = refl
  shape_same (Shape.Group g) by = ap tree.Shape.group (bytes_same g by)

  pub item-same : (x : Item) → ItemBy n x → item_of new x ≡ item_of old x
  item-same (Item.Import v p) by = ap (tree.Item.import v) (bytes_same p by)
  item-same Item.Setting by = refl
  item-same (Item.DirectPart t) by = ap tree.Item.direct_part (bytes_same t by)
  item-same (Item.ExtensionPart t) by = ap tree.Item.extension_part (bytes_same t by)
  item-same (Item.Constant v) by = ap tree.Item.constant (value_same v by)
  item-same (Item.Name x) by = ap tree.Item.key (key-same x by)
  item-same (Item.ReservedRange a b) by = refl
  item-same (Item.ExtensionRange a b) by = refl
  item-same (Item.ReservedName t) by = ap tree.Item.reserved_name (bytes_same t by)
  item-same (Item.Message t p) by = ap (λ b. tree.Item.message b p) (bytes_same t by)
  item-same (Item.Field r t k p) by = ap (λ b. tree.Item.field r b k p) (bytes_same t by)
  item-same (Item.Type s) by = ap tree.Item.type (shape_same s by)
  item-same (Item.OneOf t p) by = ap (λ b. tree.Item.oneof b p) (bytes_same t by)
  item-same (Item.Extension t) by = ap tree.Item.extension (bytes_same t by)
  item-same (Item.Enum t p) by = ap (λ b. tree.Item.enum b p) (bytes_same t by)
  item-same (Item.EnumValue t k) by = ap (λ b. tree.Item.enum_value b k) (bytes_same t by)
  item-same (Item.Service t p) by = ap (λ b. tree.Item.service b p) (bytes_same t by)
  item-same (Item.Method t from_client i from_server o) by =
      let x = bytes_same t by.0 in
      let y = bytes_same i by.1 in
      let z = bytes_same o by.2 in
      λ j. tree.Item.method (x j) from_client (y j) from_server (z j)

  pub rows_same : (rs : List Record) → AllBy n rs → map (row_of new) rs ≡ map (row_of old) rs
  rows_same [] by = refl
  rows_same (r ∷ rs) by =
      let P : Record → Type 0 = λ q. ItemBy n q.item in
      let x = item-same r.item (All-head P r rs by) in
      let rest = rows_same rs (All-tail P r rs by) in
      λ i. record { item = x i; parent = r.parent; first = r.first; next = r.next } ∷ rest i

-- ---- texts that end by n end by any later place
module _ (n m : ℕ) (h : n ≤ m) where
  value_later : (v : Value) → ValueBy n v → ValueBy m v
  value_later (Value.Unsigned v) by = tt
  value_later (Value.Minus v) by = tt
  value_later (Value.Float negative t) by = le_trans by h
  value_later (Value.Truth b) by = tt
  value_later (Value.Path t) by = le_trans by h
  value_later (Value.Text t) by = le_trans by h
  value_later Value.Message by = tt
  value_later Value.List by = tt

  key_later : (x : Key) → KeyBy n x → KeyBy m x
  key_later (Key.Plain t) by = le_trans by h
  key_later (Key.Extension t) by = le_trans by h
  key_later (Key.AnyType p t) by = (le_trans by.0 h, le_trans by.1 h)

  shape_later : (s : Shape) → ShapeBy n s → ShapeBy m s
  shape_later (Shape.Scalar s) by = tt
  shape_later (Shape.Named p) by = le_trans by h
  shape_later Shape.Map by = tt
  shape_later (Shape.Group g) by = le_trans by h

  pub item_later : (x : Item) → ItemBy n x → ItemBy m x
  item_later (Item.Import v p) by = le_trans by h
  item_later Item.Setting by = tt
  item_later (Item.DirectPart t) by = le_trans by h
  item_later (Item.ExtensionPart t) by = le_trans by h
  item_later (Item.Constant v) by = value_later v by
  item_later (Item.Name x) by = key_later x by
  item_later (Item.ReservedRange a b) by = tt
  item_later (Item.ExtensionRange a b) by = tt
  item_later (Item.ReservedName t) by = le_trans by h
  item_later (Item.Message t p) by = le_trans by h
  item_later (Item.Field r t k p) by = le_trans by h
  item_later (Item.Type s) by = shape_later s by
  item_later (Item.OneOf t p) by = le_trans by h
  item_later (Item.Extension t) by = le_trans by h
  item_later (Item.Enum t p) by = le_trans by h
  item_later (Item.EnumValue t k) by = le_trans by h
  item_later (Item.Service t p) by = le_trans by h
  item_later (Item.Method t from_client i from_server o) by = (le_trans by.0 h, le_trans by.1 h, le_trans by.2 h)

  pub all_later : (rs : List Record) → AllBy n rs → AllBy m rs
  all_later rs by = All-weaker (λ (r : Record). ItemBy n r.item) (λ (r : Record). ItemBy m r.item) (λ r. item_later r.item) rs by
