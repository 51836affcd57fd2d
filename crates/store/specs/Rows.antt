-- How a forest stands in a table: an item, then its parts, then what follows it, each linked to the others by its index.
use Rattle.std.specs.Prelude.{ℕ, suc, ◌+◌, List, [], ◌∷◌, ◌++◌, Some, None, Option}
use Rattle.grammar.specs.Tree as tree
use Rattle.grammar.specs.Tree.{Forest, nothing, node, one, ◌beside◌, records}

-- a record as it is read: the item with its bytes, what it is a part of, its first part, and the next part beside it
pub record Row : Type 0 where
  pub item : tree.Item
  pub parent : Option ℕ
  pub first : Option ℕ
  pub next : Option ℕ

-- the index of a forest's first item, if it has one
abbrev pub begins : ℕ → Forest → Option ℕ
begins at nothing = None
begins at (node x parts rest) = Some at

-- the rows of a forest that stands from index `at` on, as parts of `parent`
unfoldable pub rows : Option ℕ → ℕ → Forest → List Row
rows parent at nothing = []
rows parent at (node x parts rest) =
    let after = suc at + records parts in
    record { item = x; parent = parent; first = begins (suc at) parts; next = begins after rest } ∷ (rows (Some at) (suc at) parts ++ rows parent after rest)

-- ---- a forest that is being read: where the next item goes
pub data Cursor : Type 0 where
  -- what stands so far at the innermost level
  level : Forest → Cursor
  -- what stands before an open item, the item, and its parts so far
  within : Forest → tree.Item → Cursor → Cursor

-- all of it
abbrev pub whole : Cursor → Forest
whole (level f) = f
whole (within before x inner) = before beside one x (whole inner)

-- more at the innermost level
abbrev pub with_more : Cursor → Forest → Cursor
with_more (level f) g = level (f beside g)
with_more (within before x inner) g = within before x (with_more inner g)

-- an item is opened at the innermost level
abbrev pub opened : Cursor → tree.Item → Cursor
opened (level f) x = within f x (level nothing)
opened (within before y inner) x = within before y (opened inner x)

-- the innermost open item is closed; at the outermost level nothing is
abbrev pub closed : Cursor → Cursor
closed (level f) = level f
closed (within before x (level f)) = level (before beside one x f)
closed (within before x (within f y inner)) = within before x (closed (within f y inner))

-- another item in the place of the innermost open one
abbrev pub filled : Cursor → tree.Item → Cursor
filled (level f) z = level f
filled (within before x (level f)) z = within before z (level f)
filled (within before x (within f y inner)) z = within before x (filled (within f y inner) z)

-- the index of the innermost open item, where the cursor stands from `at` on as parts of `parent`
abbrev pub open_at : Option ℕ → ℕ → Cursor → Option ℕ
open_at parent at (level f) = parent
open_at parent at (within before x inner) = open_at (Some (at + records before)) (suc (at + records before)) inner

-- the index of the last item of a forest
abbrev pub ends : ℕ → Forest → Option ℕ
ends at nothing = None
ends at (node x parts nothing) = Some at
ends at (node x parts (node y inner rest)) = ends (suc at + records parts) (node y inner rest)

-- the index of the last item at the innermost level
abbrev pub last_at : ℕ → Cursor → Option ℕ
last_at at (level f) = ends at f
last_at at (within before x inner) = last_at (suc (at + records before)) inner
