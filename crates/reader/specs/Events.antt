-- What was done to a store, one event after another: for readers that loop over the brackets that are open.
use Rattle.std.specs.Prelude.{◌≡◌, ℕ, suc, ◌+◌, ◌≤◌, List, [], ◌∷◌, ◌++◌}
use Rattle.grammar.specs.Tree as tree
use Rattle.grammar.specs.Tree.{Forest, nothing, node}
use Rattle.store.specs.Rows.{Cursor, opened, closed, filled}
use Rattle.store.specs.Held.{Held, capped, most_records, most_text}
use Rattle.store.specs.Means.{Means, Grew}

pub data Event : Type 0 where
  -- a record, whose parts come next
  opens : tree.Item → Event
  -- the innermost open record is complete
  closes : Event
  -- another item in its place
  fills : tree.Item → Event

-- what the cursor is after these
abbrev pub replay : Cursor → List Event → Cursor
replay c [] = c
replay c (opens x ∷ es) = replay (opened c x) es
replay c (closes ∷ es) = replay (closed c) es
replay c (fills x ∷ es) = replay (filled c x) es

-- the events of a whole forest
unfoldable pub events : Forest → List Event
events nothing = []
events (node x parts rest) = opens x ∷ (events parts ++ closes ∷ events rest)

-- how many records they append
abbrev pub appended : List Event → ℕ
appended [] = 0
appended (opens x ∷ es) = suc (appended es)
appended (closes ∷ es) = appended es
appended (fills x ∷ es) = appended es

-- how many bytes of text their items have: a record that is filled later is opened with an item without text
abbrev pub texts : List Event → ℕ
texts [] = 0
texts (opens x ∷ es) = tree.item_text x + texts es
texts (closes ∷ es) = texts es
texts (fills x ∷ es) = tree.item_text x + texts es

-- These events were done. Counts are exact; where both tables hold it all, it is there.
pub record Did (old new : Held) (es : List Event) : Type 0 where
  pub grew : Grew old new
  pub counts : new.count ≡ capped (old.count + appended es)
  pub uses : new.used ≡ capped (old.used + texts es)
  pub there : new.count ≤ most_records → new.used ≤ most_text → (c : Cursor) → Means old c → Means new (replay c es)
