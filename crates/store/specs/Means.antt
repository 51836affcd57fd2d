-- What a store means: the forest that was read of the file in hand, with the bytes of its texts, and where the next item goes.
use Rattle.std.specs.Prelude.{◌≡◌, All, ℕ, ◌+◌, ◌<◌, ◌≤◌, List, map, length, take, drop, Some, None, Option, slice_index}
use Rattle.token.specs.Token.{Bytes}
use Rattle.grammar.specs.Tree as tree
use Rattle.grammar.specs.Tree.{Forest, nothing, one, records, text}
use Rattle.store.specs.declared.parts.Item.{Item}
use Rattle.store.specs.declared.parts.Record.{Record}
use Rattle.store.specs.Items.{item_of, ItemBy}
use Rattle.store.specs.Rows.{Row, rows, Cursor, whole, with_more, opened, closed, filled, open_at, last_at}
use Rattle.store.specs.Held.{Held, capped, most_records, most_text, record_at}

abbrev pub row_of : Bytes → Record → Row
row_of bs r = record { item = item_of bs r.item; parent = r.parent; first = r.first; next = r.next }

-- the records from `at` on, up to `to`
abbrev pub region : ℕ → ℕ → List Record → List Record
region at to rs = drop at (take to rs)

-- all texts of these records end by n
abbrev pub AllBy : ℕ → List Record → Type 0
AllBy n rs = All (λ (r : Record). ItemBy n r.item) rs

-- The forest stands in the records from `at` on: ONE equation, which fixes every link.
pub record Stands (slots : List Record) (bytes : Bytes) (used : ℕ) (at : ℕ) (f : Forest) : Type 0 where
  pub rows_are : map (row_of bytes) (region at (at + records f) slots) ≡ rows None at f
  pub texts_by : AllBy used (region at (at + records f) slots)

-- The file in hand is what the cursor holds, and the next item goes where it says.
pub record Means (h : Held) (c : Cursor) : Type 0 where
  pub slotted : length h.slots ≡ most_records
  pub sized : length h.bytes ≡ most_text
  pub few : h.count ≤ most_records
  pub short : h.used ≤ most_text
  pub counts : h.count ≡ h.base + records (whole c)
  pub stands : Stands h.slots h.bytes h.used h.base (whole c)
  pub open_is : h.open_record ≡ open_at None h.base c
  pub last_is : h.last_record ≡ last_at h.base c

-- ---- what never changes: what stood before the file in hand, and the texts so far
pub record Grew (old new : Held) : Type 0 where
  pub slots_long : length new.slots ≡ length old.slots
  pub bytes_long : length new.bytes ≡ length old.bytes
  pub same_base : new.base ≡ old.base
  pub more_records : old.count ≤ new.count
  pub more_text : old.used ≤ new.used
  pub records_stand : (k : ℕ) → k < old.base → k < old.count → record_at new.slots k ≡ record_at old.slots k
  pub bytes_stand : (k : ℕ) → k < old.used → slice_index new.bytes k ≡ slice_index old.bytes k

-- ---- what a reader has appended: the forest f, at the innermost level. Counts are exact; where both tables hold it all, it is there.
pub record Kept (old new : Held) (f : Forest) : Type 0 where
  pub grew : Grew old new
  pub counts : new.count ≡ capped (old.count + records f)
  pub uses : new.used ≡ capped (old.used + text f)
  pub there : new.count ≤ most_records → new.used ≤ most_text → (c : Cursor) → Means old c → Means new (with_more c f)

-- n bytes of text were appended, and nothing else
pub record Texted (old new : Held) (n : ℕ) : Type 0 where
  pub same_slots : new.slots ≡ old.slots
  pub bytes_long : length new.bytes ≡ length old.bytes
  pub same_count : new.count ≡ old.count
  pub same_base : new.base ≡ old.base
  pub same_open : new.open_record ≡ old.open_record
  pub same_last : new.last_record ≡ old.last_record
  pub uses : new.used ≡ capped (old.used + n)
  pub bytes_stand : (k : ℕ) → k < old.used → slice_index new.bytes k ≡ slice_index old.bytes k

-- the item reads as x, and its texts end by the end
pub record Reads (h : Held) (i : Item) (x : tree.Item) : Type 0 where
  pub is : item_of h.bytes i ≡ x
  pub by : ItemBy h.used i

-- ---- what each call does to the meaning
abbrev pub Puts : Held → Item → Held → Type 0
Puts old i new = (c : Cursor) → Means old c → ItemBy old.used i → new.count ≤ most_records → Means new (with_more c (one (item_of old.bytes i) nothing))

abbrev pub Opens : Held → Item → Held → Type 0
Opens old i new = (c : Cursor) → Means old c → ItemBy old.used i → new.count ≤ most_records → Means new (opened c (item_of old.bytes i))

abbrev pub Closes : Held → Held → Type 0
Closes old new = (c : Cursor) → Means old c → Means new (closed c)

abbrev pub Fills : Held → Item → Held → Type 0
Fills old i new = (c : Cursor) → Means old c → ItemBy old.used i → Means new (filled c (item_of old.bytes i))

abbrev pub Pushes : Held → Held → Type 0
Pushes old new = (c : Cursor) → Means old c → new.used ≤ most_text → Means new c

-- ---- the parts of a record stand after it, and so does what follows it
abbrev pub Beyond : ℕ → Option ℕ → Type 0
Beyond i None = Unit {0}
Beyond i (Some j) = i < j

pub record PartsAfter (slots : List Record) (i : ℕ) : Type 0 where
  pub first_after : Beyond i (record_at slots i).first
  pub next_after : Beyond i (record_at slots i).next

abbrev pub PartsStandAfter : Type 0
PartsStandAfter = (slots : List Record) (bytes : Bytes) (used at : ℕ) (f : Forest) → at + records f ≤ length slots → Stands slots bytes used at f → (k : ℕ) → k < records f → PartsAfter slots (at + k)
