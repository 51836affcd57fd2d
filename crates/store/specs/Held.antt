-- What a store holds, and what each call makes of it. Both counts go on past full tables; what does not fit is not stored.
use Rattle.std.specs.Prelude.{ℕ, ◌+◌, ◌-◌, ◌^◌, min, true, false, List, replicate, Some, None, Option, nat_le, nat_lt, slice_index_or, slice_set}
use Rattle.token.specs.Token.{Bytes}
use Rattle.store.specs.declared.parts.Item.{Item}
use Rattle.store.specs.declared.parts.Record.{Record}
use Rattle.store.specs.declared.table.Store.{Store}

pub record Held : Type 0 where
  -- the tables, of 1,024 records and 8,192 bytes
  pub slots : List Record
  pub bytes : Bytes
  -- how many records and bytes there are, stored or not
  pub count : ℕ
  pub used : ℕ
  -- the first record of the file that is being read
  pub base : ℕ
  -- the innermost open record, and the last one at its level
  pub open_record : Option ℕ
  pub last_record : Option ℕ

abbrev pub held : Store → Held
held s = record { slots = s.slots; bytes = s.bytes; count = s.count; used = s.used; base = s.base; open_record = s.open; last_record = s.last }

abbrev pub most_records : ℕ
most_records = 1024

abbrev pub most_text : ℕ
most_text = 8192

-- a count stops at the largest number of 64 bits
abbrev pub capped : ℕ → ℕ
capped n = min n (2 ^ 64 - 1)

abbrev pub no_record : Record
no_record = record { item = Item.Setting; parent = None; first = None; next = None }

abbrev pub record_at : List Record → ℕ → Record
record_at rs i = slice_index_or rs i no_record

-- the record at i, if there is one and it is stored
abbrev pub record_in : Held → ℕ → Option Record
record_in h i = elim (nat_lt i (min h.count most_records)) [ true ↦ Some (record_at h.slots i) | false ↦ None ]

-- the same with other records
abbrev pub with_slots : Held → List Record → Held
with_slots h rs = record h { slots = rs }

-- ---- links
abbrev pub with_next : Record → ℕ → Record
with_next r to = record r { next = Some to }

abbrev pub with_first : Record → ℕ → Record
with_first r to = record r { first = Some to }

-- the record at `to` follows the last one, or is the open one's first part; no record before `base` is changed
abbrev pub changed : ℕ → ℕ → Record → List Record → List Record
changed base at r rs = elim (nat_le base at) [ true ↦ slice_set rs at r | false ↦ rs ]

abbrev pub linked : ℕ → Option ℕ → Option ℕ → ℕ → List Record → List Record
linked base (Some l) o to rs = changed base l (with_next (record_at rs l) to) rs
linked base None (Some p) to rs = changed base p (with_first (record_at rs p) to) rs
linked base None None to rs = rs

abbrev pub leaf : Item → Option ℕ → Record
leaf i parent = record { item = i; parent = parent; first = None; next = None }

-- ---- the calls
unfoldable pub emptied : Held
emptied = record { slots = replicate most_records no_record; bytes = replicate most_text 0; count = 0; used = 0; base = 0; open_record = None; last_record = None }

-- one byte of text more
unfoldable pub pushed : Held → ℕ → Held
pushed h b = record h { bytes = slice_set h.bytes h.used b; used = capped (h.used + 1) }

-- one record more, at the innermost level, where there is room: checked before it is stored
unfoldable pub put : Held → Item → Held
put h i =
    elim (nat_lt h.count most_records) [
      | true ↦ record h { slots = slice_set (linked h.base h.last_record h.open_record h.count h.slots) h.count (leaf i h.open_record); count = h.count + 1; last_record = Some h.count }
      | false ↦ record h { count = capped (h.count + 1) }
    ]

-- the same, and what comes next are its parts
unfoldable pub put_open : Held → Item → Held
put_open h i =
    elim (nat_lt h.count most_records) [
      | true ↦ record (put h i) { open_record = Some h.count; last_record = None }
      | false ↦ put h i
    ]

-- the innermost open record is complete: what comes next follows it
unfoldable pub close : Held → Held
close h = elim h.open_record [ None ↦ h | Some p ↦ record h { open_record = (record_at h.slots p).parent; last_record = Some p } ]

-- another item in the place of the innermost open one
abbrev pub with_item : Record → Item → Record
with_item r i = record r { item = i }

unfoldable pub fill : Held → Item → Held
fill h i =
    elim h.open_record [
      | None ↦ h
      | Some p ↦
          record h { slots = changed h.base p (with_item (record_at h.slots p) i) h.slots }
    ]

-- a new file begins
unfoldable pub begun : Held → Held
begun h = record h { base = h.count; open_record = None; last_record = None }

-- back to so many records and bytes: what was read since is forgotten
unfoldable pub truncated : Held → ℕ → ℕ → Held
truncated h records text = record h { count = min h.count records; used = min h.used text; base = min h.count records; open_record = None; last_record = None }

-- text that stands past the end is taken back, or counted in again as it stands
unfoldable pub retracted : Held → ℕ → Held
retracted h text = record h { used = min h.used text }

unfoldable pub claimed : Held → ℕ → Held
claimed h n = record h { used = capped (h.used + n) }
