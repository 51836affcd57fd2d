-- What the code of a call leaves is what the call is to make of the store.
use Rattle.std.proofs.Common.{◌≡◌, ℕ, ◌+◌, ◌<◌, ◌≤◌, min, true, false, ltb, leb, List, set, Some, None, Option, ap, arith}
use Rattle.std.proofs.lemmas.Bool.Decides.{nat_tests}
use Rattle.store.specs.declared.parts.Item.{Item}
use Rattle.store.specs.declared.parts.Record.{Record}
use Rattle.store.specs.Held.{Held, capped, most_records, record_at, record_in, with_slots, with_item, changed, linked, leaf, put, put_open, close, fill}

pub changed_in : (base at : ℕ) (r : Record) (rs : List Record) → base ≤ at → changed base at r rs ≡ set rs at r
changed_in base at r rs le = let t : leb base at ≡ true = grind (arith, nat_tests) in rw (t, changed)

pub changed-low : (base at : ℕ) (r : Record) (rs : List Record) → at < base → changed base at r rs ≡ rs
changed-low base at r rs lt = let t : leb base at ≡ false = grind (arith, nat_tests) in rw (t, changed)

pub record_there : (h : Held) (i : ℕ) → i < h.count → i < most_records → record_in h i ≡ Some (record_at h.slots i)
record_there h i l m = let t : ltb i (min h.count most_records) ≡ true = grind (arith, nat_tests) in rw (t, record_in)

pub record_past : (h : Held) (i : ℕ) → min h.count most_records ≤ i → record_in h i ≡ None
record_past h i l = let t : ltb i (min h.count most_records) ≡ false = grind (arith, nat_tests) in rw (t, record_in)

pub put-there : (h : Held) (i : Item) → h.count < most_records
    → put h i ≡ record h { slots = set (linked h.base h.last_record h.open_record h.count h.slots) h.count (leaf i h.open_record); count = h.count + 1; last_record = Some h.count }
unfolding put
put-there h i l = let t : ltb h.count most_records ≡ true = grind (arith, nat_tests) in rw (t, put)

pub put-past : (h : Held) (i : Item) → most_records ≤ h.count
    → put h i ≡ record h { count = capped (h.count + 1) }
unfolding put
put-past h i l = let t : ltb h.count most_records ≡ false = grind (arith, nat_tests) in rw (t, put)

pub open_there : (h : Held) (i : Item) → h.count < most_records
    → put_open h i ≡ record (put h i) { open_record = Some h.count; last_record = None }
unfolding put_open
open_there h i l = let t : ltb h.count most_records ≡ true = grind (arith, nat_tests) in rw (t, put_open)

pub open_past : (h : Held) (i : Item) → most_records ≤ h.count → put_open h i ≡ put h i
unfolding put_open
open_past h i l = let t : ltb h.count most_records ≡ false = grind (arith, nat_tests) in rw (t, put_open)

pub close_none : (h : Held) → h.open_record ≡ None → close h ≡ h
unfolding close
close_none h e = rw e

pub close_some : (h : Held) (p : ℕ) → h.open_record ≡ Some p
    → close h ≡ record h { open_record = (record_at h.slots p).parent; last_record = Some p }
unfolding close
close_some h p e = rw e

pub fill_none : (h : Held) (i : Item) → h.open_record ≡ None → fill h i ≡ h
unfolding fill
fill_none h i e = rw e

pub fill_some : (h : Held) (i : Item) (p : ℕ) → h.open_record ≡ Some p → fill h i ≡ with_slots h (changed h.base p (with_item (record_at h.slots p) i) h.slots)
unfolding fill
fill_some h i p e = let open_is : Option ℕ → Held = λ o. elim o [
  | None ↦ h
  | Some p ↦ with_slots h (changed h.base p (with_item (record_at h.slots p) i) h.slots)
] in ap open_is e
