-- What each call does to the meaning of a store.
use Rattle.std.proofs.Common.{◌≡◌, ℕ, ◌+◌, ◌<◌, ◌≤◌, ◌≢◌, List, [], ◌∷◌, ◌++◌, map, length, set, Some, None, sym, refl, ap, ◌∙◌, subst, arith, length-set, get_or-set_other}
use native.Mathlib.Decide.{dec_lt}
use Rattle.std.proofs.lemmas.List.{map_push}
use Rattle.std.proofs.lemmas.List.Elements.{All-push}
use Rattle.grammar.specs.Tree as tree
use Rattle.grammar.specs.Tree.{nothing, one, records}
use Rattle.store.specs.declared.parts.Item.{Item}
use Rattle.store.specs.declared.parts.Record.{Record}
use Rattle.store.specs.Items.{item_of, ItemBy}
use Rattle.store.specs.Rows.{Row, rows, Cursor, level, within, whole, with_more, opened, closed, filled, open_at, last_at}
use Rattle.store.specs.Held.{Held, most_records, most_text, record_at, with_slots, with_item, changed, linked, leaf, pushed, put, put_open, close, fill}
use Rattle.store.specs.Means.{row_of, region, AllBy, Stands, Means, Texted, Puts, Opens, Closes, Fills, Pushes}
use Rattle.store.proofs.Calls.{put-there, put-past, open_there, open_past, close_none, close_some, fill_none, fill_some}
use Rattle.store.proofs.Forests.{records-one, records_none, altered, altered-at, map-altered, row, row_item, relinked, LinksFrom}
use Rattle.store.proofs.Cursors.{whole-opened, whole-closed, records-more, records-filled, open_more, last_more, open_opened, last_opened, open_filled, last_filled, rows_more, opening, links_in}
use Rattle.store.proofs.Texts.{rows_same, all_later}
use Rattle.store.proofs.Regions.{region-changed, records_linked, region-linked, map-linked, region-put, length-linked, length-changed, all-altered, all-linked, row-there}

-- where one more record is counted in a table that is not over-full, there was room
pub room_for : (h : Held) (i : Item) → h.count ≤ most_records → (put h i).count ≤ most_records → h.count < most_records
room_for h i few l = elim (dec_lt h.count most_records) [
  | yes less ↦ less
  | no more ↦ let e = ap (λ (g : Held). g.count) (put-past h i (omega arith)) in absurd (omega arith)
]

-- ---- one more record
module _ (h : Held) (i : Item) (c : Cursor) (m : Means h c) (by : ItemBy h.used i) (less : h.count < most_records) where
  abbrev x : tree.Item
  x = item_of h.bytes i

  abbrev with_one : Cursor
  with_one = with_more c (one x nothing)

  abbrev slots_linked : List Record
  slots_linked = linked h.base h.last_record h.open_record h.count h.slots

  abbrev slots_put : List Record
  slots_put = set slots_linked h.count (leaf i h.open_record)

  counted : records (whole with_one) ≡ records (whole c) + 1
  counted = let a = records-more c (one x nothing) in let b = records-one x nothing in let z = records_none in omega arith

  long-put : length slots_put ≡ 1024
  long-put = length-set slots_linked h.count (leaf i h.open_record) ∙ length-linked h.base h.last_record h.open_record h.count h.slots ∙ m.slotted

  links : LinksFrom h.base h.last_record h.open_record
  links = subst (λ o. LinksFrom h.base h.last_record o) (sym m.open_is) (subst (λ l. LinksFrom h.base l (open_at None h.base c)) (sym m.last_is) (links_in h.base c))

  region-new : region h.base (h.base + records (whole with_one)) slots_put ≡ records_linked h.base h.last_record h.open_record h.count (region h.base (h.base + records (whole c)) h.slots) ++ leaf i h.open_record ∷ []
  region-new =
      let n = records (whole c) in
      let long = length-linked h.base h.last_record h.open_record h.count h.slots in
      let fits : h.base + n < length slots_linked = omega (arith, m.slotted, m.counts) in
      ap (λ k. region h.base (h.base + k) slots_put) counted
      ∙ ap (λ k. region h.base (h.base + (n + 1)) (set slots_linked k (leaf i h.open_record))) m.counts
      ∙ region-put h.base n (leaf i h.open_record) slots_linked fits
      ∙ ap (λ l. l ++ leaf i h.open_record ∷ []) (region-linked h.base n h.last_record h.open_record h.count h.slots links)

  stands-new : Stands slots_put h.bytes h.used h.base (whole with_one)
  stands-new =
      let at = h.base in
      let was = region at (at + records (whole c)) h.slots in
      let l = h.last_record in
      let o = h.open_record in
      record {
        rows_are =
            ap (map (row_of h.bytes)) region-new
            ∙ map_push (row_of h.bytes) (records_linked at l o h.count was) (leaf i o)
            ∙ ap (λ rs. rs ++ row x o None None ∷ []) (map-linked h.bytes at l o h.count was ∙ ap (relinked at l o h.count) m.stands.rows_are)
            ∙ ap (λ o. relinked at l o h.count (rows None at (whole c)) ++ row x o None None ∷ []) m.open_is
            ∙ ap (λ l. relinked at l (open_at None at c) h.count (rows None at (whole c)) ++ row x (open_at None at c) None None ∷ []) m.last_is
            ∙ sym (rows_more None at h.count c x (sym m.counts));
        texts_by = subst (AllBy h.used) (sym region-new) (All-push (λ (r : Record). ItemBy h.used r.item) _ (leaf i o) (all-linked h.used at l o h.count was m.stands.texts_by) by);
      }

  put-means : Means (put h i) with_one
  put-means =
      let new : Means (record h { slots = slots_put; count = h.count + 1; last_record = Some h.count }) with_one = record {
        slotted = long-put;
        sized = m.sized;
        few = omega arith;
        short = m.short;
        counts = omega (arith, m.counts, counted);
        stands = stands-new;
        open_is = m.open_is ∙ sym (open_more None h.base c (one x nothing));
        last_is = ap Some m.counts ∙ sym (last_more h.base c x nothing);
      } in
      subst (λ g. Means g with_one) (sym (put-there h i less)) new

  open_means : Means (put_open h i) (opened c x)
  open_means =
      let same = sym (whole-opened c x) in
      let p = put-means in
      let new : Means (record (put h i) { open_record = Some h.count; last_record = None }) (opened c x) = record {
        slotted = p.slotted;
        sized = p.sized;
        few = p.few;
        short = p.short;
        counts = p.counts ∙ ap (λ f. (put h i).base + records f) same;
        stands = subst (Stands (put h i).slots (put h i).bytes (put h i).used (put h i).base) same p.stands;
        open_is = let b = ap (λ (g : Held). g.base) (put-there h i less) in ap Some m.counts ∙ sym (open_opened None h.base c x) ∙ ap (λ n. open_at None n (opened c x)) (sym b);
        last_is = sym (last_opened (put h i).base c x);
      } in
      subst (λ g. Means g (opened c x)) (sym (open_there h i less)) new

pub puts : (h : Held) (i : Item) → Puts h i (put h i)
puts h i c m by few = put-means h i c m by (room_for h i m.few few)

pub opens : (h : Held) (i : Item) → Opens h i (put_open h i)
opens h i c m by few = elim (dec_lt h.count most_records) [
  | yes less ↦ open_means h i c m by less
  | no more ↦ let e = ap (λ (g : Held). g.count) (open_past h i (omega arith)) in absurd (omega (arith, room_for h i m.few (omega arith)))
]

-- ---- the innermost open record
pub closes : (h : Held) → Closes h (close h)
closes h (level f) m = subst (λ g. Means g (level f)) (sym (close_none h m.open_is)) m
closes h (within b y inner) m =
    let c = within b y inner in
    let at = h.base in
    let o = opening None at b y inner in
    let p = at + length o.before in
    let open_is : h.open_record ≡ Some p = m.open_is ∙ o.place in
    let there = row-there h.bytes at (records (whole c)) h.slots o.before o.it o.behind (m.stands.rows_are ∙ o.split) in
    let same = sym (whole-closed c) in
    let new : Means (record h { open_record = (record_at h.slots p).parent; last_record = Some p }) (closed c) = record {
      slotted = m.slotted;
      sized = m.sized;
      few = m.few;
      short = m.short;
      counts = m.counts ∙ ap (λ f. at + records f) same;
      stands = subst (Stands h.slots h.bytes h.used at) same m.stands;
      open_is = ap (λ (r : Row). r.parent) there ∙ o.parent_is;
      last_is = sym o.last_is;
    } in
    subst (λ g. Means g (closed c)) (sym (close_some h p open_is)) new

pub fills : (h : Held) (i : Item) → Fills h i (fill h i)
fills h i (level f) m by = subst (λ g. Means g (level f)) (sym (fill_none h i m.open_is)) m
fills h i (within b y inner) m by =
    let c = within b y inner in
    let z = item_of h.bytes i in
    let at = h.base in
    let o = opening None at b y inner in
    let p = at + length o.before in
    let open_is : h.open_record ≡ Some p = m.open_is ∙ o.place in
    let n = records (whole c) in
    let g : Record → Record = λ r. with_item r i in
    let slots_new : List Record = changed at p (with_item (record_at h.slots p) i) h.slots in
    let was = region at (at + n) h.slots in
    let same = records-filled c z in
    let le : at ≤ p = omega arith in
    let region_is : region at (at + records (whole (filled c z))) slots_new ≡ altered at p g was = ap (λ k. region at (at + k) slots_new) same ∙ region-changed at n p g h.slots le in
    let rows_new = map-altered (row_of h.bytes) at p g (row_item z) was (λ r. refl)
    ∙ ap (altered at p (row_item z)) (m.stands.rows_are ∙ o.split)
    ∙ altered-at at p (row_item z) o.before o.it o.behind refl
    ∙ sym (o.refilled z) in
    let new : Means (with_slots h slots_new) (filled c z) = record {
      slotted = length-changed at p (with_item (record_at h.slots p) i) h.slots ∙ m.slotted;
      sized = m.sized;
      few = m.few;
      short = m.short;
      counts = m.counts ∙ ap (λ k. at + k) (sym same);
      stands = record {
        rows_are = ap (map (row_of h.bytes)) region_is ∙ rows_new;
        texts_by = subst (AllBy h.used) (sym region_is) (all-altered h.used at p g was (λ r k. by) m.stands.texts_by);
      };
      open_is = m.open_is ∙ sym (open_filled None at c z);
      last_is = m.last_is ∙ sym (last_filled at c z);
    } in
    subst (λ g. Means g (filled c z)) (sym (fill_some h i p open_is)) new

-- ---- text
pub texted-means : {a b : Held} {n : ℕ} → Texted a b n → b.used ≤ most_text → (c : Cursor) → Means a c → Means b c
texted-means {a} {b} {n} t short c m =
    let later : a.used ≤ b.used = omega (arith, t.uses, m.short) in
    let r = region a.base (a.base + records (whole c)) a.slots in
    let same : region b.base (b.base + records (whole c)) b.slots ≡ r = ap (λ k. region k (k + records (whole c)) b.slots) t.same_base ∙ ap (region a.base (a.base + records (whole c))) t.same_slots in
    record {
      slotted = ap length t.same_slots ∙ m.slotted;
      sized = t.bytes_long ∙ m.sized;
      few = omega (arith, t.same_count, m.few);
      short = short;
      counts = t.same_count ∙ m.counts ∙ ap (λ k. k + records (whole c)) (sym t.same_base);
      stands = record {
        rows_are = ap (map (row_of b.bytes)) same ∙ rows_same a.bytes b.bytes a.used t.bytes_long t.bytes_stand r m.stands.texts_by ∙ m.stands.rows_are ∙ ap (λ k. rows None k (whole c)) (sym t.same_base);
        texts_by = subst (AllBy b.used) (sym same) (all_later a.used b.used later r m.stands.texts_by);
      };
      open_is = t.same_open ∙ m.open_is ∙ ap (λ k. open_at None k c) (sym t.same_base);
      last_is = t.same_last ∙ m.last_is ∙ ap (λ k. last_at k c) (sym t.same_base);
    }

pub push_texts : (h : Held) (b : ℕ) → Texted h (pushed h b) 1
unfolding pushed
push_texts h b = record {
  same_slots = refl;
  bytes_long = length-set h.bytes h.used b;
  same_count = refl;
  same_base = refl;
  same_open = refl;
  same_last = refl;
  uses = refl;
  bytes_stand = λ k l. let ne : k ≢ h.used = omega arith in get_or-set_other h.bytes h.used k b 0 ne;
}

pub pushes : (h : Held) (b : ℕ) → Pushes h (pushed h b)
pushes h b c m short = texted-means (push_texts h b) short c m
