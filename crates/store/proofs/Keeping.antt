-- Laws for readers: what a reader has appended, piece by piece.
use Rattle.std.proofs.Common.{◌≡◌, ℕ, ◌+◌, ◌-◌, ◌^◌, ◌<◌, ◌≤◌, ◌≢◌, List, [], ◌∷◌, ◌++◌, map, length, take, drop, set, Some, None, Option, sym, refl, ap, ◌∙◌, subst, le_trans, le_refl, arith, length-drop, length-set, length-take, get_or-drop, get_or-set_other, get_or-take, ext_get_or}
use native.Mathlib.Decide.{dec_lt}
use Rattle.std.proofs.lemmas.List.{drop-set-add, take_more_set, drop-take}
use Rattle.std.proofs.lemmas.List.Elements.{All-nil}
use Rattle.token.specs.Token.{Bytes}
use Rattle.grammar.specs.Tree as tree
use Rattle.grammar.specs.Tree.{Forest, nothing, one, ◌beside◌, records, text, item_text}
use Rattle.store.specs.declared.parts.Span.{Span}
use Rattle.store.specs.declared.parts.Item.{Item}
use Rattle.store.specs.declared.parts.Record.{Record}
use Rattle.store.specs.Items.{bytes_of, item_of, ItemBy}
use Rattle.store.specs.Rows.{rows, level, with_more, opened, filled}
use Rattle.store.specs.Held.{Held, capped, most_records, most_text, no_record, record_at, with_next, with_first, with_item, changed, linked, leaf, pushed, put, put_open, close, fill, begun, claimed}
use Rattle.store.specs.Means.{row_of, region, AllBy, Stands, Means, Grew, Kept, Texted, Reads}
use Rattle.store.proofs.Calls.{changed_in, changed-low, put-there, put-past, open_there, open_past, close_none, close_some, fill_none, fill_some}
use Rattle.store.proofs.Forests.{records_beside, text_beside, records-one, text-one, records_none, text_none}
use Rattle.store.proofs.Cursors.{with_none, with_both, closed-node, filled-node}
use Rattle.store.proofs.Texts.{bytes_same, item-same, item_later, rows_same, all_later}
use Rattle.store.proofs.Regions.{length-changed, length-linked}
use Rattle.store.proofs.Meaning.{puts, opens, closes, fills, texted-means, push_texts}

-- ---- what stood before stands
pub grew_refl : (h : Held) → Grew h h
grew_refl h = record { slots_long = refl; bytes_long = refl; same_base = refl; more_records = le_refl _; more_text = le_refl _; records_stand = λ k l m. refl; bytes_stand = λ k l. refl }

pub grew_join : {a b c : Held} → Grew a b → Grew b c → Grew a c
grew_join {a} {b} {c} g h = record {
  slots_long = h.slots_long ∙ g.slots_long;
  bytes_long = h.bytes_long ∙ g.bytes_long;
  same_base = h.same_base ∙ g.same_base;
  more_records = le_trans g.more_records h.more_records;
  more_text = le_trans g.more_text h.more_text;
  records_stand = λ k l m. h.records_stand k (omega (arith, g.same_base)) (le_trans m g.more_records) ∙ g.records_stand k l m;
  bytes_stand = λ k l. h.bytes_stand k (le_trans l g.more_text) ∙ g.bytes_stand k l;
}

changed-below : (base at : ℕ) (r : Record) (rs : List Record) (k : ℕ) → k < base → record_at (changed base at r rs) k ≡ record_at rs k
changed-below base at r rs k l = elim (dec_lt at base) [
  | yes low ↦ ap (λ xs. record_at xs k) (changed-low base at r rs low)
  | no high ↦ let ne : k ≢ at = omega arith in ap (λ xs. record_at xs k) (changed_in base at r rs (omega arith)) ∙ get_or-set_other rs at k r no_record ne
]

linked-below : (base : ℕ) (l o : Option ℕ) (to : ℕ) (rs : List Record) (k : ℕ) → k < base → record_at (linked base l o to rs) k ≡ record_at rs k
linked-below base (Some l) o to rs k h = changed-below base l (with_next (record_at rs l) to) rs k h
linked-below base None (Some q) to rs k h = changed-below base q (with_first (record_at rs q) to) rs k h
linked-below base None None to rs k h = refl

pub grew-put : (h : Held) (i : Item) → h.count ≤ 2 ^ 64 - 1 → Grew h (put h i)
grew-put h i fits = elim (dec_lt h.count most_records) [
  | yes less ↦
      let was = linked h.base h.last_record h.open_record h.count h.slots in
      let r = leaf i h.open_record in
      subst (Grew h) (sym (put-there h i less)) (record {
        slots_long = length-set was h.count r ∙ length-linked h.base h.last_record h.open_record h.count h.slots;
        bytes_long = refl;
        same_base = refl;
        more_records = omega arith;
        more_text = le_refl _;
        records_stand = λ k l m. let ne : k ≢ h.count = omega arith in get_or-set_other was h.count k r no_record ne ∙ linked-below h.base h.last_record h.open_record h.count h.slots k l;
        bytes_stand = λ k l. refl;
      })
  | no more ↦
      subst (Grew h) (sym (put-past h i (omega arith))) (record {
        slots_long = refl;
        bytes_long = refl;
        same_base = refl;
        more_records = omega arith;
        more_text = le_refl _;
        records_stand = λ k l m. refl;
        bytes_stand = λ k l. refl;
      })
]

pub grew_open : (h : Held) (i : Item) → h.count ≤ 2 ^ 64 - 1 → Grew h (put_open h i)
grew_open h i fits =
    let g = grew-put h i fits in
    elim (dec_lt h.count most_records) [
      | yes less ↦
          subst (Grew h) (sym (open_there h i less)) (record {
            slots_long = g.slots_long;
            bytes_long = g.bytes_long;
            same_base = g.same_base;
            more_records = g.more_records;
            more_text = g.more_text;
            records_stand = g.records_stand;
            bytes_stand = g.bytes_stand;
          })
      | no more ↦ subst (Grew h) (sym (open_past h i (omega arith))) g
    ]

option_cases : (o : Option ℕ) (P : Type 0) → (o ≡ None → P) → ((p : ℕ) → o ≡ Some p → P) → P
option_cases None P f g = f refl
option_cases (Some p) P f g = g p refl

pub grew-close : (h : Held) → Grew h (close h)
grew-close h = option_cases h.open_record (Grew h (close h))
    (λ e. subst (Grew h) (sym (close_none h e)) (grew_refl h))
    (λ p e. subst (Grew h) (sym (close_some h p e)) (record {
      slots_long = refl;
      bytes_long = refl;
      same_base = refl;
      more_records = le_refl _;
      more_text = le_refl _;
      records_stand = λ k l m. refl;
      bytes_stand = λ k l. refl;
    }))

pub grew-fill : (h : Held) (i : Item) → Grew h (fill h i)
grew-fill h i = option_cases h.open_record (Grew h (fill h i))
    (λ e. subst (Grew h) (sym (fill_none h i e)) (grew_refl h))
    (λ p e. subst (Grew h) (sym (fill_some h i p e)) (record {
      slots_long = length-changed h.base p (with_item (record_at h.slots p) i) h.slots;
      bytes_long = refl;
      same_base = refl;
      more_records = le_refl _;
      more_text = le_refl _;
      records_stand = λ k l m. changed-below h.base p (with_item (record_at h.slots p) i) h.slots k l;
      bytes_stand = λ k l. refl;
    }))

-- ---- text
pub texted_none : (h : Held) → h.used ≤ 2 ^ 64 - 1 → Texted h h 0
texted_none h fits = record { same_slots = refl; bytes_long = refl; same_count = refl; same_base = refl; same_open = refl; same_last = refl; uses = omega arith; bytes_stand = λ k l. refl }

pub texted_push : (h : Held) (b : ℕ) → Texted h (pushed h b) 1
texted_push = push_texts

pub texted_join : {a b c : Held} {m n : ℕ} → a.used ≤ 2 ^ 64 - 1 → Texted a b m → Texted b c n → Texted a c (m + n)
texted_join {a} {b} {c} {m} {n} fits s t = record {
  same_slots = t.same_slots ∙ s.same_slots;
  bytes_long = t.bytes_long ∙ s.bytes_long;
  same_count = t.same_count ∙ s.same_count;
  same_base = t.same_base ∙ s.same_base;
  same_open = t.same_open ∙ s.same_open;
  same_last = t.same_last ∙ s.same_last;
  uses = omega (arith, s.uses, t.uses);
  bytes_stand = λ k l. t.bytes_stand k (omega (arith, s.uses)) ∙ s.bytes_stand k l;
}

pub texted-grew : {a b : Held} {n : ℕ} → a.used ≤ 2 ^ 64 - 1 → Texted a b n → Grew a b
texted-grew {a} {b} {n} fits t = record {
  slots_long = ap length t.same_slots;
  bytes_long = t.bytes_long;
  same_base = t.same_base;
  more_records = omega (arith, t.same_count);
  more_text = omega (arith, t.uses);
  records_stand = λ k l m. ap (λ rs. record_at rs k) t.same_slots;
  bytes_stand = t.bytes_stand;
}

pub grew_push : (h : Held) (b : ℕ) → h.used ≤ 2 ^ 64 - 1 → Grew h (pushed h b)
grew_push h b fits = texted-grew fits (texted_push h b)

pub texted_claim : (h : Held) (n : ℕ) → Texted h (claimed h n) n
unfolding claimed
texted_claim h n = record { same_slots = refl; bytes_long = refl; same_count = refl; same_base = refl; same_open = refl; same_last = refl; uses = refl; bytes_stand = λ k l. refl }

-- the bytes of a span: of none, of one more, and of one that was written before
pub span_none : (bs : Bytes) (n : ℕ) → bytes_of bs (record { from = n; to = n }) ≡ []
span_none bs n = let z : n - n ≡ 0 = omega arith in ap (λ k. take k (drop n bs)) z

pub span_push : (h : Held) (b from : ℕ) → from ≤ h.used → h.used < length h.bytes → bytes_of (pushed h b).bytes (record { from = from; to = h.used + 1 }) ≡ bytes_of h.bytes (record { from = from; to = h.used }) ++ b ∷ []
unfolding pushed
span_push h b from le fits =
    let k : ℕ = h.used - from in
    let d = drop from h.bytes in
    let at : h.used ≡ from + k = omega arith in
    let more : h.used + 1 - from ≡ k + 1 = omega arith in
    let long = length-drop from h.bytes in
    ap (λ n. take n (drop from (set h.bytes h.used b))) more
    ∙ ap (λ n. take (k + 1) (drop from (set h.bytes n b))) at
    ∙ ap (take (k + 1)) (drop-set-add from h.bytes k b)
    ∙ take_more_set d k b (omega arith)

pub span_on : {a b : Held} → Grew a b → (s : Span) → s.to ≤ a.used → bytes_of b.bytes s ≡ bytes_of a.bytes s
span_on {a} {b} g s by = bytes_same a.bytes b.bytes a.used g.bytes_long g.bytes_stand s by

-- an item reads the same while more is appended
pub reads_on : {a b : Held} {i : Item} {x : tree.Item} → Grew a b → Reads a i x → Reads b i x
reads_on {a} {b} {i} g r = record {
  is = item-same a.bytes b.bytes a.used g.bytes_long g.bytes_stand i r.by ∙ r.is;
  by = item_later a.used b.used g.more_text i r.by;
}

-- ---- the counts
pub put_count : (h : Held) (i : Item) → (put h i).count ≡ capped (h.count + 1)
put_count h i = elim (dec_lt h.count most_records) [
  | yes less ↦ let e = ap (λ (g : Held). g.count) (put-there h i less) in omega arith
  | no more ↦ ap (λ (g : Held). g.count) (put-past h i (omega arith))
]

pub put-used : (h : Held) (i : Item) → (put h i).used ≡ h.used
put-used h i = elim (dec_lt h.count most_records) [
  | yes less ↦ ap (λ (g : Held). g.used) (put-there h i less)
  | no more ↦ ap (λ (g : Held). g.used) (put-past h i (omega arith))
]

pub open_count : (h : Held) (i : Item) → (put_open h i).count ≡ capped (h.count + 1)
open_count h i = elim (dec_lt h.count most_records) [
  | yes less ↦ ap (λ (g : Held). g.count) (open_there h i less) ∙ put_count h i
  | no more ↦ ap (λ (g : Held). g.count) (open_past h i (omega arith)) ∙ put_count h i
]

pub open_used : (h : Held) (i : Item) → (put_open h i).used ≡ h.used
open_used h i = elim (dec_lt h.count most_records) [
  | yes less ↦ ap (λ (g : Held). g.used) (open_there h i less) ∙ put-used h i
  | no more ↦ ap (λ (g : Held). g.used) (open_past h i (omega arith)) ∙ put-used h i
]

pub close-count : (h : Held) → (close h).count ≡ h.count
close-count h = option_cases h.open_record ((close h).count ≡ h.count) (λ e. ap (λ (g : Held). g.count) (close_none h e)) (λ p e. ap (λ (g : Held). g.count) (close_some h p e))

pub close-used : (h : Held) → (close h).used ≡ h.used
close-used h = option_cases h.open_record ((close h).used ≡ h.used) (λ e. ap (λ (g : Held). g.used) (close_none h e)) (λ p e. ap (λ (g : Held). g.used) (close_some h p e))

pub fill-count : (h : Held) (i : Item) → (fill h i).count ≡ h.count
fill-count h i = option_cases h.open_record ((fill h i).count ≡ h.count) (λ e. ap (λ (g : Held). g.count) (fill_none h i e)) (λ p e. ap (λ (g : Held). g.count) (fill_some h i p e))

pub fill-used : (h : Held) (i : Item) → (fill h i).used ≡ h.used
fill-used h i = option_cases h.open_record ((fill h i).used ≡ h.used) (λ e. ap (λ (g : Held). g.used) (fill_none h i e)) (λ p e. ap (λ (g : Held). g.used) (fill_some h i p e))

-- ---- what a reader has appended
pub kept-grew : {a b : Held} {f : Forest} → Kept a b f → Grew a b
kept-grew k = k.grew

pub kept_none : (h : Held) → h.count ≤ 2 ^ 64 - 1 → h.used ≤ 2 ^ 64 - 1 → Kept h h nothing
kept_none h fits short = record {
  grew = grew_refl h;
  counts = let z = records_none in omega arith;
  uses = let z = text_none in omega arith;
  there = λ few text c m. subst (Means h) (sym (with_none c)) m;
}

pub kept_join : {a b c : Held} {f g : Forest} → Kept a b f → Kept b c g → Kept a c (f beside g)
kept_join {a} {b} {c} {f} {g} p q = record {
  grew = grew_join p.grew q.grew;
  counts = let z = records_beside f g in omega (arith, p.counts, q.counts);
  uses = let z = text_beside f g in omega (arith, p.uses, q.uses);
  there = λ few short k m. subst (Means c) (with_both k f g) (q.there few short (with_more k f) (p.there (le_trans q.grew.more_records few) (le_trans q.grew.more_text short) k m));
}

-- A record with its text before it. What the item reads as need be known only where the text table holds it all.
pub kept-leaf : {a b : Held} {n : ℕ} {i : Item} {x : tree.Item} → a.count ≤ 2 ^ 64 - 1 → a.used ≤ 2 ^ 64 - 1 → Texted a b n → (b.used ≤ most_text → Reads b i x) → item_text x ≡ n → Kept a (put b i) (one x nothing)
kept-leaf {a} {b} {n} {i} {x} fits short t r e =
    let used = put-used b i in
    record {
      grew = grew_join (texted-grew short t) (grew-put b i (omega (arith, t.same_count)));
      counts = let z = records-one x nothing in let y = records_none in let p = put_count b i in omega (arith, t.same_count);
      uses = let z = text-one x nothing in let y = text_none in omega (arith, t.uses);
      there = λ few most c m.
          let most_b : b.used ≤ most_text = omega arith in
          subst (λ y. Means (put b i) (with_more c (one y nothing))) (r most_b).is (puts b i c (texted-means t most_b c m) (r most_b).by few);
    }

-- a record, and then its parts
pub kept-node : {a b c : Held} {n : ℕ} {i : Item} {x : tree.Item} {f : Forest} → a.count ≤ 2 ^ 64 - 1 → a.used ≤ 2 ^ 64 - 1 → Texted a b n → (b.used ≤ most_text → Reads b i x) → item_text x ≡ n → Kept (put_open b i) c f → Kept a (close c) (one x f)
kept-node {a} {b} {c} {n} {i} {x} {f} fits short t r e p =
    let opened_count = open_count b i in
    let opened_used = open_used b i in
    let closed_count = close-count c in
    let closed_used = close-used c in
    let before = texted-grew short t in
    let at_open = grew_open b i (omega (arith, t.same_count)) in
    record {
      grew = grew_join before (grew_join at_open (grew_join p.grew (grew-close c)));
      counts = let z = records-one x f in omega (arith, t.same_count, p.counts);
      uses = let z = text-one x f in omega (arith, t.uses, p.uses);
      there = λ few most k m.
          let few_c : c.count ≤ most_records = omega arith in
          let most_c : c.used ≤ most_text = omega arith in
          let few_b : (put_open b i).count ≤ most_records = le_trans p.grew.more_records few_c in
          let most_b : b.used ≤ most_text = omega (arith, p.grew.more_text) in
          let in_open : Means (put_open b i) (opened k x) = subst (λ y. Means (put_open b i) (opened k y)) (r most_b).is (opens b i k (texted-means t most_b k m) (r most_b).by few_b) in
          subst (Means (close c)) (closed-node k x f) (closes c (with_more (opened k x) f) (p.there few_c most_c (opened k x) in_open));
    }

-- A record is opened with any item, its parts f are read, then n bytes of text, then it is filled with what reads as x, and then its parts g are read.
pub kept-filled : {a b c d e : Held} {m n : ℕ} (i : Item) {j : Item} {x : tree.Item} {f g : Forest}
    → a.count ≤ 2 ^ 64 - 1 → a.used ≤ 2 ^ 64 - 1 → Texted a b m → ItemBy b.used i → Kept (put_open b i) c f → Texted c d n → (d.used ≤ most_text → Reads d j x) → item_text x ≡ m + n → Kept (fill d j) e g
    → Kept a (close e) (one x (f beside g))
kept-filled {a} {b} {c} {d} {e} {m} {n} i {j} {x} {f} {g} fits short s by p t r is q =
    let opened_count = open_count b i in
    let opened_used = open_used b i in
    let filled_count = fill-count d j in
    let filled_used = fill-used d j in
    let closed_count = close-count e in
    let closed_used = close-used e in
    let c_short : c.used ≤ 2 ^ 64 - 1 = omega (arith, p.uses) in
    let before = texted-grew short s in
    let at_open = grew_open b i (omega (arith, s.same_count)) in
    let then_text = texted-grew c_short t in
    record {
      grew = grew_join before (grew_join at_open (grew_join p.grew (grew_join then_text (grew_join (grew-fill d j) (grew_join q.grew (grew-close e))))));
      counts = let z = records-one x (f beside g) in let y = records_beside f g in omega (arith, s.same_count, p.counts, t.same_count, q.counts);
      uses = let z = text-one x (f beside g) in let y = text_beside f g in omega (arith, s.uses, p.uses, t.uses, q.uses);
      there = λ few most k mk.
          let y = item_of b.bytes i in
          let few_e : e.count ≤ most_records = omega arith in
          let most_e : e.used ≤ most_text = omega arith in
          let most_d : d.used ≤ most_text = omega (arith, q.grew.more_text) in
          let few_c : c.count ≤ most_records = omega (arith, q.grew.more_records, t.same_count) in
          let most_c : c.used ≤ most_text = omega (arith, then_text.more_text) in
          let few_b : (put_open b i).count ≤ most_records = le_trans p.grew.more_records few_c in
          let most_b : b.used ≤ most_text = omega (arith, p.grew.more_text) in
          let in_open : Means (put_open b i) (opened k y) = opens b i k (texted-means s most_b k mk) by few_b in
          let in_parts : Means d (with_more (opened k y) f) = texted-means t most_d (with_more (opened k y) f) (p.there few_c most_c (opened k y) in_open) in
          let in_filled : Means (fill d j) (with_more (opened k x) f) =
          subst (Means (fill d j)) (ap (filled (with_more (opened k y) f)) (r most_d).is ∙ filled-node k y x f) (fills d j (with_more (opened k y) f) in_parts (r most_d).by) in
          let in_all : Means e (with_more (opened k x) (f beside g)) = subst (Means e) (with_both (opened k x) f g) (q.there few_e most_e (with_more (opened k x) f) in_filled) in
          subst (Means (close e)) (closed-node k x (f beside g)) (closes e (with_more (opened k x) (f beside g)) in_all);
    }

-- ---- a file begins, and a file that is complete stays
pub begun-means : (h : Held) → length h.slots ≡ 1024 → length h.bytes ≡ 8192 → h.count ≤ most_records → h.used ≤ most_text → Means (begun h) (level nothing)
unfolding begun rows records
begun-means h slotted sized few short =
    let empty : region h.count (h.count + 0) h.slots ≡ [] = drop-take h.count 0 h.slots in
    record {
      slotted = slotted;
      sized = sized;
      few = few;
      short = short;
      counts = omega arith;
      stands = record { rows_are = ap (map (row_of h.bytes)) empty; texts_by = subst (AllBy h.used) (sym empty) (All-nil (λ (r : Record). ItemBy h.used r.item)) };
      open_is = refl;
      last_is = refl;
    }

pub stands_on : {a b : Held} → Grew a b → (at : ℕ) (f : Forest) → at + records f ≤ a.base → at + records f ≤ a.count → Stands a.slots a.bytes a.used at f → Stands b.slots b.bytes b.used at f
stands_on {a} {b} g at f low counted st =
    let n = records f in
    let was = region at (at + n) a.slots in
    let long = g.slots_long in
    let same : region at (at + n) b.slots ≡ was =
    drop-take at n b.slots
    ∙ ext_get_or no_record (take n (drop at b.slots)) (take n (drop at a.slots)) (simp (length-take, length-drop) (omega arith))
    (λ k l.
    let less : k < n = omega (arith, length-take n (drop at b.slots)) in
    get_or-take n (drop at b.slots) k no_record less ∙ get_or-drop at b.slots k no_record
    ∙ g.records_stand (at + k) (omega arith) (omega arith)
    ∙ sym (get_or-take n (drop at a.slots) k no_record less ∙ get_or-drop at a.slots k no_record))
    ∙ sym (drop-take at n a.slots) in
    record {
      rows_are = ap (map (row_of b.bytes)) same ∙ rows_same a.bytes b.bytes a.used g.bytes_long g.bytes_stand was st.texts_by ∙ st.rows_are;
      texts_by = subst (AllBy b.used) (sym same) (all_later a.used b.used g.more_text was st.texts_by);
    }
