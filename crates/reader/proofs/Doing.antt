-- The laws of what was done to a store: one step joined to the next, and a whole forest as its events.
use Rattle.std.proofs.Common.{◌≡◌, ℕ, ◌+◌, ◌-◌, ◌^◌, ◌≤◌, List, [], ◌∷◌, ◌++◌, sym, refl, ap, ◌∙◌, subst, le_trans, arith}
use Rattle.grammar.specs.Tree as tree
use Rattle.grammar.specs.Tree.{Forest, nothing, node, one, records, text}
use Rattle.store.specs.declared.parts.Item.{Item}
use Rattle.store.specs.Rows.{Cursor, opened, closed, filled, with_more}
use Rattle.store.specs.Held.{Held, most_text, put, put_open, close, fill}
use Rattle.store.specs.Means.{Means, Kept, Texted, Reads}
use Rattle.store.proofs.Cursors.{with_none, with_both, closed-node}
use Rattle.store.proofs.Meaning.{opens as open_means, closes as close_means, fills as fill_means, texted-means}
use Rattle.store.proofs.Keeping.{kept-leaf, grew_refl, grew_join, grew_open, grew-close, grew-fill, texted-grew, open_count, open_used, close-count, close-used, fill-count, fill-used}
use Rattle.reader.specs.Events.{Event, opens, closes, fills, replay, events, appended, texts, Did}

-- ---- events
pub replay_join : (c : Cursor) (es fs : List Event) → replay c (es ++ fs) ≡ replay (replay c es) fs
replay_join c [] fs = refl
replay_join c (opens x ∷ es) fs = replay_join (opened c x) es fs
replay_join c (closes ∷ es) fs = replay_join (closed c) es fs
replay_join c (fills x ∷ es) fs = replay_join (filled c x) es fs

pub appended_join : (es fs : List Event) → appended (es ++ fs) ≡ appended es + appended fs
appended_join [] fs = omega arith
appended_join (opens x ∷ es) fs = omega (arith, appended_join es fs)
appended_join (closes ∷ es) fs = appended_join es fs
appended_join (fills x ∷ es) fs = appended_join es fs

-- a whole forest stands behind what stood
pub replay-events : (c : Cursor) (f : Forest) → replay c (events f) ≡ with_more c f
unfolding events
replay-events c nothing = sym (with_none c)
replay-events c (node x parts rest) =
    replay_join (opened c x) (events parts) (closes ∷ events rest)
    ∙ ap (λ (k : Cursor). replay (closed k) (events rest)) (replay-events (opened c x) parts)
    ∙ ap (λ (k : Cursor). replay k (events rest)) (closed-node c x parts)
    ∙ replay-events (with_more c (one x parts)) rest
    ∙ with_both c (one x parts) rest

pub appended-events : (f : Forest) → appended (events f) ≡ records f
unfolding events records
appended-events nothing = refl
appended-events (node x parts rest) = omega (arith, appended_join (events parts) (closes ∷ events rest), appended-events parts, appended-events rest)

pub texts_join : (es fs : List Event) → texts (es ++ fs) ≡ texts es + texts fs
texts_join [] fs = omega arith
texts_join (opens x ∷ es) fs = omega (arith, texts_join es fs)
texts_join (closes ∷ es) fs = texts_join es fs
texts_join (fills x ∷ es) fs = omega (arith, texts_join es fs)

pub texts-events : (f : Forest) → texts (events f) ≡ text f
unfolding events text
texts-events nothing = refl
texts-events (node x parts rest) = omega (arith, texts_join (events parts) (closes ∷ events rest), texts-events parts, texts-events rest)

-- ---- steps
pub did_none : (h : Held) → h.count ≤ 2 ^ 64 - 1 → h.used ≤ 2 ^ 64 - 1 → Did h h []
did_none h fits short = record { grew = grew_refl h; counts = omega arith; uses = omega arith; there = λ few most c m. m }

pub did_join : {a b c : Held} {es fs : List Event} → Did a b es → Did b c fs → Did a c (es ++ fs)
did_join {a} {b} {c} {es} {fs} p q = record {
  grew = grew_join p.grew q.grew;
  counts = let z = appended_join es fs in omega (arith, p.counts, q.counts);
  uses = let z = texts_join es fs in omega (arith, p.uses, q.uses);
  there = λ few most k mk. subst (Means c) (sym (replay_join k es fs)) (q.there few most (replay k es) (p.there (le_trans q.grew.more_records few) (le_trans q.grew.more_text most) k mk));
}

-- ---- a whole forest, as its events and back
pub did_forest : {a b : Held} {f : Forest} → Kept a b f → Did a b (events f)
did_forest {a} {b} {f} k = record {
  grew = k.grew;
  counts = let z = appended-events f in omega (arith, k.counts);
  uses = let z = texts-events f in omega (arith, k.uses);
  there = λ few most c m. subst (Means b) (sym (replay-events c f)) (k.there few most c m);
}

pub kept-events : {a b : Held} {f : Forest} → Did a b (events f) → Kept a b f
kept-events {a} {b} {f} d = record {
  grew = d.grew;
  counts = let z = appended-events f in omega (arith, d.counts);
  uses = let z = texts-events f in omega (arith, d.uses);
  there = λ few most c m. subst (Means b) (replay-events c f) (d.there few most c m);
}

-- ---- one call
-- a record with its text before it, whose parts come next
pub did_open : {a b : Held} {n : ℕ} (i : Item) {x : tree.Item} → a.count ≤ 2 ^ 64 - 1 → a.used ≤ 2 ^ 64 - 1 → Texted a b n → (b.used ≤ most_text → Reads b i x) → tree.item_text x ≡ n → Did a (put_open b i) (opens x ∷ [])
did_open {a} {b} {n} i {x} fits short t r e =
    let used = open_used b i in
    let count = open_count b i in
    record {
      grew = grew_join (texted-grew short t) (grew_open b i (omega (arith, t.same_count)));
      counts = omega (arith, t.same_count);
      uses = omega (arith, t.uses);
      there = λ few most c m.
          let most_b : b.used ≤ most_text = omega arith in
          subst (λ (y : tree.Item). Means (put_open b i) (opened c y)) (r most_b).is (open_means b i c (texted-means t most_b c m) (r most_b).by few);
    }

leaf-events : (x : tree.Item) → events (one x nothing) ≡ opens x ∷ closes ∷ []
unfolding events
leaf-events x = refl

-- a record without parts
pub did-leaf : {a b : Held} {n : ℕ} (i : Item) {x : tree.Item} → a.count ≤ 2 ^ 64 - 1 → a.used ≤ 2 ^ 64 - 1 → Texted a b n → (b.used ≤ most_text → Reads b i x) → tree.item_text x ≡ n → Did a (put b i) (opens x ∷ closes ∷ [])
did-leaf {a} {b} i {x} fits short t r e = subst (Did a (put b i)) (leaf-events x) (did_forest (kept-leaf fits short t r e))

pub did-close : (h : Held) → h.count ≤ 2 ^ 64 - 1 → h.used ≤ 2 ^ 64 - 1 → Did h (close h) (closes ∷ [])
did-close h fits short = record {
  grew = grew-close h;
  counts = let z = close-count h in omega arith;
  uses = let z = close-used h in omega arith;
  there = λ few most c m. close_means h c m;
}

-- the open record gets its item, with the item's text before it
pub did-fill : {a b : Held} {n : ℕ} (i : Item) {x : tree.Item} → a.count ≤ 2 ^ 64 - 1 → a.used ≤ 2 ^ 64 - 1 → Texted a b n → (b.used ≤ most_text → Reads b i x) → tree.item_text x ≡ n → Did a (fill b i) (fills x ∷ [])
did-fill {a} {b} {n} i {x} fits short t r e =
    let used = fill-used b i in
    let count = fill-count b i in
    record {
      grew = grew_join (texted-grew short t) (grew-fill b i);
      counts = omega (arith, t.same_count);
      uses = omega (arith, t.uses);
      there = λ few most c m.
          let most_b : b.used ≤ most_text = omega arith in
          subst (λ (y : tree.Item). Means (fill b i) (filled c y)) (r most_b).is (fill_means b i c (texted-means t most_b c m) (r most_b).by);
    }
