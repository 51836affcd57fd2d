-- What each call is to a forest that is being read: its rows, and where the next item goes.
use Rattle.std.proofs.Common.{◌≡◌, ℕ, suc, ◌+◌, List, [], ◌∷◌, ◌++◌, length, Some, None, Option, sym, refl, ap, ◌∙◌, append_assoc, arith, length-append}
use Rattle.grammar.specs.Tree as tree
use Rattle.grammar.specs.Tree.{Forest, nothing, node, one, ◌beside◌, records}
use Rattle.store.specs.Rows.{Row, begins, rows, Cursor, level, within, whole, with_more, opened, closed, filled, open_at, ends, last_at}
use Rattle.store.proofs.Forests.{beside_none, beside_assoc, records_beside, records-one, altered-here, rows_to, row, rows_to_none, length-rows_to, rows_to_beside, rows-within, row_first, row_item, relinked, LinksFrom, links_sooner, relinked-behind, relinked-next, ends-from, ends-one, ends-relinked}

-- ---- the laws of a cursor
pub with_none : (c : Cursor) → with_more c nothing ≡ c
with_none (level f) = ap level (beside_none f)
with_none (within b y inner) = ap (within b y) (with_none inner)

pub with_both : (c : Cursor) (f g : Forest) → with_more (with_more c f) g ≡ with_more c (f beside g)
with_both (level k) f g = ap level (beside_assoc k f g)
with_both (within b y inner) f g = ap (within b y) (with_both inner f g)

pub closed-node : (c : Cursor) (x : tree.Item) (f : Forest) → closed (with_more (opened c x) f) ≡ with_more c (one x f)
closed-node (level g) x f = refl
closed-node (within b y (level g)) x f = ap (within b y) (closed-node (level g) x f)
closed-node (within b y (within d z inner)) x f = ap (within b y) (closed-node (within d z inner) x f)

pub filled-node : (c : Cursor) (x z : tree.Item) (f : Forest) → filled (with_more (opened c x) f) z ≡ with_more (opened c z) f
filled-node (level g) x z f = refl
filled-node (within b y (level g)) x z f = ap (within b y) (filled-node (level g) x z f)
filled-node (within b y (within d w inner)) x z f = ap (within b y) (filled-node (within d w inner) x z f)

pub whole-opened : (c : Cursor) (x : tree.Item) → whole (opened c x) ≡ whole (with_more c (one x nothing))
whole-opened (level f) x = refl
whole-opened (within b y inner) x = ap (λ f. b beside one y f) (whole-opened inner x)

pub whole-closed : (c : Cursor) → whole (closed c) ≡ whole c
whole-closed (level f) = refl
whole-closed (within b x (level f)) = refl
whole-closed (within b x (within f y inner)) = ap (λ g. b beside one x g) (whole-closed (within f y inner))

pub records-within : (b : Forest) (x : tree.Item) (f : Forest) → records (b beside one x f) ≡ suc (records b + records f)
records-within b x f = let h = records_beside b (one x f) in let k = records-one x f in omega arith

pub records-more : (c : Cursor) (f : Forest) → records (whole (with_more c f)) ≡ records (whole c) + records f
records-more (level g) f = records_beside g f
records-more (within b y inner) f =
    let h = records-more inner f in
    let k = records-within b y (whole (with_more inner f)) in
    let j = records-within b y (whole inner) in
    omega arith

pub records-filled : (c : Cursor) (z : tree.Item) → records (whole (filled c z)) ≡ records (whole c)
records-filled (level f) z = refl
records-filled (within b x (level f)) z = records-within b z f ∙ sym (records-within b x f)
records-filled (within b x (within f y inner)) z =
    let h = records-filled (within f y inner) z in
    let k = records-within b x (whole (filled (within f y inner) z)) in
    let j = records-within b x (whole (within f y inner)) in
    omega arith

-- ---- where the next item goes
pub open_more : (p : Option ℕ) (at : ℕ) (c : Cursor) (f : Forest) → open_at p at (with_more c f) ≡ open_at p at c
open_more p at (level g) f = refl
open_more p at (within b y inner) f = open_more (Some (at + records b)) (suc (at + records b)) inner f

pub last_more : (at : ℕ) (c : Cursor) (x : tree.Item) (f : Forest) → last_at at (with_more c (one x f)) ≡ Some (at + records (whole c))
last_more at (level g) x f = ends-one at (at + records g) g x f refl
last_more at (within b y inner) x f =
    let h = last_more (suc (at + records b)) inner x f in
    let k = records-within b y (whole inner) in
    let e : suc (at + records b) + records (whole inner) ≡ at + records (b beside one y (whole inner)) = omega arith in
    h ∙ ap Some e

pub open_opened : (p : Option ℕ) (at : ℕ) (c : Cursor) (x : tree.Item) → open_at p at (opened c x) ≡ Some (at + records (whole c))
open_opened p at (level g) x = refl
open_opened p at (within b y inner) x =
    let h = open_opened (Some (at + records b)) (suc (at + records b)) inner x in
    let k = records-within b y (whole inner) in
    let e : suc (at + records b) + records (whole inner) ≡ at + records (b beside one y (whole inner)) = omega arith in
    h ∙ ap Some e

pub last_opened : (at : ℕ) (c : Cursor) (x : tree.Item) → last_at at (opened c x) ≡ None
last_opened at (level g) x = refl
last_opened at (within b y inner) x = last_opened (suc (at + records b)) inner x

pub open_filled : (p : Option ℕ) (at : ℕ) (c : Cursor) (z : tree.Item) → open_at p at (filled c z) ≡ open_at p at c
open_filled p at (level f) z = refl
open_filled p at (within b x (level f)) z = refl
open_filled p at (within b x (within f y inner)) z = open_filled (Some (at + records b)) (suc (at + records b)) (within f y inner) z

pub last_filled : (at : ℕ) (c : Cursor) (z : tree.Item) → last_at at (filled c z) ≡ last_at at c
last_filled at (level f) z = refl
last_filled at (within b x (level f)) z = refl
last_filled at (within b x (within f y inner)) z = last_filled (suc (at + records b)) (within f y inner) z

-- ---- one more item: one more row, and one changed link
links_within : (at : ℕ) (b : Forest) (y : tree.Item) (inner : Cursor) → LinksFrom (at + records b) (last_at (suc (at + records b)) inner) (open_at (Some (at + records b)) (suc (at + records b)) inner)
links_within at b y (level nothing) = omega arith
links_within at b y (level (node x parts rest)) =
    let a = at + records b in
    links_sooner (suc a) a (ends (suc a) (node x parts rest)) (Some a) (omega arith) (ends-from (suc a) (Some a) x parts rest)
links_within at b y (within d z inner) =
    let a = at + records b in
    let n = suc a + records d in
    links_sooner n a (last_at (suc n) inner) (open_at (Some n) (suc n) inner) (omega arith) (links_within (suc a) d z inner)

begins-within : (n : ℕ) (b : Forest) (y : tree.Item) (f : Forest) → begins n (b beside one y f) ≡ Some n
begins-within n nothing y f = refl
begins-within n (node x parts rest) y f = refl

-- the link of an open item and its parts
head-relinked : (a : ℕ) (p : Option ℕ) (y x : tree.Item) (inner : Cursor) (to : ℕ) → suc a + records (whole inner) ≡ to
    → row y p (begins (suc a) (whole (with_more inner (one x nothing)))) None ∷ relinked (suc a) (last_at (suc a) inner) (open_at (Some a) (suc a) inner) to (rows (Some a) (suc a) (whole inner))
    ≡ relinked a (last_at (suc a) inner) (open_at (Some a) (suc a) inner) to (row y p (begins (suc a) (whole inner)) None ∷ rows (Some a) (suc a) (whole inner))
unfolding rows records
head-relinked a p y x (level nothing) to e =
    let z : suc a ≡ to = omega arith in
    ap (λ n. row y p (Some n) None ∷ []) z ∙ sym (altered-here a (row_first to) (row y p None None) [])
head-relinked a p y x (level (node w parts rest)) to e =
    sym (relinked-next a (ends (suc a) (node w parts rest)) (Some a) to (row y p (Some (suc a)) None) (rows (Some a) (suc a) (node w parts rest)) (ends-from (suc a) (Some a) w parts rest))
head-relinked a p y x (within d z inner) to e =
    let n = suc a + records d in
    let l = last_at (suc n) inner in
    let o = open_at (Some n) (suc n) inner in
    let from : LinksFrom (suc a) l o = links_sooner n (suc a) l o (omega arith) (links_within (suc a) d z inner) in
    let vs = rows (Some a) (suc a) (d beside one z (whole inner)) in
    let was = begins-within (suc a) d z (whole (with_more inner (one x nothing))) in
    let is = begins-within (suc a) d z (whole inner) in
    ap (λ f. row y p f None ∷ relinked (suc a) l o to vs) (was ∙ sym is)
    ∙ sym (relinked-next a l o to (row y p (begins (suc a) (d beside one z (whole inner))) None) vs from)

pub rows_more : (p : Option ℕ) (at to : ℕ) (c : Cursor) (x : tree.Item) → at + records (whole c) ≡ to
    → rows p at (whole (with_more c (one x nothing))) ≡ relinked at (last_at at c) (open_at p at c) to (rows p at (whole c)) ++ row x (open_at p at c) None None ∷ []
unfolding rows rows_to
rows_more None at to (level nothing) x e = refl
rows_more (Some q) at to (level nothing) x e = refl
rows_more p at to (level (node y parts rest)) x e =
    let f = node y parts rest in
    let before = rows_to_none p at f in
    sym (rows_to_none p at (f beside one x nothing)) ∙ rows_to_beside p at to f (one x nothing) None e
    ∙ ap (λ l. l ++ row x p None None ∷ []) (sym (ends-relinked p at y parts rest p to) ∙ ap (relinked at (ends at f) p to) before)
rows_more p at to (within b y inner) x e =
    let a = at + records b in
    let l = last_at (suc a) inner in
    let o = open_at (Some a) (suc a) inner in
    let inside : suc a + records (whole inner) ≡ to = omega (arith, records-within b y (whole inner)) in
    let us = rows_to p at b (Some a) in
    let vs = rows (Some a) (suc a) (whole inner) in
    let it = row y p (begins (suc a) (whole inner)) None in
    let new = row x o None None ∷ [] in
    let long = length-rows_to p at b (Some a) in
    let was = rows-within p at a b y (whole inner) refl in
    let step : relinked at l o to (rows p at (b beside one y (whole inner))) ≡ us ++ relinked a l o to (it ∷ vs) =
    ap (relinked at l o to) was ∙ relinked-behind at a l o to us (it ∷ vs) (omega arith) (links_within at b y inner) in
    let first = begins (suc a) (whole (with_more inner (one x nothing))) in
    rows-within p at a b y (whole (with_more inner (one x nothing))) refl
    ∙ ap (λ zs. us ++ (row y p first None ∷ zs)) (rows_more (Some a) (suc a) to inner x inside)
    ∙ ap (λ zs. us ++ (zs ++ new)) (head-relinked a p y x inner to inside)
    ∙ sym (append_assoc us (relinked a l o to (it ∷ vs)) new)
    ∙ ap (λ zs. zs ++ new) (sym step)

-- ---- the innermost open item
pub record Opening (p : Option ℕ) (at : ℕ) (c : Cursor) : Type 0 where
  pub before : List Row
  pub it : Row
  pub behind : List Row
  pub split : rows p at (whole c) ≡ before ++ it ∷ behind
  pub place : open_at p at c ≡ Some (at + length before)
  pub parent_is : it.parent ≡ open_at p at (closed c)
  pub last_is : last_at at (closed c) ≡ Some (at + length before)
  pub refilled : (z : tree.Item) → rows p at (whole (filled c z)) ≡ before ++ row_item z it ∷ behind

pub opening : (p : Option ℕ) (at : ℕ) (b : Forest) (y : tree.Item) (inner : Cursor) → Opening p at (within b y inner)
opening p at b y (level f) =
    let a = at + records b in
    let us = rows_to p at b (Some a) in
    let long = length-rows_to p at b (Some a) in
    let e : a ≡ at + length us = omega arith in
    record {
      before = us;
      it = row y p (begins (suc a) f) None;
      behind = rows (Some a) (suc a) f;
      split = rows-within p at a b y f refl;
      place = ap Some e;
      parent_is = refl;
      last_is = ends-one at a b y f refl ∙ ap Some e;
      refilled = λ z. rows-within p at a b z f refl;
    }
opening p at b y (within d x inner) =
    let a = at + records b in
    let i = opening (Some a) (suc a) d x inner in
    let us = rows_to p at b (Some a) in
    let it = row y p (begins (suc a) (whole (within d x inner))) None in
    let long = length-rows_to p at b (Some a) in
    let more = length-append us (it ∷ i.before) in
    let e : suc a + length i.before ≡ at + length (us ++ (it ∷ i.before)) = omega arith in
    record {
      before = us ++ (it ∷ i.before);
      it = i.it;
      behind = i.behind;
      split = rows-within p at a b y (whole (within d x inner)) refl ∙ ap (λ l. us ++ (it ∷ l)) i.split ∙ sym (append_assoc us (it ∷ i.before) (i.it ∷ i.behind));
      place = i.place ∙ ap Some e;
      parent_is = i.parent_is;
      last_is = i.last_is ∙ ap Some e;
      refilled = λ z.
          let f = whole (filled (within d x inner) z) in
          let same : row y p (begins (suc a) f) None ≡ it = ap (λ o. row y p o None) (filled-begins (suc a) d x z inner) in
          rows-within p at a b y f refl ∙ ap (λ l. us ++ (row y p (begins (suc a) f) None ∷ l)) (i.refilled z)
          ∙ ap (λ r. us ++ (r ∷ (i.before ++ row_item z i.it ∷ i.behind))) same
          ∙ sym (append_assoc us (it ∷ i.before) (row_item z i.it ∷ i.behind));
    }
  where
    filled-begins : (n : ℕ) (d : Forest) (x z : tree.Item) (inner : Cursor) → begins n (whole (filled (within d x inner) z)) ≡ begins n (whole (within d x inner))
    filled-begins n d x z (level f) = begins-within n d z f ∙ sym (begins-within n d x f)
    filled-begins n d x z (within b y k) = begins-within n d x (whole (filled (within b y k) z)) ∙ sym (begins-within n d x (whole (within b y k)))

-- ---- every link stands in the file
pub links_in : (at : ℕ) (c : Cursor) → LinksFrom at (last_at at c) (open_at None at c)
links_in at (level nothing) = tt
links_in at (level (node x parts rest)) = ends-from at None x parts rest
links_in at (within b y inner) =
    let a = at + records b in
    links_sooner a at (last_at (suc a) inner) (open_at (Some a) (suc a) inner) (omega arith) (links_within at b y inner)
