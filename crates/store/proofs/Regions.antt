-- The records of a file, where one is changed or one more is stored.
use Rattle.std.proofs.Common.{◌≡◌, ℕ, zero, suc, ◌+◌, ◌-◌, ◌<◌, ◌≤◌, Bool, true, false, eqb, leb, List, [], ◌∷◌, ◌++◌, map, length, get_or, take, drop, set, Some, None, Option, sym, refl, ap, ◌∙◌, subst, add-zero, arith, length-append, length-drop, length-set, length-take}
use Rattle.std.proofs.lemmas.List.{drop-take, drop-set-add, take_more_set, get_or-drop, get_or-take, get_or-map, get_or_at, length-map}
use Rattle.std.proofs.lemmas.List.Elements.{All-nil, All-head, All-tail, All-cons}
use Rattle.token.specs.Token.{Bytes}
use Rattle.store.specs.declared.parts.Record.{Record}
use Rattle.store.specs.Items.{ItemBy}
use Rattle.store.specs.Rows.{Row}
use Rattle.store.specs.Held.{no_record, record_at, with_next, with_first, changed, linked}
use Rattle.store.specs.Means.{row_of, region, AllBy}
use Rattle.store.proofs.Calls.{changed_in}
use Rattle.store.proofs.Forests.{altered, altered-here, altered-next, map-altered, row_next, row_first, relinked, LinksFrom}

taken-altered : (xs : List Record) (at m i : ℕ) (g : Record → Record) → take m (set xs i (g (record_at xs i))) ≡ altered at (at + i) g (take m xs)
taken-altered [] at zero i g = refl
taken-altered [] at (suc m) i g = refl
taken-altered (x ∷ xs) at zero i g = refl
taken-altered (x ∷ xs) at (suc m) zero g = sym (ap (λ j. altered at j g (x ∷ take m xs)) (add-zero at) ∙ altered-here at g x (take m xs))
taken-altered (x ∷ xs) at (suc m) (suc i) g =
    let e : at + suc i ≡ suc at + i = omega arith in
    ap (λ l. x ∷ l) (taken-altered xs (suc at) m i g)
    ∙ sym (ap (λ j. altered at j g (x ∷ take m xs)) e ∙ altered-next at (suc at + i) g x (take m xs) (omega arith))

region-set : (at m i : ℕ) (g : Record → Record) (rs : List Record) → region at (at + m) (set rs (at + i) (g (record_at rs (at + i)))) ≡ altered at (at + i) g (region at (at + m) rs)
region-set at m i g rs =
    let d = drop at rs in
    drop-take at m (set rs (at + i) (g (record_at rs (at + i))))
    ∙ ap (take m) (drop-set-add at rs i (g (record_at rs (at + i))) ∙ ap (λ r. set d i (g r)) (sym (get_or-drop at rs i no_record)))
    ∙ taken-altered d at m i g
    ∙ ap (altered at (at + i) g) (sym (drop-take at m rs))

pub region-changed : (at m i : ℕ) (g : Record → Record) (rs : List Record) → at ≤ i → region at (at + m) (changed at i (g (record_at rs i)) rs) ≡ altered at i g (region at (at + m) rs)
region-changed at m i g rs le =
    let j : ℕ = i - at in
    let e : at + j ≡ i = omega arith in
    ap (region at (at + m)) (changed_in at i (g (record_at rs i)) rs le)
    ∙ subst (λ k. region at (at + m) (set rs k (g (record_at rs k))) ≡ altered at k g (region at (at + m) rs)) e (region-set at m j g rs)

-- the link of the next record, among the records of a file
abbrev pub records_linked : ℕ → Option ℕ → Option ℕ → ℕ → List Record → List Record
records_linked at (Some l) o to rs = altered at l (λ (r : Record). with_next r to) rs
records_linked at None (Some q) to rs = altered at q (λ (r : Record). with_first r to) rs
records_linked at None None to rs = rs

pub region-linked : (at m : ℕ) (l o : Option ℕ) (to : ℕ) (rs : List Record) → LinksFrom at l o → region at (at + m) (linked at l o to rs) ≡ records_linked at l o to (region at (at + m) rs)
region-linked at m (Some l) o to rs h = region-changed at m l (λ (r : Record). with_next r to) rs h
region-linked at m None (Some q) to rs h = region-changed at m q (λ (r : Record). with_first r to) rs h
region-linked at m None None to rs h = refl

pub map-linked : (bs : Bytes) (at : ℕ) (l o : Option ℕ) (to : ℕ) (rs : List Record) → map (row_of bs) (records_linked at l o to rs) ≡ relinked at l o to (map (row_of bs) rs)
map-linked bs at (Some l) o to rs = map-altered (row_of bs) at l (λ (r : Record). with_next r to) (row_next to) rs (λ r. refl)
map-linked bs at None (Some q) to rs = map-altered (row_of bs) at q (λ (r : Record). with_first r to) (row_first to) rs (λ r. refl)
map-linked bs at None None to rs = refl

pub region-put : (at n : ℕ) (r : Record) (rs : List Record) → at + n < length rs → region at (at + (n + 1)) (set rs (at + n) r) ≡ region at (at + n) rs ++ r ∷ []
region-put at n r rs l =
    let d = drop at rs in
    drop-take at (n + 1) (set rs (at + n) r) ∙ ap (take (n + 1)) (drop-set-add at rs n r)
    ∙ take_more_set d n r (omega (arith, length-drop at rs)) ∙ ap (λ l. l ++ r ∷ []) (sym (drop-take at n rs))

pub length-changed : (base at : ℕ) (r : Record) (rs : List Record) → length (changed base at r rs) ≡ length rs
length-changed base at r rs = go (leb base at)
  where
    go : (b : Bool) → length (elim b as (λ _. List Record) [ true ↦ set rs at r | false ↦ rs ]) ≡ length rs
    go true = length-set rs at r
    go false = refl

pub length-linked : (base : ℕ) (l o : Option ℕ) (to : ℕ) (rs : List Record) → length (linked base l o to rs) ≡ length rs
length-linked base (Some l) o to rs = length-changed base l (with_next (record_at rs l) to) rs
length-linked base None (Some q) to rs = length-changed base q (with_first (record_at rs q) to) rs
length-linked base None None to rs = refl

-- ---- texts
pub all-altered : (n at i : ℕ) (g : Record → Record) (rs : List Record) → ((r : Record) → ItemBy n r.item → ItemBy n (g r).item) → AllBy n rs → AllBy n (altered at i g rs)
all-altered n at i g [] h by = All-nil (λ (r : Record). ItemBy n r.item)
all-altered n at i g (r ∷ rs) h by =
    let P : Record → Type 0 = λ q. ItemBy n q.item in
    let here = All-head P r rs by in
    let rest = All-tail P r rs by in
    elim (eqb at i) as (λ b. AllBy n (elim b as (λ _. List Record) [ true ↦ g r ∷ rs | false ↦ r ∷ altered (suc at) i g rs ])) [
      | true ↦ All-cons P (g r) rs (h r here) rest
      | false ↦ All-cons P r (altered (suc at) i g rs) here (all-altered n (suc at) i g rs h rest)
    ]

pub all-linked : (n at : ℕ) (l o : Option ℕ) (to : ℕ) (rs : List Record) → AllBy n rs → AllBy n (records_linked at l o to rs)
all-linked n at (Some l) o to rs by = all-altered n at l (λ (r : Record). with_next r to) rs (λ r h. h) by
all-linked n at None (Some q) to rs by = all-altered n at q (λ (r : Record). with_first r to) rs (λ r h. h) by
all-linked n at None None to rs by = by

-- ---- one record of a file
pub row_get : (bs : Bytes) (at m k : ℕ) (rs : List Record) (l : List Row) (z : Row) → map (row_of bs) (region at (at + m) rs) ≡ l → k < length l → row_of bs (record_at rs (at + k)) ≡ get_or l k z
row_get bs at m k rs l z e less =
    let d = drop at rs in
    let e' : map (row_of bs) (take m d) ≡ l = ap (map (row_of bs)) (sym (drop-take at m rs)) ∙ e in
    let long : length (take m d) ≡ length l = sym (length-map (take m d) (row_of bs)) ∙ ap length e' in
    let cut = length-take m d in
    sym (ap (row_of bs) (get_or-take m d k no_record (omega arith) ∙ get_or-drop at rs k no_record))
    ∙ sym (get_or-map (row_of bs) (take m d) k no_record z (omega arith))
    ∙ ap (λ xs. get_or xs k z) e'

pub row-there : (bs : Bytes) (at m : ℕ) (rs : List Record) (us : List Row) (it : Row) (vs : List Row) → map (row_of bs) (region at (at + m) rs) ≡ us ++ it ∷ vs → row_of bs (record_at rs (at + length us)) ≡ it
row-there bs at m rs us it vs e =
    let sum = length-append us (it ∷ vs) in
    row_get bs at m (length us) rs (us ++ it ∷ vs) it e (omega arith) ∙ get_or_at us it vs it (length us) refl
