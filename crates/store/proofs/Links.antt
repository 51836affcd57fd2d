-- The links of a record lead to records after it.
use Rattle.std.proofs.Common.{◌≡◌, ℕ, zero, suc, ◌+◌, ◌<◌, List, [], ◌∷◌, ◌++◌, length, get_or, Some, None, Option, sym, ap, ◌∙◌, subst, arith}
use Rattle.grammar.specs.Tree.{Forest, nothing, node, records}
use Rattle.store.specs.Rows.{Row, begins, rows}
use Rattle.store.specs.Held.{no_record, record_at}
use Rattle.store.specs.Means.{row_of, Beyond, PartsStandAfter}
use Rattle.store.proofs.Forests.{rows_to_none, length-rows_to}
use Rattle.store.proofs.Regions.{row_get}

-- every link of these rows, the first of which has the index `at`, leads on
abbrev LeadsOn : ℕ → List Row → Type 0
LeadsOn at [] = Unit {0}
LeadsOn at (r ∷ rs) = Beyond at r.first × Beyond at r.next × LeadsOn (suc at) rs

leads_both : (at n : ℕ) (xs ys : List Row) → at + length xs ≡ n → LeadsOn at xs → LeadsOn n ys → LeadsOn at (xs ++ ys)
leads_both at n [] ys e h k = let z : n ≡ at = omega arith in subst (λ m. LeadsOn m ys) z k
leads_both at n (x ∷ xs) ys e h k = (h.0, h.1, leads_both (suc at) n xs ys (omega arith) h.2 k)

begins_beyond : (i n : ℕ) (f : Forest) → i < n → Beyond i (begins n f)
begins_beyond i n nothing l = tt
begins_beyond i n (node x parts rest) l = l

length-rows : (p : Option ℕ) (at : ℕ) (f : Forest) → length (rows p at f) ≡ records f
length-rows p at f = ap length (sym (rows_to_none p at f)) ∙ length-rows_to p at f None

rows_lead : (p : Option ℕ) (at : ℕ) (f : Forest) → LeadsOn at (rows p at f)
unfolding rows
rows_lead p at nothing = tt
rows_lead p at (node x parts rest) =
    let n = suc at + records parts in
    let long = length-rows (Some at) (suc at) parts in (
      begins_beyond at (suc at) parts (omega arith),
      begins_beyond at n rest (omega arith),
      leads_both (suc at) n (rows (Some at) (suc at) parts) (rows p n rest) (omega arith) (rows_lead (Some at) (suc at) parts) (rows_lead p n rest),
    )

record Both (i : ℕ) (r : Row) : Type 0 where
  first_on : Beyond i r.first
  next-on : Beyond i r.next

leads_at : (at k : ℕ) (rs : List Row) (z : Row) → k < length rs → LeadsOn at rs → Both (at + k) (get_or rs k z)
leads_at at k [] z l h = absurd (omega arith)
leads_at at zero (r ∷ rs) z l h = let e : at ≡ at + 0 = omega arith in subst (λ n. Both n r) e (record { first_on = h.0; next-on = h.1 })
leads_at at (suc k) (r ∷ rs) z l h = let e : suc at + k ≡ at + suc k = omega arith in subst (λ n. Both n (get_or rs k z)) e (leads_at (suc at) k rs z (omega arith) h.2)

pub parts_stand_after : PartsStandAfter
parts_stand_after slots bytes used at f fits st k less =
    let l = rows None at f in
    let z = row_of bytes no_record in
    let long = length-rows None at f in
    let is = row_get bytes at (records f) k slots l z st.rows_are (omega arith) in
    let on : Both (at + k) (row_of bytes (record_at slots (at + k))) = subst (Both (at + k)) (sym is) (leads_at at k l z (omega arith) (rows_lead None at f)) in
    record { first_after = on.first_on; next_after = on.next-on }
