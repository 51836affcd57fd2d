-- Text that is appended piece by piece.
use Rattle.std.proofs.Common.{◌≡◌, ℕ, ◌+◌, ◌-◌, ◌^◌, ◌≤◌, [], ◌∷◌, ◌++◌, take, drop, sym, ap, ◌∙◌, subst, le_refl, arith, length-append, drop-drop, take-add}
use Rattle.token.specs.Token.{Bytes}
use Rattle.store.specs.declared.table.Store.{Store}
use Rattle.store.specs.Items.{bytes_of}
use Rattle.store.specs.Held.{Held, held, most_text, pushed}
use Rattle.store.specs.Means.{Grew, Texted}
use Rattle.store.proofs.Keeping.{grew_refl, texted_none, texted_push, texted_join, texted-grew, span_none, span_push, span_on}
use Rattle.reader.specs.Replies.{Wrote}

pub fits : (s : Store) → (held s).used ≤ 2 ^ 64 - 1
fits s = s.measured

pub grew_same : (s : Store) → Grew (held s) (held s)
grew_same s = grew_refl (held s)

pub wrote_grew : (s : Store) {b : Held} {w : Bytes} → Wrote (held s) b w → Grew (held s) b
wrote_grew s p = texted-grew (fits s) p.texted

pub wrote_none : (s : Store) → Wrote (held s) (held s) []
wrote_none s = record { texted = texted_none (held s) (fits s); is = λ short. span_none s.bytes s.used }

-- one byte
pub wrote_byte : (s : Store) {new : Held} (x : ℕ) → new ≡ pushed (held s) x → Wrote (held s) new (x ∷ [])
wrote_byte s {new} x e = subst (λ h. Wrote (held s) h (x ∷ [])) (sym e) (record { texted = t; is = there })
  where
    h : Held
    h = held s

    t : Texted (held s) (pushed (held s) x) 1
    t = texted_push (held s) x

    there : (pushed (held s) x).used ≤ most_text → bytes_of (pushed (held s) x).bytes (record { from = (held s).used; to = (pushed (held s) x).used }) ≡ x ∷ []
    there short =
        let now_used : (pushed (held s) x).used ≡ s.used + 1 = omega (arith, t.uses) in
        ap (λ k. bytes_of (pushed (held s) x).bytes (record { from = s.used; to = k })) now_used
        ∙ span_push (held s) x s.used (le_refl _) (omega (arith, s.sized))
        ∙ ap (λ xs. xs ++ x ∷ []) (span_none s.bytes s.used)

pub wrote_join : (s : Store) {b c : Held} {v w : Bytes} → Wrote (held s) b v → Wrote b c w → Wrote (held s) c (v ++ w)
wrote_join s {b} {c} {v} {w} p q =
    let fits_b : b.used ≤ 2 ^ 64 - 1 = omega (arith, p.texted.uses) in
    record {
      texted = subst (λ n. Texted (held s) c n) (sym (length-append v w)) (texted_join (fits s) p.texted q.texted);
      is = λ short.
          let from : ℕ = s.used in
          let fit = s.measured in
          let first : from ≤ b.used = omega (arith, p.texted.uses) in
          let more : b.used ≤ c.used = omega (arith, q.texted.uses) in
          let m : ℕ = b.used - from in
          let n : ℕ = c.used - b.used in
          let all : c.used - from ≡ m + n = omega arith in
          let at : from + m ≡ b.used = omega arith in
          let xs = drop from c.bytes in
          let one : take m xs ≡ v = span_on (texted-grew fits_b q.texted) (record { from = from; to = b.used }) (le_refl _) ∙ p.is (omega arith) in
          let two : take n (drop b.used c.bytes) ≡ w = q.is short in
          ap (λ k. take k xs) all
          ∙ take-add m n xs
          ∙ ap (λ ys. take m xs ++ take n ys) (drop-drop m from c.bytes ∙ ap (λ k. drop k c.bytes) at)
          ∙ (λ i. one i ++ two i);
    }
