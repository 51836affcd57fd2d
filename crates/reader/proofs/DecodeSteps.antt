-- How a string is decoded, byte by byte.
use Rattle.std.proofs.Common.{◌≡◌, ℕ, zero, suc, ◌-◌, Bool, true, false, eqb, [], ◌∷◌, ◌++◌, Some, None, Option, sym, refl, ap, ◌∙◌, append_assoc, append-nil, arith, ne_eqb}
use Rattle.token.specs.Token.{Bytes}
use Rattle.token.specs.Law.{between}
use Rattle.grammar.specs.Decode as d
use Rattle.grammar.specs.Decode.{Row, row_of, rows, unescape, behind, finish, step, utf8_from, decode}
use Rattle.reader.specs.declared.decode.utf8.Utf8.{Utf8}
use Rattle.reader.specs.declared.decode.escapes.Within.{Within}
use Rattle.store.specs.declared.table.Store.{Store}
use Rattle.store.specs.Held.{Held, held}
use Rattle.store.proofs.Keeping.{grew_join}
use Rattle.reader.specs.Replies.{Wrote}
use Rattle.reader.specs.Escapes.{within_of}
use Rattle.reader.specs.Utf8.{row_state, utf8_step, utf8_after}
use Rattle.reader.specs.Decoding.{whole, Stepped, passed, decode_step, ended, decode_end, Appends, Steps, Decodes}
use Rattle.reader.proofs.Texts.{wrote_grew, wrote_join}

-- ---- UTF-8
abbrev pub utf8_then : Option Utf8 → Bytes → Bool
utf8_then None bs = false
utf8_then (Some u) bs = utf8_from u.due u.low u.high bs

utf8-one : (due low high b : ℕ) (bs : Bytes) → utf8_from due low high (b ∷ bs) ≡ utf8_then (utf8_step (record { due = due; low = low; high = high }) b) bs
unfolding utf8_from
utf8-one zero low high b bs = go (row_of b rows)
  where
    go : (o : Option Row) → elim o [ None ↦ false | Some r ↦ utf8_from r.more r.low r.high bs ] ≡ utf8_then (row_state o) bs
    go None = refl
    go (Some r) = refl
utf8-one (suc n) low high b bs =
    go (between low high b)
    ∙ sym (ap (λ t. utf8_then (elim t [ true ↦ row_state (row_of b rows) | false ↦ elim (between low high b) [ true ↦ Some (record { due = suc n - 1; low = 128; high = 191 }) | false ↦ None ] ]) bs) (ne_eqb (suc n) 0 (λ e. omega arith)))
  where
    less : suc n - 1 ≡ n
    less = omega arith

    go : (t : Bool) → elim t [ true ↦ utf8_from n 128 191 bs | false ↦ false ] ≡ utf8_then (elim t [ true ↦ Some (record { due = suc n - 1; low = 128; high = 191 }) | false ↦ None ]) bs
    go true = ap (λ k. utf8_from k 128 191 bs) (sym less)
    go false = refl

utf8-next : (u : Utf8) (b : ℕ) (bs : Bytes) → utf8_then (Some u) (b ∷ bs) ≡ utf8_then (utf8_step u b) bs
utf8-next u b bs = utf8-one u.due u.low u.high b bs

pub utf8-all : (xs ys : Bytes) (u : Utf8) → utf8_then (Some u) (xs ++ ys) ≡ utf8_then (utf8_after u xs) ys
utf8-all [] ys u = refl
utf8-all (b ∷ xs) ys u = utf8-next u b (xs ++ ys) ∙ go (utf8_step u b) (λ n. utf8-all xs ys n)
  where
    go : (o : Option Utf8) → ((n : Utf8) → utf8_then (Some n) (xs ++ ys) ≡ utf8_then (utf8_after n xs) ys) → utf8_then o (xs ++ ys) ≡ utf8_then (elim o [ None ↦ None | Some n ↦ utf8_after n xs ]) ys
    go None again = refl
    go (Some n) again = again n

abbrev pub utf8_on : Option Utf8 → Bytes → Option Utf8
utf8_on None ys = None
utf8_on (Some n) ys = utf8_after n ys

after_both : (xs ys : Bytes) (u : Utf8) → utf8_after u (xs ++ ys) ≡ utf8_on (utf8_after u xs) ys
after_both [] ys u = refl
after_both (b ∷ xs) ys u = go (utf8_step u b) (λ n. after_both xs ys n)
  where
    go : (o : Option Utf8) → ((n : Utf8) → utf8_after n (xs ++ ys) ≡ utf8_on (utf8_after n xs) ys) → elim o [ None ↦ None | Some n ↦ utf8_after n (xs ++ ys) ] ≡ utf8_on (elim o [ None ↦ None | Some n ↦ utf8_after n xs ]) ys
    go None again = refl
    go (Some n) again = again n

pub after_goes : (xs ys : Bytes) (u n : Utf8) → utf8_after u xs ≡ Some n → utf8_after u (xs ++ ys) ≡ utf8_after n ys
after_goes xs ys u n e = after_both xs ys u ∙ ap (λ o. utf8_on o ys) e

-- ---- what is left to decode, where `out` is decoded
abbrev pub checked : Bool → Bytes → Option Bytes
checked true bs = Some bs
checked false bs = None

abbrev pub on_from : Utf8 → Bytes → Option Bytes → Option Bytes
on_from u out None = None
on_from u out (Some bs) = checked (utf8_then (Some u) bs) (out ++ bs)

abbrev pub decode_from : d.Within → Utf8 → Bytes → Bytes → Option Bytes
decode_from w u out xs = on_from u out (unescape w xs)

pub decode_start : (xs : Bytes) → decode_from d.plain whole [] xs ≡ decode xs
unfolding decode
decode_start xs = go (unescape d.plain xs)
  where
    see : (b : Bool) (bs : Bytes) → checked b bs ≡ elim b [ true ↦ Some bs | false ↦ None ]
    see true bs = refl
    see false bs = refl

    go : (o : Option Bytes) → on_from whole [] o ≡ elim o [ None ↦ None | Some bs ↦ elim (utf8_from 0 128 191 bs) [ true ↦ Some bs | false ↦ None ] ]
    go None = refl
    go (Some bs) = see (utf8_from 0 128 191 bs) bs

module _ (w : d.Within) (u : Utf8) (out : Bytes) where
  -- bytes o were completed, and then o' is left
  on-behind : (o : Bytes) (n : Utf8) (rest : Option Bytes) → utf8_after u o ≡ Some n → on_from u out (behind o rest) ≡ on_from n (out ++ o) rest
  on-behind o n None e = refl
  on-behind o n (Some bs) e =
      ap (λ b. checked b (out ++ (o ++ bs))) (utf8-all o bs u ∙ ap (λ x. utf8_then x bs) e)
      ∙ ap (checked (utf8_then (Some n) bs)) (sym (append_assoc out o bs))

  on-refused : (o : Bytes) (rest : Option Bytes) → utf8_after u o ≡ None → on_from u out (behind o rest) ≡ None
  on-refused o None e = refl
  on-refused o (Some bs) e = ap (λ b. checked b (out ++ (o ++ bs))) (utf8-all o bs u ∙ ap (λ x. utf8_then x bs) e)

  -- one byte more, where the rest is cs
  abbrev decode_on : Bytes → Stepped → Option Bytes
  decode_on cs None = None
  decode_on cs (Some s) = decode_from s.1.0 s.1.1 (out ++ s.0) cs

  on-passed : (o : Bytes) (v : d.Within) (cs : Bytes) → on_from u out (behind o (unescape v cs)) ≡ decode_on cs (passed u o v)
  on-passed o v cs = go (utf8_after u o) (on-refused o (unescape v cs)) (λ n. on-behind o n (unescape v cs))
    where
      go : (r : Option Utf8) → (r ≡ None → on_from u out (behind o (unescape v cs)) ≡ None) → ((n : Utf8) → r ≡ Some n → on_from u out (behind o (unescape v cs)) ≡ on_from n (out ++ o) (unescape v cs)) → on_from u out (behind o (unescape v cs)) ≡ decode_on cs (elim r [ None ↦ None | Some n ↦ Some (o, (v, n)) ])
      go None refuses goes = refuses refl
      go (Some n) refuses goes = goes n refl

  pub decode_from-step : (c : ℕ) (cs : Bytes) → decode_from w u out (c ∷ cs) ≡ decode_on cs (decode_step w u c)
  unfolding unescape
  decode_from-step c cs = go (step w c)
    where
      go : (s : d.Step) → on_from u out (elim s [ None ↦ None | Some t ↦ behind t.0 (unescape t.1 cs) ]) ≡ decode_on cs (elim s [ None ↦ None | Some t ↦ passed u t.0 t.1 ])
      go None = refl
      go (Some t) = on-passed t.0 t.1 cs

  pub step_goes : (c : ℕ) (cs : Bytes) {o : Bytes} {v : d.Within} {n : Utf8} → decode_step w u c ≡ Some (o, (v, n)) → decode_from w u out (c ∷ cs) ≡ decode_from v n (out ++ o) cs
  step_goes c cs e = decode_from-step c cs ∙ ap (decode_on cs) e

  pub step_refused : (c : ℕ) (cs : Bytes) → decode_step w u c ≡ None → decode_from w u out (c ∷ cs) ≡ None
  step_refused c cs e = decode_from-step c cs ∙ ap (decode_on cs) e

  -- the end
  done : (due low high : ℕ) → utf8_from due low high [] ≡ eqb due 0
  unfolding utf8_from
  done zero low high = refl
  done (suc k) low high = sym (ne_eqb (suc k) 0 (λ z. omega arith))

  on-ended : (o : Bytes) → on_from u out (behind o (Some [])) ≡ behind out (ended (passed u o d.plain))
  on-ended o = go (utf8_after u o) (on-refused o (Some [])) (λ n. on-behind o n (Some []))
    where
      see : (b : Bool) → checked b (out ++ o) ≡ behind out (elim b [ true ↦ Some o | false ↦ None ])
      see true = refl
      see false = refl

      go : (r : Option Utf8) → (r ≡ None → on_from u out (behind o (Some [])) ≡ None) → ((n : Utf8) → r ≡ Some n → on_from u out (behind o (Some [])) ≡ on_from n (out ++ o) (Some [])) → on_from u out (behind o (Some [])) ≡ behind out (ended (elim r [ None ↦ None | Some n ↦ Some (o, (d.plain, n)) ]))
      go None refuses goes = refuses refl
      go (Some n) refuses goes =
          goes n refl
          ∙ ap (checked (utf8_then (Some n) [])) (append-nil (out ++ o))
          ∙ ap (λ b. checked b (out ++ o)) (done n.due n.low n.high)
          ∙ see (eqb n.due 0)

  pub decode_from-end : decode_from w u out [] ≡ behind out (decode_end w u)
  unfolding unescape
  decode_from-end = go (finish w)
    where
      go : (o : Option Bytes) → on_from u out o ≡ behind out (elim o [ None ↦ None | Some bs ↦ ended (passed u bs d.plain) ])
      go None = refl
      go (Some bs) = ap (λ v. on_from u out (Some v)) (sym (append-nil bs)) ∙ on-ended bs

-- ---- bytes that are kept
append_both : (s m : Store) (new : Held) (r : Option Utf8) (u n : Utf8) (v w : Bytes) → utf8_after u v ≡ Some n → Wrote (held s) (held m) v → Appends (held m) new r n w → Appends (held s) new r u (v ++ w)
append_both s m new None u n v w e p q = (after_goes v w u n e ∙ q.0, grew_join (wrote_grew s p) q.1)
append_both s m new (Some k) u n v w e p q = (after_goes v w u n e ∙ q.0, wrote_join s p q.1)

pub keeps_both : (s m : Store) (new : Held) (u n k : Utf8) (v w : Bytes) (at : Within) → (utf8_after u v ≡ Some n) × Wrote (held s) (held m) v → (utf8_after n w ≡ Some k) × Wrote (held m) new w → Steps (held s) new (Some (record { within = at; utf8 = k })) (passed u (v ++ w) (within_of at))
keeps_both s m new u n k v w at p q =
    let b = append_both s m new (Some k) u n v w p.0 p.1 q in
    (v ++ w, ap (λ (o : Option Utf8). elim o [ None ↦ None | Some x ↦ Some (v ++ w, (within_of at, x)) ]) b.0, b.1)

-- after bytes that were kept
pub decodes_after : (s m : Store) (new : Held) (r : Option (Unit {0})) (w : Bytes) (reply : Option Bytes) → Wrote (held s) (held m) w → Decodes (held m) new r reply → Decodes (held s) new r (behind w reply)
decodes_after s m new None w reply p q = (ap (behind w) q.0, grew_join (wrote_grew s p) q.1)
decodes_after s m new (Some x) w reply p q = (w ++ q.0, ap (behind w) q.1, wrote_join s p q.2)
