-- A decoded string is printed in no more bytes than it was read from, so it can be printed.
use Rattle.std.proofs.Common.{◌≡◌, ℕ, suc, ◌+◌, ◌-◌, ◌*◌, ◌<◌, ◌≤◌, Bool, true, false, ◌&&◌, ◌||◌, T, eqb, leb, List, [], ◌∷◌, ◌++◌, length, Some as some, None as none, Option, sym, refl, ap, ◌∙◌, subst, true≢false, le_trans, le_refl, arith, lit≤, le→leb, leb→le, length-append}
use Rattle.token.specs.Token.{Bytes, Token}
use Rattle.token.specs.Law.{between}
use Rattle.grammar.specs.Decode.{Within, plain, backslash, hex_due, hex_one, octal_one, octal_two, Step, step, plain_step, backslash_step, octal_step, octal_digit, hex_digit, lookup, letters, finish, behind, unescape, decode, utf8}
use Rattle.token.specs.Law.{well, every, is_byte}
use Rattle.grammar.specs.Print as p
use Rattle.round_trip.proofs.Well.{T_true}
use Rattle.round_trip.proofs.Again.{and_left, and_right, some_inj, none_some}
use Rattle.round_trip.proofs.Canon.{TextOk}

-- ---- tests and facts
pub at_most : (m n : ℕ) → leb m n ≡ true → m ≤ n
at_most m n e = leb→le m n (subst T (sym e) tt)

pub is_at_most : (m n : ℕ) → m ≤ n → leb m n ≡ true
is_at_most m n h = T_true (leb m n) (le→leb m n h)

pub both : (a b : Bool) → a ≡ true → b ≡ true → (a && b) ≡ true
both true b e h = h
both false b e h = absurd (true≢false (sym e))

abbrev byte : ℕ → Bool
byte c = is_byte c

every_append : (f : ℕ → Bool) (xs ys : Bytes) → every f xs ≡ true → every f ys ≡ true → every f (xs ++ ys) ≡ true
every_append f [] ys h k = k
every_append f (x ∷ xs) ys h k = both (f x) _ (and_left (f x) _ h) (every_append f xs ys (and_right (f x) _ h) k)

escaped-append : (xs ys : Bytes) → p.escaped (xs ++ ys) ≡ p.escaped xs ++ p.escaped ys
escaped-append [] ys = refl
escaped-append (x ∷ xs) ys = go (eqb x 92) (escaped-append xs ys)
  where
    go : (b : Bool) → p.escaped (xs ++ ys) ≡ p.escaped xs ++ p.escaped ys →
        elim b [ true ↦ 92 ∷ 92 ∷ p.escaped (xs ++ ys) | false ↦ x ∷ p.escaped (xs ++ ys) ] ≡ elim b [ true ↦ 92 ∷ 92 ∷ p.escaped xs | false ↦ x ∷ p.escaped xs ] ++ p.escaped ys
    go true e = ap (λ l. 92 ∷ 92 ∷ l) e
    go false e = ap (λ l. x ∷ l) e

-- how long a text is when its backslashes are doubled
size : Bytes → ℕ
size t = length (p.escaped t)

size_append : (xs ys : Bytes) → size (xs ++ ys) ≡ size xs + size ys
unfolding size
size_append xs ys = ap length (escaped-append xs ys) ∙ length-append (p.escaped xs) (p.escaped ys)

size_one : (c : ℕ) → size (c ∷ []) ≤ 2
unfolding size
size_one c = go (eqb c 92)
  where
    go : (b : Bool) → length {A = ℕ} (elim b [ true ↦ 92 ∷ 92 ∷ [] | false ↦ c ∷ [] ]) ≤ 2
    go true = lit≤ tt
    go false = lit≤ tt

size_plain : (c : ℕ) → eqb c 92 ≡ false → size (c ∷ []) ≤ 1
unfolding size
size_plain c e = rw (e, p.escaped) (lit≤ tt)

-- ---- one step
pending : Within → ℕ
pending plain = 0
pending backslash = 1
pending hex_due = 2
pending (hex_one v) = 3
pending (octal_one v) = 2
pending (octal_two v) = 3

Valid : Within → Type 0
Valid plain = Unit {0}
Valid backslash = Unit {0}
Valid hex_due = Unit {0}
Valid (hex_one v) = v < 16
Valid (octal_one v) = v < 8
Valid (octal_two v) = v < 64

record StepOk (room : ℕ) (out : Bytes) (w : Within) : Type 0 where
  are_bytes : every byte out ≡ true
  valid : Valid w
  fits : size out + pending w ≤ room

OkStep : ℕ → Step → Type 0
OkStep room none = Unit {0}
OkStep room (some s) = StepOk room s.0 s.1

Below : ℕ → Option ℕ → Type 0
Below n none = Unit {0}
Below n (some d) = d < n

octal_below : (c : ℕ) → Below 8 (octal_digit c)
unfolding Below
octal_below c = go (between 48 55 c) refl
  where
    go : (b : Bool) → between 48 55 c ≡ b → Below 8 (elim b [ true ↦ some (c - 48) | false ↦ none ])
    go true e = let h = at_most c 55 (and_right (leb 48 c) _ e) in omega arith
    go false e = tt

hex_below : (c : ℕ) → Below 16 (hex_digit c)
unfolding Below
hex_below c = go (between 48 57 c) (between 97 102 c) (between 65 70 c) refl refl refl
  where
    go : (x y z : Bool) → between 48 57 c ≡ x → between 97 102 c ≡ y → between 65 70 c ≡ z → Below 16 (elim x [ true ↦ some (c - 48) | false ↦ elim y [ true ↦ some (c - 87) | false ↦ elim z [ true ↦ some (c - 55) | false ↦ none ] ] ])
    go true y z e f h = let k = at_most c 57 (and_right (leb 48 c) _ e) in omega arith
    go false true z e f h = let k = at_most c 102 (and_right (leb 97 c) _ f) in omega arith
    go false false true e f h = let k = at_most c 70 (and_right (leb 65 c) _ h) in omega arith
    go false false false e f h = tt

small : (c n : ℕ) → n ≤ 256 → c < n → byte c ≡ true
small c n h k = is_at_most (suc c) 256 (omega arith)

-- a byte outside of escapes, after bytes that are complete
plain_ok : (room : ℕ) (out : Bytes) (c : ℕ) → every byte out ≡ true → byte c ≡ true → size out + 1 ≤ room → OkStep room (plain_step c out)
unfolding OkStep Valid pending
plain_ok room out c h k f = go (eqb c 92) refl
  where
    go : (b : Bool) → eqb c 92 ≡ b → OkStep room (elim b [ true ↦ some (out, backslash) | false ↦ some (out ++ c ∷ [], plain) ])
    go true e = record { are_bytes = h; valid = tt; fits = f }
    go false e = record { are_bytes = every_append byte out (c ∷ []) h (both (byte c) true k refl); valid = tt; fits = let x = size_plain c e in let y = size_append out (c ∷ []) in omega arith }

one_byte : (v : ℕ) → byte v ≡ true → every byte (v ∷ []) ≡ true
one_byte v h = both (byte v) true h refl

-- a byte that is complete
done_ok : (room v : ℕ) → byte v ≡ true → 2 ≤ room → OkStep room (some (v ∷ [], plain))
unfolding OkStep Valid pending
done_ok room v h k = record { are_bytes = one_byte v h; valid = tt; fits = let x = size_one v in omega arith }

-- more is due
due-ok : (room : ℕ) (w : Within) → Valid w → pending w ≤ room → OkStep room (some ([], w))
unfolding OkStep size
due-ok room w h k = record { are_bytes = refl; valid = h; fits = le_trans (le_refl (0 + pending w)) (omega arith) }

-- the bytes that letters stand for
abbrev seconds : List (ℕ × ℕ) → Bytes
seconds [] = []
seconds (e ∷ es) = e.1 ∷ seconds es

IsByte : Option ℕ → Type 0
IsByte none = Unit {0}
IsByte (some b) = byte b ≡ true

lookup-byte : (c : ℕ) (es : List (ℕ × ℕ)) → every byte (seconds es) ≡ true → IsByte (lookup c es)
unfolding IsByte
lookup-byte c [] h = tt
lookup-byte c (e ∷ es) h = go (eqb c e.0) (lookup-byte c es (and_right (byte e.1) _ h))
  where
    go : (b : Bool) → IsByte (lookup c es) → IsByte (elim b [ true ↦ some e.1 | false ↦ lookup c es ])
    go true k = and_left (byte e.1) _ h
    go false k = k

octal_ok : (c : ℕ) → OkStep 2 (octal_step c)
octal_ok c = go (octal_digit c) (octal_below c)
  where
    go : (o : Option ℕ) → Below 8 o → OkStep 2 (elim o [ none ↦ none | some d ↦ some ([], octal_one d) ])
    go none h = unfold OkStep in tt
    go (some d) h = due-ok 2 (octal_one d) (unfold Valid Below in h) (unfold pending in lit≤ tt)

backslash-ok : (c : ℕ) → OkStep 2 (backslash_step c)
backslash-ok c = go (lookup c letters) (eqb c 120 || eqb c 88) (lookup-byte c letters refl)
  where
    go : (o : Option ℕ) (b : Bool) → IsByte o → OkStep 2 (elim o [ some x ↦ some (x ∷ [], plain) | none ↦ elim b [ true ↦ some ([], hex_due) | false ↦ octal_step c ] ])
    go none true h = due-ok 2 hex_due (unfold Valid in tt) (unfold pending in lit≤ tt)
    go none false h = octal_ok c
    go (some x) b h = done_ok 2 x (unfold IsByte in h) (lit≤ tt)

escaped-one : (room v c : ℕ) → byte v ≡ true → byte c ≡ true → 3 ≤ room → OkStep room (plain_step c (v ∷ []))
escaped-one room v c h k f = plain_ok room (v ∷ []) c (one_byte v h) k (let x = size_one v in omega arith)

step_ok : (w : Within) (c : ℕ) → Valid w → byte c ≡ true → OkStep (pending w + 1) (step w c)
unfolding Valid pending
step_ok plain c h k = plain_ok 1 [] c refl k (unfold size in lit≤ tt)
step_ok backslash c h k = backslash-ok c
step_ok hex_due c h k = go (hex_digit c) (hex_below c)
  where
    go : (o : Option ℕ) → Below 16 o → OkStep 3 (elim o [ none ↦ none | some d ↦ some ([], hex_one d) ])
    go none e = unfold OkStep in tt
    go (some d) e = due-ok 3 (hex_one d) (unfold Below in e) (lit≤ tt)
step_ok (hex_one v) c h k = go (hex_digit c) (hex_below c)
  where
    go : (o : Option ℕ) → Below 16 o → OkStep 4 (elim o [ none ↦ plain_step c (v ∷ []) | some d ↦ some ((v * 16 + d) ∷ [], plain) ])
    go none e = escaped-one 4 v c (small v 16 (lit≤ tt) h) k (lit≤ tt)
    go (some d) e = done_ok 4 (v * 16 + d) (let x : d < 16 = unfold Below in e in is_at_most (suc (v * 16 + d)) 256 (omega arith)) (lit≤ tt)
step_ok (octal_one v) c h k = go (octal_digit c) (octal_below c)
  where
    go : (o : Option ℕ) → Below 8 o → OkStep 3 (elim o [ none ↦ plain_step c (v ∷ []) | some d ↦ some ([], octal_two (v * 8 + d)) ])
    go none e = escaped-one 3 v c (small v 8 (lit≤ tt) h) k (lit≤ tt)
    go (some d) e = due-ok 3 (octal_two (v * 8 + d)) (let x : d < 8 = unfold Below in e in omega arith) (lit≤ tt)
step_ok (octal_two v) c h k = go (octal_digit c) (octal_below c)
  where
    last : (x : ℕ) (b : Bool) → leb x 255 ≡ b → OkStep 4 (elim b [ true ↦ some (x ∷ [], plain) | false ↦ none ])
    last x true e = done_ok 4 x (is_at_most (suc x) 256 (let l = at_most x 255 e in omega arith)) (lit≤ tt)
    last x false e = unfold OkStep in tt

    go : (o : Option ℕ) → Below 8 o → OkStep 4 (elim o [ none ↦ plain_step c (v ∷ []) | some d ↦ elim (leb (v * 8 + d) 255) [ true ↦ some ((v * 8 + d) ∷ [], plain) | false ↦ none ] ])
    go none e = escaped-one 4 v c (small v 64 (lit≤ tt) h) k (lit≤ tt)
    go (some d) e = last (v * 8 + d) (leb (v * 8 + d) 255) refl

-- ---- a whole string
Ended : ℕ → Option Bytes → Type 0
Ended room none = Unit {0}
Ended room (some x) = (every byte x ≡ true) × (size x ≤ room)

one-ends : (v n : ℕ) → v < n → n ≤ 256 → (room : ℕ) → 2 ≤ room → Ended room (some (v ∷ []))
unfolding Ended
one-ends v n h k room f = (one_byte v (small v n k h), le_trans (size_one v) f)

finish-ok : (w : Within) → Valid w → Ended (pending w + 0) (finish w)
unfolding Valid pending Ended
finish-ok plain h = (refl, unfold size in lit≤ tt)
finish-ok backslash h = tt
finish-ok hex_due h = tt
finish-ok (hex_one v) h = one-ends v 16 h (lit≤ tt) 3 (lit≤ tt)
finish-ok (octal_one v) h = one-ends v 8 h (lit≤ tt) 2 (lit≤ tt)
finish-ok (octal_two v) h = one-ends v 64 h (lit≤ tt) 3 (lit≤ tt)

behind-ok : (room n : ℕ) (out : Bytes) (w : Within) → StepOk room out w → (o : Option Bytes) → Ended (pending w + n) o → Ended (room + n) (behind out o)
unfolding Ended
behind-ok room n out w s none h = tt
behind-ok room n out w s (some x) h = (every_append byte out x s.are_bytes h.0, let e = size_append out x in let f = s.fits in let k = h.1 in omega arith)

ended : (t : Bytes) (w : Within) → Valid w → every byte t ≡ true → Ended (pending w + length t) (unescape w t)
unfolding unescape
ended [] w h k = finish-ok w h
ended (c ∷ cs) w h k = subst (λ r. Ended r (unescape w (c ∷ cs))) (grows (pending w) (length cs)) (go (step w c) (step_ok w c h (and_left (byte c) _ k)) (λ v e. ended cs v e (and_right (byte c) _ k)))
  where
    grows : (m n : ℕ) → m + 1 + n ≡ m + suc n
    grows m n = omega arith

    go : (o : Step) → OkStep (pending w + 1) o → ((v : Within) → Valid v → Ended (pending v + length cs) (unescape v cs)) → Ended (pending w + 1 + length cs) (elim o [ none ↦ none | some s ↦ behind s.0 (unescape s.1 cs) ])
    go none e again = unfold Ended in tt
    go (some s) e again = unfold OkStep in behind-ok (pending w + 1) (length cs) s.0 s.1 e (unescape s.1 cs) (again s.1 e.valid)

escaped-bytes : (x : Bytes) → every byte x ≡ true → every byte (p.escaped x) ≡ true
escaped-bytes [] h = refl
escaped-bytes (c ∷ cs) h = go (eqb c 92) (escaped-bytes cs (and_right (byte c) _ h))
  where
    go : (b : Bool) → every byte (p.escaped cs) ≡ true → every byte (elim b [ true ↦ 92 ∷ 92 ∷ p.escaped cs | false ↦ c ∷ p.escaped cs ]) ≡ true
    go true k = k
    go false k = both (byte c) _ (and_left (byte c) _ h) k

pub decoded_ok : (t x : Bytes) → well (Token.string t) ≡ true → decode t ≡ some x → TextOk x
unfolding decode
decoded_ok t x h e = go (unescape plain t) (ended t plain (unfold Valid in tt) (and_right (leb (length t) 1023) _ h)) e
  where
    fits : (y : Bytes) → Ended (pending plain + length t) (some y) → well (p.quoted y) ≡ true
    fits y k = unfold Ended pending size in both (leb (length (p.escaped y)) 1023) _ (is_at_most (length (p.escaped y)) 1023 (let l = at_most (length t) 1023 (and_left (leb (length t) 1023) _ h) in let n = k.1 in omega arith)) (escaped-bytes y k.0)

    end : (y : Bytes) (b : Bool) → utf8 y ≡ b → well (p.quoted y) ≡ true → elim b [ true ↦ some y | false ↦ none ] ≡ some x → TextOk x
    end y true u f e = subst TextOk (some_inj e) (record { is-utf8 = u; fits = f })
    end y false u f e = absurd (none_some e)

    go : (o : Option Bytes) → Ended (pending plain + length t) o → elim o [ none ↦ none | some bs ↦ elim (utf8 bs) [ true ↦ some bs | false ↦ none ] ] ≡ some x → TextOk x
    go none k e = absurd (none_some e)
    go (some y) k e = end y (utf8 y) refl (fits y k) e
