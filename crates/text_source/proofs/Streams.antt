-- A text's meaning from one place to the next.
use Rattle.std.proofs.Common.{◌≡◌, ℕ, zero, suc, ◌+◌, ◌<◌, ◌≤◌, [], ◌∷◌, length, take, drop, Ok, Some, true, false, sym, refl, ap, ◌∙◌, ⊎_elim, add-one, arith}
use Rattle.std.proofs.lemmas.Bool.{cases_Bool, lt-ltb, le-ltb}
use Rattle.token.specs.declared.answer.Place.{Place}
use Rattle.token.specs.declared.answer.Fault.TheVariants.{InputTooLong}
use Rattle.token.specs.declared.answer.Fault.{Fault}
use Rattle.token.specs.Runs.{run}
use Rattle.token.specs.Token.{Bytes, Ahead, next, end, fault, at, nowhere, taken}
use Rattle.text_source.specs.declared.front.Span.{Span}
use Rattle.text_source.specs.declared.front.Front.{Front}
use Rattle.text_source.specs.declared.front.Front.TheVariants as front
use Rattle.text_source.specs.Classes.{is_blank, class_of}
use Rattle.text_source.specs.Lexemes.{Lexeme, gap, lexed, bad, lexeme}
use Rattle.text_source.specs.Text.{past, past_all, stream, most_bytes, text}
use Rattle.text_source.specs.Fronts.{head, tail, token_of, extent, meant}
use Rattle.text_source.specs.Found.{found}

-- what comes at p, where x stands at the front of the text s
abbrev pub shown : Place → Bytes → Lexeme → Ahead
shown p s (gap k) = stream k (past p (head s)) (tail s)
shown p s (lexed t k) = next t p (stream k (past p (head s)) (tail s))
shown p s (bad f) = fault f p

-- bytes that belong to what came before
skip : (k : ℕ) (p : Place) (s : Bytes) → stream k p s ≡ stream 0 (past_all p (take k s)) (drop k s)
unfolding stream
skip zero p s = refl
skip (suc k) p [] = refl
skip (suc k) p (b ∷ bs) = skip k (past p b) bs

by_front : (p : Place) (b : ℕ) (bs : Bytes) (x : Lexeme) → lexeme b bs ≡ x → stream 0 p (b ∷ bs) ≡ shown p (b ∷ bs) x
unfolding stream
by_front p b bs (gap k) e = rw (e, stream)
by_front p b bs (lexed t k) e = rw (e, stream)
by_front p b bs (bad f) e = rw (e, stream)

at_front : (p : Place) (s : Bytes) (x : Lexeme) → 0 < length s → x ≡ lexeme (head s) (tail s) → shown p s x ≡ stream 0 p s
at_front p [] x h e = absurd (omega arith)
at_front p (b ∷ bs) x h e = sym (by_front p b bs x (sym e))

-- after the first byte and k more
onward : (p : Place) (s : Bytes) (k : ℕ) → 0 < length s → stream 0 (past_all p (take (k + 1) s)) (drop (k + 1) s) ≡ stream k (past p (head s)) (tail s)
onward p [] k h = absurd (omega arith)
onward p (b ∷ bs) k h = sym (rw add-one (skip k (past p b) bs))

-- ---- blanks at the front
blank : (p : Place) (b : ℕ) (bs : Bytes) → is_blank b ≡ true → stream 0 p (b ∷ bs) ≡ stream 0 (past p b) bs
unfolding class_of lexeme
blank p b bs e = by_front p b bs (gap 0) (rw (e, lexeme, class_of))

on : (b : ℕ) (bs : Bytes) → is_blank b ≡ true → run is_blank (b ∷ bs) ≡ suc (run is_blank bs)
on b bs e = rw e (omega arith)

off : (b : ℕ) (bs : Bytes) → is_blank b ≡ false → run is_blank (b ∷ bs) ≡ 0
off b bs e = rw e

-- after the first n bytes
abbrev after : Place → Bytes → ℕ → Ahead
after p s n = stream 0 (past_all p (take n s)) (drop n s)

blanks : (p : Place) (s : Bytes) → after p s (run is_blank s) ≡ stream 0 p s
blanks p [] = refl
blanks p (b ∷ bs) =
    ⊎_elim
    (λ e. ap (after p (b ∷ bs)) (on b bs e) ∙ blanks (past p b) bs ∙ sym (blank p b bs e))
    (λ e. ap (after p (b ∷ bs)) (off b bs e))
    (cases_Bool (is_blank b))

pub past_blanks : (p q : Place) (s r : Bytes) → r ≡ drop (run is_blank s) s → q ≡ past_all p (take (run is_blank s) s) → stream 0 q r ≡ stream 0 p s
past_blanks p q s r f g = ap (λ (a : Place). stream 0 a r) g ∙ ap (stream 0 (past_all p (take (run is_blank s) s))) f ∙ blanks p s

-- ---- from the place p, where the bytes s are left
pub at-end : (p : Place) (s : Bytes) → length s ≡ 0 → stream 0 p s ≡ end p
unfolding stream
at-end p [] h = refl
at-end p (b ∷ bs) h = absurd (omega arith)

-- where t, which is s, begins with what the code found there
module _ (p : Place) (s t : Bytes) (same : t ≡ s) (some : 0 < length t) where
  pub past_gap : (x : Front) (n : ℕ) (q : Place) (r : Bytes) → meant t (Ok x) ≡ lexeme (head t) (tail t) → x ≡ front.Gap n → r ≡ drop (n + 1) s → q ≡ past_all p (take (n + 1) s) → stream 0 q r ≡ stream 0 p s
  past_gap x n q r e k f g =
      ap (λ (a : Place). stream 0 a r) g
      ∙ ap (stream 0 (past_all p (take (n + 1) s))) f
      ∙ ap (λ (u : Bytes). stream 0 (past_all p (take (n + 1) u)) (drop (n + 1) u)) (sym same)
      ∙ onward p t n some
      ∙ at_front p t (gap n) some (ap (λ (y : Front). meant t (Ok y)) (sym k) ∙ e)
      ∙ ap (stream 0 p) same

  pub at_token : (x : Front) (y : Span) → meant t (Ok x) ≡ lexeme (head t) (tail t) → x ≡ front.Token y → found p s (Ok (Some y)) ≡ stream 0 p s
  at_token x y e k =
      ap (λ (u : Bytes). found p u (Ok (Some y))) (sym same)
      ∙ at_front p t (lexed (token_of t y) (extent y)) some (ap (λ (z : Front). meant t (Ok z)) (sym k) ∙ e)
      ∙ ap (stream 0 p) same

  pub at_fault : (f : Fault) → bad f ≡ lexeme (head t) (tail t) → fault f p ≡ stream 0 p s
  at_fault f e = at_front p t (bad f) some e ∙ ap (stream 0 p) same

pub past_token : (p q : Place) (s r : Bytes) (x : Span) (w : ℕ) → extent x < length s → w ≡ extent x + 1 → r ≡ drop w s → q ≡ past_all p (take w s) → stream 0 q r ≡ taken (found p s (Ok (Some x)))
past_token p q s r x w h e f g =
    ap (λ (a : Place). stream 0 a r) g ∙ ap (stream 0 (past_all p (take w s))) f ∙ ap (λ (m : ℕ). stream 0 (past_all p (take m s)) (drop m s)) e ∙ onward p s (extent x) (omega arith)

pub too_long : (bytes : Bytes) → most_bytes < length bytes → fault InputTooLong nowhere ≡ text bytes
unfolding text
too_long bytes h = rw (lt-ltb most_bytes (length bytes) h, text)

pub not_too_long : (bytes : Bytes) → length bytes ≤ most_bytes → stream 0 (at 1 1) bytes ≡ text bytes
unfolding text
not_too_long bytes h = rw (le-ltb most_bytes (length bytes) h, text)
