-- What the front of a tape is, and what follows it.
use Rattle.std.proofs.Common.{◌≡◌, ℕ, zero, suc, ◌+◌, ◌*◌, ◌/◌, ◌%◌, ◌^◌, ◌<◌, ◌≤◌, Bool, true, false, cond, ◌&&◌, eqb, ltb, leb, List, [], ◌∷◌, Option, Some, None, Result, Ok, Err, length, get_or, drop, sym, refl, ap, ◌∙◌, subst, add-zero, arith, length-drop, drop-drop}
use Rattle.std.proofs.lemmas.Bool.{lt-ltb, leb-true, and_parts}
use Rattle.token.specs.declared.answer.Fault.{Fault}
use Rattle.token.specs.declared.answer.Fault.TheVariants.{CutTape, BadWord}
use Rattle.token.specs.Token.{Token, fault}
use Rattle.token.specs.Law.{well}
use Rattle.tape_source.specs.declared.text.Text.{Text}
use Rattle.tape_source.specs.declared.text.Text.TheVariants as texts
use Rattle.tape_source.specs.Tape.{byte_in, tab, Step, token, wrong, due, long, by_kind, step, at_word, follow, scan}
use Rattle.tape_source.specs.declared.front.Span.{Span}
use Rattle.tape_source.specs.Front.{made, meant, found, holds}

-- by its first word
pub step-first : (ws : List ℕ) → 0 < length ws → step ws ≡ by_kind (get_or ws 0 0 / 2 ^ 29) (get_or ws 0 0 % 2 ^ 29) (drop 1 ws)
step-first [] h = absurd (omega arith)
step-first (w ∷ ws) h = refl

pick : (P : Step → Type 0) (b : Bool) (x y : Step) → (b ≡ true → P x) → (b ≡ false → P y) → P (cond b x y)
pick P true x y f g = f refl
pick P false x y f g = g refl

-- a fact of every step, from its few kinds
pub record Each (w : ℕ) (ws : List ℕ) (P : Step → Type 0) : Type 0 where
  pub ends : P Step.end
  pub wrongs : (f : Fault) → P (wrong f)
  pub symbols : well (Token.symbol (w % 2 ^ 29)) ≡ true → P (token (Token.symbol (w % 2 ^ 29)) 0)
  pub numbers : 2 ≤ length ws → well (Token.number (get_or ws 0 0 + 2 ^ 32 * get_or ws 1 0)) ≡ true → P (token (Token.number (get_or ws 0 0 + 2 ^ 32 * get_or ws 1 0)) 2)
  pub longs : (s : Text) (n : ℕ) → (n + 3) / 4 ≤ length ws → well (made s (tab (byte_in ws) n)) ≡ true → P (token (made s (tab (byte_in ws) n)) ((n + 3) / 4))

due_each : (P : Step → Type 0) (ws : List ℕ) (m : ℕ) (t : Token) (fit : Bool) → ((f : Fault) → P (wrong f)) → (m ≤ length ws → well t ≡ true → P (token t m)) → P (due ws m t fit)
due_each P ws m t fit bad good =
    pick P (leb m (length ws)) _ _
    (λ e. pick P (well t && fit) _ _ (λ h. good (leb-true _ _ e) (and_parts (well t) fit h).0) (λ _. bad BadWord))
    (λ _. bad CutTape)

long_each : (P : Step → Type 0) (w : ℕ) (ws : List ℕ) → Each w ws P → (s : Text) (n : ℕ) → P (long (made s) n ws)
long_each P w ws h s n = pick P (ltb n 1024) _ _ (λ _. due_each P ws _ _ _ h.wrongs (h.longs s n)) (λ _. h.wrongs BadWord)

pub step_each : (P : Step → Type 0) (w : ℕ) (ws : List ℕ) → Each w ws P → P (step (w ∷ ws))
step_each P w ws h =
    let k = w / 2 ^ 29 in
    let low = w % 2 ^ 29 in
    pick P (eqb k 0) _ _ (λ _. pick P (eqb low 0) _ _ (λ _. h.ends) (λ _. h.wrongs BadWord))
    (λ _. pick P (eqb k 1) _ _ (λ _. due_each P ws 0 _ _ h.wrongs (λ _ e. h.symbols e))
    (λ _. pick P (eqb k 2) _ _ (λ _. pick P (eqb low 0) _ _ (λ _. due_each P ws 2 _ _ h.wrongs h.numbers) (λ _. h.wrongs BadWord))
    (λ _. pick P (eqb k 3) _ _ (λ _. long_each P w ws h texts.Ident low)
    (λ _. pick P (eqb k 4) _ _ (λ _. long_each P w ws h texts.Float low)
    (λ _. pick P (eqb k 5) _ _ (λ _. long_each P w ws h texts.Str low)
    (λ _. h.wrongs BadWord))))))

-- ---- a token has all its words among those that are left
abbrev Within : List ℕ → Step → Type 0
Within ws (token t n) = n < length ws
Within ws Step.end = Unit {0}
Within ws (wrong f) = Unit {0}

within : (ws : List ℕ) → Within ws (step ws)
within [] = tt
within (w ∷ ws) = step_each (Within (w ∷ ws)) w ws (record {
  ends = tt;
  wrongs = λ f. tt;
  symbols = λ e. omega arith;
  numbers = λ l e. omega arith;
  longs = λ s n l e. omega arith;
})

pub holds-at : (ws : List ℕ) (o : Result (Option Span) Fault) → meant (drop 1 ws) o ≡ step ws → holds o (length ws) ≡ true
holds-at ws (Ok (Some x)) e = lt-ltb _ _ (subst (Within ws) (sym e) (within ws))
holds-at ws (Ok None) e = refl
holds-at ws (Err f) e = refl

-- ---- what is found at word i is what comes there
followed : (i : ℕ) (w : ℕ) (ws : List ℕ) (o : Result (Option Span) Fault) → found i (w ∷ ws) o ≡ follow (meant ws o) i (λ n. scan n (i + 1) ws)
followed i w ws (Ok (Some x)) = refl
followed i w ws (Ok None) = refl
followed i w ws (Err f) = refl

cut : (i : ℕ) (o : Result (Option Span) Fault) → meant [] o ≡ wrong CutTape → found i [] o ≡ fault CutTape (at_word i)
cut i (Ok (Some x)) e = cc
cut i (Ok None) e = cc
cut i (Err f) e = cc

pub found-at : (i : ℕ) (ws : List ℕ) (o : Result (Option Span) Fault) → meant (drop 1 ws) o ≡ step ws → found i ws o ≡ scan 0 i ws
unfolding scan
found-at i [] o e = cut i o e
found-at i (w ∷ ws) o e = followed i w ws o ∙ ap (λ s. follow s i (λ n. scan n (i + 1) ws)) e

-- ---- to take a token is to stand behind it
scan_skip : (k i : ℕ) (ws : List ℕ) → k ≤ length ws → scan k i ws ≡ scan 0 (i + k) (drop k ws)
unfolding scan
scan_skip zero i ws h = ap (λ j. scan 0 j ws) (sym (add-zero i))
scan_skip (suc k) i [] h = absurd (omega arith)
scan_skip (suc k) i (w ∷ ws) h = scan_skip k (i + 1) ws (omega arith) ∙ ap (λ j. scan 0 j (drop k ws)) (omega arith)

pub past_token : (i n : ℕ) (ws : List ℕ) → n < length ws → scan 0 (i + (n + 1)) (drop (n + 1) ws) ≡ scan n (i + 1) (drop 1 ws)
past_token i n ws h =
    ap (λ j. scan 0 j (drop (n + 1) ws)) (omega arith)
    ∙ ap (scan 0 (i + 1 + n)) (ap (λ j. drop j ws) (omega arith) ∙ sym (drop-drop n 1 ws))
    ∙ sym (scan_skip n (i + 1) (drop 1 ws) (omega (arith, length-drop 1 ws)))
