-- A tape says its tokens in one way only: the words of a token are the words that it is printed as.
use Rattle.std.proofs.Common.{◌≡◌, ℕ, zero, suc, ◌+◌, ◌*◌, ◌/◌, ◌%◌, ◌^◌, ◌<◌, ◌≤◌, Bool, true, false, cond, ◌&&◌, ◌||◌, T, eqb, ltb, leb, List, [], ◌∷◌, ◌++◌, length, get_or, drop, sym, refl, ap, ◌∙◌, ap₂, append_assoc, arith, eqb→eq, length-append}
use mathlib.Core.Path.{fun_ext}
use Rattle.std.proofs.lemmas.Bool.{leb-true, ltb-true}
use Rattle.token.specs.declared.answer.Place.{Place}
use Rattle.token.specs.Token.{Bytes, nowhere, Token, Ahead, next, end, fault, unplaced}
use Rattle.token.specs.declared.answer.Fault.{Fault}
use Rattle.round_trip.specs.Alike.{Alike, both_next, both_end}
use Rattle.token.specs.Law.{well}
use Rattle.grammar.specs.Print as printing
use Rattle.grammar.specs.Print.{packed, head_word, text_words, token_words}
use Rattle.tape_source.specs.Tape.{byte_in, tab, padded, Step, token, wrong, due, long, by_kind, step, at_word, follow, scan, tape, most_words}
use Rattle.token.specs.declared.answer.Fault.TheVariants.{InputTooLong, BadWord, CutTape}
use Rattle.round_trip.specs.Strict.{Fit, Clean, TapeFirst, TapeStrict, TapeOneWay}
use Rattle.round_trip.proofs.Packing.{further}

-- ---- bytes found in words are packed into those words
tab-length : (f : ℕ → ℕ) (n : ℕ) → length (tab f n) ≡ n
tab-length f zero = refl
tab-length f (suc n) = length-append (tab f n) (f n ∷ []) ∙ omega (arith, tab-length f n)

tab-first : (f : ℕ → ℕ) (n : ℕ) → tab f (suc n) ≡ f 0 ∷ tab (λ k. f (suc k)) n
tab-first f zero = refl
tab-first f (suc n) = ap (λ l. l ++ f (suc n) ∷ []) (tab-first f n)

four_first : (f : ℕ → ℕ) (n : ℕ) → tab f (suc (suc (suc (suc n)))) ≡ f 0 ∷ f 1 ∷ f 2 ∷ f 3 ∷ tab (λ k. f (suc (suc (suc (suc k))))) n
four_first f n =
    tab-first f (suc (suc (suc n)))
    ∙ ap (λ l. f 0 ∷ l) (tab-first (λ k. f (suc k)) (suc (suc n))
    ∙ ap (λ l. f 1 ∷ l) (tab-first (λ k. f (suc (suc k))) (suc n)
    ∙ ap (λ l. f 2 ∷ l) (tab-first (λ k. f (suc (suc (suc k)))) n)))

four_sum : (w a p b q c r d : ℕ) → w ≡ a + 256 * p → p ≡ b + 256 * q → q ≡ c + 256 * r → d ≡ r → a + b * 256 + c * 65536 + d * 16777216 ≡ w
four_sum w a p b q c r d h i j k = omega arith

four_bytes : (w : ℕ) → w < 2 ^ 32 → w / 1 % 256 + w / 256 % 256 * 256 + w / 65536 % 256 * 65536 + w / 16777216 % 256 * 16777216 ≡ w
four_bytes w h =
    let a : w / 65536 ≡ w / 256 / 256 = omega arith in
    let b : w / 16777216 ≡ w / 65536 / 256 = omega arith in
    let c : w ≡ w / 1 % 256 + 256 * (w / 256) = omega arith in
    let d : w / 256 ≡ w / 256 % 256 + 256 * (w / 65536) = omega arith in
    let e : w / 65536 ≡ w / 65536 % 256 + 256 * (w / 16777216) = omega arith in
    let f : w / 16777216 % 256 ≡ w / 16777216 = omega arith in
    four_sum w (w / 1 % 256) (w / 256) (w / 256 % 256) (w / 65536) (w / 65536 % 256) (w / 16777216) (w / 16777216 % 256) c d e f

repacked : (n : ℕ) (ws : List ℕ) → Fit ws → (n + 3) / 4 ≤ length ws → padded ws n ≡ true → packed (tab (byte_in ws) n) ++ drop ((n + 3) / 4) ws ≡ ws
unfolding packed
repacked zero ws f h p = refl
repacked (suc zero) [] f h p = absurd (omega arith)
repacked (suc zero) (w ∷ ws) f h p = ap (λ x. x ∷ ws) (omega (arith, ltb-true w 256 p))
repacked (suc (suc zero)) [] f h p = absurd (omega arith)
repacked (suc (suc zero)) (w ∷ ws) f h p = ap (λ x. x ∷ ws) (omega (arith, ltb-true w 65536 p))
repacked (suc (suc (suc zero))) [] f h p = absurd (omega arith)
repacked (suc (suc (suc zero))) (w ∷ ws) f h p = ap (λ x. x ∷ ws) (omega (arith, ltb-true w 16777216 p))
repacked (suc (suc (suc (suc n)))) [] f h p = absurd (omega arith)
repacked (suc (suc (suc (suc n)))) (w ∷ ws) f h p =
    let q : (suc (suc (suc (suc n)))) / 4 ≡ suc (n / 4) = omega arith in
    let r : (suc (suc (suc (suc n)))) % 4 ≡ n % 4 = omega arith in
    let q' : (suc (suc (suc (suc n))) + 3) / 4 ≡ suc ((n + 3) / 4) = omega arith in
    let p' : padded ws n ≡ true = sym (ap₂ (λ i j. eqb j 0 || ltb (get_or (w ∷ ws) i 0) (2 ^ (8 * j))) q r) ∙ p in
    let t : tab (byte_in (w ∷ ws)) (suc (suc (suc (suc n)))) ≡ _ = four_first (byte_in (w ∷ ws)) n ∙ ap (λ g. (w / 1 % 256) ∷ (w / 256 % 256) ∷ (w / 65536 % 256) ∷ (w / 16777216 % 256) ∷ tab g n) (fun_ext (further w ws)) in
    ap₂ (λ l k. packed l ++ drop k (w ∷ ws)) t q' ∙ ap₂ (λ x l. x ∷ l) (four_bytes w f.0) (repacked n ws f.1 (omega arith) p')

-- ---- the front of a tape
-- what stands there is a token with just its words, the end word, or a fault
abbrev Front : ℕ → List ℕ → Step → Type 0
Front w ws (token t n) = w ∷ ws ≡ token_words t ++ drop n ws
Front w ws Step.end = w ≡ 0
Front w ws (wrong f) = Unit {0}

module _ (w : ℕ) (ws : List ℕ) where
  -- a test, and what it says
  told : (b : Bool) (x y : Step) → (T b → Front w ws x) → Front w ws y → Front w ws (cond b x y)
  told true x y g h = g tt
  told false x y g h = h

  front_due : (m : ℕ) (t : Token) (fit : Bool) → (m ≤ length ws → fit ≡ true → Front w ws (token t m)) → Front w ws (due ws m t fit)
  front_due m t fit h = go (leb m (length ws)) refl (well t) fit refl
    where
      go : (a : Bool) → leb m (length ws) ≡ a → (v f : Bool) → fit ≡ f → Front w ws (cond a (cond (v && f) (token t m) (wrong BadWord)) (wrong CutTape))
      go true e true true i = h (leb-true _ _ e) i
      go true e true false i = tt
      go true e false f i = tt
      go false e v f i = tt

  front_long : (made : Bytes → Token) (k : ℕ) → ((t : Bytes) → token_words (made t) ≡ text_words k t) → (low : ℕ) → w ≡ k * 2 ^ 29 + low → Fit ws → Front w ws (long made low ws)
  front_long made k e low h f =
      told (ltb low 1024) _ _ (λ _. front_due ((low + 3) / 4) _ (padded ws low) (λ l p.
      let bytes = tab (byte_in ws) low in
      ap₂ (λ x xs. x ∷ xs) (h ∙ ap (head_word k) (sym (tab-length (byte_in ws) low))) (sym (repacked low ws f l p))
      ∙ ap (λ xs. xs ++ drop ((low + 3) / 4) ws) (sym (e bytes)))) tt

  front_number : w ≡ 2 * 2 ^ 29 → Fit ws → 2 ≤ length ws → Front w ws (token (Token.number (get_or ws 0 0 + 2 ^ 32 * get_or ws 1 0)) 2)
  unfolding token_words
  front_number h f l = go ws f l
    where
      go : (vs : List ℕ) → Fit vs → 2 ≤ length vs → w ∷ vs ≡ token_words (Token.number (get_or vs 0 0 + 2 ^ 32 * get_or vs 1 0)) ++ drop 2 vs
      go [] f l = absurd (omega arith)
      go (a ∷ []) f l = absurd (omega arith)
      go (a ∷ b ∷ vs) f l =
          let low : a ≡ (a + 2 ^ 32 * b) % 2 ^ 32 = omega (arith, f.0) in
          let high : b ≡ (a + 2 ^ 32 * b) / 2 ^ 32 = omega (arith, f.0) in
          ap₂ (λ x xs. x ∷ xs) (h ∙ omega arith) (ap₂ (λ x y. x ∷ y ∷ vs) low high)

  front_kind : (k low : ℕ) → w ≡ k * 2 ^ 29 + low → Fit ws → Front w ws (by_kind k low ws)
  unfolding token_words
  front_kind k low h f =
      told (eqb k 0) _ _ (λ e. told (eqb low 0) _ _ (λ i. let a = eqb→eq k 0 e in let b = eqb→eq low 0 i in omega arith) tt)
      (told (eqb k 1) _ _ (λ e. front_due 0 (Token.symbol low) true (λ _ _. let a = eqb→eq k 1 e in ap (λ x. x ∷ ws) (omega arith)))
      (told (eqb k 2) _ _ (λ e. told (eqb low 0) _ _ (λ i. front_due 2 (Token.number (get_or ws 0 0 + 2 ^ 32 * get_or ws 1 0)) true (λ l _. let a = eqb→eq k 2 e in let b = eqb→eq low 0 i in front_number (omega arith) f l)) tt)
      (told (eqb k 3) _ _ (λ e. front_long Token.ident 3 (λ t. refl) low (let a = eqb→eq k 3 e in omega arith) f)
      (told (eqb k 4) _ _ (λ e. front_long Token.float 4 (λ t. refl) low (let a = eqb→eq k 4 e in omega arith) f)
      (told (eqb k 5) _ _ (λ e. front_long Token.string 5 (λ t. refl) low (let a = eqb→eq k 5 e in omega arith) f) tt)))))

  front_step : Fit ws → Front w ws (step (w ∷ ws))
  front_step f = front_kind (w / 2 ^ 29) (w % 2 ^ 29) (omega arith) f

-- ---- a tape that gives a token first
first-from : (w : ℕ) (ws : List ℕ) (s : Step) (i : ℕ) (next_one : ℕ → Ahead) (t : Token) (p : Place) (a : Ahead) → Front w ws s → follow s i next_one ≡ next t p a → (more : List ℕ) × (w ∷ ws ≡ token_words t ++ more)
first-from w ws (token u n) i next_one t p a h e = let same : u ≡ t = cc in (drop n ws, h ∙ ap (λ x. token_words x ++ drop n ws) same)
first-from w ws Step.end i next_one t p a h e = let z : ◌≡◌ {A = ℕ} 0 1 = cc in absurd (omega arith)
first-from w ws (wrong f) i next_one t p a h e = let z : ◌≡◌ {A = ℕ} 0 1 = cc in absurd (omega arith)

first-scan : (ws : List ℕ) (i : ℕ) (t : Token) (p : Place) (a : Ahead) → Fit ws → scan 0 i ws ≡ next t p a → (more : List ℕ) × (ws ≡ token_words t ++ more)
unfolding scan
first-scan [] i t p a f e = let z : ◌≡◌ {A = ℕ} 0 1 = cc in absurd (omega arith)
first-scan (w ∷ ws) i t p a f e = first-from w ws (step (w ∷ ws)) i _ t p a (front_step w ws f.1) e

pub tape-first : TapeFirst
tape-first ws t p a f e = go (leb (length ws) most_words) e
  where
    go : (b : Bool) → cond b (scan 0 0 ws) (fault InputTooLong nowhere) ≡ next t p a → (more : List ℕ) × (ws ≡ token_words t ++ more)
    go true e = first-scan ws 0 t p a f e
    go false e = let z : ◌≡◌ {A = ℕ} 0 1 = cc in absurd (omega arith)

-- ---- a tape that ends clean
no_fault : (ts : List Token) (n : Fault) (p q : Place) → Alike (fault n q) (unplaced ts (end p)) → ⊥
no_fault [] n p q a = elim a [ ]
no_fault (t ∷ ts) n p q a = elim a [ ]

module _ (p : Place) where
  -- some words mean these tokens and a clean end, and are what those are printed as
  abbrev Printed : List Token → List ℕ → Type 0
  Printed ts ws = (more : List ℕ) × (ws ≡ printing.tape ts ++ more)

  strict_from : (w : ℕ) (ws : List ℕ) (s : Step) (i : ℕ) (next_one : ℕ → Ahead) → ((n : ℕ) (us : List Token) → Alike (next_one n) (unplaced us (end p)) → Printed us (drop n ws)) →
      (ts : List Token) → Front w ws s → Alike (follow s i next_one) (unplaced ts (end p)) → Printed ts (w ∷ ws)
  unfolding printing.tape
  strict_from w ws (token u n) i next_one ih [] h a = elim a [ ]
  strict_from w ws (token u n) i next_one ih (t ∷ ts) h (both_next a) =
      let r = ih n ts a in (r.0, h ∙ ap (λ xs. token_words u ++ xs) r.1 ∙ sym (append_assoc (token_words u) (printing.tape ts) r.0))
  strict_from w ws Step.end i next_one ih [] h a = (ws, ap (λ x. x ∷ ws) h)
  strict_from w ws Step.end i next_one ih (t ∷ ts) h a = elim a [ ]
  strict_from w ws (wrong f) i next_one ih ts h a = absurd (no_fault ts f p (at_word i) a)

  strict_scan : (ws : List ℕ) (k i : ℕ) (ts : List Token) → Fit ws → Alike (scan k i ws) (unplaced ts (end p)) → Printed ts (drop k ws)
  unfolding scan
  strict_scan [] zero i ts f a = absurd (no_fault ts _ p _ a)
  strict_scan [] (suc k) i ts f a = absurd (no_fault ts _ p _ a)
  strict_scan (w ∷ ws) zero i ts f a = strict_from w ws (step (w ∷ ws)) i _ (λ n us b. strict_scan ws n (i + 1) us f.1 b) ts (front_step w ws f.1) a
  strict_scan (w ∷ ws) (suc k) i ts f a = strict_scan ws k (i + 1) ts f.1 a

pub tape_strict : TapeStrict
tape_strict ws ts p f a = go (leb (length ws) most_words) a
  where
    go : (b : Bool) → Alike (cond b (scan 0 0 ws) (fault InputTooLong nowhere)) (unplaced ts (end p)) → (more : List ℕ) × (ws ≡ printing.tape ts ++ more)
    go true a = strict_scan p ws 0 0 ts f a
    go false a = absurd (no_fault ts InputTooLong p nowhere a)

-- the tokens of two that are alike and end clean
record Meant (a b : Ahead) : Type 0 where
  meant : List Token
  left : Alike a (unplaced meant (end nowhere))
  right : Alike b (unplaced meant (end nowhere))

both_meant : (a b : Ahead) → Alike a b → Clean a → Meant a b
both_meant (next t p a) b (both_next {b = b'} h) c = let r = both_meant a b' h c in record { meant = t ∷ r.meant; left = both_next r.left; right = both_next r.right }
both_meant (end p) b both_end c = record { meant = []; left = both_end; right = both_end }
both_meant (fault n p) b h c = absurd c

pub tape_one_way : TapeOneWay
tape_one_way ws vs f g c a =
    let r = both_meant (tape ws) (tape vs) a c in
    let x = tape_strict ws r.meant nowhere f r.left in
    let y = tape_strict vs r.meant nowhere g r.right in
    record { tokens = r.meant; ws_left = x.0; vs_left = y.0; ws_is = x.1; vs_is = y.1 }

-- words of more than 32 bits would say a number in a second way
two_ways : (tape (1073741824 ∷ 4294967296 ∷ 0 ∷ 0 ∷ []) ≡ next (Token.number 4294967296) (at_word 0) (end (at_word 3)))
    × (printing.tape (Token.number 4294967296 ∷ []) ≡ 1073741824 ∷ 0 ∷ 1 ∷ 0 ∷ [])
unfolding scan printing.tape token_words
two_ways = (refl, refl)
