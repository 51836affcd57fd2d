-- The words of tokens mean those tokens.
use Rattle.std.proofs.Common.{◌≡◌, ℕ, suc, ◌+◌, ◌*◌, ◌/◌, ◌%◌, ◌^◌, ◌<◌, ◌≤◌, Bool, true, false, cond, ◌&&◌, ◌||◌, T, eqb, ltb, leb, List, [], ◌∷◌, ◌++◌, length, sym, refl, ap, ◌∙◌, subst, ap₂, append_assoc, arith, eqb→eq, ltb→lt, leb→le, length-append}
use lib.Dec.{leb-zero}
use Rattle.std.proofs.lemmas.Bool.{lt-ltb, le-leb}
use Rattle.token.specs.declared.answer.Place.{Place}
use Rattle.token.specs.Token.{Bytes, nowhere, Token, Ahead, next, end, fault, unplaced}
use Rattle.round_trip.specs.Alike.{Alike, both_next, both_end, bare}
use Rattle.token.specs.Law.{well, every, one_of, marks, is_byte, is_text, Formed}
use Rattle.grammar.specs.Print as printing
use Rattle.grammar.specs.Print.{packed, head_word, token_words}
use Rattle.tape_source.specs.Tape.{token, long, by_kind, step, at_word, follow, scan, most_words}
use Rattle.token.specs.declared.answer.Fault.TheVariants.{InputTooLong}
use Rattle.round_trip.specs.Tapes.{TapeAgain, WordsTell}
use Rattle.round_trip.proofs.Packing.{Small, packed-padded, packed-length, unpacked}
use Rattle.round_trip.proofs.PlacesApart.{alike-bare}

-- ---- tests
is_true : (b : Bool) → T b → b ≡ true
is_true true h = refl
is_true false h = absurd h

both : (a b : Bool) → T (a && b) → T a × T b
both true b h = (tt, h)
both false b h = absurd h

small : (w : Bytes) → T (every is_byte w) → Small w
small [] h = Small.none
small (c ∷ cs) h = let p = both (is_byte c) (every is_byte cs) h in Small.more (ltb→lt c 256 p.0) (small cs p.1)

short : (w : Bytes) → T (is_text w) → length w ≤ 1023
short w h = leb→le _ _ (both (leb (length w) 1023) _ h).0

text_small : (w : Bytes) → T (is_text w) → Small w
text_small w h = small w (both (leb (length w) 1023) _ h).1

-- ---- the front
-- how many words a token has after its first
abbrev extra : Token → List ℕ
extra (Token.symbol b) = []
extra (Token.number n) = (n % 2 ^ 32) ∷ (n / 2 ^ 32) ∷ []
extra (Token.ident w) = packed w
extra (Token.float w) = packed w
extra (Token.string w) = packed w

kind_told : (k n : ℕ) (ws : List ℕ) → n < 2 ^ 29 → step (head_word k n ∷ ws) ≡ by_kind k n ws
kind_told k n ws h =
    let q : (k * 2 ^ 29 + n) / 2 ^ 29 ≡ k = omega arith in
    let r : (k * 2 ^ 29 + n) % 2 ^ 29 ≡ n = omega arith in
    ap₂ (λ i j. by_kind i j ws) q r

long_told : (made : Bytes → Token) (w : Bytes) (ws : List ℕ) → T (is_text w) → T (well (made w)) → long made (length w) (packed w ++ ws) ≡ token (made w) (length (packed w))
long_told made w ws h k =
    let s = text_small w h in
    let l = short w h in
    let a : ltb (length w) 1024 ≡ true = lt-ltb _ _ (omega arith) in
    let b : leb ((length w + 3) / 4) (length (packed w ++ ws)) ≡ true = le-leb _ _ (simp length-append (omega (arith, packed-length w))) in
    let c = unpacked w s ws in
    let d = packed-padded w s ws in
    let e = is_true _ k in
    simp (a, b, c, d, e, packed-length w)

-- what is one of some bytes is a byte
listed : (c : ℕ) (xs : Bytes) → T (every is_byte xs) → T (one_of xs c) → T (is_byte c)
listed c [] h k = absurd k
listed c (x ∷ xs) h k =
    let parts = both (is_byte x) (every is_byte xs) h in
    go (eqb c x) refl parts.0 (listed c xs parts.1) k
  where
    go : (b : Bool) → eqb c x ≡ b → T (is_byte x) → (T (one_of xs c) → T (is_byte c)) → T (b || one_of xs c) → T (is_byte c)
    go true e here rest m = subst (λ n. T (is_byte n)) (sym (eqb→eq c x (subst T (sym e) tt))) here
    go false e here rest m = rest m

mark-below : (c : ℕ) → T (one_of marks c) → c < 256
mark-below c h = ltb→lt c 256 (listed c marks tt h)

front_told : (t : Token) (ws : List ℕ) → T (well t) → step (token_words t ++ ws) ≡ token t (length (extra t))
unfolding token_words
front_told (Token.symbol c) ws h =
    let a : leb 0 (length ws) ≡ true = leb-zero (length ws) in
    let b = is_true _ h in
    kind_told 1 c ws (omega (arith, mark-below c h)) ∙ simp (a, b)
front_told (Token.number n) ws h =
    let a : leb 2 (suc (suc (length ws))) ≡ true = le-leb _ _ (omega arith) in
    let e : n % 2 ^ 32 + 2 ^ 32 * (n / 2 ^ 32) ≡ n = omega arith in
    let b = is_true _ h in
    simp (a, e, b)
front_told (Token.ident w) ws h = let p = both (is_text w) _ h in kind_told 3 (length w) (packed w ++ ws) (omega (arith, short w p.0)) ∙ long_told Token.ident w ws p.0 h
front_told (Token.float w) ws h = let p = both (is_text w) _ h in kind_told 4 (length w) (packed w ++ ws) (omega (arith, short w p.0)) ∙ long_told Token.float w ws p.0 h
front_told (Token.string w) ws h = kind_told 5 (length w) (packed w ++ ws) (omega (arith, short w h)) ∙ long_told Token.string w ws h h

-- ---- the whole
abbrev past : ℕ → List ℕ → ℕ
past i [] = i
past i (x ∷ xs) = past (i + 1) xs

skip : (xs ws : List ℕ) (i : ℕ) → scan (length xs) i (xs ++ ws) ≡ scan 0 (past i xs) ws
unfolding scan
skip [] ws i = refl
skip (x ∷ xs) ws i = skip xs ws (i + 1)

one_more : (w : ℕ) (xs ws : List ℕ) (t : Token) (i : ℕ) → step (w ∷ (xs ++ ws)) ≡ token t (length xs) → scan 0 i (w ∷ (xs ++ ws)) ≡ next t (at_word i) (scan 0 (past (i + 1) xs) ws)
unfolding scan
one_more w xs ws t i e = ap (λ s. follow s i (λ n. scan n (i + 1) (xs ++ ws))) e ∙ ap (next t (at_word i)) (skip xs ws (i + 1))

token-more : (t : Token) (ws : List ℕ) (i : ℕ) → T (well t) → scan 0 i (token_words t ++ ws) ≡ next t (at_word i) (scan 0 (past (i + 1) (extra t)) ws)
unfolding token_words
token-more (Token.symbol c) ws i h = one_more _ [] ws _ i (front_told (Token.symbol c) ws h)
token-more (Token.number n) ws i h = one_more _ (extra (Token.number n)) ws _ i (front_told (Token.number n) ws h)
token-more (Token.ident w) ws i h = one_more _ (packed w) ws _ i (front_told (Token.ident w) ws h)
token-more (Token.float w) ws i h = one_more _ (packed w) ws _ i (front_told (Token.float w) ws h)
token-more (Token.string w) ws i h = one_more _ (packed w) ws _ i (front_told (Token.string w) ws h)

again : (ts : List Token) (more : List ℕ) (p : Place) → Formed ts → (i : ℕ) → Alike (scan 0 i (printing.tape ts ++ more)) (unplaced ts (end p))
unfolding printing.tape scan
again [] more p f i = both_end
again (t ∷ ts) more p f i =
    let e : scan 0 i ((token_words t ++ printing.tape ts) ++ more) ≡ _ = ap (scan 0 i) (append_assoc (token_words t) (printing.tape ts) more) ∙ token-more t (printing.tape ts ++ more) i f.0 in
    subst (λ a. Alike a (unplaced (t ∷ ts) (end p))) (sym e) (both_next (again ts more p f.1 (past (i + 1) (extra t))))

pub tape-again : TapeAgain
tape-again ts more p f h =
    let e : leb (length (printing.tape ts ++ more)) most_words ≡ true = le-leb _ _ h in
    subst (λ b. Alike (cond b (scan 0 0 (printing.tape ts ++ more)) (fault InputTooLong nowhere)) (unplaced ts (end p))) (sym e) (again ts more p f 0)

-- ---- the words tell the tokens
abbrev tokens_of : Ahead → List Token
tokens_of (next t p a) = t ∷ tokens_of a
tokens_of (end p) = []
tokens_of (fault n p) = []

tokens-bare : (ts : List Token) (p : Place) → tokens_of (bare (unplaced ts (end p))) ≡ ts
tokens-bare [] p = refl
tokens-bare (t ∷ ts) p = ap (λ us. t ∷ us) (tokens-bare ts p)

pub words_tell : WordsTell
words_tell ts us f g e =
    let a = alike-bare (again ts [] nowhere f 0) in
    let b = alike-bare (again us [] nowhere g 0) in
    sym (tokens-bare ts nowhere) ∙ ap tokens_of (sym a ∙ ap (λ ws. bare (scan 0 0 (ws ++ []))) e ∙ b) ∙ tokens-bare us nowhere
