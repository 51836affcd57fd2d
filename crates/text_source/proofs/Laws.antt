-- Every token of a text is well formed, and every place has 32-bit numbers.
use Rattle.std.proofs.Common.{◌≡◌, ℕ, zero, suc, ◌+◌, ◌*◌, ◌^◌, ◌<◌, ◌≤◌, Bool, true, false, ◌&&◌, eqb, ltb, [], ◌∷◌, length, get_or, take, drop, Some, None, Option, refl, ap, ◌∙◌, ⊎_elim, arith, length-take}
use Rattle.std.proofs.lemmas.Bool.{cases_Bool, ltb-true, ltb-false, lt-ltb, le-leb, and_from, and_parts}
use Rattle.std.proofs.lemmas.Bool.Decides.{nat_tests}
use Rattle.token.specs.declared.answer.Place.{Place}
use Rattle.token.specs.Runs.{runs, run, before}
use Rattle.token.specs.Token.{Bytes, symbol, Ahead, next, end, fault, taken}
use Rattle.token.specs.Law.{every, is_byte, is_digit, is_letter, is_name_byte, is_float, longest, is_text, well, in_range, lawful}
use Rattle.token.proofs.Steps.{on, off}
use Rattle.text_source.specs.declared.class.Class.{Class}
use Rattle.text_source.specs.declared.class.Class.TheVariants.{Blank, Letter, Digit, Quote, Symbol, Other}
use Rattle.text_source.specs.Classes.{class_of}
use Rattle.text_source.specs.Numerals.{digit_in, read_in, is_x, hex_lit, zero_lit, int_lit}
use Rattle.text_source.specs.Lexemes.{Lexeme, gap, lexed, bad, limited, word, is_hex, in_number, float_or_bad, number_or_float, numeral, in_string, escapes, quoted, in_comment, comment, mark, by_class, lexeme}
use Rattle.text_source.specs.Text.{past, stream}
use Rattle.text_source.proofs.Classes.{says}

-- ---- the bytes of a run
every-run : {S : Type 0} (ok : S → ℕ → Bool) (step : S → ℕ → S) (test : ℕ → Bool) → ((s : S) (b : ℕ) → ok s b ≡ true → test b ≡ true) → (s : S) (bs : Bytes) → every test (take (runs ok step s bs) bs) ≡ true
every-run ok step test f s [] = refl
every-run ok step test f s (b ∷ bs) =
    ⊎_elim
    (λ e. ap (λ (k : ℕ). every test (take k (b ∷ bs))) (on ok step s b bs e) ∙ and_from _ _ (f s b e) (every-run ok step test f (step s b) bs))
    (λ e. ap (λ (k : ℕ). every test (take k (b ∷ bs))) (off ok step s b bs e))
    (cases_Bool (ok s b))

every-name : (test : ℕ → Bool) → ((b : ℕ) → is_name_byte b ≡ true → test b ≡ true) → (bs : Bytes) → every test (take (run is_name_byte bs) bs) ≡ true
every-name test f [] = refl
every-name test f (b ∷ bs) =
    ⊎_elim
    (λ e. ap (λ (k : ℕ). every test (take k (b ∷ bs))) (name_on b bs e) ∙ and_from _ _ (f b e) (every-name test f bs))
    (λ e. ap (λ (k : ℕ). every test (take k (b ∷ bs))) (name_off b bs e))
    (cases_Bool (is_name_byte b))
  where
    name_on : (b : ℕ) (bs : Bytes) → is_name_byte b ≡ true → run is_name_byte (b ∷ bs) ≡ suc (run is_name_byte bs)
    name_on b bs e = rw e (omega arith)

    name_off : (b : ℕ) (bs : Bytes) → is_name_byte b ≡ false → run is_name_byte (b ∷ bs) ≡ 0
    name_off b bs e = rw e

name-byte : (b : ℕ) → is_name_byte b ≡ true → is_byte b ≡ true
name-byte b e = grind (arith, nat_tests)

letter_byte : (b : ℕ) → is_letter b ≡ true → is_byte b ≡ true
letter_byte b e = grind (arith, nat_tests)

digit_byte : (b : ℕ) → is_digit b ≡ true → is_byte b ≡ true
digit_byte b e = grind (arith, nat_tests)

dot-byte : (b : ℕ) → eqb b 46 ≡ true → is_byte b ≡ true
dot-byte b e = grind (arith, nat_tests)

number-byte : (hex : Bool) (last b : ℕ) → in_number hex last b ≡ true → is_byte b ≡ true
number-byte hex last b e = grind (arith, nat_tests)

string-byte : (q : ℕ) (escaped : Bool) (b : ℕ) → in_string q escaped b ≡ true → is_byte b ≡ true
string-byte q escaped b e = grind (arith, nat_tests)

-- ---- what stands at the front
abbrev Ok : Lexeme → Type 0
Ok (gap n) = Unit {0}
Ok (lexed t n) = well t ≡ true
Ok (bad f) = Unit {0}

if_ok : (t : Bool) (x y : Lexeme) → (t ≡ true → Ok x) → (t ≡ false → Ok y) → Ok (elim t [ true ↦ x | false ↦ y ])
if_ok true x y f g = f refl
if_ok false x y f g = g refl

limited-ok : (n : ℕ) (x : Lexeme) → (n ≤ longest → Ok x) → Ok (limited n x)
limited-ok n x f = if_ok (ltb longest n) _ x (λ e. tt) (λ e. f (ltb-false longest n e))

text-ok : (bs : Bytes) → length bs ≤ longest → every is_byte bs ≡ true → is_text bs ≡ true
text-ok bs h e = and_from _ _ (le-leb _ _ h) e

word_ok : (b : ℕ) (bs : Bytes) → is_letter b ≡ true → Ok (word b bs)
unfolding word
word_ok b bs l =
    let n = run is_name_byte bs in
    limited-ok (suc n) _
    (λ h.
    and_from _ _
    (text-ok (b ∷ take n bs) (omega (arith, length-take n bs)) (and_from _ _ (letter_byte b l) (every-name is_byte name-byte bs)))
    (and_from _ _ l (every-name is_name_byte (λ c e. e) bs)))

-- what an integer literal gives
abbrev Below : Option ℕ → Type 0
Below (Some v) = v < 2 ^ 64
Below None = Unit {0}

if_below : (t : Bool) (x y : Option ℕ) → (t ≡ true → Below x) → (t ≡ false → Below y) → Below (elim t [ true ↦ x | false ↦ y ])
if_below true x y f g = f refl
if_below false x y f g = g refl

digit_below : (o : Option ℕ) (f : ℕ → Option ℕ) → ((d : ℕ) → Below (f d)) → Below (elim o [ Some d ↦ f d | None ↦ None ])
digit_below (Some d) f h = h d
digit_below None f h = tt

read_below : (k a : ℕ) (bs : Bytes) → Below (read_in k a bs)
read_below k a [] = if_below (ltb a (2 ^ 64)) (Some a) None (λ e. ltb-true a (2 ^ 64) e) (λ e. tt)
read_below k a (b ∷ bs) = digit_below (digit_in k b) (λ d. read_in k (a * k + d) bs) (λ d. read_below k (a * k + d) bs)

hex_below : (bs : Bytes) → Below (hex_lit bs)
hex_below [] = tt
hex_below (b ∷ bs) = read_below 16 0 (b ∷ bs)

zero_below : (bs : Bytes) → Below (zero_lit bs)
zero_below [] = omega arith
zero_below (b ∷ bs) = if_below (is_x b) _ _ (λ e. hex_below bs) (λ e. read_below 8 0 (b ∷ bs))

int_below : (bs : Bytes) → Below (int_lit bs)
int_below [] = tt
int_below (b ∷ bs) = if_below (eqb b 48) _ _ (λ e. zero_below bs) (λ e. read_below 10 0 (b ∷ bs))

float_ok : (bs : Bytes) (n : ℕ) (t : Bool) → is_text bs ≡ true → is_float bs ≡ t → Ok (float_or_bad bs n t)
float_ok bs n true h e = and_from _ _ h e
float_ok bs n false h e = tt

number_ok : (bs : Bytes) (n : ℕ) (o : Option ℕ) → is_text bs ≡ true → Below o → Ok (number_or_float bs n o)
number_ok bs n (Some v) h l = lt-ltb v (2 ^ 64) l
number_ok bs n None h l = float_ok bs n (is_float bs) h refl

numeral-ok : (b : ℕ) (bs : Bytes) → is_byte b ≡ true → Ok (numeral b bs)
unfolding numeral
numeral-ok b bs e =
    let n = runs (in_number (is_hex b bs)) before b bs in
    let w = b ∷ take n bs in
    limited-ok (suc n) _
    (λ h. number_ok w n (int_lit w) (text-ok w (omega (arith, length-take n bs)) (and_from _ _ e (every-run (in_number (is_hex b bs)) before is_byte (number-byte (is_hex b bs)) b bs))) (int_below w))

quoted-ok : (q : ℕ) (bs : Bytes) → Ok (quoted q bs)
unfolding quoted
quoted-ok q bs =
    let n = runs (in_string q) escapes false bs in
    if_ok (ltb n (length bs) && eqb (get_or bs n 0) q) _ _
    (λ e. limited-ok n _ (λ h. text-ok (take n bs) (omega (arith, length-take n bs)) (every-run (in_string q) escapes is_byte (string-byte q) false bs)))
    (λ e. tt)

comment-ok : (bs : Bytes) → Ok (comment bs)
unfolding comment
comment-ok bs = if_ok (ltb (runs in_comment before 0 bs) (length bs)) _ _ (λ e. tt) (λ e. tt)

mark-ok : (b : ℕ) (bs : Bytes) → well (symbol b) ≡ true → Ok (mark b bs)
unfolding mark
mark-ok b bs s =
    let x = get_or bs 0 0 in
    if_ok (eqb b 47 && eqb x 47) _ _ (λ e. tt)
    (λ e. if_ok (eqb b 47 && eqb x 42) _ _ (λ f. comment-ok (drop 1 bs))
    (λ f. if_ok (eqb b 46 && is_digit x) _ _ (λ g. numeral-ok b bs (dot-byte b (and_parts (eqb b 46) (is_digit x) g).0)) (λ g. s)))

class_ok : (k : Class) (b : ℕ) (bs : Bytes) → class_of b ≡ k → Ok (by_class k b bs)
class_ok Blank b bs e = tt
class_ok Letter b bs e = word_ok b bs (says b Letter e)
class_ok Digit b bs e = numeral-ok b bs (digit_byte b (says b Digit e))
class_ok Quote b bs e = quoted-ok b bs
class_ok Symbol b bs e = mark-ok b bs (says b Symbol e)
class_ok Other b bs e = tt

lexeme-ok : (b : ℕ) (bs : Bytes) → Ok (lexeme b bs)
unfolding lexeme
lexeme-ok b bs = class_ok (class_of b) b bs refl

-- ---- places, of which neither number grows by more than one a byte
placed : (p : Place) → p.line < 2 ^ 32 → p.column < 2 ^ 32 → in_range p ≡ true
placed p l c = and_from _ _ (lt-ltb _ _ l) (lt-ltb _ _ c)

past-line : (p : Place) (b : ℕ) → (past p b).line ≤ p.line + 1
past-line p b = ⊎_elim (λ (e : eqb b 10 ≡ true). rw (e, past) (omega arith)) (λ (e : eqb b 10 ≡ false). rw (e, past) (omega arith)) (cases_Bool (eqb b 10))

past-column : (p : Place) (b : ℕ) → (past p b).column ≤ p.column + 1
past-column p b = ⊎_elim (λ (e : eqb b 10 ≡ true). rw (e, past) (omega arith)) (λ (e : eqb b 10 ≡ false). rw (e, past) (omega arith)) (cases_Bool (eqb b 10))

-- ---- the whole text
lawful-at : (p : Place) (x : Lexeme) (f : ℕ → Ahead) → in_range p ≡ true → Ok x → ((k : ℕ) → lawful (f k) ≡ true) → lawful (elim x [ gap k ↦ f k | lexed t k ↦ next t p (f k) | bad g ↦ fault g p ]) ≡ true
lawful-at p (gap k) f r h g = g k
lawful-at p (lexed t k) f r h g = and_from _ _ (and_from _ _ h r) (g k)
lawful-at p (bad e) f r h g = r

pub stream-lawful : (k : ℕ) (p : Place) (bs : Bytes) → p.line + length bs < 2 ^ 32 → p.column + length bs < 2 ^ 32 → lawful (stream k p bs) ≡ true
unfolding stream
stream-lawful k p [] l c = placed p (omega arith) (omega arith)
stream-lawful (suc k) p (b ∷ bs) l c =
    stream-lawful k (past p b) bs (omega (arith, past-line p b)) (omega (arith, past-column p b))
stream-lawful zero p (b ∷ bs) l c =
    lawful-at p (lexeme b bs) (λ k. stream k (past p b) bs) (placed p (omega arith) (omega arith)) (lexeme-ok b bs)
    (λ k. stream-lawful k (past p b) bs (omega (arith, past-line p b)) (omega (arith, past-column p b)))

pub taken-lawful : (a : Ahead) → lawful a ≡ true → lawful (taken a) ≡ true
taken-lawful (next t p a) h = (and_parts (well t && in_range p) (lawful a) h).1
taken-lawful (end p) h = h
taken-lawful (fault f p) h = h
