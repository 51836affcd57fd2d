-- What the counts at the front of a text say of what stands there.
use Rattle.std.proofs.Common.{◌≡◌, ℕ, suc, ◌+◌, ◌-◌, ◌<◌, ◌≤◌, Bool, true, false, ◌&&◌, ◌||◌, eqb, ltb, [], ◌∷◌, length, get_or, take, drop, sym, refl, ap, ◌∙◌, add-one, arith}
use Rattle.std.proofs.lemmas.List.{take_rest, drop-drop, get_or-drop, get_or_past}
use Rattle.std.proofs.lemmas.Option.{gets}
use Rattle.std.proofs.lemmas.Bool.{lt-ltb, le-ltb, false≢true}
use Rattle.std.proofs.lemmas.Bool.Decides.{nat_tests}
use Rattle.token.specs.declared.answer.Fault.TheVariants.{UnclosedString, UnclosedComment, TokenTooLong}
use Rattle.token.specs.Runs.{runs, run, before}
use Rattle.token.specs.Token.{Bytes, symbol, ident, string}
use Rattle.token.specs.Law.{is_digit, is_name_byte}
use Rattle.text_source.specs.Numerals.{int_lit}
use Rattle.text_source.specs.Lexemes.{Lexeme, gap, lexed, bad, limited, word, is_hex, in_number, number_or_float, numeral, in_string, escapes, quoted, in_line, in_comment, comment, mark}
use Rattle.text_source.specs.Fronts.{head, tail}

long : (n : ℕ) (x : Lexeme) → 1023 < n → limited n x ≡ bad TokenTooLong
long n x h = rw (lt-ltb 1023 n h, limited)

short : (n : ℕ) (x : Lexeme) → n ≤ 1023 → limited n x ≡ x
short n x h = rw (le-ltb 1023 n h, limited)

pub word-long : (s : Bytes) (n : ℕ) → n ≡ run is_name_byte (tail s) → 1023 < n + 1 → bad TokenTooLong ≡ word (head s) (tail s)
unfolding word
word-long s n e h = sym (long (suc (run is_name_byte (tail s))) _ (omega (arith, e)))

pub word-short : (s : Bytes) (n : ℕ) → n ≡ run is_name_byte (tail s) → n + 1 ≤ 1023 → lexed (ident (head s ∷ take n (tail s))) n ≡ word (head s) (tail s)
unfolding word
word-short s n e h =
    ap (λ (m : ℕ). lexed (ident (head s ∷ take m (tail s))) m) e ∙ sym (short (suc (run is_name_byte (tail s))) _ (omega (arith, e)))

-- how far a number runs after its first byte
abbrev pub run_on : Bytes → ℕ
run_on s = runs (in_number (is_hex (head s) (tail s))) before (head s) (tail s)

pub numeral-long : (s : Bytes) (n : ℕ) → n ≡ run_on s → 1023 < n + 1 → bad TokenTooLong ≡ numeral (head s) (tail s)
unfolding numeral
numeral-long s n e h = sym (long (suc (run_on s)) _ (omega (arith, e)))

pub text-is : (s : Bytes) (n : ℕ) → 0 < length s → take (n + 1) s ≡ head s ∷ take n (tail s)
text-is [] n h = absurd (omega arith)
text-is (b ∷ bs) n h = rw add-one

-- of what `&s[..n + 1]` holds
pub numeral-short : (s : Bytes) (n : ℕ) → 0 < length s → n ≡ run_on s → n + 1 ≤ 1023 → number_or_float (take (n + 1) s) n (int_lit (take (n + 1) s)) ≡ numeral (head s) (tail s)
unfolding numeral
numeral-short s n h e l =
    ap (λ (t : Bytes). number_or_float t n (int_lit t)) (text-is s n h)
    ∙ ap (λ (m : ℕ). number_or_float (head s ∷ take m (tail s)) m (int_lit (head s ∷ take m (tail s)))) e
    ∙ sym (short (suc (run_on s)) _ (omega (arith, e)))

-- the string's length, and whether the quote stands after it
abbrev pub inner : Bytes → ℕ
inner s = runs (in_string (head s)) escapes false (tail s)

abbrev pub closed : Bytes → ℕ → Bool
closed s n = ltb n (length (tail s)) && eqb (get_or (tail s) n 0) (head s)

pub quoted_open : (s : Bytes) (n : ℕ) → n ≡ inner s → closed s n ≡ false → bad UnclosedString ≡ quoted (head s) (tail s)
unfolding quoted
quoted_open s n e t = let u : closed s (inner s) ≡ false = sym (ap (closed s) e) ∙ t in rw (u, quoted)

pub quoted-long : (s : Bytes) (n : ℕ) → n ≡ inner s → closed s n ≡ true → 1023 < n → bad TokenTooLong ≡ quoted (head s) (tail s)
unfolding quoted
quoted-long s n e t h =
    let u : closed s (inner s) ≡ true = sym (ap (closed s) e) ∙ t in rw (u, quoted) (sym (long (inner s) _ (omega (arith, e))))

pub quoted-short : (s : Bytes) (n : ℕ) → n ≡ inner s → closed s n ≡ true → n ≤ 1023 → lexed (string (take n (tail s))) (n + 1) ≡ quoted (head s) (tail s)
unfolding quoted
quoted-short s n e t h =
    let u : closed s (inner s) ≡ true = sym (ap (closed s) e) ∙ t in
    rw (u, quoted) (ap (λ (m : ℕ). lexed (string (take m (tail s))) (m + 1)) e ∙ sym (short (inner s) _ (omega (arith, e))))

pub comment-closed : (s : Bytes) (n : ℕ) → n ≡ runs in_comment before 0 s → n < length s → gap (n + 2) ≡ comment s
unfolding comment
comment-closed s n e h =
    let u : ltb (runs in_comment before 0 s) (length s) ≡ true = lt-ltb _ _ (omega (arith, e)) in
    rw (u, comment) (ap (λ (m : ℕ). gap (m + 2)) e)

pub comment_open : (s : Bytes) (n : ℕ) → n ≡ runs in_comment before 0 s → length s ≤ n → bad UnclosedComment ≡ comment s
unfolding comment
comment_open s n e h =
    let u : ltb (runs in_comment before 0 s) (length s) ≡ false = le-ltb _ _ (omega (arith, e)) in
    rw (u, comment)

-- ---- symbols, and what else begins with one, by the first two bytes
second : (s : Bytes) (test : ℕ → Bool) (t : Bool) → test (get_or s 1 0) ≡ t → test (head (tail s)) ≡ t
second s test t e = ap test (get_or-drop 1 s 0 0) ∙ e

abbrev pub pair : ℕ → ℕ → ℕ → ℕ → Bool
pair x y a b = eqb a x && eqb b y

abbrev pub dotted : ℕ → ℕ → Bool
dotted a b = eqb a 46 && is_digit b

pub mark-line : (s : Bytes) (n : ℕ) → pair 47 47 (get_or s 0 0) (get_or s 1 0) ≡ true → n ≡ run in_line (tail s) → gap n ≡ mark (head s) (tail s)
unfolding mark
mark-line s n p e = let u : pair 47 47 (head s) (head (tail s)) ≡ true = second s (pair 47 47 (head s)) true p in rw (u, mark) (ap gap e)

not_line : (a b : ℕ) → pair 47 42 a b ≡ true → pair 47 47 a b ≡ false
not_line a b e = grind (arith, nat_tests)

pub mark-comment : (s : Bytes) → pair 47 42 (get_or s 0 0) (get_or s 1 0) ≡ true → comment (take (length s - 2) (drop 2 s)) ≡ mark (head s) (tail s)
unfolding mark
mark-comment s p =
    let v : pair 47 42 (head s) (head (tail s)) ≡ true = second s (pair 47 42 (head s)) true p in
    let u : pair 47 47 (head s) (head (tail s)) ≡ false = not_line (head s) (head (tail s)) v in
    rw (u, mark) (rw v (ap comment (take_rest s 2 ∙ sym (drop-drop 1 1 s))))

not_comment : (a b y : ℕ) → dotted a b ≡ true → pair 47 y a b ≡ false
not_comment a b y e = grind (arith, nat_tests)

pub mark_fraction : (s : Bytes) → dotted (get_or s 0 0) (get_or s 1 0) ≡ true → numeral (head s) (tail s) ≡ mark (head s) (tail s)
unfolding mark
mark_fraction s p =
    let w : dotted (head s) (head (tail s)) ≡ true = second s (dotted (head s)) true p in
    let u : pair 47 47 (head s) (head (tail s)) ≡ false = not_comment (head s) (head (tail s)) 47 w in
    let v : pair 47 42 (head s) (head (tail s)) ≡ false = not_comment (head s) (head (tail s)) 42 w in
    rw (u, mark) (rw v (rw w))

abbrev pub opens : ℕ → ℕ → Bool
opens a b = pair 47 47 a b || (pair 47 42 a b || dotted a b)

pub mark-symbol : (s : Bytes) → opens (get_or s 0 0) (get_or s 1 0) ≡ false → lexed (symbol (head s)) 0 ≡ mark (head s) (tail s)
unfolding mark
mark-symbol s p =
    let o : opens (head s) (head (tail s)) ≡ false = second s (opens (head s)) false p in
    let u : pair 47 47 (head s) (head (tail s)) ≡ false = or_left _ _ o in
    let vw : (pair 47 42 (head s) (head (tail s)) || dotted (head s) (head (tail s))) ≡ false = or_right _ _ o in
    let v : pair 47 42 (head s) (head (tail s)) ≡ false = or_left _ _ vw in
    let w : dotted (head s) (head (tail s)) ≡ false = or_right _ _ vw in
    rw (u, mark) (rw v (rw w)) where
      or_left : (a b : Bool) → (a || b) ≡ false → a ≡ false
      or_left true b h = h
      or_left false b h = refl

      or_right : (a b : Bool) → (a || b) ≡ false → b ≡ false
      or_right true b h = absurd (false≢true (sym h))
      or_right false b h = h

pub ruleset marks = (mark-line, mark-comment, mark_fraction, mark-symbol, get_or_past, nat_tests)

pub ruleset words = (word-long, word-short)

pub ruleset quotes = (quoted_open, quoted-long, quoted-short, nat_tests, gets)

pub ruleset comments = (comment-closed, comment_open)
