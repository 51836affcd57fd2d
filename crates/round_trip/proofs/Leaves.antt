-- What the reader's smallest parts give: identifiers, paths, numbers and strings as they may be printed again.
use Rattle.std.proofs.Common.{◌≡◌, ℕ, zero, suc, Bool, true, false, ◌||◌, T, eqb, leb, List, [], ◌∷◌, ◌++◌, pos, Some as some, sym, refl, ap, ◌∙◌, subst, true≢false, eqb→eq}
use Rattle.token.specs.declared.answer.Place.{Place}
use Rattle.token.specs.Token.{Bytes, Token, Ahead, next, end, fault}
use Rattle.grammar.specs.Parse.{Reply, ok, refused, bind, ◌>>=◌, ◌>>◌, ◌<$>◌, return, refuse, given◌then◌else◌, with_some, due, look, take, peek, accept, expect, ident_of, string_of, integer_of, ident_due, after_next, many}
use Rattle.grammar.specs.Decode.{holds}
use Rattle.token.specs.Law.{well, every, is_letter, is_digit, is_name_byte, is_name, is_text}
use Rattle.grammar.specs.declared.fault.ParserError.TheVariants.{ExpectIdent, ExpectString, IncorrectInput, IntegerOverflow, GroupNameShouldStartWithUpperCase, StrLitDecodeError}
use Rattle.round_trip.proofs.Well.{Well}
use Rattle.grammar.specs.Grammar as g
use Rattle.round_trip.proofs.PathAgain.{Words, done, more, tail}
use Rattle.round_trip.proofs.ConstantAgain.{WordOk, PathOk, FullOk, relative, absolute, first_token, full_starts}
use Rattle.round_trip.proofs.Escapes.{decoded_ok}
use Rattle.round_trip.proofs.Again.{All, skips, and_left, and_right, some_inj, none_some}
use Rattle.round_trip.proofs.Canon.{TextOk, NumberOk, PathSkips, head_of}
use Rattle.round_trip.proofs.Outcome.{Result, Gives, then_result, g_bind, g_map, g_return, g_refuse, g_if, g_with, g_due, g_expect, g_any, g_accept, g_many, g_after, HeadSkips, HeadIs}

-- ---- identifiers hold no dot
no_dot_byte : (c : ℕ) (b : Bool) → eqb c 46 ≡ b → is_name_byte c ≡ true → b ≡ false
no_dot_byte c false e h = refl
no_dot_byte c true e h = absurd (true≢false (sym (subst (λ d. is_name_byte d ≡ true) (eqb→eq c 46 (subst T (sym e) tt)) h)))

or_true : (a b : Bool) → a ≡ true → (a || b) ≡ true
or_true true b e = refl
or_true false b e = absurd (true≢false (sym e))

no_dots : (cs : Bytes) → every is_name_byte cs ≡ true → holds g.dot cs ≡ false
no_dots [] h = refl
no_dots (c ∷ cs) h = rw (no_dot_byte c (eqb c 46) refl (and_left (is_name_byte c) _ h)) (no_dots cs (and_right (is_name_byte c) _ h))

word_no_dot : (c : ℕ) (cs : Bytes) → WordOk (c ∷ cs) → holds g.dot (c ∷ cs) ≡ false
word_no_dot c cs h =
    let k = and_right (is_text (c ∷ cs)) (is_name (c ∷ cs)) h in
    rw (no_dot_byte c (eqb c 46) refl (or_true (is_letter c) (is_digit c) (and_left (is_letter c) _ k))) (no_dots cs (and_right (is_letter c) _ k))

words_cons : (w : Bytes) (ws : List Bytes) → WordOk w → Words ws → Words (w ∷ ws)
words_cons [] ws h hs = absurd (true≢false (sym h))
words_cons (c ∷ cs) ws h hs = more (word_no_dot c cs h) hs

-- ---- paths
pub ident_result : (a : Ahead) → Well a → Result (λ w b. WordOk w × HeadIs (Token.ident w) a) (ident_due a)
unfolding expect due look take return refuse with_some ◌>>=◌ ◌>>◌ Well
ident_result (next (Token.symbol x) q b) l = tt
ident_result (next (Token.number x) q b) l = tt
ident_result (next (Token.ident w) q b) l = ((l.0, (q, b, refl)), l.1)
ident_result (next (Token.float x) q b) l = tt
ident_result (next (Token.string x) q b) l = tt
ident_result (end q) l = tt
ident_result (fault n q) l = tt

pub drop_result : {A : Type 0} (P Q : A → Ahead → Type 0) (r : Reply A) → ((x : A) (b : Ahead) → P x b → Q x b) → Result P r → Result Q r
drop_result P Q (ok x b) k h = (k x b h.0, h.1)
drop_result P Q (refused why b) k h = tt

pub ident_gives : Gives ident_due WordOk
ident_gives = record { gives = λ a l. drop_result (λ w b. WordOk w × HeadIs (Token.ident w) a) (λ w b. WordOk w) (ident_due a) (λ w b h. h.0) (ident_result a l) }

-- identifiers after the first
record Others (t : Bytes) : Type 0 where
  others : List Bytes
  are_words : Words others
  words-ok : All WordOk others
  joined : t ≡ tail others

others_gives : Gives (many ◌++◌ [] (after_next g.dot ((λ w. g.dot ∷ w) <$> ident_due))) Others
others_gives =
    g_many ◌++◌ [] (λ x. (w : Bytes) × WordOk w × (x ≡ g.dot ∷ w))
    (g_after g.dot (g_map _ ident_gives (λ w h. (w, h, refl))))
    (record { others = []; are_words = done; words-ok = tt; joined = refl })
    (λ x y h r. record { others = h.0 ∷ r.others; are_words = words_cons h.0 r.others h.1 r.are_words; words-ok = (h.1, r.words-ok); joined = ap (λ z. z ++ y) h.2 ∙ ap (λ z. (g.dot ∷ h.0) ++ z) r.joined })

-- a path, and the token that it begins with
abbrev pub PathAt : Ahead → Bytes → Type 0
PathAt a t = (h : PathOk t) × HeadIs (Token.ident (h.first ∷ h.letters)) a

path-at : (a : Ahead) (w y : Bytes) → WordOk w → HeadIs (Token.ident w) a → Others y → PathAt a (w ++ y)
path-at a [] y h i r = absurd (true≢false (sym h))
path-at a (c ∷ cs) y h i r =
    (record { first = c; letters = cs; others = r.others; are_words = words_cons (c ∷ cs) r.others h r.are_words; words-ok = (h, r.words-ok); joined = ap (λ z. (c ∷ cs) ++ z) r.joined }, i)

pub dotted_result : (a : Ahead) → Well a → Result (λ t b. PathAt a t) (g.dotted a)
unfolding g.dotted ◌>>=◌ return
dotted_result a l =
    then_result (λ w b. WordOk w × HeadIs (Token.ident w) a) (λ t b. PathAt a t) (ident_due a) _ (ident_result a l) (λ w b h l'.
    then_result (λ y c. Others y) (λ t c. PathAt a t) _ _ (others_gives.gives b l') (λ y c r l''. (path-at a w y h.0 h.1 r, l'')))

pub dotted_gives : Gives g.dotted PathOk
dotted_gives = record { gives = λ a l. drop_result (λ t b. PathAt a t) (λ t b. PathOk t) (g.dotted a) (λ t b h. h.0) (dotted_result a l) }

-- the same, perhaps with a dot in front
abbrev pub FullAt : Ahead → Bytes → Type 0
FullAt a t = (h : FullOk t) × HeadIs (first_token h) a

pub full_result : (a : Ahead) → Well a → Result (λ t b. FullAt a t) (g.full_ident a)
unfolding g.full_ident accept peek look take return with_some given◌then◌else◌ ◌>>=◌ ◌>>◌ Well
full_result (next (Token.symbol x) q b) l = go (eqb x 46) refl
  where
    go : (c : Bool) → eqb x 46 ≡ c → Result (λ t d. FullAt (next (Token.symbol x) q b) t) (bind ((given c then (take >> return true) else return false) (next (Token.symbol x) q b)) (λ z. g.dotted >>= (λ name. return (mathlib.Core.Bool.cond z (g.dot ∷ name) name))))
    go true e = then_result (λ t d. PathAt b t) (λ t d. FullAt (next (Token.symbol x) q b) t) (g.dotted b) _ (dotted_result b l.1) (λ t d h l'. ((absolute h.0, (q, b, ap (λ y. next (Token.symbol y) q b) (eqb→eq x 46 (subst T (sym e) tt)))), l'))
    go false e = then_result (λ t d. PathAt (next (Token.symbol x) q b) t) (λ t d. FullAt (next (Token.symbol x) q b) t) (g.dotted (next (Token.symbol x) q b)) _ (dotted_result (next (Token.symbol x) q b) l) (λ t d h l'. ((relative h.0, h.1), l'))
full_result (next (Token.number x) q b) l = then_result (λ t d. PathAt (next (Token.number x) q b) t) _ (g.dotted (next (Token.number x) q b)) _ (dotted_result (next (Token.number x) q b) l) (λ t d h l'. ((relative h.0, h.1), l'))
full_result (next (Token.ident x) q b) l = then_result (λ t d. PathAt (next (Token.ident x) q b) t) _ (g.dotted (next (Token.ident x) q b)) _ (dotted_result (next (Token.ident x) q b) l) (λ t d h l'. ((relative h.0, h.1), l'))
full_result (next (Token.float x) q b) l = then_result (λ t d. PathAt (next (Token.float x) q b) t) _ (g.dotted (next (Token.float x) q b)) _ (dotted_result (next (Token.float x) q b) l) (λ t d h l'. ((relative h.0, h.1), l'))
full_result (next (Token.string x) q b) l = then_result (λ t d. PathAt (next (Token.string x) q b) t) _ (g.dotted (next (Token.string x) q b)) _ (dotted_result (next (Token.string x) q b) l) (λ t d h l'. ((relative h.0, h.1), l'))
full_result (end q) l = then_result (λ t d. PathAt (end q) t) _ (g.dotted (end q)) _ (dotted_result (end q) l) (λ t d h l'. ((relative h.0, h.1), l'))
full_result (fault n q) l = tt

pub full_gives : Gives g.full_ident FullOk
full_gives = record { gives = λ a l. drop_result (λ t b. FullAt a t) (λ t b. FullOk t) (g.full_ident a) (λ t b h. h.0) (full_result a l) }

-- what the token that came was not, the path does not begin with
pub path_skips_of : (ws : List Bytes) (a : Ahead) (t : Bytes) → FullAt a t → HeadSkips ws a → PathSkips t ws
path_skips_of ws a t h k =
    subst (λ l. skips (head_of l) ws ≡ true) (sym (full_starts h.0 [])) (subst (HeadSkips ws) h.1.2 k)

-- ---- numbers
pub number_gives : Gives g.field_number (λ n. leb n 2147483647 ≡ true)
unfolding g.field_number
number_gives = g_due _ (λ t o q b l. go t q b l)
  where
    inside : (n : ℕ) (q : Place) (b : Ahead) → Well b → (c : Bool) → leb n 2147483647 ≡ c → Result (λ n b. leb n 2147483647 ≡ true) ((given c then (take >> return n) else refuse IntegerOverflow) (next (Token.number n) q b))
    inside n q b l true e = unfold take return ◌>>◌ given◌then◌else◌ in (e, l)
    inside n q b l false e = unfold refuse given◌then◌else◌ in tt

    go : (t : Token) (q : Place) (b : Ahead) → Well b → Result (λ n b. leb n 2147483647 ≡ true) (with_some (integer_of t) (λ n. given leb n 2147483647 then (take >> return n) else refuse IntegerOverflow) (refuse IncorrectInput) (next t q b))
    go (Token.symbol x) q b l = unfold with_some refuse in tt
    go (Token.number n) q b l = unfold with_some in inside n q b l (leb n 2147483647) refl
    go (Token.ident x) q b l = unfold with_some refuse in tt
    go (Token.float x) q b l = unfold with_some refuse in tt
    go (Token.string x) q b l = unfold with_some refuse in tt

pub group_name_gives : Gives g.group_name (λ w. WordOk w × (g.capital w ≡ true))
unfolding g.group_name
group_name_gives = g_due _ (λ t o q b l. go t o q b l)
  where
    inside : (w : Bytes) → WordOk w → (q : Place) (b : Ahead) → Well b → (c : Bool) → g.capital w ≡ c → Result (λ w b. WordOk w × (g.capital w ≡ true)) ((given c then (take >> return w) else refuse GroupNameShouldStartWithUpperCase) (next (Token.ident w) q b))
    inside w o q b l true e = unfold take return ◌>>◌ given◌then◌else◌ in ((o, e), l)
    inside w o q b l false e = unfold refuse given◌then◌else◌ in tt

    go : (t : Token) → well t ≡ true → (q : Place) (b : Ahead) → Well b → Result (λ w b. WordOk w × (g.capital w ≡ true)) (with_some (ident_of t) (λ w. given g.capital w then (take >> return w) else refuse GroupNameShouldStartWithUpperCase) (refuse ExpectIdent) (next t q b))
    go (Token.symbol x) o q b l = unfold with_some refuse in tt
    go (Token.number x) o q b l = unfold with_some refuse in tt
    go (Token.ident w) o q b l = unfold with_some in inside w o q b l (g.capital w) refl
    go (Token.float x) o q b l = unfold with_some refuse in tt
    go (Token.string x) o q b l = unfold with_some refuse in tt

negated-ok : (n : ℕ) → leb n 2147483648 ≡ true → NumberOk (g.negated n)
negated-ok zero h = refl
negated-ok (suc n) h = h

pub enum_number_gives : Gives g.enum_number NumberOk
unfolding g.enum_number
enum_number_gives =
    g_bind (g_accept _) (λ negative u. g_bind (g_any IncorrectInput integer_of) (λ n v.
    g_if (λ e. g_if (λ h. g_return (g.negated n) (negated-ok n h)) (λ h. g_refuse IntegerOverflow)) (λ e. g_if (λ h. g_return (pos n) h) (λ h. g_refuse IntegerOverflow))))

-- ---- strings
string-law : (t : Token) (x : Bytes) → well t ≡ true → string_of t ≡ some x → well (Token.string x) ≡ true
string-law (Token.symbol y) x o e = absurd (none_some e)
string-law (Token.number y) x o e = absurd (none_some e)
string-law (Token.ident y) x o e = absurd (none_some e)
string-law (Token.float y) x o e = absurd (none_some e)
string-law (Token.string y) x o e = subst (λ z. well (Token.string z) ≡ true) (some_inj e) o

pub decoded_gives : Gives g.decoded_string TextOk
unfolding g.decoded_string
decoded_gives = g_bind (g_expect ExpectString string_of string-law) (λ t h. g_with (λ x e. g_return x (decoded_ok t x h e)) (λ e. g_refuse StrLitDecodeError))
