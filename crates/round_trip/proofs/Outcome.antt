-- What a reader gives, where it gives something: rules for each way to build a reader.
use Rattle.std.proofs.Common.{◌≡◌, ℕ, zero, suc, Bool, true, false, not, ◌&&◌, T, eqb, List, [], ◌∷◌, ◌++◌, Some as some, None as none, Option, sym, refl, ap, subst, ap₂, true≢false, eqb→eq}
use Rattle.token.specs.declared.answer.Place.{Place}
use Rattle.token.specs.Token.{Bytes, Token, Ahead, next, end, fault, count, taken}
use Rattle.grammar.specs.Parse.{Reply, ok, refused, Parser, bind, ◌>>=◌, ◌>>◌, ◌<$>◌, return, refuse, given◌then◌else◌, with_some, here, due, look, take, peek, accept, expect, choose, same, is_word, word_if, next_is_word, word_forbidden, words_forbidden, after_turn, many_for, many, unless_next, after_next}
use Rattle.token.specs.Law.{well}
use Rattle.grammar.specs.declared.fault.ParserError.{ParserError}
use Rattle.grammar.specs.declared.fault.ParserError.TheVariants.{ForbiddenWord}
use Rattle.round_trip.proofs.Well.{Well}
use Rattle.round_trip.proofs.Again.{skips, skips-first, skips_others, and_left, and_right, words_of}

-- a reply that gives what has the property, before a lawful rest
abbrev pub Result : {A : Type 0} → (A → Ahead → Type 0) → Reply A → Type 0
Result Q (ok x b) = Q x b × Well b
Result Q (refused why b) = Unit {0}

pub record Gives {A : Type 0} (p : Parser A) (Q : A → Type 0) : Type 0 where
  pub gives : (a : Ahead) → Well a → Result (λ x b. Q x) (p a)

module _ {A B : Type 0} where
  pub then_result : (P : A → Ahead → Type 0) (Q : B → Ahead → Type 0) (r : Reply A) (f : A → Parser B) → Result P r → ((x : A) (b : Ahead) → P x b → Well b → Result Q (f x b)) → Result Q (bind r f)
  then_result P Q r f h k = go r h
    where
      go : (r : Reply A) → Result P r → Result Q (bind r f)
      go (ok x b) h = k x b h.0 h.1
      go (refused why b) h = tt

  pub g_bind : {m : Parser A} {f : A → Parser B} {P : A → Type 0} {Q : B → Type 0} → Gives m P → ((x : A) → P x → Gives (f x) Q) → Gives (m >>= f) Q
  unfolding ◌>>=◌
  g_bind {m} {f} {P} {Q} h k = record { gives = λ a l. then_result (λ x b. P x) (λ x b. Q x) (m a) f (h.gives a l) (λ x b p l'. (k x p).gives b l') }

  pub g_then : {m : Parser A} {q : Parser B} {P : A → Type 0} {Q : B → Type 0} → Gives m P → Gives q Q → Gives (m >> q) Q
  unfolding ◌>>◌
  g_then {m} {q} {P} {Q} h k = record { gives = λ a l. then_result (λ x b. P x) (λ x b. Q x) (m a) (λ _. q) (h.gives a l) (λ x b p l'. k.gives b l') }

  pub g_map : (f : A → B) {m : Parser A} {P : A → Type 0} {Q : B → Type 0} → Gives m P → ((x : A) → P x → Q (f x)) → Gives (f <$> m) Q
  unfolding ◌<$>◌
  g_map f {m} {P} {Q} h k = record { gives = λ a l. then_result (λ x b. P x) (λ x b. Q x) (m a) (λ x. ok (f x)) (h.gives a l) (λ x b p l'. (k x p, l')) }

module _ {A : Type 0} where
  pub g_return : (x : A) {Q : A → Type 0} → Q x → Gives (return x) Q
  unfolding return
  g_return x h = record { gives = λ a l. (h, l) }

  pub g_refuse : (n : ParserError) {Q : A → Type 0} → Gives (refuse n) Q
  unfolding refuse
  g_refuse n = record { gives = λ a l. tt }

  pub g_weaken : {p : Parser A} {P Q : A → Type 0} → Gives p P → ((x : A) → P x → Q x) → Gives p Q
  g_weaken {p} {P} {Q} h k = record { gives = λ a l. go (p a) (h.gives a l) }
    where
      go : (r : Reply A) → Result (λ x b. P x) r → Result (λ x b. Q x) r
      go (ok x b) e = (k x e.0, e.1)
      go (refused why b) e = tt

  -- a test that is remembered
  pub g_if : {b : Bool} {p q : Parser A} {Q : A → Type 0} → (b ≡ true → Gives p Q) → (b ≡ false → Gives q Q) → Gives (given b then p else q) Q
  unfolding given◌then◌else◌
  g_if {b = true} h k = h refl
  g_if {b = false} h k = k refl

  pub g_with : {X : Type 0} {o : Option X} {f : X → Parser A} {q : Parser A} {Q : A → Type 0} → ((x : X) → o ≡ some x → Gives (f x) Q) → (o ≡ none → Gives q Q) → Gives (with_some o f q) Q
  unfolding with_some
  g_with {o = none} h k = k refl
  g_with {o = some x} h k = h x refl

pub g_here : Gives here (λ (q : Place). Unit {0})
unfolding here
g_here = record { gives = λ a l. (tt, l) }

pub lawful-taken : (a : Ahead) → Well a → Well (taken a)
unfolding Well
lawful-taken (next t p a) l = l.1
lawful-taken (end p) l = l
lawful-taken (fault n p) l = l

pub g_take : Gives take (λ (x : Unit {0}). Unit {0})
unfolding take
g_take = record { gives = λ a l. (tt, lawful-taken a l) }

pub g_look : Gives look (λ o. Unit {0})
unfolding look
g_look = record { gives = go }
  where
    go : (a : Ahead) → Well a → Result (λ (o : Option Token) (b : Ahead). Unit {0}) (look a)
    go (next t p a) l = (tt, l)
    go (end p) l = (tt, l)
    go (fault n p) l = tt

module _ {A : Type 0} where
  -- where the token that comes is known
  pub due_result : (Q : A → Ahead → Type 0) (f : Token → Parser A) (a : Ahead) → Well a →
      ((t : Token) (p : Place) (b : Ahead) → a ≡ next t p b → well t ≡ true → Well b → Result Q (f t (next t p b))) → Result Q (due f a)
  unfolding due look with_some refuse ◌>>=◌ Well
  due_result Q f (next t p b) l k = k t p b refl l.0 l.1
  due_result Q f (end p) l k = tt
  due_result Q f (fault n p) l k = tt

  pub g_due : (f : Token → Parser A) {Q : A → Type 0} → ((t : Token) → well t ≡ true → (p : Place) (b : Ahead) → Well b → Result (λ x c. Q x) (f t (next t p b))) → Gives (due f) Q
  g_due f {Q} k = record { gives = λ a l. due_result (λ x b. Q x) f a l (λ t p b e o l'. k t o p b l') }

  pub g_expect : (n : ParserError) (pick : Token → Option A) {Q : A → Type 0} → ((t : Token) (x : A) → well t ≡ true → pick t ≡ some x → Q x) → Gives (expect n pick) Q
  unfolding expect take return refuse with_some ◌>>◌
  g_expect n pick {Q} k = g_due _ (λ t o p b l. go t o p b l (pick t) refl)
    where
      go : (t : Token) → well t ≡ true → (p : Place) (b : Ahead) → Well b → (x : Option A) → pick t ≡ x → Result (λ x c. Q x) (with_some x (λ v. take >> return v) (refuse n) (next t p b))
      go t o p b l none e = tt
      go t o p b l (some x) e = (k t x o e, l)

  pub g_any : (n : ParserError) (pick : Token → Option A) → Gives (expect n pick) (λ x. Unit {0})
  g_any n pick = g_expect n pick (λ t x o e. tt)

pub g_peek : (test : Token → Bool) → Gives (peek test) (λ b. Unit {0})
unfolding peek
g_peek test = g_bind g_look (λ o u. g_with (λ x e. g_return _ tt) (λ e. g_return _ tt))

pub g_accept : (test : Token → Bool) → Gives (accept test) (λ b. Unit {0})
unfolding accept
g_accept test = g_bind (g_peek test) (λ b u. g_if (λ e. g_then g_take (g_return _ tt)) (λ e. g_return _ tt))

-- ---- repetition
abbrev pub Turned : {A : Type 0} → (A → Type 0) → Option A → Type 0
Turned P none = Unit {0}
Turned P (some x) = P x

module _ {A B : Type 0} (add : A → B → B) (stop : B) where
  pub g_many : {turn : Parser (Option A)} (P : A → Type 0) {R : B → Type 0} → Gives turn (Turned P) → R stop → ((x : A) (y : B) → P x → R y → R (add x y)) → Gives (many add stop turn) R
  unfolding many many_for return ◌<$>◌ ◌>>=◌
  g_many {turn} P {R} h k more = record { gives = λ a l. go (suc (count a)) a l }
    where
      again : (n : ℕ) → ((a : Ahead) → Well a → Result (λ y b. R y) (many_for add stop n turn a)) → (o : Option A) → Turned P o → (b : Ahead) → Well b → Result (λ y b. R y) (after_turn add stop (many_for add stop n turn) o b)
      again n ih none t b l = (k, l)
      again n ih (some x) t b l = then_result (λ y c. R y) (λ y c. R y) (many_for add stop n turn b) (λ y. ok (add x y)) (ih b l) (λ y c r l'. (more x y t r, l'))

      go : (n : ℕ) (a : Ahead) → Well a → Result (λ y b. R y) (many_for add stop n turn a)
      go zero a l = (k, l)
      go (suc n) a l = then_result (λ o b. Turned P o) (λ y b. R y) (turn a) (after_turn add stop (many_for add stop n turn)) (h.gives a l) (λ o b t l'. again n (go n) o t b l')

module _ {A : Type 0} {P : A → Type 0} where
  pub g_unless : (s : ℕ) {item : Parser A} → Gives item P → Gives (unless_next s item) (Turned P)
  unfolding unless_next
  g_unless s h = g_bind (g_peek _) (λ b u. g_if (λ e. g_return _ tt) (λ e. g_map _ h (λ x k. k)))

  pub g_after : (s : ℕ) {item : Parser A} → Gives item P → Gives (after_next s item) (Turned P)
  unfolding after_next
  g_after s h = g_bind (g_accept _) (λ b u. g_if (λ e. g_map _ h (λ x k. k)) (λ e. g_return _ tt))

-- ---- choices by words
-- the token that comes, if one does, is none of these words
abbrev pub HeadSkips : List Bytes → Ahead → Type 0
HeadSkips ws (next t p a) = skips t ws ≡ true
HeadSkips ws (end p) = Unit {0}
HeadSkips ws (fault n p) = Unit {0}

pub skips-nothing : (a : Ahead) → HeadSkips [] a
skips-nothing (next t p a) = refl
skips-nothing (end p) = tt
skips-nothing (fault n p) = tt

-- this token comes next
abbrev pub HeadIs : Token → Ahead → Type 0
HeadIs t a = (q : Place) × (b : Ahead) × (a ≡ next t q b)

same_eq : (v w : Bytes) → same v w ≡ true → v ≡ w
same_eq [] [] e = refl
same_eq [] (y ∷ ys) e = absurd (true≢false (sym e))
same_eq (x ∷ xs) [] e = absurd (true≢false (sym e))
same_eq (x ∷ xs) (y ∷ ys) e = ap₂ (λ c cs. c ∷ cs) (eqb→eq x y (subst T (sym (and_left _ _ e)) tt)) (same_eq xs ys (and_right (eqb x y) _ e))

pub word-is : (w : Bytes) (t : Token) → is_word w t ≡ true → t ≡ Token.ident w
word-is w (Token.symbol x) e = absurd (true≢false (sym e))
word-is w (Token.number x) e = absurd (true≢false (sym e))
word-is w (Token.ident x) e = ap Token.ident (same_eq x w e)
word-is w (Token.float x) e = absurd (true≢false (sym e))
word-is w (Token.string x) e = absurd (true≢false (sym e))

module _ {A : Type 0} (Q : A → Ahead → Type 0) where
  pub if_result : (c : Bool) (p q : Parser A) (a : Ahead) → (c ≡ true → Result Q (p a)) → (c ≡ false → Result Q (q a)) → Result Q ((given c then p else q) a)
  unfolding given◌then◌else◌
  if_result true p q a h k = h refl
  if_result false p q a h k = k refl

  -- one branch for a word, or what stands behind, where it is known that the word does not come
  pub word_result : (w : Bytes) (p q : Parser A) (a : Ahead) → Well a → (HeadIs (Token.ident w) a → (b : Ahead) → Well b → Result Q (p b)) → (HeadSkips (w ∷ []) a → Result Q (q a)) → Result Q ((word_if w >>= (λ c. given c then p else q)) a)
  unfolding accept peek look take return with_some given◌then◌else◌ ◌>>=◌ ◌>>◌ Well
  word_result w p q (next t x b) l h k = go (is_word w t) refl
    where
      go : (c : Bool) → is_word w t ≡ c → Result Q (bind ((given c then (take >> return true) else return false) (next t x b)) (λ d. given d then p else q))
      go true e = h (x, b, ap (λ u. next u x b) (word-is w t e)) b l.1
      go false e = k (rw e refl)
  word_result w p q (end x) l h k = k tt
  word_result w p q (fault n x) l h k = tt

  -- the same where the word is not taken
  pub next_result : (w : Bytes) (p q : Parser A) (a : Ahead) → Well a → (HeadIs (Token.ident w) a → Result Q (p a)) → (HeadSkips (w ∷ []) a → Result Q (q a)) → Result Q ((next_is_word w >>= (λ c. given c then p else q)) a)
  unfolding peek look return with_some given◌then◌else◌ ◌>>=◌ ◌>>◌ Well
  next_result w p q (next t x b) l h k = go (is_word w t) refl
    where
      go : (c : Bool) → is_word w t ≡ c → Result Q ((given c then p else q) (next t x b))
      go true e = h (x, b, ap (λ u. next u x b) (word-is w t e))
      go false e = k (rw e refl)
  next_result w p q (end x) l h k = k tt
  next_result w p q (fault n x) l h k = tt

abbrev pub Branches : {A : Type 0} → (A → Type 0) → List (Bytes × Parser A) → Type 0
Branches Q [] = Unit {0}
Branches Q (c ∷ cs) = Gives c.1 Q × Branches Q cs

pub skips-more : (w : Bytes) (ws : List Bytes) (a : Ahead) → HeadSkips (w ∷ []) a → HeadSkips ws a → HeadSkips (w ∷ ws) a
skips-more w ws (next t p a) h k = go (is_word w t) h
  where
    go : (b : Bool) → (not b && true) ≡ true → (not b && skips t ws) ≡ true
    go true e = e
    go false e = k
skips-more w ws (end p) h k = tt
skips-more w ws (fault n p) h k = tt

pub choose_result : {A : Type 0} (Q : A → Type 0) (cs : List (Bytes × Parser A)) (other : Parser A) (a : Ahead) → Well a → Branches Q cs → (HeadSkips (words_of cs) a → Result (λ x b. Q x) (other a)) → Result (λ x b. Q x) (choose cs other a)
unfolding choose
choose_result Q [] other a l h k = k (skips-nothing a)
choose_result Q (c ∷ cs) other a l h k =
    word_result (λ x b. Q x) c.0 c.1 (choose cs other) a l (λ i b l'. h.0.gives b l') (λ e. choose_result Q cs other a l h.1 (λ e'. k (skips-more c.0 (words_of cs) a e e')))

pub g_choose : {A : Type 0} {Q : A → Type 0} (cs : List (Bytes × Parser A)) (other : Parser A) → Branches Q cs → Gives other Q → Gives (choose cs other) Q
g_choose {Q = Q} cs other h k = record { gives = λ a l. choose_result Q cs other a l h (λ e. k.gives a l) }

-- words that are forbidden do not come
regroup : {B : Type 0} (w : Bytes) (ws : List Bytes) (p : Parser B) (a : Ahead) → (words_forbidden (w ∷ ws) >> p) a ≡ (next_is_word w >>= (λ c. given c then refuse ForbiddenWord else (words_forbidden ws >> p))) a
unfolding words_forbidden word_forbidden ◌>>◌ ◌>>=◌ given◌then◌else◌ refuse return
regroup {B} w ws p a = go (next_is_word w a)
  where
    go : (r : Reply Bool) → bind (bind (bind r (λ c. given c then refuse ForbiddenWord else return {A = Unit {0}} tt)) (λ _. words_forbidden ws)) (λ _. p) ≡ bind r (λ c. given c then refuse ForbiddenWord else (words_forbidden ws >> p))
    go (ok true b) = refl
    go (ok false b) = refl
    go (refused why b) = refl

pub forbidden_result : {B : Type 0} (Q : B → Ahead → Type 0) (ws : List Bytes) (p : Parser B) (a : Ahead) → Well a → (HeadSkips ws a → Result Q (p a)) → Result Q ((words_forbidden ws >> p) a)
unfolding refuse
forbidden_result Q [] p a l k = unfold words_forbidden return ◌>>◌ in k (skips-nothing a)
forbidden_result Q (w ∷ ws) p a l k =
    subst (Result Q) (sym (regroup w ws p a)) (next_result Q w (refuse ForbiddenWord) (words_forbidden ws >> p) a l (λ i. tt) (λ e. forbidden_result Q ws p a l (λ e'. k (skips-more w ws a e e'))))

-- what is skipped, joined
pub skips_join : (ws vs : List Bytes) (a : Ahead) → HeadSkips ws a → HeadSkips vs a → HeadSkips (ws ++ vs) a
skips_join [] vs a h k = k
skips_join (w ∷ ws) vs (next t p a) h k = rw (skips-first t w ws h) (skips_join ws vs (next t p a) (skips_others t w ws h) k)
skips_join (w ∷ ws) vs (end p) h k = tt
skips_join (w ∷ ws) vs (fault n p) h k = tt
