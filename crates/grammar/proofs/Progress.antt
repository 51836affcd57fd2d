-- No reader adds tokens, and a turn that goes on takes one: rules for each way to build a reader.
use Rattle.std.proofs.Common.{ℕ, zero, suc, ◌<◌, ◌≤◌, Bool, true, false, List, [], ◌∷◌, Some as some, None as none, Option, le_trans, le_refl, arith}
use Rattle.token.specs.Token.{Token, Ahead, next, end, fault, count}
use Rattle.grammar.specs.Parse.{Reply, ok, refused, Parser, bind, ◌>>=◌, ◌>>◌, ◌<$>◌, return, refuse, given◌then◌else◌, here, look, take, with_some, due, accept, peek, expect, choose, word_forbidden, words_forbidden, after_turn, many_for, many, unless_next, after_next}
use Rattle.token.specs.Token.{Bytes}
use Rattle.grammar.specs.declared.fault.ParserError.{ParserError}
use Rattle.grammar.specs.declared.fault.ParserError.TheVariants.{ForbiddenWord}
use Rattle.grammar.specs.Progress.{Onward, Consumes, Left, Keeps, Takes}

Left-le : {A : Type 0} (n m : ℕ) (r : Reply A) → n ≤ m → Left n r → Left m r
Left-le n m (ok x b) h l = le_trans l h
Left-le n m (refused why b) h l = tt

pub takes-keeps : {A : Type 0} (p : Parser A) → Takes p → Keeps p
takes-keeps p h = record { keeps = λ a. Left-le (count a) (suc (count a)) (p a) (omega arith) (h.takes a) }

module _ {A B : Type 0} where
  Left-bind : (n : ℕ) (r : Reply A) (f : A → Parser B) → Left n r → ((x : A) → Keeps (f x)) → Left n (bind r f)
  Left-bind n (ok x b) f h k = Left-le (suc (count b)) n (f x b) h ((k x).keeps b)
  Left-bind n (refused why b) f h k = tt

  Left-bindʳ : (n : ℕ) (r : Reply A) (f : A → Parser B) → Left (suc n) r → ((x : A) → Takes (f x)) → Left n (bind r f)
  Left-bindʳ n (ok x b) f h k = Left-le (count b) n (f x b) (omega arith) ((k x).takes b)
  Left-bindʳ n (refused why b) f h k = tt

  pub keeps-bind : (m : Parser A) (f : A → Parser B) → Keeps m → ((x : A) → Keeps (f x)) → Keeps (m >>= f)
  unfolding ◌>>=◌
  keeps-bind m f h k = record { keeps = λ a. Left-bind (suc (count a)) (m a) f (h.keeps a) k }

  pub takes-bind : (m : Parser A) (f : A → Parser B) → Takes m → ((x : A) → Keeps (f x)) → Takes (m >>= f)
  unfolding ◌>>=◌
  takes-bind m f h k = record { takes = λ a. Left-bind (count a) (m a) f (h.takes a) k }

  pub takes_bindʳ : (m : Parser A) (f : A → Parser B) → Keeps m → ((x : A) → Takes (f x)) → Takes (m >>= f)
  unfolding ◌>>=◌
  takes_bindʳ m f h k = record { takes = λ a. Left-bindʳ (count a) (m a) f (h.keeps a) k }

  pub keeps_then : (m : Parser A) (p : Parser B) → Keeps m → Keeps p → Keeps (m >> p)
  unfolding ◌>>◌
  keeps_then m p h k = record { keeps = λ a. Left-bind (suc (count a)) (m a) (λ _. p) (h.keeps a) (λ _. k) }

  pub takes_then : (m : Parser A) (p : Parser B) → Takes m → Keeps p → Takes (m >> p)
  unfolding ◌>>◌
  takes_then m p h k = record { takes = λ a. Left-bind (count a) (m a) (λ _. p) (h.takes a) (λ _. k) }

  pub takes_thenʳ : (m : Parser A) (p : Parser B) → Keeps m → Takes p → Takes (m >> p)
  unfolding ◌>>◌
  takes_thenʳ m p h k = record { takes = λ a. Left-bindʳ (count a) (m a) (λ _. p) (h.keeps a) (λ _. k) }

pub keeps-return : {A : Type 0} (x : A) → Keeps (return x)
unfolding return
keeps-return x = record { keeps = λ a. le_refl _ }

pub keeps-refuse : {A : Type 0} (n : ParserError) → Keeps {A = A} (refuse n)
unfolding refuse
keeps-refuse n = record { keeps = λ a. tt }

pub takes-refuse : {A : Type 0} (n : ParserError) → Takes {A = A} (refuse n)
unfolding refuse
takes-refuse n = record { takes = λ a. tt }

module _ {A B : Type 0} where
  pub keeps-map : (f : A → B) (m : Parser A) → Keeps m → Keeps (f <$> m)
  unfolding ◌<$>◌ return
  keeps-map f m h = record { keeps = λ a. Left-bind (suc (count a)) (m a) (λ x. return (f x)) (h.keeps a) (λ x. keeps-return (f x)) }

  pub takes-map : (f : A → B) (m : Parser A) → Takes m → Takes (f <$> m)
  unfolding ◌<$>◌ return
  takes-map f m h = record { takes = λ a. Left-bind (count a) (m a) (λ x. return (f x)) (h.takes a) (λ x. keeps-return (f x)) }

module _ {A : Type 0} where
  pub keeps_if : (b : Bool) (p q : Parser A) → Keeps p → Keeps q → Keeps (given b then p else q)
  unfolding given◌then◌else◌
  keeps_if true p q h k = h
  keeps_if false p q h k = k

  pub takes_if : (b : Bool) (p q : Parser A) → Takes p → Takes q → Takes (given b then p else q)
  unfolding given◌then◌else◌
  takes_if true p q h k = h
  takes_if false p q h k = k

pub keeps_here : Keeps here
unfolding here
keeps_here = record { keeps = λ a. le_refl _ }

pub keeps-look : Keeps look
unfolding look
keeps-look = record { keeps = go }
  where
    go : (a : Ahead) → Left (suc (count a)) (look a)
    go (next t p a) = le_refl _
    go (end p) = le_refl _
    go (fault n p) = tt

pub keeps-take : Keeps take
unfolding take
keeps-take = record { keeps = go }
  where
    go : (a : Ahead) → Left (suc (count a)) (take a)
    go (next t p a) = omega arith
    go (end p) = le_refl _
    go (fault n p) = le_refl _

module _ {X A : Type 0} where
  pub keeps_with : (o : Option X) (f : X → Parser A) (q : Parser A) → ((x : X) → Keeps (f x)) → Keeps q → Keeps (with_some o f q)
  unfolding with_some
  keeps_with none f q h k = k
  keeps_with (some x) f q h k = h x

-- ---- reading a token
-- where a token was seen, `take` takes it
pub record TakesAt {A : Type 0} (p : Parser A) : Type 0 where
  pub takes_at : (t : Token) (q : _) (a : Ahead) → Left (suc (count a)) (p (next t q a))

module _ {A : Type 0} where
  pub at_takes : (p : Parser A) → Takes p → TakesAt p
  at_takes p h = record { takes_at = λ t q a. h.takes (next t q a) }

  pub at_take : (p : Parser A) → Keeps p → TakesAt (take >> p)
  unfolding take ◌>>◌
  at_take p h = record { takes_at = λ t q a. h.keeps a }

  pub at-refuse : (n : ParserError) → TakesAt {A = A} (refuse n)
  unfolding refuse
  at-refuse n = record { takes_at = λ t q a. tt }

  pub at_if : (b : Bool) (p q : Parser A) → TakesAt p → TakesAt q → TakesAt (given b then p else q)
  unfolding given◌then◌else◌
  at_if true p q h k = h
  at_if false p q h k = k

  pub at_with : {X : Type 0} (o : Option X) (f : X → Parser A) (q : Parser A) → ((x : X) → TakesAt (f x)) → TakesAt q → TakesAt (with_some o f q)
  unfolding with_some
  at_with none f q h k = k
  at_with (some x) f q h k = h x

  pub takes-due : (f : Token → Parser A) → ((t : Token) → TakesAt (f t)) → Takes (due f)
  unfolding due look ◌>>=◌ with_some refuse
  takes-due f h = record { takes = go }
    where
      go : (a : Ahead) → Left (count a) (due f a)
      go (next t p a) = (h t).takes_at t p a
      go (end p) = tt
      go (fault n p) = tt

  pub takes-expect : (n : ParserError) (pick : Token → Option A) → Takes (expect n pick)
  unfolding expect
  takes-expect n pick = takes-due _ (λ t. at_with (pick t) _ _ (λ v. at_take _ (keeps-return v)) (at-refuse n))

pub keeps-peek : (test : Token → Bool) → Keeps (peek test)
unfolding peek
keeps-peek test = keeps-bind look _ keeps-look (λ t. keeps_with t _ _ (λ x. keeps-return _) (keeps-return false))

pub keeps-accept : (test : Token → Bool) → Keeps (accept test)
unfolding accept
keeps-accept test = keeps-bind _ _ (keeps-peek test) (λ b. keeps_if b _ _ (keeps_then _ _ keeps-take (keeps-return true)) (keeps-return false))

-- a token that is taken if it comes: one branch has it taken
module _ {A : Type 0} where
  pub takes-accept : (test : Token → Bool) (p q : Parser A) → Keeps p → Takes q → Takes (accept test >>= (λ b. given b then p else q))
  unfolding accept peek look take return with_some given◌then◌else◌ ◌>>=◌ ◌>>◌
  takes-accept test p q h k = record { takes = go }
    where
      seen : (b : Bool) (t : Token) (w : _) (a : Ahead) → Left (suc (count a)) (bind ((given b then (take >> return true) else return false) (next t w a)) (λ c. given c then p else q))
      seen true t w a = h.keeps a
      seen false t w a = k.takes (next t w a)

      go : (a : Ahead) → Left (count a) ((accept test >>= (λ b. given b then p else q)) a)
      go (next t w a) = seen (test t) t w a
      go (end w) = k.takes (end w)
      go (fault n w) = tt

  pub takes-choose : (w : Bytes) (p : Parser A) (cs : List (Bytes × Parser A)) (q : Parser A) → Keeps p → Takes (choose cs q) → Takes (choose ((w, p) ∷ cs) q)
  unfolding choose
  takes-choose w p cs q h k = record { takes = λ a. (takes-accept _ p (choose cs q) h k).takes a }

  pub takes_choose_none : (q : Parser A) → Takes q → Takes (choose [] q)
  unfolding choose
  takes_choose_none q k = record { takes = λ a. k.takes a }

  pub keeps-choose : (w : Bytes) (p : Parser A) (cs : List (Bytes × Parser A)) (q : Parser A) → Keeps p → Keeps (choose cs q) → Keeps (choose ((w, p) ∷ cs) q)
  unfolding choose
  keeps-choose w p cs q h k = record { keeps = λ a. (keeps-bind _ _ (keeps-accept _) (λ b. keeps_if b p (choose cs q) h k)).keeps a }

  pub keeps_choose_none : (q : Parser A) → Keeps q → Keeps (choose [] q)
  unfolding choose
  keeps_choose_none q k = record { keeps = λ a. k.keeps a }

pub keeps_forbidden : (w : Bytes) → Keeps (word_forbidden w)
unfolding word_forbidden
keeps_forbidden w = keeps-bind _ _ (keeps-peek _) (λ b. keeps_if b _ _ (keeps-refuse ForbiddenWord) (keeps-return tt))

pub keeps_all_forbidden : (ws : List Bytes) → Keeps (words_forbidden ws)
unfolding words_forbidden
keeps_all_forbidden [] = record { keeps = λ a. (keeps-return tt).keeps a }
keeps_all_forbidden (w ∷ ws) = record { keeps = λ a. (keeps_then _ _ (keeps_forbidden w) (keeps_all_forbidden ws)).keeps a }

-- ---- turns
pub record Turns {A : Type 0} (p : Parser (Option A)) : Type 0 where
  pub keeps_on : Keeps p
  pub onward : Consumes p

module _ {A : Type 0} where
  pub turn_stop : Turns {A = A} (return none)
  unfolding return
  turn_stop = record { keeps_on = keeps-return none; onward = λ a. tt }

  pub turn_goes : (p : Parser A) → Takes p → Turns (some <$> p)
  unfolding ◌<$>◌
  turn_goes p h = record { keeps_on = takes-keeps _ (takes-map some p h); onward = λ a. go (p a) a (h.takes a) }
    where
      go : (r : Reply A) (a : Ahead) → Left (count a) r → Onward a (bind r (λ x. ok (some x)))
      go (ok x b) a l = l
      go (refused why b) a l = tt

  pub turn_if : (b : Bool) (p q : Parser (Option A)) → Turns p → Turns q → Turns (given b then p else q)
  unfolding given◌then◌else◌
  turn_if true p q h k = h
  turn_if false p q h k = k

  pub turn_with : {X : Type 0} (o : Option X) (f : X → Parser (Option A)) (q : Parser (Option A)) → ((x : X) → Turns (f x)) → Turns q → Turns (with_some o f q)
  unfolding with_some
  turn_with none f q h k = k
  turn_with (some x) f q h k = h x

  pub turn-bind : {X : Type 0} (m : Parser X) (f : X → Parser (Option A)) → Keeps m → ((x : X) → Turns (f x)) → Turns (m >>= f)
  unfolding ◌>>=◌
  turn-bind m f h k = record { keeps_on = keeps-bind m f h (λ x. (k x).keeps_on); onward = λ a. go (m a) a (h.keeps a) }
    where
      far : (r : Reply (Option A)) (a b : Ahead) → count b < suc (count a) → Onward b r → Onward a r
      far (ok none c) a b l o = tt
      far (ok (some x) c) a b l o = omega arith
      far (refused why c) a b l o = tt

      go : (r : Reply _) (a : Ahead) → Left (suc (count a)) r → Onward a (bind r f)
      go (ok x b) a l = far (f x b) a b l ((k x).onward b)
      go (refused why b) a l = tt

module _ {A : Type 0} where
  pub turn_unless : (s : ℕ) (item : Parser A) → Takes item → Turns (unless_next s item)
  unfolding unless_next
  turn_unless s item h = turn-bind _ _ (keeps-peek _) (λ b. turn_if b _ _ turn_stop (turn_goes item h))

  pub turn-after : (s : ℕ) (item : Parser A) → Takes item → Turns (after_next s item)
  unfolding after_next
  turn-after s item h = turn-bind _ _ (keeps-accept _) (λ b. turn_if b _ _ (turn_goes item h) turn_stop)

module _ {A B : Type 0} (add : A → B → B) (stop : B) where
  after-keeps : (rest : Parser B) → Keeps rest → (o : Option A) → Keeps (after_turn add stop rest o)
  after-keeps rest k none = keeps-return stop
  after-keeps rest k (some x) = keeps-map (add x) rest k

  for_keeps : (n : ℕ) (turn : Parser (Option A)) → Keeps turn → Keeps (many_for add stop n turn)
  unfolding many_for
  for_keeps zero turn h = record { keeps = λ a. (keeps-return stop).keeps a }
  for_keeps (suc n) turn h = record { keeps = λ a. (keeps-bind turn _ h (after-keeps _ (for_keeps n turn h))).keeps a }

  pub keeps-many : (turn : Parser (Option A)) → Turns turn → Keeps (many add stop turn)
  unfolding many
  keeps-many turn h = record { keeps = λ a. (for_keeps (suc (count a)) turn h.keeps_on).keeps a }

pub ruleset keeping = (keeps-bind, keeps_then, keeps-return, keeps-refuse, keeps-map, keeps_if, keeps_here, keeps-look, keeps-take, keeps_with, keeps-peek, keeps-accept, keeps-choose, keeps_choose_none, keeps_all_forbidden, keeps-many, turn_unless, turn-after, turn_stop, turn_goes, turn_if, turn_with, turn-bind)

pub ruleset taking = (takes-bind, takes_then, takes-refuse, takes-map, takes-expect, takes-choose, takes_choose_none)
