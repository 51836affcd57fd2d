-- A reader is blind to places: on what is ahead without places it replies as on what is ahead with them, its value's places erased.
-- Rules for each way to build a reader. `Blind e p q` relates two readers, since a production is handed a place.
use Rattle.std.proofs.Common.{◌≡◌, ℕ, zero, suc, Bool, true, false, List, [], ◌∷◌, ◌++◌, Some as some, None as none, Option, sym, refl, ap, ◌∙◌, ap₂}
use Rattle.token.specs.declared.answer.Place.{Place}
use Rattle.token.specs.Token.{Token, Bytes, nowhere, Ahead, next, end, fault, count}
use Rattle.grammar.specs.Parse.{Reply, ok, refused, Parser, bind, ◌>>=◌, ◌>>◌, ◌<$>◌, return, refuse, given◌then◌else◌, here, look, take, with_some, due, accept, peek, expect, choose, word_forbidden, words_forbidden, after_turn, many_for, many, unless_next, after_next}
use Rattle.grammar.specs.Tree.{Item, Forest, nothing, node, ◌beside◌, one}
use Rattle.grammar.specs.declared.fault.ParserError.{ParserError}
use Rattle.grammar.specs.declared.fault.ParserError.TheVariants.{EndOfFile, ForbiddenWord}
use Rattle.grammar.specs.declared.fault.ReadFault.{ReadFault}
use Rattle.grammar.specs.declared.fault.ReadFault.TheVariants.{Source, Reader}
use Rattle.round_trip.specs.Alike.{bare, item_erased, forest_erased}

-- a value that holds no place
abbrev pub kept : {A : Type 0} → A → A
kept x = x

unfoldable pub on_some : {A : Type 0} → (A → A) → Option A → Option A
on_some e none = none
on_some e (some x) = some (e x)

-- a refusal at no place
abbrev pub fault_bare : ReadFault → ReadFault
fault_bare (Source f) = Source (record { fault = f.fault; place = nowhere })
fault_bare (Reader f) = Reader (record { error = f.error; place = nowhere })

abbrev pub remap : {A : Type 0} → (A → A) → Reply A → Reply A
remap e (ok x a) = ok (e x) (bare a)
remap e (refused why a) = refused (fault_bare why) (bare a)

pub record Blind {A : Type 0} (e : A → A) (p q : Parser A) : Type 0 where
  pub blind : (a : Ahead) → p (bare a) ≡ remap e (q a)

-- ---- one reader and then another
module _ {A B : Type 0} (d : A → A) (e : B → B) where
  bind-remap : (r : Reply A) (f g : A → Parser B) → ((x : A) → Blind e (f (d x)) (g x)) → bind (remap d r) f ≡ remap e (bind r g)
  bind-remap (ok x a) f g h = (h x).blind a
  bind-remap (refused why a) f g h = refl

  pub blind_bind : (m n : Parser A) (f g : A → Parser B) → Blind d m n → ((x : A) → Blind e (f (d x)) (g x)) → Blind e (m >>= f) (n >>= g)
  unfolding ◌>>=◌
  blind_bind m n f g h k = record { blind = λ a. ap (λ r. bind r f) (h.blind a) ∙ bind-remap (n a) f g k }

  pub blind_then : (m n : Parser A) (p q : Parser B) → Blind d m n → Blind e p q → Blind e (m >> p) (n >> q)
  unfolding ◌>>◌
  blind_then m n p q h k = record { blind = λ a. ap (λ r. bind r (λ _. p)) (h.blind a) ∙ bind-remap (n a) (λ _. p) (λ _. q) (λ x. k) }

pub blind_return : {A : Type 0} (e : A → A) (x y : A) → x ≡ e y → Blind e (return x) (return y)
unfolding return
blind_return e x y h = record { blind = λ a. ap (λ z. ok z (bare a)) h }

module _ {A B : Type 0} (d : A → A) (e : B → B) where
  pub blind_map : (f g : A → B) (m n : Parser A) → ((x : A) → f (d x) ≡ e (g x)) → Blind d m n → Blind e (f <$> m) (g <$> n)
  unfolding ◌<$>◌ return
  blind_map f g m n h k = record { blind = λ a. ap (λ r. bind r (λ x. ok (f x))) (k.blind a) ∙ bind-remap d e (n a) (λ x. return (f x)) (λ x. return (g x)) (λ x. blind_return e _ _ (h x)) }

module _ {A : Type 0} (e : A → A) where
  pub blind_refuse : (n : ParserError) → Blind e (refuse n) (refuse n)
  unfolding refuse
  blind_refuse n = record { blind = go }
    where
      go : (a : Ahead) → refuse n (bare a) ≡ remap e (refuse n a)
      go (next t p a) = refl
      go (end p) = refl
      go (fault f p) = refl

  pub blind_if : (b : Bool) (p q p' q' : Parser A) → Blind e p p' → Blind e q q' → Blind e (given b then p else q) (given b then p' else q')
  unfolding given◌then◌else◌
  blind_if true p q p' q' h k = h
  blind_if false p q p' q' h k = k

  pub blind_with : {X : Type 0} (o : Option X) (f g : X → Parser A) (p q : Parser A) → ((x : X) → Blind e (f x) (g x)) → Blind e p q → Blind e (with_some o f p) (with_some o g q)
  unfolding with_some
  blind_with none f g p q h k = k
  blind_with (some x) f g p q h k = h x

  -- the place read is erased
  pub blind_here : (f g : Place → Parser A) → ((p : Place) → Blind e (f nowhere) (g p)) → Blind e (here >>= f) (here >>= g)
  unfolding here ◌>>=◌
  blind_here f g h = record { blind = go }
    where
      go : (a : Ahead) → (here >>= f) (bare a) ≡ remap e ((here >>= g) a)
      go (next t p a) = (h p).blind (next t p a)
      go (end p) = (h p).blind (end p)
      go (fault f p) = (h p).blind (fault f p)

pub blind_look : Blind kept look look
unfolding look
blind_look = record { blind = go }
  where
    go : (a : Ahead) → look (bare a) ≡ remap kept (look a)
    go (next t p a) = refl
    go (end p) = refl
    go (fault f p) = refl

pub blind_take : Blind kept take take
unfolding take
blind_take = record { blind = go }
  where
    go : (a : Ahead) → take (bare a) ≡ remap kept (take a)
    go (next t p a) = refl
    go (end p) = refl
    go (fault f p) = refl

-- ---- what is read before holds no place; or it is a forest
module _ {A B : Type 0} (e : B → B) where
  pub bind-kept : (m n : Parser A) (f g : A → Parser B) → Blind kept m n → ((x : A) → Blind e (f x) (g x)) → Blind e (m >>= f) (n >>= g)
  bind-kept = blind_bind kept e

  pub then_kept : (m n : Parser A) (p q : Parser B) → Blind kept m n → Blind e p q → Blind e (m >> p) (n >> q)
  then_kept = blind_then kept e

  pub map-kept : (f g : A → B) (m n : Parser A) → ((x : A) → f x ≡ e (g x)) → Blind kept m n → Blind e (f <$> m) (g <$> n)
  map-kept = blind_map kept e

module _ {B : Type 0} (e : B → B) where
  pub bind_forest : (m n : Parser Forest) (f g : Forest → Parser B) → Blind forest_erased m n → ((x : Forest) → Blind e (f (forest_erased x)) (g x)) → Blind e (m >>= f) (n >>= g)
  bind_forest = blind_bind forest_erased e

  pub map_forest : (f g : Forest → B) (m n : Parser Forest) → ((x : Forest) → f (forest_erased x) ≡ e (g x)) → Blind forest_erased m n → Blind e (f <$> m) (g <$> n)
  map_forest = blind_map forest_erased e

pub return_kept : {A : Type 0} (x : A) → Blind kept (return x) (return x)
return_kept x = blind_return kept x x refl

-- ---- reading a token
module _ {A : Type 0} (e : A → A) where
  pub blind_due : (f g : Token → Parser A) → ((t : Token) → Blind e (f t) (g t)) → Blind e (due f) (due g)
  unfolding due
  blind_due f g h = bind-kept e _ _ _ _ blind_look (λ t. blind_with e t _ _ _ _ h (blind_refuse e EndOfFile))

pub blind_peek : (test : Token → Bool) → Blind kept (peek test) (peek test)
unfolding peek
blind_peek test = bind-kept kept _ _ _ _ blind_look (λ t. blind_with kept t _ _ _ _ (λ x. return_kept _) (return_kept false))

pub blind_accept : (test : Token → Bool) → Blind kept (accept test) (accept test)
unfolding accept
blind_accept test = bind-kept kept _ _ _ _ (blind_peek test) (λ b. blind_if kept b _ _ _ _ (then_kept kept _ _ _ _ blind_take (return_kept true)) (return_kept false))

pub blind_expect : {A : Type 0} (n : ParserError) (pick : Token → Option A) → Blind kept (expect n pick) (expect n pick)
unfolding expect
blind_expect n pick = blind_due kept _ _ (λ t. blind_with kept (pick t) _ _ _ _ (λ v. then_kept kept _ _ _ _ blind_take (return_kept v)) (blind_refuse kept n))

module _ {A : Type 0} (e : A → A) where
  pub blind_choose : (w : Bytes) (p p' : Parser A) (cs cs' : List (Bytes × Parser A)) (q q' : Parser A) → Blind e p p' → Blind e (choose cs q) (choose cs' q') → Blind e (choose ((w, p) ∷ cs) q) (choose ((w, p') ∷ cs') q')
  unfolding choose
  blind_choose w p p' cs cs' q q' h k = record { blind = λ a. (bind-kept e _ _ _ _ (blind_accept _) (λ b. blind_if e b _ _ _ _ h k)).blind a }

  pub choose_none : (q q' : Parser A) → Blind e q q' → Blind e (choose [] q) (choose [] q')
  unfolding choose
  choose_none q q' k = record { blind = λ a. k.blind a }

pub blind_forbidden : (ws : List Bytes) → Blind kept (words_forbidden ws) (words_forbidden ws)
unfolding words_forbidden word_forbidden
blind_forbidden [] = record { blind = λ a. (return_kept tt).blind a }
blind_forbidden (w ∷ ws) = record { blind = λ a. (then_kept kept _ _ _ _ (bind-kept kept _ _ _ _ (blind_peek _) (λ b. blind_if kept b _ _ _ _ (blind_refuse kept ForbiddenWord) (return_kept tt))) (blind_forbidden ws)).blind a }

-- ---- repetition
module _ {A : Type 0} (e : A → A) where
  pub turn_stop : Blind (on_some e) (return none) (return none)
  unfolding on_some
  turn_stop = blind_return (on_some e) none none refl

  pub turn_goes : (p q : Parser A) → Blind e p q → Blind (on_some e) (some <$> p) (some <$> q)
  unfolding on_some
  turn_goes p q h = blind_map e (on_some e) some some p q (λ x. refl) h

  pub turn_unless : (s : ℕ) (p q : Parser A) → Blind e p q → Blind (on_some e) (unless_next s p) (unless_next s q)
  unfolding unless_next
  turn_unless s p q h = bind-kept (on_some e) _ _ _ _ (blind_peek _) (λ b. blind_if (on_some e) b _ _ _ _ turn_stop (turn_goes p q h))

  pub turn-after : (s : ℕ) (p q : Parser A) → Blind e p q → Blind (on_some e) (after_next s p) (after_next s q)
  unfolding after_next
  turn-after s p q h = bind-kept (on_some e) _ _ _ _ (blind_accept _) (λ b. blind_if (on_some e) b _ _ _ _ (turn_goes p q h) turn_stop)

count-bare : (a : Ahead) → count (bare a) ≡ count a
count-bare (next t p a) = ap suc (count-bare a)
count-bare (end p) = refl
count-bare (fault f p) = refl

module _ {A B : Type 0} (d : A → A) (e : B → B) (add : A → B → B) (stop : B) (stops : stop ≡ e stop) (adds : (x : A) (y : B) → add (d x) (e y) ≡ e (add x y)) where
  after_blind : (p q : Parser B) → Blind e p q → (o : Option A) → Blind e (after_turn add stop p (on_some d o)) (after_turn add stop q o)
  unfolding on_some
  after_blind p q h none = blind_return e stop stop stops
  after_blind p q h (some x) = blind_map e e (add (d x)) (add x) p q (adds x) h

  for_blind : (n : ℕ) (p q : Parser (Option A)) → Blind (on_some d) p q → Blind e (many_for add stop n p) (many_for add stop n q)
  unfolding many_for
  for_blind zero p q h = record { blind = λ a. (blind_return e stop stop stops).blind a }
  for_blind (suc n) p q h = record { blind = λ a. (blind_bind (on_some d) e p q _ _ h (after_blind _ _ (for_blind n p q h))).blind a }

  pub blind_many : (p q : Parser (Option A)) → Blind (on_some d) p q → Blind e (many add stop p) (many add stop q)
  unfolding many
  blind_many p q h = record { blind = λ a. ap (λ n. many_for add stop (suc n) p (bare a)) (count-bare a) ∙ (for_blind (suc (count a)) p q h).blind a }

pub erased_beside : (f g : Forest) → forest_erased (f beside g) ≡ forest_erased f beside forest_erased g
erased_beside nothing g = refl
erased_beside (node i p r) g = ap (node (item_erased i) (forest_erased p)) (erased_beside r g)

pub many_forests : (p q : Parser (Option Forest)) → Blind (on_some forest_erased) p q → Blind forest_erased (many ◌beside◌ nothing p) (many ◌beside◌ nothing q)
many_forests = blind_many forest_erased forest_erased ◌beside◌ nothing refl (λ x y. sym (erased_beside x y))

pub many-bytes : (p q : Parser (Option Bytes)) → Blind (on_some kept) p q → Blind kept (many ◌++◌ [] p) (many ◌++◌ [] q)
many-bytes = blind_many kept kept ◌++◌ [] refl (λ x y. refl)

pub return_forest : (x y : Forest) → x ≡ forest_erased y → Blind forest_erased (return x) (return y)
return_forest = blind_return forest_erased

pub return-one : (i j : Item) (p q : Forest) → i ≡ item_erased j → p ≡ forest_erased q → Blind forest_erased (return (one i p)) (return (one j q))
return-one i j p q h k = return_forest _ _ (ap₂ one h k)

pub ruleset blinding = (return-one, bind-kept, bind_forest, then_kept, map-kept, map_forest, return_kept, return_forest, refl, erased_beside, blind_refuse, blind_if, blind_with, blind_here, blind_look, blind_take, blind_due, blind_peek, blind_accept, blind_expect, blind_choose, choose_none, blind_forbidden, turn_stop, turn_goes, turn_unless, turn-after, many_forests, many-bytes)
