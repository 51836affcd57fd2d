-- Every tree that the reader gives is whole: rules for what a reader gives, and each production by them.
use Rattle.std.proofs.Common.{◌≡◌, ℕ, zero, suc, ◌+◌, ◌≤◌, Bool, true, false, List, [], ◌∷◌, length, Some as some, None as none, Option, refl, subst, arith, length-append}
use Rattle.token.specs.declared.answer.Place.{Place}
use Rattle.token.specs.Token.{Bytes, Token, Ahead, next, end, fault, count}
use Rattle.grammar.specs.Parse.{Reply, ok, refused, Parser, bind, ◌>>=◌, ◌>>◌, ◌<$>◌, return, refuse, given◌then◌else◌, with_some, due, look, peek, expect, choose, is_symbol, after_turn, many_for, many, unless_next, after_next}
use Rattle.grammar.specs.declared.kinds.Syntax.{Syntax}
use Rattle.grammar.specs.declared.kinds.Rule.{Rule}
use Rattle.grammar.specs.declared.kinds.Scalar.{Scalar}
use Rattle.grammar.specs.Tree.{Value, Shape, Item, Forest, nothing, node, one, ◌beside◌, Tree}
use Rattle.grammar.specs.Grammar as g
use Rattle.grammar.specs.Model as m
use Rattle.grammar.specs.Model.{Part, parts_of, found}
use Rattle.grammar.specs.declared.fault.ParserError.{ParserError}
use Rattle.grammar.specs.declared.fault.ParserError.TheVariants.{EndOfFile, IncorrectInput, ExpectConstant, IntegerOverflow, OneOfInGroup}
use Rattle.grammar.specs.Kinds.{scalars}
use Rattle.round_trip.specs.Room.{Complete, Shaped, ReaderShape, ReaderShaped, ReadRoom, ReadFits}
use Rattle.round_trip.proofs.Room.{room_back}
use Rattle.round_trip.proofs.PrintedWords.{print-fits}

-- ---- what a reader gives where it succeeds
abbrev Means : {A : Type 0} → (A → Type 0) → Reply A → Type 0
Means P (ok x b) = P x
Means P (refused why b) = Unit {0}

record Gives {A : Type 0} (P : A → Type 0) (p : Parser A) : Type 0 where
  gives : (a : Ahead) → Means P (p a)

module _ {A B : Type 0} {Q : A → Type 0} {P : B → Type 0} where
  means-bind : (r : Reply A) (f : A → Parser B) → Means Q r → ((x : A) → Q x → Gives P (f x)) → Means P (bind r f)
  means-bind (ok x b) f h k = (k x h).gives b
  means-bind (refused why b) f h k = tt

  gives_bind : (m : Parser A) (f : A → Parser B) → Gives Q m → ((x : A) → Q x → Gives P (f x)) → Gives P (m >>= f)
  unfolding ◌>>=◌
  gives_bind m f h k = record { gives = λ a. means-bind (m a) f (h.gives a) k }

  gives_map : (f : A → B) (m : Parser A) → Gives Q m → ((x : A) → Q x → P (f x)) → Gives P (f <$> m)
  unfolding ◌<$>◌
  gives_map f m h k = record { gives = λ a. means-bind (m a) (λ x. ok (f x)) (h.gives a) (λ x q. record { gives = λ b. k x q }) }

abbrev Any : {A : Type 0} → A → Type 0
Any x = Unit {0}

means_any : {A : Type 0} (r : Reply A) → Means Any r
means_any (ok x b) = tt
means_any (refused why b) = tt

module _ {A B : Type 0} {P : B → Type 0} where
  gives_after : (m : Parser A) (f : A → Parser B) → ((x : A) → Gives P (f x)) → Gives P (m >>= f)
  gives_after m f h = gives_bind {Q = Any} m f (record { gives = λ a. means_any (m a) }) (λ x _. h x)

  gives_then : (m : Parser A) (p : Parser B) → Gives P p → Gives P (m >> p)
  unfolding ◌>>◌
  gives_then m p h = record { gives = λ a. means-bind {Q = Any} (m a) (λ _. p) (means_any (m a)) (λ _ _. h) }

module _ {A : Type 0} {P : A → Type 0} where
  gives_return : (x : A) → P x → Gives P (return x)
  unfolding return
  gives_return x h = record { gives = λ a. h }

  gives_refuse : (n : ParserError) → Gives P (refuse n)
  unfolding refuse
  gives_refuse n = record { gives = λ a. tt }

  gives_if : (b : Bool) (p q : Parser A) → Gives P p → Gives P q → Gives P (given b then p else q)
  unfolding given◌then◌else◌
  gives_if true p q h k = h
  gives_if false p q h k = k

  gives_with : {X : Type 0} (o : Option X) (f : X → Parser A) (q : Parser A) → ((x : X) → Gives P (f x)) → Gives P q → Gives P (with_some o f q)
  unfolding with_some
  gives_with none f q h k = k
  gives_with (some x) f q h k = h x

  gives_due : (f : Token → Parser A) → ((t : Token) → Gives P (f t)) → Gives P (due f)
  unfolding due
  gives_due f h = gives_after _ _ (λ t. gives_with t _ _ h (gives_refuse EndOfFile))

  gives_choose : (w : Bytes) (p : Parser A) (cs : List (Bytes × Parser A)) (q : Parser A) → Gives P p → Gives P (choose cs q) → Gives P (choose ((w, p) ∷ cs) q)
  unfolding choose
  gives_choose w p cs q h k = record { gives = λ a. (gives_after _ _ (λ b. gives_if b p (choose cs q) h k)).gives a }

  gives_otherwise : (q : Parser A) → Gives P q → Gives P (choose [] q)
  unfolding choose
  gives_otherwise q h = record { gives = λ a. h.gives a }

any : {A : Type 0} {p : Parser A} → Gives Any p
any {p = p} = record { gives = λ a. means_any (p a) }

-- ---- turns
abbrev Also : {A : Type 0} → (A → Type 0) → Option A → Type 0
Also P none = Unit {0}
Also P (some x) = P x

module _ {A : Type 0} {P : A → Type 0} where
  gives_unless : (s : ℕ) (item : Parser A) → Gives P item → Gives (Also P) (unless_next s item)
  unfolding unless_next
  gives_unless s item h = gives_after _ _ (λ b. gives_if b _ _ (gives_return none tt) (gives_map some item h (λ x k. k)))

  gives_next : (s : ℕ) (item : Parser A) → Gives P item → Gives (Also P) (after_next s item)
  unfolding after_next
  gives_next s item h = gives_after _ _ (λ b. gives_if b _ _ (gives_map some item h (λ x k. k)) (gives_return none tt))

module _ {A B : Type 0} {P : A → Type 0} {Q : B → Type 0} (add : A → B → B) (stop : B) (stops : Q stop) (adds : (x : A) (y : B) → P x → Q y → Q (add x y)) where
  gives_turn : (rest : Parser B) → Gives Q rest → (o : Option A) → Also P o → Gives Q (after_turn add stop rest o)
  gives_turn rest h none p = gives_return stop stops
  gives_turn rest h (some x) p = gives_map (add x) rest h (λ y q. adds x y p q)

  gives_for : (n : ℕ) (turn : Parser (Option A)) → Gives (Also P) turn → Gives Q (many_for add stop n turn)
  unfolding many_for
  gives_for zero turn h = record { gives = λ a. (gives_return stop stops).gives a }
  gives_for (suc n) turn h = record { gives = λ a. (gives_bind {P = Q} turn _ h (gives_turn (many_for add stop n turn) (gives_for n turn h))).gives a }

  gives_many : (turn : Parser (Option A)) → Gives (Also P) turn → Gives Q (many add stop turn)
  unfolding many
  gives_many turn h = record { gives = λ a. (gives_for (suc (count a)) turn h).gives a }

-- ---- forests side by side
shaped_beside : (f h : Forest) → Shaped f → Shaped h → Shaped (f beside h)
shaped_beside nothing h x y = y
shaped_beside (node i p r) h x y = (x.0, x.1, shaped_beside r h x.2 y)

found_beside : {A : Type 0} (look_for : Part → List A) (f h : Forest) → length (found look_for (parts_of (f beside h))) ≡ length (found look_for (parts_of f)) + length (found look_for (parts_of h))
unfolding parts_of
found_beside look_for nothing h = omega arith
found_beside look_for (node i p r) h = let ih = found_beside look_for r h in simp length-append (omega arith)

constants_beside : (f h : Forest) → length (m.constants (parts_of (f beside h))) ≡ length (m.constants (parts_of f)) + length (m.constants (parts_of h))
constants_beside = found_beside _

types_beside : (f h : Forest) → length (m.types (parts_of (f beside h))) ≡ length (m.types (parts_of f)) + length (m.types (parts_of h))
types_beside = found_beside _

-- a constant; a type; fields, each of which can be extended by
pub record HasConstant (f : Forest) : Type 0 where
  pub shaped : Shaped f
  pub has_constant : 1 ≤ length (m.constants (parts_of f))

pub record HasType (f : Forest) : Type 0 where
  pub shaped : Shaped f
  pub has_type : 1 ≤ length (m.types (parts_of f))

abbrev EachField : Forest → Type 0
EachField nothing = Unit {0}
EachField (node i p r) = (1 ≤ length (m.fields (m.part i (parts_of p) ∷ []))) × EachField r

pub record HasFields (f : Forest) : Type 0 where
  pub shaped : Shaped f
  pub each_field : EachField f

each_beside : (f h : Forest) → EachField f → EachField h → EachField (f beside h)
each_beside nothing h x y = y
each_beside (node i p r) h x y = (x.0, each_beside r h x.1 y)

extensions_shaped : (e : Bytes) (f : Forest) → Shaped f → EachField f → Shaped (g.extensions_of e f)
unfolding parts_of
extensions_shaped e nothing x y = tt
extensions_shaped e (node i p r) x y = (y.0, (x.0, x.1, tt), extensions_shaped e r x.2 y.1)

-- what stands between brackets
abbrev InBody : g.Mode → Forest → Type 0
InBody g.Mode.message = Shaped
InBody g.Mode.oneof = Shaped
InBody g.Mode.extend = HasFields

abbrev Within : g.Bracket → Forest → Type 0
Within g.Bracket.message_constant = HasConstant
Within g.Bracket.list_constant = HasConstant
Within g.Bracket.map_type = HasType
Within (g.Bracket.body mode) = InBody mode

body-nothing : (mode : g.Mode) → InBody mode nothing
body-nothing g.Mode.message = tt
body-nothing g.Mode.oneof = tt
body-nothing g.Mode.extend = record { shaped = tt; each_field = tt }

body_beside : (mode : g.Mode) (f h : Forest) → InBody mode f → InBody mode h → InBody mode (f beside h)
body_beside g.Mode.message f h x y = shaped_beside f h x y
body_beside g.Mode.oneof f h x y = shaped_beside f h x y
body_beside g.Mode.extend f h x y = record { shaped = shaped_beside f h x.shaped y.shaped; each_field = each_beside f h x.each_field y.each_field }

shaped_only : {p : Parser Forest} → Gives HasConstant p → Gives Shaped p
shaped_only {p} h = record { gives = λ a. go (p a) (h.gives a) }
  where
    go : (r : Reply Forest) → Means HasConstant r → Means Shaped r
    go (ok f b) x = x.shaped
    go (refused why b) x = tt

fields-only : {p : Parser Forest} → Gives HasFields p → Gives Shaped p
fields-only {p} h = record { gives = λ a. go (p a) (h.gives a) }
  where
    go : (r : Reply Forest) → Means HasFields r → Means Shaped r
    go (ok f b) x = x.shaped
    go (refused why b) x = tt

separated_gives : (s : ℕ) (item : Parser Forest) → Gives Shaped item → Gives Shaped (g.separated s item)
unfolding g.separated
separated_gives s item h =
    gives_bind _ _ h (λ f x. gives_bind _ _ (gives_many ◌beside◌ nothing tt shaped_beside _ (gives_next s item h)) (λ more y. gives_return _ (shaped_beside f more x y)))

until_gives : (mode : g.Mode) (s : ℕ) (item : Parser Forest) → Gives (InBody mode) item → Gives (InBody mode) (g.forests_until s item)
until_gives mode s item h = gives_many ◌beside◌ nothing (body-nothing mode) (body_beside mode) _ (gives_unless s item h)

-- ---- productions that open no bracket
constant_given : (v : Value) → Gives HasConstant (g.constant_of v)
unfolding parts_of
constant_given v = gives_return _ (record { shaped = (tt, tt, tt); has_constant = omega arith })

type_given : (s : Shape) → Complete (Item.type s) [] → Gives HasType (g.type_of s)
unfolding parts_of
type_given s h = gives_return _ (record { shaped = (h, tt, tt); has_type = omega arith })

-- a record that needs no parts
leaf : (i : Item) → Complete i [] → Shaped (one i nothing)
unfolding parts_of
leaf i h = (h, tt, tt)

signed_number_gives : (b : Bool) → Gives HasConstant (g.signed_number b)
unfolding g.signed_number
signed_number_gives b = gives_after _ _ (λ v. gives_if _ _ _ (constant_given v) (gives_refuse IntegerOverflow))

option_part_gives : Gives Shaped g.option_part
unfolding g.option_part
option_part_gives =
    gives_after _ _ (λ b. gives_if b _ _ (gives_after _ _ (λ n. gives_then _ _ (gives_return _ (leaf (Item.extension_part n) tt)))) (gives_map {Q = Any} _ _ any (λ n _. leaf (Item.direct_part n) tt)))

range_gives : (item : ℕ → ℕ → Item) → ((k n : ℕ) → Complete (item k n) []) → (max : ℕ) → Gives Shaped (g.range item max)
unfolding g.range
range_gives item h max = gives_after _ _ (λ k. gives_after _ _ (λ w. gives_after _ _ (λ n. gives_return _ (leaf (item k n) (h k n)))))

extensions_gives : Gives Shaped g.extensions
unfolding g.extensions
extensions_gives = gives_bind _ _ (separated_gives _ _ (range_gives Item.extension_range (λ k n. tt) _)) (λ f x. gives_then _ _ (gives_return f x))

reserved_gives : (max : ℕ) → Gives Shaped (g.reserved max)
unfolding g.reserved
reserved_gives max =
    gives_bind _ _
    (gives_due _ (λ t. gives_if _ _ _ (separated_gives _ _ (gives_map {Q = Any} _ _ any (λ n _. leaf (Item.reserved_name n) tt))) (separated_gives _ _ (range_gives Item.reserved_range (λ k n. tt) max))))
    (λ f x. gives_then _ _ (gives_return f x))

empty_gives : Gives Shaped g.empty_statement
unfolding g.empty_statement
empty_gives = gives_after _ _ (λ b. gives_if b _ _ (gives_return nothing tt) (gives_refuse IncorrectInput))

-- ---- productions over what stands between brackets
module _ (inner : g.Inner) (inner_gives : (b : g.Bracket) → Gives (Within b) (inner b)) where
  constant_at_gives : (t : Token) → Gives HasConstant (g.constant_at inner t)
  unfolding g.constant_at
  constant_at_gives (Token.symbol b) =
      gives_if _ _ _ (inner_gives g.Bracket.message_constant) (gives_if _ _ _ (inner_gives g.Bracket.list_constant)
      (gives_if _ _ _ (gives_then _ _ (signed_number_gives false)) (gives_if _ _ _ (gives_then _ _ (signed_number_gives true)) (gives_refuse ExpectConstant))))
  constant_at_gives (Token.number n) = gives_then _ _ (constant_given _)
  constant_at_gives (Token.ident w) = gives_choose _ _ _ _ (constant_given _) (gives_choose _ _ _ _ (constant_given _) (gives_otherwise _ (gives_after _ _ (λ p. constant_given _))))
  constant_at_gives (Token.float w) = gives_then _ _ (constant_given _)
  constant_at_gives (Token.string w) = gives_then _ _ (constant_given _)

  constant_gives : Gives HasConstant (g.constant inner)
  constant_gives = gives_due _ constant_at_gives

  entry_gives : Gives Shaped (g.entry inner)
  unfolding g.entry
  entry_gives =
      gives_after _ _ (λ k. gives_after _ _ (λ b. gives_bind _ _ (gives_if b _ _ constant_gives (inner_gives g.Bracket.message_constant)) (λ v x.
      gives_then _ _ (gives_return _ (x.has_constant, x.shaped, tt)))))

  list_items_gives : Gives Shaped (g.list_items inner)
  unfolding g.list_items
  list_items_gives =
      gives_after _ _ (λ b. gives_if b _ _ (gives_return nothing tt)
      (gives_bind _ _ (separated_gives _ _ (shaped_only constant_gives)) (λ f x. gives_then _ _ (gives_return f x))))

  option_gives : Gives Shaped (g.option inner)
  unfolding g.option
  option_gives =
      gives_bind _ _ (separated_gives _ _ option_part_gives) (λ n x. gives_then _ _ (gives_bind _ _ constant_gives (λ v y.
      gives_return _ (omega (arith, y.has_constant, constants_beside n v), shaped_beside n v x y.shaped, tt))))

  option_statement_gives : Gives Shaped (g.option_statement inner)
  unfolding g.option_statement
  option_statement_gives = gives_bind _ _ option_gives (λ f x. gives_then _ _ (gives_return f x))

  bracketed_gives : Gives Shaped (g.bracketed_options inner)
  unfolding g.bracketed_options
  bracketed_gives = gives_after _ _ (λ b. gives_if b _ _ (gives_bind _ _ (separated_gives _ _ option_gives) (λ f x. gives_then _ _ (gives_return f x))) (gives_return nothing tt))

  -- ---- fields
  scalar_or_gives : (ss : List Scalar) (q : Parser Forest) → Gives HasType q → Gives HasType (g.scalar_or ss q)
  unfolding g.scalar_or
  scalar_or_gives [] q h = record { gives = λ a. h.gives a }
  scalar_or_gives (s ∷ ss) q h = record { gives = λ a. (gives_after _ _ (λ b. gives_if b _ _ (type_given (Shape.scalar s) tt) (scalar_or_gives ss q h))).gives a }

  type_gives : Gives HasType (g.type inner)
  unfolding g.type
  type_gives = scalar_or_gives scalars _ (gives_choose _ _ _ _ (inner_gives g.Bracket.map_type) (gives_otherwise _ (gives_after _ _ (λ n. type_given (Shape.named n) tt))))

  field_given : (r : Option Rule) (n : Bytes) (k : ℕ) (p : Place) (f : Forest) → HasType f → HasFields (one (Item.field r n k p) f)
  unfolding parts_of
  field_given r n k p f x = record { shaped = (x.has_type, x.shaped, tt); each_field = (omega arith, tt) }

  group_gives : (r : Option Rule) (p : Place) → Gives HasFields (g.group inner r p)
  unfolding g.group parts_of
  group_gives r p =
      gives_after _ _ (λ n. gives_then _ _ (gives_after _ _ (λ k. gives_bind _ _ (inner_gives (g.Bracket.body g.Mode.message)) (λ f x. gives_if _ _ _ (gives_refuse OneOfInGroup)
      (gives_return _ (field_given r [] k p _ (record { shaped = (tt, x, tt); has_type = omega arith })))))))

  plain_field_gives : (r : Option Rule) (p : Place) → Gives HasFields (g.plain_field inner r p)
  unfolding g.plain_field
  plain_field_gives r p =
      gives_bind _ _ type_gives (λ t x. gives_after _ _ (λ n. gives_then _ _ (gives_after _ _ (λ k. gives_bind _ _ bracketed_gives (λ os y. gives_then _ _
      (gives_return _ (field_given r n k p (t beside os) (record { shaped = shaped_beside t os x.shaped y; has_type = omega (arith, x.has_type, types_beside t os) }))))))))

  field_gives : (s : Syntax) (mode : g.Mode) → Gives HasFields (g.field s inner mode)
  unfolding g.field
  field_gives s mode = gives_after _ _ (λ p. gives_after _ _ (λ r. gives_choose _ _ _ _ (group_gives r p) (gives_otherwise _ (plain_field_gives r p))))

  -- ---- enums
  enum_value_gives : Gives Shaped (g.enum_value inner)
  unfolding g.enum_value
  enum_value_gives = gives_after _ _ (λ n. gives_then _ _ (gives_after _ _ (λ k. gives_bind _ _ bracketed_gives (λ os x. gives_then _ _ (gives_return _ (tt, x, tt))))))

  enum_statement_gives : Gives Shaped (g.enum_statement inner)
  unfolding g.enum_statement
  enum_statement_gives =
      gives_after _ _ (λ b. gives_if b _ _ (gives_return nothing tt) (gives_choose _ _ _ _ (reserved_gives _) (gives_choose _ _ _ _ option_statement_gives (gives_otherwise _ enum_value_gives))))

  enum_gives : (p : Place) → Gives Shaped (g.enum inner p)
  unfolding g.enum
  enum_gives p = gives_after _ _ (λ n. gives_then _ _ (gives_bind _ _ (until_gives g.Mode.message _ _ enum_statement_gives) (λ f x. gives_then _ _ (gives_return _ (tt, x, tt)))))

  -- ---- messages
  extend_gives : Gives Shaped (g.extend_fields inner)
  unfolding g.extend_fields
  extend_gives = gives_after _ _ (λ e. gives_bind _ _ (inner_gives (g.Bracket.body g.Mode.extend)) (λ f x. gives_return _ (extensions_shaped e f x.shaped x.each_field)))

  message_gives : (p : Place) → Gives Shaped (g.named_body inner g.Mode.message (λ n. Item.message n p))
  unfolding g.named_body
  message_gives p = gives_after _ _ (λ n. gives_bind _ _ (inner_gives (g.Bracket.body g.Mode.message)) (λ f x. gives_return _ (tt, x, tt)))

  oneof_gives : (p : Place) → Gives Shaped (g.named_body inner g.Mode.oneof (λ n. Item.oneof n p))
  unfolding g.named_body
  oneof_gives p = gives_after _ _ (λ n. gives_bind _ _ (inner_gives (g.Bracket.body g.Mode.oneof)) (λ f x. gives_return _ (tt, x, tt)))

  extensions_or_gives : (s : Syntax) (q : Parser Forest) → Gives Shaped q → Gives Shaped (g.extensions_or s q)
  extensions_or_gives Syntax.Proto2 q h = gives_choose _ _ _ _ extensions_gives (gives_otherwise _ h)
  extensions_or_gives Syntax.Proto3 q h = gives_then _ _ h

  option_or_field_gives : (s : Syntax) (mode : g.Mode) → Gives Shaped (g.option_or_field s inner mode)
  unfolding g.option_or_field
  option_or_field_gives s mode = gives_choose _ _ _ _ option_statement_gives (gives_otherwise _ (fields-only (field_gives s mode)))

  declaration_gives : (s : Syntax) (p : Place) (mode : g.Mode) → Gives (InBody mode) (g.declaration s inner p mode)
  unfolding g.declaration
  declaration_gives s p g.Mode.message =
      gives_choose _ _ _ _ (reserved_gives _) (gives_choose _ _ _ _ (oneof_gives p) (gives_choose _ _ _ _ extend_gives (gives_choose _ _ _ _ (message_gives p) (gives_choose _ _ _ _ (enum_gives p)
      (gives_otherwise _ (extensions_or_gives s _ (option_or_field_gives s g.Mode.message)))))))
  declaration_gives s p g.Mode.oneof = gives_then _ _ (option_or_field_gives s g.Mode.oneof)
  declaration_gives s p g.Mode.extend = gives_then _ _ (field_gives s g.Mode.extend)

  statement_gives : (s : Syntax) (mode : g.Mode) → Gives (InBody mode) (g.statement s inner mode)
  unfolding g.statement
  statement_gives s mode = gives_after _ _ (λ p. gives_after _ _ (λ b. gives_if b _ _ (gives_return nothing (body-nothing mode)) (declaration_gives s p mode)))

  -- ---- brackets
  layer_gives : (s : Syntax) (b : g.Bracket) → Gives (Within b) (g.layer s inner b)
  unfolding g.message_of g.list_of g.map_of g.body_of parts_of
  layer_gives s g.Bracket.message_constant =
      gives_then _ _ (gives_bind _ _ (until_gives g.Mode.message _ _ entry_gives) (λ f x. gives_then _ _ (gives_return _ (record { shaped = (tt, x, tt); has_constant = omega arith }))))
  layer_gives s g.Bracket.list_constant = gives_then _ _ (gives_bind _ _ list_items_gives (λ f x. gives_return _ (record { shaped = (tt, x, tt); has_constant = omega arith })))
  layer_gives s g.Bracket.map_type =
      gives_then _ _ (gives_bind _ _ type_gives (λ k x. gives_then _ _ (gives_bind _ _ type_gives (λ v y. gives_then _ _
      (gives_return _ (record { shaped = (omega (arith, x.has_type, y.has_type, types_beside k v), shaped_beside k v x.shaped y.shaped, tt); has_type = omega arith }))))))
  layer_gives s (g.Bracket.body mode) = gives_then _ _ (gives_bind _ _ (until_gives mode _ _ (statement_gives s mode)) (λ f x. gives_then _ _ (gives_return f x)))

  -- ---- services
  method_options_gives : Gives Shaped (g.method_options inner)
  unfolding g.method_options
  method_options_gives =
      gives_after _ _ (λ b. gives_if b _ _
      (gives_bind _ _ (until_gives g.Mode.message _ _ (gives_choose _ _ _ _ option_statement_gives (gives_otherwise _ empty_gives))) (λ f x. gives_then _ _ (gives_return f x)))
      (gives_then _ _ (gives_return nothing tt)))

  stream_gives : Gives Shaped (g.stream inner)
  unfolding g.stream
  stream_gives =
      gives_after _ _ (λ n. gives_then _ _ (gives_after _ _ (λ i. gives_then _ _ (gives_after _ _ (λ o. gives_then _ _ (gives_bind _ _ method_options_gives (λ f x. gives_return _ (tt, x, tt))))))))

  rpc_gives : Gives Shaped (g.rpc inner)
  unfolding g.rpc
  rpc_gives =
      gives_after _ _ (λ n. gives_then _ _ (gives_after _ _ (λ c. gives_after _ _ (λ i. gives_then _ _ (gives_then _ _ (gives_then _ _ (gives_after _ _ (λ s. gives_after _ _ (λ o. gives_then _ _
      (gives_bind _ _ method_options_gives (λ f x. gives_return _ (tt, x, tt))))))))))))

  stream_or_gives : (s : Syntax) (q : Parser Forest) → Gives Shaped q → Gives Shaped (g.stream_or s inner q)
  stream_or_gives Syntax.Proto2 q h = gives_choose _ _ _ _ stream_gives (gives_otherwise _ h)
  stream_or_gives Syntax.Proto3 q h = h

  service_gives : (s : Syntax) (p : Place) → Gives Shaped (g.service s inner p)
  unfolding g.service g.service_statement
  service_gives s p =
      gives_after _ _ (λ n. gives_then _ _ (gives_bind _ _
      (until_gives g.Mode.message _ _ (gives_choose _ _ _ _ rpc_gives (gives_otherwise _ (stream_or_gives s _ (gives_choose _ _ _ _ option_statement_gives (gives_otherwise _ empty_gives))))))
      (λ f x. gives_then _ _ (gives_return _ (tt, x, tt)))))

-- ---- every bracket, at every depth
-- a bracket of one too many is not opened, so nothing is given
no_room_gives : {P : Forest → Type 0} (s : ℕ) → Gives P (g.no_room s)
unfolding g.no_room peek look expect due with_some return refuse given◌then◌else◌ ◌>>=◌ ◌>>◌
no_room_gives {P} s = record { gives = go }
  where
    seen : (b : Bool) (t : Token) (q : Place) (a : Ahead) → is_symbol s t ≡ b → Means P (g.no_room s (next t q a))
    seen true t q a e = rw e tt
    seen false t q a e = rw e (rw e tt)

    go : (a : Ahead) → Means P (g.no_room s a)
    go (next t q a) = seen (is_symbol s t) t q a refl
    go (end q) = tt
    go (fault n q) = tt

nested_gives : (s : Syntax) (room : ℕ) (b : g.Bracket) → Gives (Within b) (g.nested s room b)
unfolding g.nested
nested_gives s zero b = record { gives = λ a. (no_room_gives (g.opening b)).gives a }
nested_gives s (suc room) b = record { gives = λ a. (layer_gives (g.nested s room) (nested_gives s room) s b).gives a }

-- ---- the file
abbrev AtTop : g.Top → Type 0
AtTop (g.Top.in_package p) = 1 ≤ length p
AtTop (g.Top.items f) = Shaped f

import_gives : Gives Shaped g.import
unfolding g.import
import_gives = gives_after _ _ (λ v. gives_after _ _ (λ p. gives_then _ _ (gives_with _ _ _ (λ n. gives_refuse n) (gives_return _ (leaf (Item.import v p) tt)))))

package_gives : Gives AtTop g.package_statement
unfolding g.package_statement
package_gives = gives_after _ _ (λ n. gives_then _ _ (gives_return _ (omega arith)))

top-items : {p : Parser Forest} → Gives Shaped p → Gives AtTop (g.Top.items <$> p)
top-items {p} h = gives_map _ p h (λ f x. x)

top_gives : (s : Syntax) → Gives AtTop (g.top_statement s)
unfolding g.top_statement
top_gives s =
    let inner = g.outermost s in
    let h = nested_gives s 32 in
    gives_after _ _ (λ p.
    gives_choose _ _ _ _ (top-items import_gives) (gives_choose _ _ _ _ package_gives (gives_choose _ _ _ _ (top-items (option_statement_gives inner h))
    (gives_choose _ _ _ _ (top-items (message_gives inner h p)) (gives_choose _ _ _ _ (top-items (enum_gives inner h p)) (gives_choose _ _ _ _ (top-items (extend_gives inner h))
    (gives_choose _ _ _ _ (top-items (service_gives inner h s p)) (gives_otherwise _ (top-items empty_gives)))))))))

added : (x : g.Top) (t : Tree) → AtTop x → ReaderShape t → ReaderShape (g.add_top x t)
added (g.Top.in_package p) t x h = record { items_whole = h.items_whole; packages_named = (x, h.packages_named) }
added (g.Top.items f) t x h = record { items_whole = shaped_beside f t.items x h.items_whole; packages_named = h.packages_named }

top_turn_gives : (s : Syntax) → Gives (Also AtTop) (g.top_turn s)
unfolding g.top_turn
top_turn_gives s = gives_after _ _ (λ t. gives_with t _ _ (λ _. gives_map some _ (top_gives s) (λ x k. k)) (gives_return none tt))

file_gives : Gives ReaderShape g.file
unfolding g.file
file_gives =
    gives_after _ _ (λ s. gives_many g.add_top (g.empty_tree s) (record { items_whole = tt; packages_named = tt }) added _
    (top_turn_gives s))

pub reader_shaped : ReaderShaped
reader_shaped a b t e = subst (Means ReaderShape) e (file_gives.gives a)

pub read_room : ReadRoom
read_room a b t e = room_back t (reader_shaped a b t e)

pub read_fits : ReadFits
read_fits a b t e = print-fits t (reader_shaped a b t e)
