-- Every body that is read can be printed and read again.
use Rattle.std.proofs.Common.{◌≡◌, ℕ, zero, suc, Bool, true, false, List, [], ◌∷◌, ◌++◌, ℤ, codes, sym, refl, ap, ◌∙◌, subst, ap₂}
use Rattle.token.specs.declared.answer.Place.{Place}
use Rattle.token.specs.Token.{Bytes, Token, Ahead, next, end, fault, place}
use Rattle.grammar.specs.Parse.{Parser, bind, ◌>>=◌, ◌>>◌, return, refuse, given◌then◌else◌, with_some, due, here, look, take, peek, accept, expect, is_symbol, symbol_if, ident_due, symbol_due}
use Rattle.grammar.specs.declared.kinds.Syntax.{Syntax}
use Rattle.grammar.specs.declared.kinds.Syntax.TheVariants.{Proto2, Proto3}
use Rattle.grammar.specs.Tree.{Shape, Item, Forest, nothing, node, one, ◌beside◌}
use Rattle.grammar.specs.declared.fault.ParserError.TheVariants.{NestingTooDeep, ExpectSymbol}
use Rattle.round_trip.proofs.Well.{Well}
use Rattle.grammar.specs.Grammar as g
use Rattle.grammar.specs.Model as m
use Rattle.grammar.specs.Model.{FieldType, Part, parts_of}
use Rattle.round_trip.proofs.ConstantAgain.{WordOk, FullOk}
use Rattle.round_trip.proofs.ConstantMeans.{parts_beside}
use Rattle.round_trip.proofs.Again.{All, skips}
use Rattle.round_trip.proofs.Canon.{Opens, TypeOk, FieldOk, OneofOk, NumberOk, ContentsOk, MessagesOk, enum_words, statement_words}
use Rattle.round_trip.proofs.Outcome.{Result, Gives, then_result, g_bind, g_then, g_return, g_any, HeadSkips, HeadIs, Branches, choose_result, forbidden_result, skips_join}
use Rattle.round_trip.proofs.Leaves.{ident_gives, ident_result, full_gives, enum_number_gives, drop_result}
use Rattle.round_trip.proofs.ConstantReads.{ConstantBrackets, g_until, list_of_gives, message_of_gives}
use Rattle.round_trip.proofs.PartsRead.{PartGood, Fine, fine_beside, fine_nothing, fine_one, options_good, numbers_good, names_good, fields_good, values_good, contents_good, messages_good, option_statement_gives, bracketed_gives, reserved_gives, extensions_gives}
use Rattle.round_trip.proofs.FieldsRead.{IsType, IsField, FieldsFine, BodyFine, InnerGood, type_gives, field_result}

-- a symbol that is taken if it comes, where what comes is read on if it does not
symbol_result : {A : Type 0} (Q : A → Ahead → Type 0) (x : ℕ) (p q : Parser A) (a : Ahead) → Well a → ((b : Ahead) → Well b → Result Q (p b)) → Result Q (q a) → Result Q ((symbol_if x >>= (λ c. given c then p else q)) a)
unfolding accept peek look take return with_some given◌then◌else◌ ◌>>=◌ ◌>>◌ Well
symbol_result Q x p q (next t y b) l h k = go (is_symbol x t)
  where
    go : (c : Bool) → Result Q (bind ((given c then (take >> return true) else return false) (next t y b)) (λ d. given d then p else q))
    go true = h b l.1
    go false = k
symbol_result Q x p q (end y) l h k = k
symbol_result Q x p q (fault n y) l h k = tt

-- ---- enums
module _ (s : Syntax) (mode : g.Mode) (room : ℕ) (inner : g.Inner) (brackets : ConstantBrackets room inner) where
  value_made : (n : Bytes) (k : ℤ) (os : Forest) → WordOk n → skips (Token.ident n) enum_words ≡ true → NumberOk k → Fine s mode room os → Fine s mode room (one (Item.enum_value n k) os)
  value_made n k os w e h o = fine_one s mode room (Item.enum_value n k) os (record { word_ok = w; name-ok = e; number_ok = h; options-ok = options_good s mode room (parts_of os) o })

  value_result : (a : Ahead) → Well a → HeadSkips enum_words a → Result (λ f b. Fine s mode room f) (g.enum_value inner a)
  unfolding g.enum_value ◌>>=◌
  value_result a l k =
      then_result (λ w b. WordOk w × HeadIs (Token.ident w) a) (λ f b. Fine s mode room f) (ident_due a) _ (ident_result a l) (λ n b h l'. (after n h.0 (subst (HeadSkips enum_words) h.1.2 k)).gives b l')
    where
      after : (n : Bytes) → WordOk n → skips (Token.ident n) enum_words ≡ true → Gives (symbol_due g.equals >> (g.enum_number >>= (λ number. g.bracketed_options inner >>= (λ options. symbol_due g.semicolon >> return (one (Item.enum_value n number) options))))) (Fine s mode room)
      after n w e = g_then (g_any _ _) (g_bind enum_number_gives (λ k h. g_bind (bracketed_gives s mode room inner brackets) (λ os o. g_then (g_any _ _) (g_return _ (value_made n k os w e h o)))))

  enum_statement_gives : Gives (g.enum_statement inner) (Fine s mode room)
  unfolding g.enum_statement return
  enum_statement_gives = record {
    gives = λ a l.
        symbol_result (λ f b. Fine s mode room f) g.semicolon _ _ a l (λ b l'. (fine_nothing s mode room, l'))
        (choose_result (Fine s mode room) _ _ a l (reserved_gives s mode room 2147483647 refl, (option_statement_gives s mode room inner brackets, tt)) (λ k. value_result a l k));
  }

  enum_made : (n : Bytes) (p : Place) (f : Forest) → WordOk n → Fine s mode room f → Fine s mode room (one (Item.enum n p) f)
  enum_made n p f w h = fine_one s mode room (Item.enum n p) f (record {
    word_ok = w;
    options-ok = options_good s mode room (parts_of f) h;
    numbers-ok = numbers_good s mode room (parts_of f) h;
    names-ok = names_good s mode room (parts_of f) h;
    values-ok = values_good s mode room (parts_of f) h;
  })

  pub enum_gives : (p : Place) → Gives (g.enum inner p) (Fine s mode room)
  unfolding g.enum
  enum_gives p =
      g_bind ident_gives (λ n w. g_then (g_any _ _) (g_bind (g_until g.brace_end (Fine s mode room) (Fine s mode room) enum_statement_gives (fine_nothing s mode room) (fine_beside s mode room)) (λ f h. g_then (g_any _ _) (g_return _ (enum_made n p f w h)))))

-- ---- extensions
extends_good : (s : Syntax) (r : ℕ) (e : Bytes) (q : Part) → PartGood s g.Mode.extend r q → IsField q → FieldOk s (m.the_field (m.fields (q ∷ []))) g.Mode.extend r
extends_good s r e (m.Part.piece x) h i = absurd i
extends_good s r e (m.Part.held x) h i = absurd i
extends_good s r e (m.Part.declared (m.Declared.field f)) h i = h
extends_good s r e (m.Part.declared (m.Declared.oneof o)) h i = absurd i
extends_good s r e (m.Part.declared (m.Declared.message n c p ms)) h i = absurd i
extends_good s r e (m.Part.declared (m.Declared.enum x)) h i = absurd i
extends_good s r e (m.Part.declared (m.Declared.extension x)) h i = absurd i
extends_good s r e (m.Part.other x) h i = absurd i

extensions_fine : (s : Syntax) (mode : g.Mode) (r : ℕ) (e : Bytes) → FullOk e → (f : Forest) → Fine s g.Mode.extend r f → All IsField (parts_of f) → Fine s mode (suc r) (g.extensions_of e f)
unfolding parts_of
extensions_fine s mode r e h nothing k i = tt
extensions_fine s mode r e h (node item parts rest) k i = (record { extendee-ok = h; extends-ok = extends_good s r e (m.part item (parts_of parts)) k.0 i.0 }, extensions_fine s mode r e h rest k.1 i.1)

extensions_open : (s : Syntax) (mode : g.Mode) (room : ℕ) (e : Bytes) → FullOk e → (f : Forest) → Opens (BodyFine s g.Mode.extend f) room → Fine s mode room (g.extensions_of e f)
extensions_open s mode zero e h f k = absurd k
extensions_open s mode (suc r) e h f k = extensions_fine s mode r e h f k.fine k.are_fields

-- ---- messages and oneofs
oneof_open : (s : Syntax) (n : Bytes) (p : Place) → WordOk n → (f : Forest) (room : ℕ) → Opens (BodyFine s g.Mode.oneof f) room → Opens (OneofOk s (record { name = n; options = m.options (parts_of f); fields = m.fields (parts_of f); place = p })) room
oneof_open s n p w f zero h = h
oneof_open s n p w f (suc r) h = record { word_ok = w; options-ok = options_good s g.Mode.oneof r (parts_of f) h; fields-ok = fields_good s g.Mode.oneof r (parts_of f) h }

message_open : (s : Syntax) (f : Forest) (room : ℕ) → Opens (BodyFine s g.Mode.message f) room → Opens (λ r. ContentsOk s r (m.contents (parts_of f)) × MessagesOk s (m.messages (parts_of f)) r) room
message_open s f zero h = h
message_open s f (suc r) h = (contents_good s r (parts_of f) h, messages_good s g.Mode.message r (parts_of f) h)

module _ (s : Syntax) (mode : g.Mode) (room : ℕ) (inner : g.Inner) (inner_good : InnerGood s room inner) where
  pub extend_gives : Gives (g.extend_fields inner) (Fine s mode room)
  unfolding g.extend_fields
  extend_gives = g_bind full_gives (λ e h. g_bind (inner_good.bodies g.Mode.extend) (λ f k. g_return _ (extensions_open s mode room e h f k)))

  pub message_gives : (p : Place) → Gives (g.named_body inner g.Mode.message (λ n. Item.message n p)) (Fine s mode room)
  unfolding g.named_body
  message_gives p = g_bind ident_gives (λ n w. g_bind (inner_good.bodies g.Mode.message) (λ f h. g_return _ (fine_one s mode room (Item.message n p) f (message_open s f room h, w))))

  oneof_gives : (p : Place) → Gives (g.named_body inner g.Mode.oneof (λ n. Item.oneof n p)) (Fine s mode room)
  unfolding g.named_body
  oneof_gives p = g_bind ident_gives (λ n w. g_bind (inner_good.bodies g.Mode.oneof) (λ f h. g_return _ (fine_one s mode room (Item.oneof n p) f (oneof_open s n p w f room h))))

  message_branches : (p : Place) → Branches (Fine s mode room) (g.message_declarations inner p)
  message_branches p = (reserved_gives s mode room 536870911 refl, (oneof_gives p, (extend_gives, (message_gives p, (enum_gives s mode room inner inner_good.constants p, tt)))))

-- ---- statements
module _ (s : Syntax) (room : ℕ) (inner : g.Inner) (inner_good : InnerGood s room inner) where
  field_fine : (mode : g.Mode) (a : Ahead) → Well a → HeadSkips statement_words a → Result (λ f b. Fine s mode room f) (g.field s inner mode a)
  field_fine mode a l k = drop_result (λ f b. FieldsFine s mode room f) (λ f b. Fine s mode room f) (g.field s inner mode a) (λ f b h. h.fine) (field_result s room inner inner_good mode a l k)

  option_or_field_result : (mode : g.Mode) (a : Ahead) → Well a → HeadSkips g.message_words a → Result (λ f b. Fine s mode room f) (g.option_or_field s inner mode a)
  unfolding g.option_or_field
  option_or_field_result mode a l k =
      choose_result (Fine s mode room) _ _ a l (option_statement_gives s mode room inner inner_good.constants, tt) (λ e. field_fine mode a l (skips_join g.message_words (codes "option" ∷ []) a k e))

  abbrev five : List Bytes
  five = codes "reserved" ∷ codes "oneof" ∷ codes "extend" ∷ codes "message" ∷ codes "enum" ∷ []

extensions_or_result : (s : Syntax) (room : ℕ) (inner : g.Inner) (inner_good : InnerGood s room inner) (a : Ahead) → Well a → HeadSkips (five s room inner inner_good) a →
    Result (λ f b. Fine s g.Mode.message room f) (g.extensions_or s (g.option_or_field s inner g.Mode.message) a)
extensions_or_result Proto2 room inner inner_good a l k =
    choose_result (Fine Proto2 g.Mode.message room) _ _ a l (extensions_gives g.Mode.message room, tt) (λ e. option_or_field_result Proto2 room inner inner_good g.Mode.message a l (skips_join (five Proto2 room inner inner_good) (codes "extensions" ∷ []) a k e))
extensions_or_result Proto3 room inner inner_good a l k =
    forbidden_result (λ f b. Fine Proto3 g.Mode.message room f) (codes "extensions" ∷ []) _ a l (λ e. option_or_field_result Proto3 room inner inner_good g.Mode.message a l (skips_join (five Proto3 room inner inner_good) (codes "extensions" ∷ []) a k e))

module _ (s : Syntax) (room : ℕ) (inner : g.Inner) (inner_good : InnerGood s room inner) where
  declaration_result : (mode : g.Mode) (p : Place) (a : Ahead) → Well a → Result (λ f b. BodyFine s mode f room) (g.declaration s inner p mode a)
  unfolding g.declaration
  declaration_result g.Mode.message p a l =
      choose_result (Fine s g.Mode.message room) _ _ a l (message_branches s g.Mode.message room inner inner_good p) (λ k. extensions_or_result s room inner inner_good a l k)
  declaration_result g.Mode.oneof p a l = forbidden_result (λ f b. Fine s g.Mode.oneof room f) g.message_words _ a l (λ k. option_or_field_result s room inner inner_good g.Mode.oneof a l k)
  declaration_result g.Mode.extend p a l = forbidden_result (λ f b. FieldsFine s g.Mode.extend room f) (g.message_words ++ codes "option" ∷ []) _ a l (λ k. field_result s room inner inner_good g.Mode.extend a l k)

  body-nothing : (mode : g.Mode) → BodyFine s mode nothing room
  unfolding parts_of
  body-nothing g.Mode.message = fine_nothing s g.Mode.message room
  body-nothing g.Mode.oneof = fine_nothing s g.Mode.oneof room
  body-nothing g.Mode.extend = record { fine = fine_nothing s g.Mode.extend room; are_fields = tt }

  all_two : {X : Type 0} (P : X → Type 0) (xs ys : List X) → All P xs → All P ys → All P (xs ++ ys)
  all_two P [] ys h k = k
  all_two P (x ∷ xs) ys h k = (h.0, all_two P xs ys h.1 k)

  body_beside : (mode : g.Mode) (x y : Forest) → BodyFine s mode x room → BodyFine s mode y room → BodyFine s mode (x beside y) room
  body_beside g.Mode.message x y h k = fine_beside s g.Mode.message room x y h k
  body_beside g.Mode.oneof x y h k = fine_beside s g.Mode.oneof room x y h k
  body_beside g.Mode.extend x y h k = record { fine = fine_beside s g.Mode.extend room x y h.fine k.fine; are_fields = subst (All IsField) (sym (parts_beside x y)) (all_two IsField (parts_of x) (parts_of y) h.are_fields k.are_fields) }

  statement_gives : (mode : g.Mode) → Gives (g.statement s inner mode) (λ f. BodyFine s mode f room)
  unfolding g.statement here return ◌>>=◌
  statement_gives mode = record { gives = λ a l. symbol_result (λ f b. BodyFine s mode f room) g.semicolon _ _ a l (λ b l'. (body-nothing mode, l')) (declaration_result mode (place a) a l) }

  -- ---- brackets
  body_of_gives : (mode : g.Mode) → Gives (g.body_of s inner mode) (λ f. BodyFine s mode f room)
  unfolding g.body_of
  body_of_gives mode =
      g_then (g_any _ _) (g_bind (g_until g.brace_end (λ f. BodyFine s mode f room) (λ f. BodyFine s mode f room) (statement_gives mode) (body-nothing mode) (body_beside mode)) (λ f h. g_then (g_any _ _) (g_return _ h)))

  map-made : (x y : Forest) (h : IsType s room x) (k : IsType s room y) → parts_of (one (Item.type Shape.map) (x beside y)) ≡ m.Part.piece (m.Piece.type (FieldType.map_of h.it k.it)) ∷ []
  unfolding parts_of
  map-made x y h k = ap (λ ps. m.Part.piece (m.Piece.type (m.type_pair (m.types ps))) ∷ []) (parts_beside x y ∙ ap₂ ◌++◌ h.is_it k.is_it)

  map_of_gives : Gives (g.map_of inner) (λ f. IsType s (suc room) f × (k : FieldType) × (v : FieldType) × (parts_of f ≡ m.Part.piece (m.Piece.type (FieldType.map_of k v)) ∷ []) × TypeOk s (FieldType.map_of k v) (suc room))
  unfolding g.map_of
  map_of_gives =
      g_then (g_any _ _) (g_bind (type_gives s room inner inner_good) (λ x h. g_then (g_any _ _) (g_bind (type_gives s room inner inner_good) (λ y k. g_then (g_any _ _) (g_return _
      (record { it = FieldType.map_of h.it k.it; is_it = map-made x y h k; good = (h.good, k.good, h.plain, k.plain); plain = tt }, h.it, k.it, map-made x y h k, (h.good, k.good, h.plain, k.plain)))))))

-- no bracket is opened where there is no room
symbol_missing : (x : ℕ) (t : Token) (p : Place) (b : Ahead) → is_symbol x t ≡ false → symbol_due x (next t p b) ≡ refuse ExpectSymbol (next t p b)
unfolding expect due look with_some refuse ◌>>=◌
symbol_missing x t p b e = rw e refl

no_room_gives : (x : ℕ) (Q : Forest → Type 0) → Gives (g.no_room x) Q
unfolding g.no_room peek look return with_some given◌then◌else◌ refuse expect due ◌>>=◌ ◌>>◌
no_room_gives x Q = record { gives = go }
  where
    at : (t : Token) (p : Place) (b : Ahead) (c : Bool) → is_symbol x t ≡ c → Result (λ f d. Q f) ((given c then refuse NestingTooDeep else (symbol_due x >> return nothing)) (next t p b))
    at t p b true e = tt
    at t p b false e = subst (λ r. Result (λ f d. Q f) (bind r (λ _. return nothing))) (sym (symbol_missing x t p b e)) tt

    go : (a : Ahead) → Well a → Result (λ f b. Q f) (g.no_room x a)
    go (next t p b) l = at t p b (is_symbol x t) refl
    go (end p) l = tt
    go (fault n p) l = tt

nested-at : (s : Syntax) (room : ℕ) (b : g.Bracket) (Q : Forest → Type 0) → Gives (g.layer s (g.nested s room) b) Q → Gives (g.nested s (suc room) b) Q
unfolding g.nested
nested-at s room b Q h = record { gives = λ a l. h.gives a l }

nested_none : (s : Syntax) (b : g.Bracket) (Q : Forest → Type 0) → Gives (g.nested s zero b) Q
unfolding g.nested
nested_none s b Q = record { gives = λ a l. (no_room_gives (g.opening b) Q).gives a l }

pub nested_good : (s : Syntax) (room : ℕ) → InnerGood s room (g.nested s room)
nested_good s zero = record {
  constants = (nested_none s g.Bracket.message_constant _, nested_none s g.Bracket.list_constant _);
  maps = nested_none s g.Bracket.map_type _;
  bodies = λ mode. nested_none s (g.Bracket.body mode) _;
}
nested_good s (suc room) =
    let h = nested_good s room in
    record {
      constants = (nested-at s room g.Bracket.message_constant _ (message_of_gives room _ h.constants), nested-at s room g.Bracket.list_constant _ (list_of_gives room _ h.constants));
      maps = nested-at s room g.Bracket.map_type _ (map_of_gives s room _ h);
      bodies = λ mode. nested-at s room (g.Bracket.body mode) _ (body_of_gives s room _ h mode);
    }
