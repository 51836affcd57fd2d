-- What is kept of a body that was read: every part of it can be printed and read again.
use Rattle.std.proofs.Common.{◌≡◌, ℕ, zero, suc, true, false, leb, List, [], ◌∷◌, ◌++◌, map, sym, refl, ap, ◌∙◌, subst}
use Rattle.token.specs.declared.answer.Place.{Place}
use Rattle.token.specs.Token.{Bytes, next}
use Rattle.grammar.specs.Parse.{◌<$>◌, given◌then◌else◌, is_string}
use Rattle.grammar.specs.declared.kinds.Syntax.{Syntax}
use Rattle.grammar.specs.declared.kinds.Syntax.TheVariants.{Proto2, Proto3}
use Rattle.grammar.specs.Tree.{Item, Forest, nothing, one, ◌beside◌}
use Rattle.grammar.specs.Grammar as g
use Rattle.grammar.specs.Model as m
use Rattle.grammar.specs.Model.{NamePart, Range, Contents, Messages, next_message, Part, parts_of}
use Rattle.round_trip.proofs.ConstantAgain.{WordOk, KeyOk, Good}
use Rattle.round_trip.proofs.ConstantMeans.{parts_beside}
use Rattle.round_trip.proofs.FileMeans.{name-found, value_found}
use Rattle.round_trip.proofs.Again.{All}
use Rattle.round_trip.proofs.Canon.{Opens, NonEmpty, PartOk, OptionOk, RangeOk, TextOk, TypeOk, FieldOk, OneofOk, MemberOk, ExtensionOk, ValueOk, EnumOk, ExtensibleOk, ContentsOk, MessagesOk, MethodOk, ServiceOk, ImportOk, no_group}
use Rattle.round_trip.proofs.Outcome.{Gives, g_bind, g_then, g_map, g_return, g_if, g_due, g_any, g_accept, g_choose}
use Rattle.round_trip.proofs.Leaves.{ident_gives, full_gives, number_gives, decoded_gives}
use Rattle.round_trip.proofs.ConstantReads.{IsConstant, ConstantBrackets, constant_gives, g_separated, lawful-next}

module _ (s : Syntax) (mode : g.Mode) (room : ℕ) where
  abbrev pub PieceGood : m.Piece → Type 0
  PieceGood (m.Piece.name_part x) = PartOk x
  PieceGood (m.Piece.constant c) = Good c room
  PieceGood (m.Piece.entry k c) = KeyOk k × Good c room
  PieceGood (m.Piece.type t) = TypeOk s t room × no_group t

  abbrev pub HeldGood : m.Held → Type 0
  HeldGood (m.Held.option o) = OptionOk room o
  HeldGood (m.Held.reserved_range r) = RangeOk r
  HeldGood (m.Held.reserved_name n) = TextOk n
  HeldGood (m.Held.extension_range r) = ExtensibleOk s (r ∷ [])

  abbrev pub DeclaredGood : m.Declared → Type 0
  DeclaredGood (m.Declared.field f) = FieldOk s f mode room
  DeclaredGood (m.Declared.oneof o) = Opens (OneofOk s o) room
  DeclaredGood (m.Declared.message n c p ms) = Opens (λ r. ContentsOk s r c × MessagesOk s ms r) room × WordOk n
  DeclaredGood (m.Declared.enum e) = EnumOk room e
  DeclaredGood (m.Declared.extension e) = ExtensionOk s room e

  abbrev pub OtherGood : m.Other → Type 0
  OtherGood (m.Other.import i) = ImportOk i
  OtherGood (m.Other.enum_value v) = ValueOk room v
  OtherGood (m.Other.method x) = MethodOk room x
  OtherGood (m.Other.service v) = ServiceOk room v

  abbrev pub PartGood : Part → Type 0
  PartGood (m.Part.piece x) = PieceGood x
  PartGood (m.Part.held x) = HeldGood x
  PartGood (m.Part.declared x) = DeclaredGood x
  PartGood (m.Part.other x) = OtherGood x

  abbrev pub Fine : Forest → Type 0
  Fine f = All PartGood (parts_of f)

all_append : {X : Type 0} (P : X → Type 0) (xs ys : List X) → All P xs → All P ys → All P (xs ++ ys)
all_append P [] ys h k = k
all_append P (x ∷ xs) ys h k = (h.0, all_append P xs ys h.1 k)

module _ (s : Syntax) (mode : g.Mode) (room : ℕ) where
  pub fine_beside : (f h : Forest) → Fine s mode room f → Fine s mode room h → Fine s mode room (f beside h)
  fine_beside f h x y = subst (All (PartGood s mode room)) (sym (parts_beside f h)) (all_append (PartGood s mode room) (parts_of f) (parts_of h) x y)

  pub fine_nothing : Fine s mode room nothing
  unfolding parts_of
  fine_nothing = tt

  pub fine_one : (i : Item) (f : Forest) → PartGood s mode room (m.part i (parts_of f)) → Fine s mode room (one i f)
  unfolding parts_of
  fine_one i f h = (h, tt)

  -- ---- what is found is good
  abbrev Goods : List Part → Type 0
  Goods ps = All (PartGood s mode room) ps

  module _ {A : Type 0} (Q : A → Type 0) where
    found-held : (f : m.Held → List A) → ((x : m.Held) → HeldGood s mode room x → All Q (f x)) → (ps : List Part) → Goods ps → All Q (m.found (m.in_held f) ps)
    found-held f h [] gs = tt
    found-held f h (m.Part.piece x ∷ ps) gs = found-held f h ps gs.1
    found-held f h (m.Part.held x ∷ ps) gs = all_append Q (f x) _ (h x gs.0) (found-held f h ps gs.1)
    found-held f h (m.Part.declared x ∷ ps) gs = found-held f h ps gs.1
    found-held f h (m.Part.other x ∷ ps) gs = found-held f h ps gs.1

    found_declared : (f : m.Declared → List A) → ((x : m.Declared) → DeclaredGood s mode room x → All Q (f x)) → (ps : List Part) → Goods ps → All Q (m.found (m.in_declared f) ps)
    found_declared f h [] gs = tt
    found_declared f h (m.Part.piece x ∷ ps) gs = found_declared f h ps gs.1
    found_declared f h (m.Part.held x ∷ ps) gs = found_declared f h ps gs.1
    found_declared f h (m.Part.declared x ∷ ps) gs = all_append Q (f x) _ (h x gs.0) (found_declared f h ps gs.1)
    found_declared f h (m.Part.other x ∷ ps) gs = found_declared f h ps gs.1

    found-other : (f : m.Other → List A) → ((x : m.Other) → OtherGood s mode room x → All Q (f x)) → (ps : List Part) → Goods ps → All Q (m.found (m.in_other f) ps)
    found-other f h [] gs = tt
    found-other f h (m.Part.piece x ∷ ps) gs = found-other f h ps gs.1
    found-other f h (m.Part.held x ∷ ps) gs = found-other f h ps gs.1
    found-other f h (m.Part.declared x ∷ ps) gs = found-other f h ps gs.1
    found-other f h (m.Part.other x ∷ ps) gs = all_append Q (f x) _ (h x gs.0) (found-other f h ps gs.1)

  pub options_good : (ps : List Part) → Goods ps → All (OptionOk room) (m.options ps)
  options_good = found-held (OptionOk room) _ (elim [ m.Held.option o ↦ λ h. (h, tt) | m.Held.reserved_range r ↦ λ h. tt | m.Held.reserved_name n ↦ λ h. tt | m.Held.extension_range r ↦ λ h. tt ])

  pub numbers_good : (ps : List Part) → Goods ps → All RangeOk (m.reserved_ranges ps)
  numbers_good = found-held RangeOk _ (elim [ m.Held.option o ↦ λ h. tt | m.Held.reserved_range r ↦ λ h. (h, tt) | m.Held.reserved_name n ↦ λ h. tt | m.Held.extension_range r ↦ λ h. tt ])

  pub names_good : (ps : List Part) → Goods ps → All TextOk (m.reserved_names ps)
  names_good = found-held TextOk _ (elim [ m.Held.option o ↦ λ h. tt | m.Held.reserved_range r ↦ λ h. tt | m.Held.reserved_name n ↦ λ h. (h, tt) | m.Held.extension_range r ↦ λ h. tt ])

  extensible_each : (ps : List Part) → Goods ps → All (λ r. ExtensibleOk s (r ∷ [])) (m.extension_ranges ps)
  extensible_each = found-held (λ r. ExtensibleOk s (r ∷ [])) _ (elim [ m.Held.option o ↦ λ h. tt | m.Held.reserved_range r ↦ λ h. tt | m.Held.reserved_name n ↦ λ h. tt | m.Held.extension_range r ↦ λ h. (h, tt) ])

  pub fields_good : (ps : List Part) → Goods ps → All (λ f. FieldOk s f mode room) (m.fields ps)
  fields_good = found_declared (λ f. FieldOk s f mode room) _ (elim [ m.Declared.field f ↦ λ h. (h, tt) | m.Declared.oneof o ↦ λ h. tt | m.Declared.message n c p ms ↦ λ h. tt | m.Declared.enum e ↦ λ h. tt | m.Declared.extension e ↦ λ h. tt ])

  pub enums_good : (ps : List Part) → Goods ps → All (EnumOk room) (m.enums ps)
  enums_good = found_declared (EnumOk room) _ (elim [ m.Declared.field f ↦ λ h. tt | m.Declared.oneof o ↦ λ h. tt | m.Declared.message n c p ms ↦ λ h. tt | m.Declared.enum e ↦ λ h. (h, tt) | m.Declared.extension e ↦ λ h. tt ])

  pub extensions_good : (ps : List Part) → Goods ps → All (ExtensionOk s room) (m.extensions ps)
  extensions_good = found_declared (ExtensionOk s room) _ (elim [ m.Declared.field f ↦ λ h. tt | m.Declared.oneof o ↦ λ h. tt | m.Declared.message n c p ms ↦ λ h. tt | m.Declared.enum e ↦ λ h. tt | m.Declared.extension e ↦ λ h. (h, tt) ])

  pub imports_good : (ps : List Part) → Goods ps → All ImportOk (m.imports ps)
  imports_good = found-other ImportOk _ (elim [ m.Other.import i ↦ λ h. (h, tt) | m.Other.enum_value v ↦ λ h. tt | m.Other.method x ↦ λ h. tt | m.Other.service v ↦ λ h. tt ])

  pub values_good : (ps : List Part) → Goods ps → All (ValueOk room) (m.enum_values ps)
  values_good = found-other (ValueOk room) _ (elim [ m.Other.import i ↦ λ h. tt | m.Other.enum_value v ↦ λ h. (h, tt) | m.Other.method x ↦ λ h. tt | m.Other.service v ↦ λ h. tt ])

  pub methods_good : (ps : List Part) → Goods ps → All (MethodOk room) (m.methods ps)
  methods_good = found-other (MethodOk room) _ (elim [ m.Other.import i ↦ λ h. tt | m.Other.enum_value v ↦ λ h. tt | m.Other.method x ↦ λ h. (h, tt) | m.Other.service v ↦ λ h. tt ])

  pub services_good : (ps : List Part) → Goods ps → All (ServiceOk room) (m.services ps)
  services_good = found-other (ServiceOk room) _ (elim [ m.Other.import i ↦ λ h. tt | m.Other.enum_value v ↦ λ h. tt | m.Other.method x ↦ λ h. tt | m.Other.service v ↦ λ h. (h, tt) ])

pub members_good : (s : Syntax) (room : ℕ) (ps : List Part) → All (PartGood s g.Mode.message room) ps → All (MemberOk s room) (m.members ps)
members_good s room = found_declared s g.Mode.message room (MemberOk s room) _ (elim [ m.Declared.field f ↦ λ h. (h, tt) | m.Declared.oneof o ↦ λ h. (h, tt) | m.Declared.message n c p ms ↦ λ h. tt | m.Declared.enum e ↦ λ h. tt | m.Declared.extension e ↦ λ h. tt ])

extensible-all : (s : Syntax) (rs : List Range) → All (λ r. ExtensibleOk s (r ∷ [])) rs → ExtensibleOk s rs
extensible-all Proto2 [] h = tt
extensible-all Proto2 (r ∷ rs) h = (h.0.0, extensible-all Proto2 rs h.1)
extensible-all Proto3 [] h = tt
extensible-all Proto3 (r ∷ rs) h = h.0

message_good : (s : Syntax) (room : ℕ) (n : Bytes) (c : Contents) (p : Place) (ms rest : Messages) → Opens (λ r. ContentsOk s r c × MessagesOk s ms r) room × WordOk n → MessagesOk s rest room → MessagesOk s (next_message n c p ms rest) room
message_good s zero n c p ms rest h k = h.0
message_good s (suc room) n c p ms rest h k = (h.0.0, h.0.1, k, h.1)

pub messages_good : (s : Syntax) (mode : g.Mode) (room : ℕ) (ps : List Part) → All (PartGood s mode room) ps → MessagesOk s (m.messages ps) room
messages_good s mode room [] gs = tt
messages_good s mode room (m.Part.piece x ∷ ps) gs = messages_good s mode room ps gs.1
messages_good s mode room (m.Part.held x ∷ ps) gs = messages_good s mode room ps gs.1
messages_good s mode room (m.Part.declared (m.Declared.field f) ∷ ps) gs = messages_good s mode room ps gs.1
messages_good s mode room (m.Part.declared (m.Declared.oneof f) ∷ ps) gs = messages_good s mode room ps gs.1
messages_good s mode room (m.Part.declared (m.Declared.message n c p ms) ∷ ps) gs = message_good s room n c p ms (m.messages ps) gs.0 (messages_good s mode room ps gs.1)
messages_good s mode room (m.Part.declared (m.Declared.enum f) ∷ ps) gs = messages_good s mode room ps gs.1
messages_good s mode room (m.Part.declared (m.Declared.extension f) ∷ ps) gs = messages_good s mode room ps gs.1
messages_good s mode room (m.Part.other x ∷ ps) gs = messages_good s mode room ps gs.1

pub contents_good : (s : Syntax) (room : ℕ) (ps : List Part) → All (PartGood s g.Mode.message room) ps → ContentsOk s room (m.contents ps)
contents_good s room ps gs = record {
  options-ok = options_good s g.Mode.message room ps gs;
  numbers-ok = numbers_good s g.Mode.message room ps gs;
  names-ok = names_good s g.Mode.message room ps gs;
  extensible-ok = extensible-all s _ (extensible_each s g.Mode.message room ps gs);
  members-ok = members_good s room ps gs;
  enums-ok = enums_good s g.Mode.message room ps gs;
  extensions-ok = extensions_good s g.Mode.message room ps gs;
}

-- ---- options
-- a tree that is the parts of an option's name
record AreParts (f : Forest) : Type 0 where
  they : List NamePart
  are_they : parts_of f ≡ map (λ x. m.Part.piece (m.Piece.name_part x)) they
  good : All PartOk they

record SomeParts (f : Forest) : Type 0 where
  they : List NamePart
  are_they : parts_of f ≡ map (λ x. m.Part.piece (m.Piece.name_part x)) they
  good : NonEmpty PartOk they

record IsPart (f : Forest) : Type 0 where
  it : NamePart
  is_it : parts_of f ≡ m.Part.piece (m.Piece.name_part it) ∷ []
  good : PartOk it

part_gives : Gives g.option_part IsPart
unfolding g.option_part parts_of
part_gives =
    g_bind (g_accept _) (λ b u. g_if
    (λ e. g_bind full_gives (λ t h. g_then (g_any _ _) (g_return _ (record { it = NamePart.extension t; is_it = refl; good = h }))))
    (λ e. g_map _ ident_gives (λ w h. record { it = NamePart.direct w; is_it = refl; good = h })))

joined_parts : (x y : Forest) (h : IsPart x) (ns : List NamePart) → parts_of y ≡ map (λ x. m.Part.piece (m.Piece.name_part x)) ns → parts_of (x beside y) ≡ map (λ x. m.Part.piece (m.Piece.name_part x)) (h.it ∷ ns)
joined_parts x y h ns e = parts_beside x y ∙ ap (λ ps. ps ++ parts_of y) h.is_it ∙ ap (λ ps. m.Part.piece (m.Piece.name_part h.it) ∷ ps) e

no_parts : AreParts nothing
unfolding parts_of
no_parts = record { they = []; are_they = refl; good = tt }

name_gives : Gives (g.separated g.dot g.option_part) SomeParts
name_gives =
    g_separated g.dot IsPart AreParts part_gives no_parts
    (λ x y h k. record { they = h.it ∷ k.they; are_they = joined_parts x y h k.they k.are_they; good = (h.good, k.good) })
    (λ x y h k. record { they = h.it ∷ k.they; are_they = joined_parts x y h k.they k.are_they; good = (h.good, k.good) })

module _ (s : Syntax) (mode : g.Mode) (room : ℕ) where
  option-made : (x v : Forest) → SomeParts x → IsConstant room v → Fine s mode room (one Item.option (x beside v))
  option-made x v h c =
      let e = parts_beside x v ∙ ap (λ ps. ps ++ parts_of v) h.are_they ∙ ap (λ ps. map (λ x. m.Part.piece (m.Piece.name_part x)) h.they ++ ps) c.is_it in
      fine_one s mode room Item.option (x beside v)
      (subst (λ o. OptionOk room o) (sym (ap (λ ps. record { name = m.name_parts ps; value = m.the_constant ps }) e))
      (record {
        name-ok = subst (NonEmpty PartOk) (sym (name-found h.they c.it)) h.good;
        value-ok = subst (λ l. Good (m.first_or (m.Constant.truth false) l) room) (sym (value_found h.they c.it)) c.good;
      }))

  module _ (inner : g.Inner) (inner_gives : ConstantBrackets room inner) where
    pub option_gives : Gives (g.option inner) (Fine s mode room)
    unfolding g.option
    option_gives = g_bind name_gives (λ x h. g_then (g_any _ _) (g_bind (constant_gives room inner inner_gives) (λ v c. g_return _ (option-made x v h c))))

    pub option_statement_gives : Gives (g.option_statement inner) (Fine s mode room)
    unfolding g.option_statement
    option_statement_gives = g_bind option_gives (λ o h. g_then (g_any _ _) (g_return _ h))

    pub bracketed_gives : Gives (g.bracketed_options inner) (Fine s mode room)
    unfolding g.bracketed_options
    bracketed_gives =
        g_bind (g_accept _) (λ b u. g_if
        (λ e. g_bind (g_separated g.comma (Fine s mode room) (Fine s mode room) option_gives (fine_nothing s mode room) (fine_beside s mode room) (fine_beside s mode room)) (λ f h. g_then (g_any _ _) (g_return _ h)))
        (λ e. g_return _ (fine_nothing s mode room)))

  -- ---- ranges and reserved names
  range_gives : (item : ℕ → ℕ → Item) (max : ℕ) → leb max 2147483647 ≡ true → ((x n : ℕ) → RangeOk (record { from = x; to = n }) → PartGood s mode room (m.part (item x n) [])) → Gives (g.range item max) (Fine s mode room)
  unfolding g.range parts_of
  range_gives item max max_ok good =
      g_bind number_gives (λ from h. g_bind (g_accept _) (λ wide u.
      g_bind {P = λ to. leb to 2147483647 ≡ true} (g_if (λ e. g_choose _ _ (g_return _ max_ok, tt) number_gives) (λ e. g_return _ h))
      (λ to k. g_return _ (good from to (record { from-ok = h; to-ok = k }), tt))))

  pub reserved_gives : (max : ℕ) → leb max 2147483647 ≡ true → Gives (g.reserved max) (Fine s mode room)
  unfolding g.reserved parts_of
  reserved_gives max max_ok =
      g_bind {P = Fine s mode room} (g_due _ (λ t o q b l.
      (let h : Gives (given is_string t then g.separated g.comma ((λ w. one (Item.reserved_name w) nothing) <$> g.decoded_string) else g.separated g.comma (g.range Item.reserved_range max)) (Fine s mode room) =
      g_if (λ e. g_separated g.comma (Fine s mode room) (Fine s mode room) (g_map _ decoded_gives (λ w k. (k, tt))) (fine_nothing s mode room) (fine_beside s mode room) (fine_beside s mode room))
      (λ e. g_separated g.comma (Fine s mode room) (Fine s mode room) (range_gives Item.reserved_range max max_ok (λ x n k. k)) (fine_nothing s mode room) (fine_beside s mode room) (fine_beside s mode room))
      in h).gives (next t q b) (lawful-next t q b o l)))
      (λ f h. g_then (g_any _ _) (g_return _ h))

pub extensions_gives : (mode : g.Mode) (room : ℕ) → Gives g.extensions (Fine Proto2 mode room)
unfolding g.extensions
extensions_gives mode room =
    g_bind (g_separated g.comma (Fine Proto2 mode room) (Fine Proto2 mode room) (range_gives Proto2 mode room Item.extension_range 536870911 refl (λ x n k. (k, tt))) (fine_nothing Proto2 mode room) (fine_beside Proto2 mode room) (fine_beside Proto2 mode room))
    (λ f h. g_then (g_any _ _) (g_return _ h))
