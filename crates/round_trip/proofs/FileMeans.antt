-- What the canonical tree of a file means: that file, with every place 0.
use Rattle.std.proofs.Common.{◌≡◌, ℕ, zero, suc, false, List, [], ◌∷◌, ◌++◌, map, sym, refl, ap, ◌∙◌, ap₂, append_assoc, append-nil}
use Rattle.token.specs.Token.{Bytes, nowhere}
use Rattle.grammar.specs.declared.kinds.Syntax.{Syntax}
use Rattle.grammar.specs.Tree.{Item, Forest, nothing, ◌beside◌}
use Rattle.grammar.specs.Grammar as g
use Rattle.grammar.specs.Model as m
use Rattle.grammar.specs.Model.{NamePart, ProtoOption, FieldType, Field, Fields, no_fields, next_field, OneOf, Member, Range, Extension, EnumValue, Enumeration, Contents, Messages, no_messages, next_message, Method, Service, Import, FileDescriptor, Part, parts_of, model}
use Rattle.grammar.specs.Erase.{type_erased, field_erased, fields_erased, oneof_erased, member_erased, extension_erased, enum_erased, service_erased, contents_erased, messages_erased, erased}
use Rattle.round_trip.proofs.ConstantAgain.{constant_tree}
use Rattle.round_trip.proofs.ConstantMeans.{parts_beside, constant-means}
use Rattle.round_trip.proofs.Again.{All, adding, trees, trees_beside}
use Rattle.round_trip.proofs.Canon.{part_tree, option_tree, range_tree, name_tree, kept_name, type_tree, field_tree, fields_tree, member_tree, extension_tree, value_tree, reserved_trees, enum_tree, contents_tree, messages_tree, method_tree, service_tree, import_tree, package_list, tree_of, FieldOk, FieldsOk, TypeOk, EndOk, OneofOk, MemberOk, Opens, ExtensionOk, ContentsOk, MessagesOk, FileOk}

-- ---- lists of trees
-- each x is read as one part
adding-parts : {X : Type 0} (tree : X → Forest) (meaning : X → Part) (P : X → Type 0) → ((x : X) → P x → parts_of (tree x) ≡ meaning x ∷ []) → (xs : List X) → All P xs → (y : Forest) →
    parts_of (adding ◌beside◌ tree xs y) ≡ map meaning xs ++ parts_of y
adding-parts tree meaning P h [] ps y = refl
adding-parts tree meaning P h (x ∷ xs) ps y =
    parts_beside (tree x) (adding ◌beside◌ tree xs y)
    ∙ ap (λ l. l ++ parts_of (adding ◌beside◌ tree xs y)) (h x ps.0)
    ∙ ap (λ l. meaning x ∷ l) (adding-parts tree meaning P h xs ps.1 y)

anything : {X : Type 0} (xs : List X) → All (λ (x : X). Unit {0}) xs
anything [] = tt
anything (x ∷ xs) = (tt, anything xs)

parts_all : {X : Type 0} (tree : X → Forest) (meaning : X → Part) → ((x : X) → parts_of (tree x) ≡ meaning x ∷ []) → (xs : List X) (y : Forest) → parts_of (adding ◌beside◌ tree xs y) ≡ map meaning xs ++ parts_of y
parts_all tree meaning h xs y = adding-parts tree meaning (λ x. Unit {0}) (λ x u. h x) xs (anything xs) y

-- ---- what is found among parts that were made from a list
abbrev flat : {X A : Type 0} → (X → List A) → List X → List A
flat h [] = []
flat h (x ∷ xs) = h x ++ flat h xs

module _ {A : Type 0} where
  found-append : (f : Part → List A) (ps qs : List Part) → m.found f (ps ++ qs) ≡ m.found f ps ++ m.found f qs
  found-append f [] qs = refl
  found-append f (q ∷ ps) qs = ap (λ l. f q ++ l) (found-append f ps qs) ∙ sym (append_assoc (f q) (m.found f ps) (m.found f qs))

  found_map : {X : Type 0} (f : Part → List A) (meaning : X → Part) (xs : List X) → m.found f (map meaning xs) ≡ flat (λ x. f (meaning x)) xs
  found_map f meaning [] = refl
  found_map f meaning (x ∷ xs) = ap (λ l. f (meaning x) ++ l) (found_map f meaning xs)

  flat_none : {X : Type 0} (xs : List X) → flat {A = A} (λ x. []) xs ≡ []
  flat_none [] = refl
  flat_none (x ∷ xs) = flat_none xs

  flat_each : {X : Type 0} (h : X → A) (xs : List X) → flat (λ x. h x ∷ []) xs ≡ map h xs
  flat_each h [] = refl
  flat_each h (x ∷ xs) = ap (λ l. h x ∷ l) (flat_each h xs)

  flat-same : (xs : List A) → flat (λ x. x ∷ []) xs ≡ xs
  flat-same [] = refl
  flat-same (x ∷ xs) = ap (λ l. x ∷ l) (flat-same xs)

ruleset finding = (found-append, found_map, flat_none, flat-same, flat_each, append-nil)

-- ---- options
abbrev option_part : ProtoOption → Part
option_part o = m.Part.held (m.Held.option o)

part-means : (x : NamePart) → parts_of (part_tree x) ≡ m.Part.piece (m.Piece.name_part x) ∷ []
unfolding parts_of
part-means (NamePart.direct n) = refl
part-means (NamePart.extension t) = refl

option_parts : (o : ProtoOption) → parts_of (trees part_tree o.name beside constant_tree o.value) ≡ map (λ x. m.Part.piece (m.Piece.name_part x)) o.name ++ m.Part.piece (m.Piece.constant o.value) ∷ []
option_parts o =
    ap parts_of (trees_beside part_tree o.name (constant_tree o.value))
    ∙ parts_all part_tree _ part-means o.name (constant_tree o.value)
    ∙ ap (λ l. map (λ x. m.Part.piece (m.Piece.name_part x)) o.name ++ l) (constant-means o.value)

pub name-found : (ns : List NamePart) (c : m.Constant) → m.name_parts (map (λ x. m.Part.piece (m.Piece.name_part x)) ns ++ m.Part.piece (m.Piece.constant c) ∷ []) ≡ ns
name-found ns c = simp finding

pub value_found : (ns : List NamePart) (c : m.Constant) → m.constants (map (λ x. m.Part.piece (m.Piece.name_part x)) ns ++ m.Part.piece (m.Piece.constant c) ∷ []) ≡ c ∷ []
value_found ns c = simp finding

option-means : (o : ProtoOption) → parts_of (option_tree o) ≡ option_part o ∷ []
unfolding parts_of
option-means o =
    ap (λ ps. option_part (record { name = m.name_parts ps; value = m.the_constant ps }) ∷ []) (option_parts o)
    ∙ ap₂ (λ n c. option_part (record { name = n; value = m.first_or (m.Constant.truth false) c }) ∷ []) (name-found o.name o.value) (value_found o.name o.value)

options_mean : (os : List ProtoOption) (y : Forest) → parts_of (adding ◌beside◌ option_tree os y) ≡ map option_part os ++ parts_of y
options_mean os y = parts_all option_tree option_part option-means os y

-- ---- fields
abbrev field_part : Field → Part
field_part f = m.Part.declared (m.Declared.field (field_erased f))

options-found : (os : List ProtoOption) → m.options (map option_part os ++ []) ≡ os
options-found os = simp finding

options-behind : (t : FieldType) (os : List ProtoOption) → m.options (m.Part.piece (m.Piece.type t) ∷ (map option_part os ++ [])) ≡ os
options-behind t os = options-found os

name-kept : (s : Syntax) (room : ℕ) (t : FieldType) (n : Bytes) (os : List ProtoOption) → EndOk s room t n os → m.field_name (type_erased t) (kept_name t n) ≡ n
unfolding type_erased
name-kept s room (FieldType.scalar x) n os h = refl
name-kept s room (FieldType.named x) n os h = refl
name-kept s room (FieldType.map_of k v) n os h = refl
name-kept s room (FieldType.group x fs) n os h = sym h.0

module _ (s : Syntax) where
  mutual
    unfolding parts_of type_tree field_tree fields_tree type_erased field_erased fields_erased

    type-means : (t : FieldType) (room : ℕ) → TypeOk s t room → parts_of (type_tree t) ≡ m.Part.piece (m.Piece.type (type_erased t)) ∷ []
    type-means (FieldType.scalar x) room h = refl
    type-means (FieldType.named x) room h = refl
    type-means (FieldType.map_of k v) zero h = absurd h
    type-means (FieldType.map_of k v) (suc room) h =
        ap (λ ps. m.Part.piece (m.Piece.type (m.type_pair (m.types ps))) ∷ []) (parts_beside (type_tree k) (type_tree v) ∙ ap₂ ◌++◌ (type-means k room h.0) (type-means v room h.1))
    type-means (FieldType.group x fs) zero h = absurd h
    type-means (FieldType.group x fs) (suc room) h = ap (λ l. m.Part.piece (m.Piece.type (FieldType.group x l)) ∷ []) (fields_mean fs room h.1)

    field-means : (f : Field) (mode : g.Mode) (room : ℕ) → FieldOk s f mode room → parts_of (field_tree f) ≡ field_part f ∷ []
    field-means (Field.field r t n k os place) mode room h =
        ap (λ ps. m.Part.declared (m.Declared.field (m.field_from r (kept_name t n) k nowhere ps)) ∷ [])
        (parts_beside (type_tree t) (trees option_tree os) ∙ ap₂ ◌++◌ (type-means t room h.0) (options_mean os nothing))
        ∙ ap₂ (λ x l. m.Part.declared (m.Declared.field (Field.field r (type_erased t) x k l nowhere)) ∷ []) (name-kept s room t n os h.2) (options-behind (type_erased t) os)

    fields_mean : (fs : Fields) (room : ℕ) → FieldsOk s fs room → m.all_fields (m.fields (parts_of (fields_tree fs))) ≡ fields_erased fs
    fields_mean no_fields room h = refl
    fields_mean (next_field f fs) room h =
        ap (λ ps. m.all_fields (m.fields ps)) (parts_beside (field_tree f) (fields_tree fs))
        ∙ ap (λ ps. m.all_fields (m.fields (ps ++ parts_of (fields_tree fs)))) (field-means f g.Mode.message room h.0)
        ∙ ap (next_field (field_erased f)) (fields_mean fs room h.1)

-- ---- ranges, names, enums
abbrev number_part : Range → Part
number_part r = m.Part.held (m.Held.reserved_range r)

abbrev name_part : Bytes → Part
name_part n = m.Part.held (m.Held.reserved_name n)

abbrev extensible_part : Range → Part
extensible_part r = m.Part.held (m.Held.extension_range r)

reserved_mean : (rs : List Range) (ns : List Bytes) (y : Forest) → parts_of (reserved_trees rs ns y) ≡ map number_part rs ++ (map name_part ns ++ parts_of y)
unfolding parts_of
reserved_mean rs ns y =
    parts_all (range_tree Item.reserved_range) number_part (λ r. refl) rs (adding ◌beside◌ name_tree ns y)
    ∙ ap (λ l. map number_part rs ++ l) (parts_all name_tree name_part (λ n. refl) ns y)

abbrev value_part : EnumValue → Part
value_part v = m.Part.other (m.Other.enum_value v)

value-means : (v : EnumValue) → parts_of (value_tree v) ≡ value_part v ∷ []
unfolding parts_of
value-means v = ap (λ l. value_part (record { name = v.name; number = v.number; options = l }) ∷ []) (ap m.options (options_mean v.options nothing) ∙ options-found v.options)

abbrev enum_part : Enumeration → Part
enum_part e = m.Part.declared (m.Declared.enum (enum_erased e))

-- the enum that parts make
abbrev enum_made : Bytes → List Part → Enumeration
enum_made n ps = record { name = n; options = m.options ps; numbers = m.reserved_ranges ps; names = m.reserved_names ps; values = m.enum_values ps; place = nowhere }

enum-found : (e : Enumeration) → enum_made e.name (map option_part e.options ++ (map number_part e.numbers ++ (map name_part e.names ++ (map value_part e.values ++ [])))) ≡ enum_erased e
enum-found e = simp finding

enum-means : (e : Enumeration) → parts_of (enum_tree e) ≡ enum_part e ∷ []
unfolding parts_of
enum-means e =
    ap (λ ps. m.Part.declared (m.Declared.enum (enum_made e.name ps)) ∷ [])
    (options_mean e.options _ ∙ ap (λ l. map option_part e.options ++ l) (reserved_mean e.numbers e.names _
    ∙ ap (λ l. map number_part e.numbers ++ (map name_part e.names ++ l)) (parts_all value_tree value_part value-means e.values nothing)))
    ∙ ap (λ x. m.Part.declared (m.Declared.enum x) ∷ []) (enum-found e)

-- ---- oneofs and extensions
abbrev member_declared : Member → m.Declared
member_declared (Member.field f) = m.Declared.field (field_erased f)
member_declared (Member.oneof o) = m.Declared.oneof (oneof_erased o)

abbrev member_part : Member → Part
member_part x = m.Part.declared (member_declared x)

abbrev oneof_made : Bytes → List Part → OneOf
oneof_made n ps = record { name = n; options = m.options ps; fields = m.fields ps; place = nowhere }

oneof-found : (o : OneOf) → oneof_made o.name (map option_part o.options ++ (map field_part o.fields ++ [])) ≡ oneof_erased o
oneof-found o = simp finding

abbrev extension_part : Extension → Part
extension_part e = m.Part.declared (m.Declared.extension (extension_erased e))

module _ (s : Syntax) (room : ℕ) where
  oneof-means : (o : OneOf) (r : ℕ) → Opens (OneofOk s o) r → parts_of (member_tree (Member.oneof o)) ≡ member_part (Member.oneof o) ∷ []
  unfolding parts_of
  oneof-means o zero h = absurd h
  oneof-means o (suc r) h =
      ap (λ ps. m.Part.declared (m.Declared.oneof (oneof_made o.name ps)) ∷ [])
      (options_mean o.options _ ∙ ap (λ l. map option_part o.options ++ l) (adding-parts field_tree field_part (λ f. FieldOk s f g.Mode.oneof r) (λ f k. field-means s f g.Mode.oneof r k) o.fields h.fields-ok nothing))
      ∙ ap (λ x. m.Part.declared (m.Declared.oneof x) ∷ []) (oneof-found o)

  member-means : (x : Member) → MemberOk s room x → parts_of (member_tree x) ≡ member_part x ∷ []
  member-means (Member.field f) h = field-means s f g.Mode.message room h
  member-means (Member.oneof o) h = oneof-means o room h

  extends-means : (e : Extension) (r : ℕ) → Opens (FieldOk s e.extends g.Mode.extend) r → parts_of (field_tree e.extends) ≡ field_part e.extends ∷ []
  extends-means e zero h = absurd h
  extends-means e (suc r) h = field-means s e.extends g.Mode.extend r h

  extension-means : (e : Extension) → ExtensionOk s room e → parts_of (extension_tree e) ≡ extension_part e ∷ []
  unfolding parts_of
  extension-means e h = ap (λ ps. m.Part.declared (m.Declared.extension (record { extendee = e.extendee; extends = m.the_field (m.fields ps) })) ∷ []) (extends-means e room h.extends-ok)

-- ---- messages
-- one message after another, each with what it has
record Said : Type 0 where
  name : Bytes
  contents : Contents
  inner : Messages

abbrev said_part : Said → Part
said_part q = m.Part.declared (m.Declared.message q.name q.contents nowhere q.inner)

abbrev said : Messages → List Said
said no_messages = []
said (next_message n c place inner rest) = record { name = n; contents = contents_erased c; inner = messages_erased inner } ∷ said rest

skip_messages : {X : Type 0} (f : X → Part) → ((x : X) (qs : List Part) → m.messages (f x ∷ qs) ≡ m.messages qs) → (xs : List X) (qs : List Part) → m.messages (map f xs ++ qs) ≡ m.messages qs
skip_messages f h [] qs = refl
skip_messages f h (x ∷ xs) qs = h x (map f xs ++ qs) ∙ skip_messages f h xs qs

said-messages : (ms : Messages) (qs : List Part) → m.messages qs ≡ no_messages → m.messages (map said_part (said ms) ++ qs) ≡ messages_erased ms
unfolding messages_erased
said-messages no_messages qs e = e
said-messages (next_message n c place inner rest) qs e = ap (next_message n (contents_erased c) nowhere (messages_erased inner)) (said-messages rest qs e)

-- what members are found as
members-found : (xs : List Member) → m.members (map member_part xs) ≡ map member_erased xs
members-found [] = refl
members-found (Member.field f ∷ xs) = ap (λ l. Member.field (field_erased f) ∷ l) (members-found xs)
members-found (Member.oneof o ∷ xs) = ap (λ l. Member.oneof (oneof_erased o) ∷ l) (members-found xs)

member-enums : (xs : List Member) → m.enums (map member_part xs) ≡ []
member-enums [] = refl
member-enums (Member.field f ∷ xs) = member-enums xs
member-enums (Member.oneof o ∷ xs) = member-enums xs

member-extensions : (xs : List Member) → m.extensions (map member_part xs) ≡ []
member-extensions [] = refl
member-extensions (Member.field f ∷ xs) = member-extensions xs
member-extensions (Member.oneof o ∷ xs) = member-extensions xs

member-skips : (x : Member) (qs : List Part) → m.messages (member_part x ∷ qs) ≡ m.messages qs
member-skips (Member.field f) qs = refl
member-skips (Member.oneof o) qs = refl

-- the parts of a message, in print order
abbrev contents_parts : Contents → Messages → List Part
contents_parts c inner =
    map option_part c.options ++ (map number_part c.numbers ++ (map name_part c.names ++ (map extensible_part c.extensible ++ (map member_part c.members
    ++ (map said_part (said inner) ++ (map enum_part c.enums ++ (map extension_part c.extensions ++ [])))))))

contents-found : (c : Contents) (inner : Messages) → m.contents (contents_parts c inner) ≡ contents_erased c
contents-found c inner = simp (found-append, members-found, member-enums, member-extensions, finding)

messages-found : (c : Contents) (inner : Messages) → m.messages (contents_parts c inner) ≡ messages_erased inner
messages-found c inner =
    skip_messages option_part (λ x qs. refl) c.options _
    ∙ skip_messages number_part (λ x qs. refl) c.numbers _
    ∙ skip_messages name_part (λ x qs. refl) c.names _
    ∙ skip_messages extensible_part (λ x qs. refl) c.extensible _
    ∙ skip_messages member_part member-skips c.members _
    ∙ said-messages inner _ (skip_messages enum_part (λ x qs. refl) c.enums _ ∙ skip_messages extension_part (λ x qs. refl) c.extensions [])

module _ (s : Syntax) where
  contents_mean : (room : ℕ) (c : Contents) → ContentsOk s room c → (inner : Messages) → ((y : Forest) → parts_of (messages_tree inner y) ≡ map said_part (said inner) ++ parts_of y) →
      parts_of (contents_tree c (messages_tree inner)) ≡ contents_parts c inner
  unfolding parts_of
  contents_mean room c h inner means =
      options_mean c.options _ ∙ ap (λ l. map option_part c.options ++ l) (
      reserved_mean c.numbers c.names _ ∙ ap (λ l. map number_part c.numbers ++ (map name_part c.names ++ l)) (
      parts_all (range_tree Item.extension_range) extensible_part (λ r. refl) c.extensible _ ∙ ap (λ l. map extensible_part c.extensible ++ l) (
      adding-parts member_tree member_part (MemberOk s room) (member-means s room) c.members h.members-ok _ ∙ ap (λ l. map member_part c.members ++ l) (
      means _ ∙ ap (λ l. map said_part (said inner) ++ l) (
      parts_all enum_tree enum_part enum-means c.enums _ ∙ ap (λ l. map enum_part c.enums ++ l) (
      adding-parts extension_tree extension_part (ExtensionOk s room) (extension-means s room) c.extensions h.extensions-ok nothing))))))

  messages_mean : (ms : Messages) (room : ℕ) → MessagesOk s ms room → (y : Forest) → parts_of (messages_tree ms y) ≡ map said_part (said ms) ++ parts_of y
  unfolding parts_of messages_tree
  messages_mean no_messages room h y = refl
  messages_mean (next_message n c place inner rest) zero h y = absurd h
  messages_mean (next_message n c place inner rest) (suc room) h y =
      ap₂ (λ ps l. m.Part.declared (m.Declared.message n (m.contents ps) nowhere (m.messages ps)) ∷ l)
      (contents_mean room c h.0 inner (messages_mean inner room h.1))
      (messages_mean rest (suc room) h.2 y)
      ∙ ap₂ (λ x ms. m.Part.declared (m.Declared.message n x nowhere ms) ∷ (map said_part (said rest) ++ parts_of y)) (contents-found c inner) (messages-found c inner)

-- ---- services
abbrev method_part : Method → Part
method_part x = m.Part.other (m.Other.method x)

method-means : (x : Method) → parts_of (method_tree x) ≡ method_part x ∷ []
unfolding parts_of
method-means x =
    ap (λ l. method_part (record { name = x.name; from_client = x.from_client; input = x.input; from_server = x.from_server; output = x.output; options = l }) ∷ []) (ap m.options (options_mean x.options nothing) ∙ options-found x.options)

abbrev service_part : Service → Part
service_part v = m.Part.other (m.Other.service (service_erased v))

abbrev service_made : Bytes → List Part → Service
service_made n ps = record { name = n; options = m.options ps; methods = m.methods ps; place = nowhere }

service-found : (v : Service) → service_made v.name (map option_part v.options ++ (map method_part v.methods ++ [])) ≡ service_erased v
service-found v = simp finding

service-means : (v : Service) → parts_of (service_tree v) ≡ service_part v ∷ []
unfolding parts_of
service-means v =
    ap (λ ps. m.Part.other (m.Other.service (service_made v.name ps)) ∷ [])
    (options_mean v.options _ ∙ ap (λ l. map option_part v.options ++ l) (parts_all method_tree method_part method-means v.methods nothing))
    ∙ ap (λ x. m.Part.other (m.Other.service x) ∷ []) (service-found v)

-- ---- files
abbrev import_part : Import → Part
import_part i = m.Part.other (m.Other.import i)

abbrev file_parts : FileDescriptor → List Part
file_parts d =
    map import_part d.imports ++ (map option_part d.options ++ (map said_part (said d.messages) ++ (map enum_part d.enums ++ (map extension_part d.extensions ++ (map service_part d.services ++ [])))))

package_last : (t : Bytes) → m.last_or [] (package_list t) ≡ t
package_last [] = refl
package_last (c ∷ cs) = refl

abbrev file_made : Syntax → Bytes → Messages → List Part → FileDescriptor
file_made s t ms ps = record { syntax = s; imports = m.imports ps; package_path = t; options = m.options ps; messages = ms; enums = m.enums ps; extensions = m.extensions ps; services = m.services ps }

file-found : (d : FileDescriptor) → file_made d.syntax d.package_path (messages_erased d.messages) (file_parts d) ≡ erased d
unfolding erased
file-found d = simp finding

file-messages : (d : FileDescriptor) → m.messages (file_parts d) ≡ messages_erased d.messages
file-messages d =
    skip_messages import_part (λ x qs. refl) d.imports _
    ∙ skip_messages option_part (λ x qs. refl) d.options _
    ∙ said-messages d.messages _ (skip_messages enum_part (λ x qs. refl) d.enums _ ∙ skip_messages extension_part (λ x qs. refl) d.extensions _ ∙ skip_messages service_part (λ x qs. refl) d.services [])

file_mean : (d : FileDescriptor) → FileOk d → parts_of (tree_of d).items ≡ file_parts d
unfolding parts_of tree_of
file_mean d h =
    parts_all import_tree import_part (λ i. refl) d.imports _ ∙ ap (λ l. map import_part d.imports ++ l) (
    options_mean d.options _ ∙ ap (λ l. map option_part d.options ++ l) (
    messages_mean d.syntax d.messages 32 h.messages-ok _ ∙ ap (λ l. map said_part (said d.messages) ++ l) (
    parts_all enum_tree enum_part enum-means d.enums _ ∙ ap (λ l. map enum_part d.enums ++ l) (
    adding-parts extension_tree extension_part (ExtensionOk d.syntax 32) (extension-means d.syntax 32) d.extensions h.extensions-ok _ ∙ ap (λ l. map extension_part d.extensions ++ l) (
    parts_all service_tree service_part service-means d.services nothing)))))

pub model_of_tree : (d : FileDescriptor) → FileOk d → model (tree_of d) ≡ erased d
unfolding model tree_of
model_of_tree d h =
    ap₂ (λ t ps. file_made d.syntax t (m.messages ps) ps) (package_last d.package_path) (file_mean d h)
    ∙ ap (λ ms. file_made d.syntax d.package_path ms (file_parts d)) (file-messages d)
    ∙ file-found d
