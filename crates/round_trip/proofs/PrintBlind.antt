-- Printing and finding are blind to places.
use Rattle.std.proofs.Common.{◌≡◌, ℕ, ◌+◌, true, false, eqb, List, [], ◌∷◌, ◌++◌, map, Some as some, Option, sym, refl, ap, ◌∙◌, ap₂}
use Rattle.token.specs.Token.{Bytes, nowhere, Token}
use Rattle.grammar.specs.Parse.{same}
use Rattle.grammar.specs.Grammar.{equals, comma, angle, angle_end}
use Rattle.grammar.specs.Model.{FieldType, Field, Fields, Member, Extension, Messages, ProtoOption, FileDescriptor}
use Rattle.grammar.specs.Erase.{type_erased, field_erased, fields_erased, member_erased, extension_erased, enum_erased, service_erased, messages_erased, erased}
use Rattle.grammar.specs.Print as printing
use Rattle.grammar.specs.Print.{Printer, ◌·◌, keyword, mark, integer, name, all, listed, body, label, option_statement, reserved, range}
use Rattle.grammar.specs.Places as finding
use Rattle.grammar.specs.Places.{Spot, all_spots, type_code}

name_blind : (t : FieldType) (n : Bytes) → printing.field_name (type_erased t) n ≡ printing.field_name t n
unfolding type_erased
name_blind (FieldType.scalar s) n = refl
name_blind (FieldType.named p) n = refl
name_blind (FieldType.map_of k v) n = refl
name_blind (FieldType.group g fs) n = refl

mutual
  unfolding printing.type printing.field_end printing.field printing.fields type_erased field_erased fields_erased

  type_blind : (t : FieldType) → printing.type (type_erased t) ≡ printing.type t
  type_blind (FieldType.scalar s) = refl
  type_blind (FieldType.named p) = refl
  type_blind (FieldType.map_of k v) = ap₂ (λ f g. keyword "map" · mark angle · f · mark comma · g · mark angle_end) (type_blind k) (type_blind v)
  type_blind (FieldType.group g fs) = refl

  end_blind : (t : FieldType) (os : List ProtoOption) → printing.field_end (type_erased t) os ≡ printing.field_end t os
  end_blind (FieldType.scalar s) os = refl
  end_blind (FieldType.named p) os = refl
  end_blind (FieldType.map_of k v) os = refl
  end_blind (FieldType.group g fs) os = ap body (fields_blind fs)

  field_blind : (f : Field) → printing.field (field_erased f) ≡ printing.field f
  field_blind (Field.field r t n k os p) = λ i. label r · type_blind t i · name_blind t n i · mark equals · integer k · end_blind t os i

  fields_blind : (fs : Fields) → printing.fields (fields_erased fs) ≡ printing.fields fs
  fields_blind Fields.no_fields = refl
  fields_blind (Fields.next_field f fs) = ap₂ ◌·◌ (field_blind f) (fields_blind fs)

all_blind : {A : Type 0} (shown : A → Printer) (e : A → A) → ((x : A) → shown (e x) ≡ shown x) → (xs : List A) → all shown (map e xs) ≡ all shown xs
all_blind shown e h [] = refl
all_blind shown e h (x ∷ xs) = ap₂ ◌·◌ (h x) (all_blind shown e h xs)

member_blind : (x : Member) → printing.member (member_erased x) ≡ printing.member x
member_blind (Member.field f) = field_blind f
member_blind (Member.oneof o) = ap (λ g. keyword "oneof" · name o.name · body (all option_statement o.options · g)) (all_blind printing.field field_erased field_blind o.fields)

extension_blind : (e : Extension) → printing.extension (extension_erased e) ≡ printing.extension e
extension_blind e = ap (λ f. keyword "extend" · printing.path e.extendee · body f) (field_blind e.extends)

messages_blind : (ms : Messages) → printing.messages (messages_erased ms) ≡ printing.messages ms
unfolding printing.messages messages_erased
messages_blind Messages.no_messages = refl
messages_blind (Messages.next_message n c p inner rest) = λ i.
    keyword "message" · name n · body (
    all option_statement c.options
    · reserved c.numbers c.names
    · listed range "extensions" c.extensible
    · all_blind printing.member member_erased member_blind c.members i
    · messages_blind inner i
    · all_blind printing.enum enum_erased (λ e. refl) c.enums i
    · all_blind printing.extension extension_erased extension_blind c.extensions i)
    · messages_blind rest i

file_blind : (m : FileDescriptor) → printing.file (erased m) ≡ printing.file m
unfolding printing.file erased
file_blind m = λ i.
    keyword "syntax" · mark equals · printing.say (Token.string (printing.syntax_name m.syntax)) · mark 59
    · all printing.import m.imports
    · printing.package_statement m.package_path
    · all option_statement m.options
    · messages_blind m.messages i
    · all_blind printing.enum enum_erased (λ e. refl) m.enums i
    · all_blind printing.extension extension_erased extension_blind m.extensions i
    · all_blind printing.service service_erased (λ s. refl) m.services i

pub print_blind : (m : FileDescriptor) → printing.print (erased m) ≡ printing.print m
print_blind m = ap (λ f. printing.tape (f [])) (file_blind m)

pub prints_no_place : (m n : FileDescriptor) → erased m ≡ erased n → printing.print m ≡ printing.print n
prints_no_place m n e = sym (print_blind m) ∙ ap printing.print e ∙ print_blind n

-- ---- find
abbrev spot_erased : Spot → Spot
spot_erased (Spot.message n p) = Spot.message n nowhere
spot_erased (Spot.member k c p) = Spot.member k c nowhere
spot_erased (Spot.apart p) = Spot.apart nowhere

abbrev bare_spots : List Spot → List Spot
bare_spots = map spot_erased

map-append : {A B : Type 0} (f : A → B) (xs ys : List A) → map f (xs ++ ys) ≡ map f xs ++ map f ys
map-append f [] ys = refl
map-append f (x ∷ xs) ys = ap (λ zs. f x ∷ zs) (map-append f xs ys)

code_blind : (t : FieldType) → type_code (type_erased t) ≡ type_code t
unfolding type_erased
code_blind (FieldType.scalar s) = refl
code_blind (FieldType.named p) = refl
code_blind (FieldType.map_of k v) = refl
code_blind (FieldType.group g fs) = refl

mutual
  unfolding finding.inner_spots finding.apart_spots finding.group_spots type_erased field_erased fields_erased

  inner_spots_blind : (t : FieldType) → finding.inner_spots (type_erased t) ≡ bare_spots (finding.inner_spots t)
  inner_spots_blind (FieldType.scalar s) = refl
  inner_spots_blind (FieldType.named p) = refl
  inner_spots_blind (FieldType.map_of k v) = refl
  inner_spots_blind (FieldType.group g fs) = group_spots_blind fs

  apart_spots_blind : (f : Field) → finding.apart_spots (field_erased f) ≡ bare_spots (finding.apart_spots f)
  apart_spots_blind (Field.field r t n k os p) = ap (λ ss. Spot.apart nowhere ∷ ss) (inner_spots_blind t)

  group_spots_blind : (fs : Fields) → finding.group_spots (fields_erased fs) ≡ bare_spots (finding.group_spots fs)
  group_spots_blind Fields.no_fields = refl
  group_spots_blind (Fields.next_field f fs) = ap₂ ◌++◌ (apart_spots_blind f) (group_spots_blind fs) ∙ sym (map-append spot_erased (finding.apart_spots f) (finding.group_spots fs))

field_spots_blind : (f : Field) → finding.field_spots (field_erased f) ≡ bare_spots (finding.field_spots f)
unfolding field_erased
field_spots_blind (Field.field r t n k os p) = ap₂ (λ c ss. Spot.member k c nowhere ∷ ss) (code_blind t) (inner_spots_blind t)

all_spots_blind : {A : Type 0} (spots : A → List Spot) (e : A → A) → ((x : A) → spots (e x) ≡ bare_spots (spots x)) → (xs : List A) → all_spots spots (map e xs) ≡ bare_spots (all_spots spots xs)
all_spots_blind spots e h [] = refl
all_spots_blind spots e h (x ∷ xs) = ap₂ ◌++◌ (h x) (all_spots_blind spots e h xs) ∙ sym (map-append spot_erased (spots x) (all_spots spots xs))

member_spots_blind : (x : Member) → finding.member_spots (member_erased x) ≡ bare_spots (finding.member_spots x)
member_spots_blind (Member.field f) = field_spots_blind f
member_spots_blind (Member.oneof o) = ap (λ ss. Spot.apart nowhere ∷ ss) (all_spots_blind finding.field_spots field_erased field_spots_blind o.fields)

bare-five : (a b c d e : List Spot) → bare_spots (a ++ b ++ c ++ d ++ e) ≡ bare_spots a ++ bare_spots b ++ bare_spots c ++ bare_spots d ++ bare_spots e
bare-five a b c d e = simp map-append

message_spots_blind : (outer : Bytes) (ms : Messages) → finding.message_spots outer (messages_erased ms) ≡ bare_spots (finding.message_spots outer ms)
unfolding finding.message_spots messages_erased
message_spots_blind outer Messages.no_messages = refl
message_spots_blind outer (Messages.next_message n c p inner rest) =
    (λ i.
    Spot.message (outer ++ n) nowhere
    ∷ all_spots_blind finding.member_spots member_erased member_spots_blind c.members i
    ++ message_spots_blind (outer ++ n ++ 46 ∷ []) inner i
    ++ all_spots_blind finding.enum_spots enum_erased (λ e. refl) c.enums i
    ++ all_spots_blind finding.extension_spots extension_erased (λ e. apart_spots_blind e.extends) c.extensions i
    ++ message_spots_blind outer rest i)
    ∙ sym (bare-five (Spot.message (outer ++ n) p ∷ all_spots finding.member_spots c.members) (finding.message_spots (outer ++ n ++ 46 ∷ []) inner) (all_spots finding.enum_spots c.enums) (all_spots finding.extension_spots c.extensions) (finding.message_spots outer rest))

spots_blind : (m : FileDescriptor) → finding.spots (erased m) ≡ bare_spots (finding.spots m)
unfolding finding.spots erased
spots_blind m =
    simp (
      map-append,
      message_spots_blind [] m.messages,
      all_spots_blind finding.enum_spots enum_erased (λ e. refl) m.enums,
      all_spots_blind finding.extension_spots extension_erased (λ e. apart_spots_blind e.extends) m.extensions,
      all_spots_blind finding.service_spots service_erased (λ s. refl) m.services,
    )

find_member_blind : (number i : ℕ) (ss : List Spot) → finding.find_member number i (bare_spots ss) ≡ finding.find_member number i ss
unfolding finding.find_member
find_member_blind number i [] = refl
find_member_blind number i (Spot.message n p ∷ ss) = refl
find_member_blind number i (Spot.member k c p ∷ ss) = ap (λ (o : Option (ℕ × ℕ)). elim (eqb k number) [ true ↦ some (i, c) | false ↦ o ]) (find_member_blind number (i + 1) ss)
find_member_blind number i (Spot.apart p ∷ ss) = find_member_blind number (i + 1) ss

find_message_blind : (w : Bytes) (number i : ℕ) (ss : List Spot) → finding.find_message w number i (bare_spots ss) ≡ finding.find_message w number i ss
unfolding finding.find_message
find_message_blind w number i [] = refl
find_message_blind w number i (Spot.message n p ∷ ss) = ap₂ (λ (x y : Option (ℕ × ℕ)). elim (same n w) [ true ↦ x | false ↦ y ]) (find_member_blind number (i + 1) ss) (find_message_blind w number (i + 1) ss)
find_message_blind w number i (Spot.member k c p ∷ ss) = find_message_blind w number (i + 1) ss
find_message_blind w number i (Spot.apart p ∷ ss) = find_message_blind w number (i + 1) ss

pub find_blind : (m : FileDescriptor) (w : Bytes) (number : ℕ) → finding.find (erased m) w number ≡ finding.find m w number
find_blind m w number = ap (finding.find_message w number 0) (spots_blind m) ∙ find_message_blind w number 0 (finding.spots m)
