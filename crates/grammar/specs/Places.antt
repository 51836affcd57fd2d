-- The messages, fields, oneofs, enums and services of a file in print order, their places, and find over them.
use Rattle.std.specs.Prelude.{ℕ, ◌+◌, true, false, List, [], ◌∷◌, ◌++◌, Some as some, None as none, Option, ◌==◌}
use Rattle.token.specs.declared.answer.Place.{Place}
use Rattle.token.specs.Token.{Bytes}
use Rattle.grammar.specs.Parse.{same}
use Rattle.grammar.specs.Kinds.{scalar_code}
use Rattle.grammar.specs.Model.{FieldType, Field, Fields, no_fields, next_field, Member, Extension, Enumeration, Messages, no_messages, next_message, Service, FileDescriptor}

-- what stands at a place: a message with its dotted name from the outermost message on, a field of the message last
-- named or of one of its oneofs, with its number and its type's, or anything else
pub data Spot : Type 0 where
  message : Bytes → Place → Spot
  member : ℕ → ℕ → Place → Spot
  apart : Place → Spot

-- 1 to 18, in the order of the field types
abbrev pub type_code : FieldType → ℕ
type_code (FieldType.scalar s) = scalar_code s
type_code (FieldType.named p) = 16
type_code (FieldType.map_of k v) = 17
type_code (FieldType.group n fs) = 18

-- ---- print order
unfoldable mutual
  -- the fields in a group
  pub inner_spots : FieldType → List Spot
  inner_spots (FieldType.scalar s) = []
  inner_spots (FieldType.named p) = []
  inner_spots (FieldType.map_of k v) = []
  inner_spots (FieldType.group n fs) = group_spots fs

  pub apart_spots : Field → List Spot
  apart_spots (Field.field r t n k os p) = apart p ∷ inner_spots t

  pub group_spots : Fields → List Spot
  group_spots no_fields = []
  group_spots (next_field f fs) = apart_spots f ++ group_spots fs

abbrev pub field_spots : Field → List Spot
field_spots (Field.field r t n k os p) = member k (type_code t) p ∷ inner_spots t

module _ {A : Type 0} (spots : A → List Spot) where
  abbrev pub all_spots : List A → List Spot
  all_spots [] = []
  all_spots (x ∷ xs) = spots x ++ all_spots xs

abbrev pub member_spots : Member → List Spot
member_spots (Member.field f) = field_spots f
member_spots (Member.oneof o) = apart o.place ∷ all_spots field_spots o.fields

abbrev pub enum_spots : Enumeration → List Spot
enum_spots e = apart e.place ∷ []

abbrev pub extension_spots : Extension → List Spot
extension_spots e = apart_spots e.extends

abbrev pub service_spots : Service → List Spot
service_spots s = apart s.place ∷ []

-- the messages of a list, whose outer messages' names, each with a dot, stand in front
unfoldable pub message_spots : Bytes → Messages → List Spot
message_spots outer no_messages = []
message_spots outer (next_message n c p inner rest) =
    message (outer ++ n) p
    ∷ all_spots member_spots c.members
    ++ message_spots (outer ++ n ++ 46 ∷ []) inner
    ++ all_spots enum_spots c.enums
    ++ all_spots extension_spots c.extensions
    ++ message_spots outer rest

unfoldable pub spots : FileDescriptor → List Spot
spots m =
    message_spots [] m.messages
    ++ all_spots enum_spots m.enums
    ++ all_spots extension_spots m.extensions
    ++ all_spots service_spots m.services

-- ---- places: line and column of each
abbrev pub place_of : Spot → Place
place_of (message n p) = p
place_of (member k c p) = p
place_of (apart p) = p

unfoldable pub pairs : List Spot → List ℕ
pairs [] = []
pairs (s ∷ ss) = (place_of s).line ∷ (place_of s).column ∷ pairs ss

abbrev pub places : FileDescriptor → List ℕ
places m = pairs (spots m)

-- ---- find
-- the first member of that number before the next message
unfoldable pub find_member : ℕ → ℕ → List Spot → Option (ℕ × ℕ)
find_member number i [] = none
find_member number i (message n p ∷ ss) = none
find_member number i (member k code p ∷ ss) = elim (k == number) [ true ↦ some (i, code) | false ↦ find_member number (i + 1) ss ]
find_member number i (apart p ∷ ss) = find_member number (i + 1) ss

-- the first message of that name
unfoldable pub find_message : Bytes → ℕ → ℕ → List Spot → Option (ℕ × ℕ)
find_message name number i [] = none
find_message name number i (message n p ∷ ss) = elim (same n name) [ true ↦ find_member number (i + 1) ss | false ↦ find_message name number (i + 1) ss ]
find_message name number i (member k code p ∷ ss) = find_message name number (i + 1) ss
find_message name number i (apart p ∷ ss) = find_message name number (i + 1) ss

abbrev pub find : FileDescriptor → Bytes → ℕ → Option (ℕ × ℕ)
find m name number = find_message name number 0 (spots m)

-- ---- all of this file, for a proof that computes
unfoldable pub opened : Unit {0}
unfolding inner_spots apart_spots group_spots message_spots spots pairs find_member find_message
opened = tt
