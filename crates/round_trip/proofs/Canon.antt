-- The files that are read again as they were.
use Rattle.std.proofs.Common.{◌≡◌, ℕ, zero, suc, Bool, true, false, leb, List, [], ◌∷◌, ◌++◌, map, ℤ, pos, negsuc, Some as some, None as none, codes, Option}
use Rattle.token.specs.Token.{Bytes, Token}
use Rattle.grammar.specs.declared.kinds.Syntax.{Syntax}
use Rattle.grammar.specs.declared.kinds.Syntax.TheVariants.{Proto2, Proto3}
use Rattle.grammar.specs.declared.kinds.Rule.{Rule}
use Rattle.grammar.specs.Decode.{utf8, path_refusal}
use Rattle.grammar.specs.Grammar as g
use Rattle.grammar.specs.Model.{NamePart, ProtoOption, FieldType, Field, Fields, no_fields, next_field, OneOf, Member, Range, Extension, EnumValue, Enumeration, Contents, Messages, no_messages, next_message, Method, Service, Import, FileDescriptor, lower}
use Rattle.grammar.specs.Print as p
use Rattle.token.specs.Law.{well}
unfoldable pub use Rattle.round_trip.specs.Canon.{part_tree, option_tree, range_tree, name_tree, kept_name, type_tree, field_tree, fields_tree, member_tree, extension_tree, value_tree, reserved_trees, enum_tree, contents_tree, messages_tree, method_tree, service_tree, import_tree, package_list, tree_of}
use Rattle.grammar.specs.Kinds.{scalar_word, scalars}
use Rattle.round_trip.proofs.ConstantAgain.{Good, WordOk, PathOk, FullOk}
use Rattle.round_trip.proofs.Again.{skips, All}

-- ---- what is read again as it was. A body is opened only where one more may be.
abbrev pub Opens : (ℕ → Type 0) → ℕ → Type 0
Opens P zero = ⊥
Opens P (suc room) = P room

abbrev pub NonEmpty : {X : Type 0} → (X → Type 0) → List X → Type 0
NonEmpty P [] = ⊥
NonEmpty P (x ∷ xs) = P x × All P xs

abbrev pub PartOk : NamePart → Type 0
PartOk (NamePart.direct n) = WordOk n
PartOk (NamePart.extension t) = FullOk t

pub record OptionOk (room : ℕ) (o : ProtoOption) : Type 0 where
  pub name-ok : NonEmpty PartOk o.name
  pub value-ok : Good o.value room

pub record RangeOk (r : Range) : Type 0 where
  pub from-ok : leb r.from 2147483647 ≡ true
  pub to-ok : leb r.to 2147483647 ≡ true

-- a decoded string that can be printed
pub record TextOk (n : Bytes) : Type 0 where
  pub is-utf8 : utf8 n ≡ true
  pub fits : well (p.quoted n) ≡ true

-- the first token that a path is printed as is none of these words
abbrev pub head_of : p.Tokens → Token
head_of [] = Token.symbol 0
head_of (t ∷ ts) = t

abbrev pub PathSkips : Bytes → List Bytes → Type 0
PathSkips t ws = skips (head_of (p.path t [])) ws ≡ true

abbrev pub group_word : List Bytes
group_word = codes "group" ∷ []

abbrev pub type_words : List Bytes
type_words = map scalar_word scalars ++ codes "map" ∷ []

abbrev pub statement_words : List Bytes
statement_words = g.message_words ++ codes "option" ∷ []

abbrev pub label_words : List Bytes
label_words = codes "map" ∷ codes "optional" ∷ codes "repeated" ∷ codes "required" ∷ []

abbrev pub no_group : FieldType → Type 0
no_group (FieldType.scalar s) = Unit {0}
no_group (FieldType.named t) = Unit {0}
no_group (FieldType.map_of k v) = Unit {0}
no_group (FieldType.group g fs) = ⊥

module _ (s : Syntax) where
  abbrev pub LabelOk : g.Mode → Option Rule → FieldType → Type 0
  LabelOk mode (some r) (FieldType.scalar x) = g.label_allowed s mode r ≡ true
  LabelOk mode (some r) (FieldType.named t) = (g.label_allowed s mode r ≡ true) × PathSkips t group_word
  LabelOk mode (some r) (FieldType.map_of k v) = g.label_allowed s mode r ≡ true
  LabelOk mode (some r) (FieldType.group n fs) = g.label_allowed s mode r ≡ true
  LabelOk mode none (FieldType.scalar x) = g.label_required s mode ≡ false
  LabelOk mode none (FieldType.named t) = (g.label_required s mode ≡ false) × PathSkips t statement_words × PathSkips t label_words × PathSkips t group_word
  LabelOk mode none (FieldType.map_of k v) = g.map_allowed mode ≡ true
  LabelOk mode none (FieldType.group n fs) = g.label_required s mode ≡ false

  abbrev pub EndOk : ℕ → FieldType → Bytes → List ProtoOption → Type 0
  EndOk room (FieldType.scalar x) n os = All (OptionOk room) os
  EndOk room (FieldType.named t) n os = All (OptionOk room) os
  EndOk room (FieldType.map_of k v) n os = All (OptionOk room) os
  EndOk room (FieldType.group g fs) n os = (n ≡ map lower g) × (os ≡ [])

  -- a group has no name but the type's
  abbrev pub NameOk : FieldType → Bytes → Type 0
  NameOk (FieldType.scalar x) n = WordOk n
  NameOk (FieldType.named t) n = WordOk n
  NameOk (FieldType.map_of k v) n = WordOk n
  NameOk (FieldType.group w fs) n = WordOk w

  abbrev mutual
    pub TypeOk : FieldType → ℕ → Type 0
    TypeOk (FieldType.scalar x) room = Unit {0}
    TypeOk (FieldType.named t) room = FullOk t × PathSkips t type_words
    TypeOk (FieldType.map_of k v) zero = ⊥
    TypeOk (FieldType.map_of k v) (suc room) = TypeOk k room × TypeOk v room × no_group k × no_group v
    TypeOk (FieldType.group n fs) zero = ⊥
    TypeOk (FieldType.group n fs) (suc room) = (g.capital n ≡ true) × FieldsOk fs room

    pub FieldOk : Field → g.Mode → ℕ → Type 0
    FieldOk (Field.field r t n k os place) mode room = TypeOk t room × LabelOk mode r t × EndOk room t n os × (leb k 2147483647 ≡ true) × NameOk t n

    pub FieldsOk : Fields → ℕ → Type 0
    FieldsOk no_fields room = Unit {0}
    FieldsOk (next_field f fs) room = FieldOk f g.Mode.message room × FieldsOk fs room

  pub record OneofOk (o : OneOf) (room : ℕ) : Type 0 where
    pub word_ok : WordOk o.name
    pub options-ok : All (OptionOk room) o.options
    pub fields-ok : All (λ f. FieldOk f g.Mode.oneof room) o.fields

  abbrev pub MemberOk : ℕ → Member → Type 0
  MemberOk room (Member.field f) = FieldOk f g.Mode.message room
  MemberOk room (Member.oneof o) = Opens (OneofOk o) room

  pub record ExtensionOk (room : ℕ) (e : Extension) : Type 0 where
    pub extendee-ok : FullOk e.extendee
    pub extends-ok : Opens (FieldOk e.extends g.Mode.extend) room

abbrev pub NumberOk : ℤ → Type 0
NumberOk (pos n) = leb n 2147483647 ≡ true
NumberOk (negsuc n) = leb (suc n) 2147483648 ≡ true

abbrev pub enum_words : List Bytes
enum_words = codes "reserved" ∷ codes "option" ∷ []

pub record ValueOk (room : ℕ) (v : EnumValue) : Type 0 where
  pub word_ok : WordOk v.name
  pub name-ok : skips (Token.ident v.name) enum_words ≡ true
  pub number_ok : NumberOk v.number
  pub options-ok : All (OptionOk room) v.options

pub record EnumOk (room : ℕ) (e : Enumeration) : Type 0 where
  pub word_ok : WordOk e.name
  pub options-ok : All (OptionOk room) e.options
  pub numbers-ok : All RangeOk e.numbers
  pub names-ok : All TextOk e.names
  pub values-ok : All (ValueOk room) e.values

-- no `extensions` in Proto3
abbrev pub ExtensibleOk : Syntax → List Range → Type 0
ExtensibleOk Proto2 rs = All RangeOk rs
ExtensibleOk Proto3 [] = Unit {0}
ExtensibleOk Proto3 (r ∷ rs) = ⊥

module _ (s : Syntax) where
  pub record ContentsOk (room : ℕ) (c : Contents) : Type 0 where
    pub options-ok : All (OptionOk room) c.options
    pub numbers-ok : All RangeOk c.numbers
    pub names-ok : All TextOk c.names
    pub extensible-ok : ExtensibleOk s c.extensible
    pub members-ok : All (MemberOk s room) c.members
    pub enums-ok : All (EnumOk room) c.enums
    pub extensions-ok : All (ExtensionOk s room) c.extensions

  abbrev pub MessagesOk : Messages → ℕ → Type 0
  MessagesOk no_messages room = Unit {0}
  MessagesOk (next_message n c place inner rest) zero = ⊥
  MessagesOk (next_message n c place inner rest) (suc room) = ContentsOk room c × MessagesOk inner room × MessagesOk rest (suc room) × WordOk n

abbrev pub StreamOk : Bool → Bytes → Type 0
StreamOk true t = FullOk t
StreamOk false t = FullOk t × PathSkips t (codes "stream" ∷ [])

pub record MethodOk (room : ℕ) (m : Method) : Type 0 where
  pub word_ok : WordOk m.name
  pub input_ok : StreamOk m.from_client m.input
  pub output-ok : StreamOk m.from_server m.output
  pub options-ok : All (OptionOk room) m.options

pub record ServiceOk (room : ℕ) (s : Service) : Type 0 where
  pub word_ok : WordOk s.name
  pub options-ok : All (OptionOk room) s.options
  pub methods-ok : All (MethodOk room) s.methods

pub record ImportOk (i : Import) : Type 0 where
  pub text-ok : TextOk i.path
  pub path-ok : path_refusal i.path ≡ none

abbrev pub PackageOk : Bytes → Type 0
PackageOk [] = Unit {0}
PackageOk (c ∷ cs) = (c ≡ g.dot) × PathOk cs

pub record FileOk (m : FileDescriptor) : Type 0 where
  pub imports-ok : All ImportOk m.imports
  pub package_ok : PackageOk m.package_path
  pub options-ok : All (OptionOk 32) m.options
  pub messages-ok : MessagesOk m.syntax m.messages 32
  pub enums-ok : All (EnumOk 32) m.enums
  pub extensions-ok : All (ExtensionOk m.syntax 32) m.extensions
  pub services-ok : All (ServiceOk 32) m.services
