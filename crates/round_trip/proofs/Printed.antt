-- What a good file is printed as are lawful tokens.
use Rattle.std.proofs.Common.{◌≡◌, ℕ, zero, suc, Bool, true, false, T, eqb, leb, List, [], ◌∷◌, ℤ, pos, negsuc, Some as some, None as none, Option, sym, refl, subst, arith}
use Prim.Native.String.{String}
use Rattle.token.specs.Token.{Bytes, Token}
use Rattle.grammar.specs.declared.kinds.Syntax.{Syntax}
use Rattle.grammar.specs.declared.kinds.Syntax.TheVariants.{Proto2, Proto3}
use Rattle.grammar.specs.declared.kinds.ImportVis.{ImportVis}
use Rattle.grammar.specs.declared.kinds.Rule.{Rule}
use Rattle.grammar.specs.declared.kinds.Scalar.{Scalar}
use Rattle.grammar.specs.Tree.{Key}
use Rattle.token.specs.Law.{well, Formed}
use Rattle.grammar.specs.Grammar as g
use Rattle.grammar.specs.Model.{Constant, Constants, no_constants, next_constant, Entries, no_entries, next_entry, NamePart, ProtoOption, FieldType, Field, Fields, no_fields, next_field, OneOf, Member, Range, Extension, EnumValue, Enumeration, Messages, no_messages, next_message, Method, Service, Import, FileDescriptor}
use Rattle.grammar.specs.Print as p
use Rattle.grammar.specs.Kinds.{scalar_word}
use Rattle.round_trip.proofs.PathAgain.{words}
use Rattle.round_trip.proofs.ConstantAgain.{WordOk, FullOk, relative, absolute, full_starts, KeyOk, Good, GoodList, GoodEntries}
use Rattle.round_trip.proofs.Again.{All}
use Rattle.round_trip.proofs.Canon.{Opens, NonEmpty, PartOk, OptionOk, RangeOk, TextOk, EndOk, NameOk, TypeOk, FieldOk, FieldsOk, OneofOk, MemberOk, ExtensionOk, NumberOk, ValueOk, EnumOk, ExtensibleOk, MessagesOk, StreamOk, MethodOk, ServiceOk, ImportOk, PackageOk, FileOk, no_group}
use Rattle.round_trip.proofs.Escapes.{at_most, is_at_most}

abbrev TokensOk : p.Tokens → Type 0
TokensOk ts = All (λ t. well t ≡ true) ts

-- a printer that keeps tokens lawful
abbrev Safe : p.Printer → Type 0
Safe pr = (ts : p.Tokens) → TokensOk ts → TokensOk (pr ts)

module _ {X : Type 0} (shown : X → p.Printer) (P : X → Type 0) (h : (x : X) → P x → Safe (shown x)) where
  all_safe : (xs : List X) → All P xs → Safe (p.all shown xs)
  all_safe [] ps ts k = k
  all_safe (x ∷ xs) ps ts k = h x ps.0 _ (all_safe xs ps.1 ts k)

  after_safe : (s : ℕ) → well (p.sign s) ≡ true → (xs : List X) → All P xs → Safe (p.all_after shown s xs)
  after_safe s e [] ps ts k = k
  after_safe s e (x ∷ xs) ps ts k = (e, h x ps.0 _ (after_safe s e xs ps.1 ts k))

  separated_safe : (s : ℕ) → well (p.sign s) ≡ true → (xs : List X) → All P xs → Safe (p.separated shown s xs)
  separated_safe s e [] ps ts k = k
  separated_safe s e (x ∷ xs) ps ts k = h x ps.0 _ (after_safe s e xs ps.1 ts k)

  listed_safe : (w : String) → well (p.word w) ≡ true → (xs : List X) → All P xs → Safe (p.listed shown w xs)
  listed_safe w e [] ps ts k = k
  listed_safe w e (x ∷ xs) ps ts k = (e, separated_safe g.comma refl (x ∷ xs) ps _ (refl, k))

number_safe : (n : ℕ) → leb n 2147483647 ≡ true → well (Token.number n) ≡ true
number_safe n h = is_at_most (suc n) 18446744073709551616 (let k = at_most n 2147483647 h in omega arith)

-- ---- paths
words_safe : (ws : List Bytes) → All WordOk ws → Safe (words ws)
unfolding words
words_safe [] hs ts k = k
words_safe ([] ∷ ws) hs ts k = (refl, words_safe ws hs.1 ts k)
words_safe ((c ∷ cs) ∷ ws) hs ts k = (refl, (hs.0, words_safe ws hs.1 ts k))

path_safe : {t : Bytes} → FullOk t → Safe (p.path t)
path_safe (relative h) ts k = subst TokensOk (sym (full_starts (relative h) ts)) (h.words-ok.0, words_safe h.others h.words-ok.1 ts k)
path_safe (absolute h) ts k = subst TokensOk (sym (full_starts (absolute h) ts)) (refl, (h.words-ok.0, words_safe h.others h.words-ok.1 ts k))

key_safe : (k : Key) → KeyOk k → Safe (p.key k)
key_safe (Key.plain n) h ts k = (h, k)
key_safe (Key.extension t) h ts k = (refl, path_safe h _ (refl, k))
key_safe (Key.any_type t u) h ts k = (refl, path_safe h.0 _ (refl, path_safe h.1 _ (refl, k)))

-- ---- constants
mutual
  unfolding p.constant p.list_items p.more_items p.entries

  constant_safe : (c : Constant) (room : ℕ) → Good c room → Safe (p.constant c)
  constant_safe (Constant.unsigned n) room h ts k = (h, k)
  constant_safe (Constant.minus n) room h ts k = (refl, (is_at_most (suc n) 18446744073709551616 (let l = at_most n 9223372036854775808 h in omega arith), k))
  constant_safe (Constant.float true t) room h ts k = (refl, (h, k))
  constant_safe (Constant.float false t) room h ts k = (h, k)
  constant_safe (Constant.truth true) room h ts k = (refl, k)
  constant_safe (Constant.truth false) room h ts k = (refl, k)
  constant_safe (Constant.path t) room h ts k = path_safe (relative h.0) ts k
  constant_safe (Constant.string t) room h ts k = (h, k)
  constant_safe (Constant.message es) zero h ts k = absurd h
  constant_safe (Constant.message es) (suc room) h ts k = (refl, entries_safe es room h _ (refl, k))
  constant_safe (Constant.list cs) zero h ts k = absurd h
  constant_safe (Constant.list cs) (suc room) h ts k = (refl, list_safe cs room h _ (refl, k))

  list_safe : (cs : Constants) (room : ℕ) → GoodList cs room → Safe (p.list_items cs)
  list_safe no_constants room h ts k = k
  list_safe (next_constant c cs) room h ts k = constant_safe c room h.0 _ (more_safe cs room h.1 ts k)

  more_safe : (cs : Constants) (room : ℕ) → GoodList cs room → Safe (p.more_items cs)
  more_safe no_constants room h ts k = k
  more_safe (next_constant c cs) room h ts k = (refl, constant_safe c room h.0 _ (more_safe cs room h.1 ts k))

  entries_safe : (es : Entries) (room : ℕ) → GoodEntries es room → Safe (p.entries es)
  entries_safe no_entries room h ts k = k
  entries_safe (next_entry x c es) room h ts k = key_safe x h.0 _ (refl, constant_safe c room h.1 _ (entries_safe es room h.2 ts k))

-- ---- options
part_safe : (x : NamePart) → PartOk x → Safe (p.option_part x)
part_safe (NamePart.direct n) h ts k = (h, k)
part_safe (NamePart.extension t) h ts k = (refl, path_safe h _ (refl, k))

name_safe : (ns : List NamePart) → NonEmpty PartOk ns → Safe (p.separated p.option_part g.dot ns)
name_safe [] h ts k = absurd h
name_safe (x ∷ xs) h ts k = separated_safe p.option_part PartOk part_safe g.dot refl (x ∷ xs) h ts k

module _ (room : ℕ) where
  option_safe : (o : ProtoOption) → OptionOk room o → Safe (p.option o)
  unfolding p.option
  option_safe o h ts k = name_safe o.name h.name-ok _ (refl, constant_safe o.value room h.value-ok ts k)

  option_statement_safe : (o : ProtoOption) → OptionOk room o → Safe (p.option_statement o)
  option_statement_safe o h ts k = (refl, option_safe o h _ (refl, k))

  bracketed_safe : (os : List ProtoOption) → All (OptionOk room) os → Safe (p.bracketed_options os)
  unfolding p.bracketed_options
  bracketed_safe [] h ts k = k
  bracketed_safe (o ∷ os) h ts k = (refl, separated_safe p.option (OptionOk room) option_safe g.comma refl (o ∷ os) h _ (refl, k))

  options_safe : (os : List ProtoOption) → All (OptionOk room) os → Safe (p.all p.option_statement os)
  options_safe = all_safe p.option_statement (OptionOk room) option_statement_safe

range_safe : (r : Range) → RangeOk r → Safe (p.range r)
range_safe r h ts k = go (eqb r.from r.to)
  where
    go : (b : Bool) → TokensOk ((let f : p.Printer = elim b [ true ↦ p.integer r.from | false ↦ p.◌·◌ (p.integer r.from) (p.◌·◌ (p.keyword "to") (p.integer r.to)) ] in f) ts)
    go true = (number_safe r.from h.from-ok, k)
    go false = (number_safe r.from h.from-ok, (refl, (number_safe r.to h.to-ok, k)))

reserved_safe : (rs : List Range) (ns : List Bytes) → All RangeOk rs → All TextOk ns → Safe (p.reserved rs ns)
reserved_safe rs ns h n ts k =
    listed_safe p.range RangeOk range_safe "reserved" refl rs h _ (listed_safe (λ x. p.say (p.quoted x)) TextOk (λ x e us i. (e.fits, i)) "reserved" refl ns n ts k)

-- ---- fields
label_safe : (r : Option Rule) → Safe (p.label r)
label_safe none ts k = k
label_safe (some Rule.Optional) ts k = (refl, k)
label_safe (some Rule.Repeated) ts k = (refl, k)
label_safe (some Rule.Required) ts k = (refl, k)

scalar_safe : (x : Scalar) → WordOk (scalar_word x)
scalar_safe Scalar.Int32 = refl
scalar_safe Scalar.Int64 = refl
scalar_safe Scalar.Uint32 = refl
scalar_safe Scalar.Uint64 = refl
scalar_safe Scalar.Sint32 = refl
scalar_safe Scalar.Sint64 = refl
scalar_safe Scalar.Bool = refl
scalar_safe Scalar.Fixed64 = refl
scalar_safe Scalar.Sfixed64 = refl
scalar_safe Scalar.Double = refl
scalar_safe Scalar.String = refl
scalar_safe Scalar.Bytes = refl
scalar_safe Scalar.Fixed32 = refl
scalar_safe Scalar.Sfixed32 = refl
scalar_safe Scalar.Float = refl

-- a group's name
abbrev GroupName : FieldType → Type 0
GroupName (FieldType.scalar x) = Unit {0}
GroupName (FieldType.named t) = Unit {0}
GroupName (FieldType.map_of k v) = Unit {0}
GroupName (FieldType.group w fs) = WordOk w

plain-name : (t : FieldType) → no_group t → GroupName t
plain-name (FieldType.scalar x) h = tt
plain-name (FieldType.named t) h = tt
plain-name (FieldType.map_of k v) h = tt
plain-name (FieldType.group w fs) h = absurd h

module _ (s : Syntax) where
  group_name : (t : FieldType) (n : Bytes) → NameOk s t n → GroupName t
  group_name (FieldType.scalar x) n h = tt
  group_name (FieldType.named t) n h = tt
  group_name (FieldType.map_of k v) n h = tt
  group_name (FieldType.group w fs) n h = h

  field_name_safe : (t : FieldType) (n : Bytes) → NameOk s t n → Safe (p.field_name t n)
  field_name_safe (FieldType.scalar x) n h ts k = (h, k)
  field_name_safe (FieldType.named x) n h ts k = (h, k)
  field_name_safe (FieldType.map_of c v) n h ts k = (h, k)
  field_name_safe (FieldType.group x fs) n h ts k = k

  mutual
    unfolding p.type p.field_end p.field p.fields

    type_safe : (t : FieldType) (room : ℕ) → TypeOk s t room → (n : Bytes) → GroupName t → Safe (p.type t)
    type_safe (FieldType.scalar x) room h n w ts k = (scalar_safe x, k)
    type_safe (FieldType.named x) room h n w ts k = path_safe h.0 ts k
    type_safe (FieldType.map_of c v) zero h n w ts k = absurd h
    type_safe (FieldType.map_of c v) (suc room) h n w ts k = (refl, (refl, type_safe c room h.0 n (plain-name c h.2) _ (refl, type_safe v room h.1 n (plain-name v h.3) _ (refl, k))))
    type_safe (FieldType.group x fs) room h n w ts k = (refl, (w, k))

    end_safe : (t : FieldType) (room : ℕ) → TypeOk s t room → (n : Bytes) (os : List ProtoOption) → EndOk s room t n os → Safe (p.field_end t os)
    end_safe (FieldType.scalar x) room h n os e ts k = bracketed_safe room os e _ (refl, k)
    end_safe (FieldType.named x) room h n os e ts k = bracketed_safe room os e _ (refl, k)
    end_safe (FieldType.map_of c v) room h n os e ts k = bracketed_safe room os e _ (refl, k)
    end_safe (FieldType.group x fs) zero h n os e ts k = absurd h
    end_safe (FieldType.group x fs) (suc room) h n os e ts k = (refl, fields_safe fs room h.1 _ (refl, k))

    field_safe : (f : Field) (mode : g.Mode) (room : ℕ) → FieldOk s f mode room → Safe (p.field f)
    field_safe (Field.field r t n number os place) mode room h ts k =
        label_safe r _ (type_safe t room h.0 n (group_name t n h.4) _ (field_name_safe t n h.4 _ (refl, (number_safe number h.3, end_safe t room h.0 n os h.2 ts k))))

    fields_safe : (fs : Fields) (room : ℕ) → FieldsOk s fs room → Safe (p.fields fs)
    fields_safe no_fields room h ts k = k
    fields_safe (next_field f fs) room h ts k = field_safe f g.Mode.message room h.0 _ (fields_safe fs room h.1 ts k)

  oneof_safe : (o : OneOf) (room : ℕ) → Opens (OneofOk s o) room → Safe (p.member (Member.oneof o))
  oneof_safe o zero h ts k = absurd h
  oneof_safe o (suc r) h ts k =
      (refl, (h.word_ok, (refl, options_safe r o.options h.options-ok _ (all_safe p.field (λ f. FieldOk s f g.Mode.oneof r) (λ f e. field_safe f g.Mode.oneof r e) o.fields h.fields-ok _ (refl, k)))))

  member_safe : (room : ℕ) (x : Member) → MemberOk s room x → Safe (p.member x)
  member_safe room (Member.field f) h ts k = field_safe f g.Mode.message room h ts k
  member_safe room (Member.oneof o) h ts k = oneof_safe o room h ts k

  extends_safe : (f : Field) (room : ℕ) → Opens (FieldOk s f g.Mode.extend) room → Safe (p.field f)
  extends_safe f zero h ts k = absurd h
  extends_safe f (suc r) h ts k = field_safe f g.Mode.extend r h ts k

  extension_safe : (room : ℕ) (e : Extension) → ExtensionOk s room e → Safe (p.extension e)
  extension_safe room e h ts k = (refl, path_safe h.extendee-ok _ (refl, extends_safe e.extends room h.extends-ok _ (refl, k)))

-- ---- enums
signed_safe : (n : ℤ) → NumberOk n → Safe (p.signed n)
signed_safe (pos n) h ts k = (number_safe n h, k)
signed_safe (negsuc n) h ts k = (refl, (is_at_most (suc (suc n)) 18446744073709551616 (let l = at_most (suc n) 2147483648 h in omega arith), k))

value_safe : (room : ℕ) (v : EnumValue) → ValueOk room v → Safe (p.enum_value v)
value_safe room v h ts k = (h.word_ok, (refl, signed_safe v.number h.number_ok _ (bracketed_safe room v.options h.options-ok _ (refl, k))))

enum_safe : (room : ℕ) (e : Enumeration) → EnumOk room e → Safe (p.enum e)
enum_safe room e h ts k =
    (refl, (h.word_ok, (refl, options_safe room e.options h.options-ok _ (reserved_safe e.numbers e.names h.numbers-ok h.names-ok _ (all_safe p.enum_value (ValueOk room) (value_safe room) e.values h.values-ok _ (refl, k))))))

-- ---- messages
extensible_safe : (s : Syntax) (rs : List Range) → ExtensibleOk s rs → Safe (p.listed p.range "extensions" rs)
extensible_safe Proto2 rs h ts k = listed_safe p.range RangeOk range_safe "extensions" refl rs h ts k
extensible_safe Proto3 [] h ts k = k
extensible_safe Proto3 (r ∷ rs) h ts k = absurd h

messages_safe : (s : Syntax) (ms : Messages) (room : ℕ) → MessagesOk s ms room → Safe (p.messages ms)
unfolding p.messages
messages_safe s no_messages room h ts k = k
messages_safe s (next_message n c place inner rest) zero h ts k = absurd h
messages_safe s (next_message n c place inner rest) (suc room) h ts k =
    let e = h.0 in (
      refl,
      (
        h.3,
        (
          refl,
          options_safe room c.options e.options-ok _ (
              reserved_safe c.numbers c.names e.numbers-ok e.names-ok _ (
              extensible_safe s c.extensible e.extensible-ok _ (
              all_safe p.member (MemberOk s room) (member_safe s room) c.members e.members-ok _ (
              messages_safe s inner room h.1 _ (
              all_safe p.enum (EnumOk room) (enum_safe room) c.enums e.enums-ok _ (
              all_safe p.extension (ExtensionOk s room) (extension_safe s room) c.extensions e.extensions-ok _
              (refl, messages_safe s rest (suc room) h.2 ts k))))))),
        ),
      ),
    )

-- ---- services
stream_safe : (b : Bool) (t : Bytes) → StreamOk b t → Safe (p.method_type b t)
stream_safe true t h ts k = (refl, (refl, path_safe h _ (refl, k)))
stream_safe false t h ts k = (refl, path_safe h.0 _ (refl, k))

method_end_safe : (room : ℕ) (os : List ProtoOption) → All (OptionOk room) os → Safe (p.method_end os)
method_end_safe room [] h ts k = (refl, k)
method_end_safe room (o ∷ os) h ts k = (refl, options_safe room (o ∷ os) h _ (refl, k))

method_safe : (room : ℕ) (m : Method) → MethodOk room m → Safe (p.method m)
method_safe room m h ts k = (refl, (h.word_ok, stream_safe m.from_client m.input h.input_ok _ (refl, stream_safe m.from_server m.output h.output-ok _ (method_end_safe room m.options h.options-ok ts k))))

service_safe : (room : ℕ) (v : Service) → ServiceOk room v → Safe (p.service v)
service_safe room v h ts k = (refl, (h.word_ok, (refl, options_safe room v.options h.options-ok _ (all_safe p.method (MethodOk room) (method_safe room) v.methods h.methods-ok _ (refl, k)))))

-- ---- files
visibility_safe : (v : ImportVis) → Safe (p.visibility v)
visibility_safe ImportVis.Default ts k = k
visibility_safe ImportVis.Weak ts k = (refl, k)
visibility_safe ImportVis.Public ts k = (refl, k)

import_safe : (i : Import) → ImportOk i → Safe (p.import i)
import_safe i h ts k = (refl, visibility_safe i.visibility _ (h.text-ok.fits, (refl, k)))

package_safe : (t : Bytes) → PackageOk t → Safe (p.package_statement t)
package_safe [] h ts k = k
package_safe (c ∷ cs) h ts k = (refl, path_safe (relative h.1) _ (refl, k))

syntax_safe : (s : Syntax) → well (Token.string (p.syntax_name s)) ≡ true
syntax_safe Proto2 = refl
syntax_safe Proto3 = refl

printed-well : (m : FileDescriptor) → FileOk m → TokensOk (p.print_tokens m)
unfolding p.file
printed-well m h = (
  refl,
  (
    refl,
    (
      syntax_safe m.syntax,
      (
        refl,
        all_safe p.import ImportOk import_safe m.imports h.imports-ok _ (
            package_safe m.package_path h.package_ok _ (
            options_safe 32 m.options h.options-ok _ (
            messages_safe m.syntax m.messages 32 h.messages-ok _ (
            all_safe p.enum (EnumOk 32) (enum_safe 32) m.enums h.enums-ok _ (
            all_safe p.extension (ExtensionOk m.syntax 32) (extension_safe m.syntax 32) m.extensions h.extensions-ok _ (
            all_safe p.service (ServiceOk 32) (service_safe 32) m.services h.services-ok [] tt)))))),
      ),
    ),
  ),
)

formed : (ts : p.Tokens) → TokensOk ts → Formed ts
formed [] h = tt
formed (t ∷ ts) h = (subst T (sym h.0) tt, formed ts h.1)

pub printed_formed : (m : FileDescriptor) → FileOk m → Formed (p.print_tokens m)
printed_formed m h = formed (p.print_tokens m) (printed-well m h)
