-- How many words a file is printed as, by the records and the text of the tree that it is read as.
use Rattle.std.proofs.Common.{◌≡◌, ℕ, suc, ◌+◌, ◌*◌, ◌/◌, ◌≤◌, Bool, true, false, eqb, List, [], ◌∷◌, length, ℤ, pos, negsuc, Some as some, None as none, codes, Option, arith, length-append}
use Prim.Native.String.{String}
use Rattle.token.specs.Token.{Bytes, Token}
use Rattle.grammar.specs.declared.kinds.Syntax.{Syntax}
use Rattle.grammar.specs.declared.kinds.Syntax.TheVariants.{Proto2, Proto3}
use Rattle.grammar.specs.declared.kinds.ImportVis.{ImportVis}
use Rattle.grammar.specs.declared.kinds.Rule.{Rule}
use Rattle.grammar.specs.declared.kinds.Scalar.{Scalar}
use Rattle.grammar.specs.Tree.{Key, Item, Forest, nothing, node, records, text, lengths, item_text}
use Rattle.grammar.specs.Decode.{parts, longer}
use Rattle.grammar.specs.Kinds.{scalar_word}
use Rattle.grammar.specs.Grammar.{dot, equals, minus_sign}
use Rattle.grammar.specs.Model.{Constant, Constants, no_constants, next_constant, Entries, no_entries, next_entry, NamePart, ProtoOption, FieldType, Field, Fields, no_fields, next_field, Member, Range, Extension, EnumValue, Enumeration, Messages, no_messages, next_message, Method, Service, Import, FileDescriptor, model}
use Rattle.grammar.specs.Print as p
use Rattle.grammar.specs.Print.{Tokens, Printer, ◌·◌, silent, say, keyword, mark, name, integer, tape, token_words}
use Rattle.round_trip.specs.Canon.{constant_tree, constants_tree, entries_tree, part_tree, option_tree, range_tree, name_tree, kept_name, type_tree, field_tree, fields_tree, member_tree, extension_tree, value_tree, enum_tree, method_tree, service_tree, import_tree, package_list, tree_of}
use Rattle.round_trip.specs.Room.{PrintBound, PrintFits}
use Rattle.round_trip.proofs.Packing.{packed-length}
use Rattle.round_trip.proofs.Room.{size, total, total_messages, size_beside, size_adding, size_messages, messages-next, room_back}

-- ---- what a printer costs: so many words at most, and k less
abbrev words : Tokens → ℕ
words ts = length (tape ts)

record Costs (k : ℕ) (f : Printer) (n : ℕ) : Type 0 where
  within : (rest : Tokens) → k + words (f rest) ≤ n + words rest

infixr 40 ◌⊕◌
◌⊕◌ : {j k a b : ℕ} {f g : Printer} → Costs j f a → Costs k g b → Costs (j + k) (f · g) (a + b)
◌⊕◌ {g = g} x y = record { within = λ rest. omega (arith, x.within (g rest), y.within rest) }

at_most : {j k a b : ℕ} {f : Printer} → Costs j f a → k + a ≤ j + b → Costs k f b
at_most x h = record { within = λ rest. omega (arith, x.within rest) }

-- ---- tokens
say_costs : (t : Token) → Costs 0 (say t) (length (token_words t))
unfolding tape
say_costs t = record { within = λ rest. simp length-append (omega arith) }

mark_costs : (b : ℕ) → Costs 0 (mark b) 1
unfolding token_words
mark_costs b = say_costs (Token.symbol b)

integer_costs : (n : ℕ) → Costs 0 (integer n) 3
unfolding token_words
integer_costs n = say_costs (Token.number n)

name_costs : (n : Bytes) → Costs 0 (name n) (1 + (length n + 3) / 4)
unfolding token_words
name_costs n = at_most (say_costs (Token.ident n)) (omega (arith, packed-length n))

string_costs : (n : Bytes) → Costs 0 (say (Token.string n)) (1 + (length n + 3) / 4)
unfolding token_words
string_costs n = at_most (say_costs (Token.string n)) (omega (arith, packed-length n))

float_costs : (n : Bytes) → Costs 0 (say (Token.float n)) (1 + (length n + 3) / 4)
unfolding token_words
float_costs n = at_most (say_costs (Token.float n)) (omega (arith, packed-length n))

silent_costs : Costs 0 silent 0
silent_costs = record { within = λ rest. omega arith }

keyword_costs : (s : String) → Costs 0 (keyword s) (1 + (length (codes s) + 3) / 4)
keyword_costs s = name_costs (codes s)

escaped-length : (t : Bytes) → length (p.escaped t) ≤ 2 * length t
escaped-length [] = omega arith
escaped-length (c ∷ cs) = go (eqb c 92) (escaped-length cs)
  where
    go : (b : Bool) → length (p.escaped cs) ≤ 2 * length cs → length (elim b as (λ _. Bytes) [ true ↦ 92 ∷ 92 ∷ p.escaped cs | false ↦ c ∷ p.escaped cs ]) ≤ 2 * suc (length cs)
    go true h = omega arith
    go false h = omega arith

quoted_costs : (t : Bytes) → Costs 0 (say (p.quoted t)) (1 + length t)
quoted_costs t = at_most (string_costs (p.escaped t)) (omega (arith, escaped-length t))

-- ---- lists: each item costs 8 words less than it weighs
weight : Item → ℕ
weight i = 32 + 2 * item_text i

module _ {X : Type 0} (shown : X → Printer) (tree : X → Forest) (costs : (x : X) → Costs 8 (shown x) (size weight (tree x))) where
  all_costs : (xs : List X) → Costs 0 (p.all shown xs) (total weight tree xs)
  unfolding total
  all_costs [] = record { within = λ rest. omega arith }
  all_costs (x ∷ xs) = record { within = λ rest. omega (arith, (costs x).within (p.all shown xs rest), (all_costs xs).within rest) }

  after_costs : (s : ℕ) (xs : List X) → Costs 0 (p.all_after shown s xs) (total weight tree xs)
  unfolding total
  after_costs s [] = record { within = λ rest. omega arith }
  after_costs s (x ∷ xs) =
      record { within = λ rest. omega (arith, (mark_costs s).within (shown x (p.all_after shown s xs rest)), (costs x).within (p.all_after shown s xs rest), (after_costs s xs).within rest) }

  separated_costs : (s : ℕ) (xs : List X) → Costs 0 (p.separated shown s xs) (total weight tree xs)
  unfolding total
  separated_costs s [] = silent_costs
  separated_costs s (x ∷ xs) = at_most (costs x ⊕ after_costs s xs) (omega arith)

  listed_costs : (w : String) → length (codes w) ≤ 20 → (xs : List X) → Costs 0 (p.listed shown w xs) (total weight tree xs)
  unfolding total
  listed_costs w h [] = silent_costs
  listed_costs w h (x ∷ xs) = at_most (keyword_costs w ⊕ (costs x ⊕ after_costs _ xs) ⊕ mark_costs _) (omega arith)

-- ---- paths
abbrev parts_weight : List Bytes → ℕ
parts_weight [] = 0
parts_weight (w ∷ ws) = 1 + 2 * length w + parts_weight ws

longer-weight : (c : ℕ) (ws : List Bytes) → 1 ≤ parts_weight ws → parts_weight (longer c ws) ≡ 2 + parts_weight ws
longer-weight c [] h = omega arith
longer-weight c (w ∷ ws) h = omega arith

parts_weigh : (s : ℕ) (t : Bytes) → (1 ≤ parts_weight (parts s t)) × (parts_weight (parts s t) ≤ 1 + 2 * length t)
unfolding parts
parts_weigh s [] = omega arith
parts_weigh s (c ∷ cs) = go (eqb c s) (parts_weigh s cs)
  where
    go : (b : Bool) → (1 ≤ parts_weight (parts s cs)) × (parts_weight (parts s cs) ≤ 1 + 2 * length cs) →
        let ws : List Bytes = elim b [ true ↦ [] ∷ parts s cs | false ↦ longer c (parts s cs) ] in (1 ≤ parts_weight ws) × (parts_weight ws ≤ 1 + 2 * suc (length cs))
    go true h = omega arith
    go false h = let e = longer-weight c (parts s cs) h.0 in omega arith

after_dot_costs : (w : Bytes) → Costs 0 (p.after_dot w) (2 * length w)
after_dot_costs [] = silent_costs
after_dot_costs (c ∷ cs) = at_most (name_costs (c ∷ cs)) (omega arith)

dotted_costs : (ws : List Bytes) → Costs 0 (p.all_after p.after_dot dot ws) (parts_weight ws)
dotted_costs [] = record { within = λ rest. omega arith }
dotted_costs (w ∷ ws) =
    record { within = λ rest. omega (arith, (mark_costs dot).within (p.after_dot w (p.all_after p.after_dot dot ws rest)), (after_dot_costs w).within (p.all_after p.after_dot dot ws rest), (dotted_costs ws).within rest) }

path_costs : (t : Bytes) → Costs 0 (p.path t) (2 * length t)
unfolding p.path
path_costs t = go (parts dot t) (parts_weigh dot t)
  where
    go : (ws : List Bytes) → (1 ≤ parts_weight ws) × (parts_weight ws ≤ 1 + 2 * length t) → Costs 0 (p.separated p.after_dot dot ws) (2 * length t)
    go [] h = at_most silent_costs (omega arith)
    go (w ∷ ws) h = at_most (after_dot_costs w ⊕ dotted_costs ws) (omega arith)

-- ---- constants
key_costs : (k : Key) → Costs 8 (p.key k) (weight (Item.key k))
unfolding weight
key_costs (Key.plain n) = at_most (name_costs n) (omega arith)
key_costs (Key.extension t) = at_most (mark_costs _ ⊕ path_costs t ⊕ mark_costs _) (omega arith)
key_costs (Key.any_type t u) = at_most (mark_costs _ ⊕ path_costs t ⊕ mark_costs _ ⊕ path_costs u ⊕ mark_costs _) (omega arith)

truth_costs : (b : Bool) → Costs 0 (say (p.truth_word b)) 3
truth_costs true = at_most (keyword_costs "true") (omega arith)
truth_costs false = keyword_costs "false"

minus_costs : (b : Bool) → Costs 0 (p.when b (mark minus_sign)) 1
minus_costs true = mark_costs _
minus_costs false = at_most silent_costs (omega arith)

mutual
  unfolding p.constant p.list_items p.more_items p.entries constant_tree constants_tree entries_tree size weight

  constant_costs : (c : Constant) → Costs 8 (p.constant c) (size weight (constant_tree c))
  constant_costs (Constant.unsigned n) = at_most (integer_costs n) (omega arith)
  constant_costs (Constant.minus n) = at_most (mark_costs _ ⊕ integer_costs n) (omega arith)
  constant_costs (Constant.float negative t) = at_most (minus_costs negative ⊕ float_costs t) (omega arith)
  constant_costs (Constant.truth b) = at_most (truth_costs b) (omega arith)
  constant_costs (Constant.path t) = at_most (path_costs t) (omega arith)
  constant_costs (Constant.string t) = at_most (string_costs t) (omega arith)
  constant_costs (Constant.message es) = at_most (mark_costs _ ⊕ entries_cost es ⊕ mark_costs _) (omega arith)
  constant_costs (Constant.list cs) = at_most (mark_costs _ ⊕ list_costs cs ⊕ mark_costs _) (omega arith)

  list_costs : (cs : Constants) → Costs 0 (p.list_items cs) (size weight (constants_tree cs))
  list_costs no_constants = silent_costs
  list_costs (next_constant c cs) = at_most (constant_costs c ⊕ more_costs cs) (simp size_beside (omega arith))

  more_costs : (cs : Constants) → Costs 0 (p.more_items cs) (size weight (constants_tree cs))
  more_costs no_constants = silent_costs
  more_costs (next_constant c cs) = at_most (mark_costs _ ⊕ constant_costs c ⊕ more_costs cs) (simp size_beside (omega arith))

  entries_cost : (es : Entries) → Costs 0 (p.entries es) (size weight (entries_tree es))
  entries_cost no_entries = silent_costs
  entries_cost (next_entry k c es) = at_most (key_costs k ⊕ mark_costs _ ⊕ constant_costs c ⊕ entries_cost es) (omega arith)

-- ---- options
part_costs : (n : NamePart) → Costs 8 (p.option_part n) (size weight (part_tree n))
unfolding size weight
part_costs (NamePart.direct n) = at_most (name_costs n) (omega arith)
part_costs (NamePart.extension t) = at_most (mark_costs _ ⊕ path_costs t ⊕ mark_costs _) (omega arith)

option_costs : (o : ProtoOption) → Costs 16 (p.option o) (size weight (option_tree o))
unfolding p.option size weight
option_costs o = at_most (separated_costs _ part_tree part_costs _ o.name ⊕ mark_costs _ ⊕ constant_costs o.value) (simp (size_beside, size_adding) (omega arith))

statement_costs : (o : ProtoOption) → Costs 8 (p.option_statement o) (size weight (option_tree o))
statement_costs o = at_most (keyword_costs "option" ⊕ option_costs o ⊕ mark_costs _) (omega arith)

statements_cost : (os : List ProtoOption) → Costs 0 (p.all p.option_statement os) (total weight option_tree os)
statements_cost = all_costs _ option_tree statement_costs

bracketed_costs : (os : List ProtoOption) → Costs 0 (p.bracketed_options os) (2 + total weight option_tree os)
unfolding p.bracketed_options
bracketed_costs [] = at_most silent_costs (omega arith)
bracketed_costs (o ∷ os) = at_most (mark_costs _ ⊕ separated_costs _ option_tree (λ x. at_most (option_costs x) (omega arith)) _ (o ∷ os) ⊕ mark_costs _) (omega arith)

-- ---- ranges and reserved names
range_costs : (item : ℕ → ℕ → Item) → ((m n : ℕ) → weight (item m n) ≡ 32) → (r : Range) → Costs 8 (p.range r) (size weight (range_tree item r))
unfolding size
range_costs item e r = at_most (go (eqb r.from r.to)) (omega (arith, e r.from r.to))
  where
    go : (b : Bool) → Costs 0 (elim b [ true ↦ integer r.from | false ↦ integer r.from · keyword "to" · integer r.to ]) 8
    go true = at_most (integer_costs _) (omega arith)
    go false = integer_costs _ ⊕ keyword_costs "to" ⊕ integer_costs _

reserved_cost : (rs : List Range) (ns : List Bytes) → Costs 0 (p.reserved rs ns) (total weight (range_tree Item.reserved_range) rs + total weight name_tree ns)
unfolding size weight
reserved_cost rs ns =
    listed_costs _ _ (range_costs Item.reserved_range (λ m n. omega arith)) "reserved" (omega arith) rs
    ⊕ listed_costs _ name_tree (λ n. at_most (quoted_costs n) (omega arith)) "reserved" (omega arith) ns

extensible_costs : (rs : List Range) → Costs 0 (p.listed p.range "extensions" rs) (total weight (range_tree Item.extension_range) rs)
unfolding weight
extensible_costs = listed_costs _ _ (range_costs Item.extension_range (λ m n. omega arith)) "extensions" (omega arith)

-- ---- fields
scalar-length : (s : Scalar) → length (scalar_word s) ≤ 8
scalar-length Scalar.Int32 = omega arith
scalar-length Scalar.Int64 = omega arith
scalar-length Scalar.Uint32 = omega arith
scalar-length Scalar.Uint64 = omega arith
scalar-length Scalar.Sint32 = omega arith
scalar-length Scalar.Sint64 = omega arith
scalar-length Scalar.Bool = omega arith
scalar-length Scalar.Fixed64 = omega arith
scalar-length Scalar.Sfixed64 = omega arith
scalar-length Scalar.Double = omega arith
scalar-length Scalar.String = omega arith
scalar-length Scalar.Bytes = omega arith
scalar-length Scalar.Fixed32 = omega arith
scalar-length Scalar.Sfixed32 = omega arith
scalar-length Scalar.Float = omega arith

label_costs : (r : Option Rule) → Costs 0 (p.label r) 3
label_costs none = at_most silent_costs (omega arith)
label_costs (some Rule.Optional) = name_costs _
label_costs (some Rule.Repeated) = name_costs _
label_costs (some Rule.Required) = name_costs _

mutual
  unfolding p.type p.field_end p.field p.fields type_tree field_tree fields_tree size weight

  type_costs : (t : FieldType) → Costs 16 (p.type t) (size weight (type_tree t))
  type_costs (FieldType.scalar s) = at_most (name_costs (scalar_word s)) (omega (arith, scalar-length s))
  type_costs (FieldType.named t) = at_most (path_costs t) (omega arith)
  type_costs (FieldType.map_of k v) = at_most (keyword_costs "map" ⊕ mark_costs _ ⊕ type_costs k ⊕ mark_costs _ ⊕ type_costs v ⊕ mark_costs _) (simp size_beside (omega arith))
  type_costs (FieldType.group g fs) = at_most (keyword_costs "group" ⊕ name_costs g) (omega arith)

  -- a field from its type on
  typed_costs : (t : FieldType) (n : Bytes) (k : ℕ) (os : List ProtoOption) →
      Costs 0 (p.type t · p.field_name t n · mark equals · integer k · p.field_end t os) (size weight (type_tree t) + 2 * length (kept_name t n) + total weight option_tree os)
  typed_costs (FieldType.scalar s) n k os =
      at_most (name_costs (scalar_word s) ⊕ name_costs n ⊕ mark_costs _ ⊕ integer_costs k ⊕ bracketed_costs os ⊕ mark_costs _) (omega (arith, scalar-length s))
  typed_costs (FieldType.named t) n k os = at_most (path_costs t ⊕ name_costs n ⊕ mark_costs _ ⊕ integer_costs k ⊕ bracketed_costs os ⊕ mark_costs _) (omega arith)
  typed_costs (FieldType.map_of s t) n k os =
      at_most ((keyword_costs "map" ⊕ mark_costs _ ⊕ type_costs s ⊕ mark_costs _ ⊕ type_costs t ⊕ mark_costs _) ⊕ name_costs n ⊕ mark_costs _ ⊕ integer_costs k ⊕ bracketed_costs os ⊕ mark_costs _)
      (simp size_beside (omega arith))
  typed_costs (FieldType.group g fs) n k os =
      at_most ((keyword_costs "group" ⊕ name_costs g) ⊕ silent_costs ⊕ mark_costs _ ⊕ integer_costs k ⊕ (mark_costs _ ⊕ fields_cost fs ⊕ mark_costs _)) (omega arith)

  field_costs : (f : Field) → Costs 8 (p.field f) (size weight (field_tree f))
  field_costs (Field.field r t n k os place) = at_most (label_costs r ⊕ typed_costs t n k os) (simp (size_beside, size_adding) (omega arith))

  fields_cost : (fs : Fields) → Costs 0 (p.fields fs) (size weight (fields_tree fs))
  fields_cost no_fields = silent_costs
  fields_cost (next_field f fs) = at_most (field_costs f ⊕ fields_cost fs) (simp size_beside (omega arith))

member_costs : (x : Member) → Costs 8 (p.member x) (size weight (member_tree x))
unfolding size weight
member_costs (Member.field f) = field_costs f
member_costs (Member.oneof o) =
    at_most (keyword_costs "oneof" ⊕ name_costs o.name ⊕ mark_costs _ ⊕ (statements_cost o.options ⊕ all_costs _ field_tree field_costs o.fields) ⊕ mark_costs _)
    (simp size_adding (omega arith))

extension_costs : (e : Extension) → Costs 8 (p.extension e) (size weight (extension_tree e))
unfolding size weight
extension_costs e = at_most (keyword_costs "extend" ⊕ path_costs e.extendee ⊕ mark_costs _ ⊕ field_costs e.extends ⊕ mark_costs _) (omega arith)

-- ---- enums
signed_costs : (z : ℤ) → Costs 0 (p.signed z) 4
signed_costs (pos n) = at_most (integer_costs n) (omega arith)
signed_costs (negsuc n) = mark_costs _ ⊕ integer_costs (suc n)

value_costs : (v : EnumValue) → Costs 8 (p.enum_value v) (size weight (value_tree v))
unfolding size weight
value_costs v =
    at_most (name_costs v.name ⊕ mark_costs _ ⊕ signed_costs v.number ⊕ bracketed_costs v.options ⊕ mark_costs _) (simp size_adding (omega arith))

enum_costs : (e : Enumeration) → Costs 8 (p.enum e) (size weight (enum_tree e))
unfolding size weight
enum_costs e =
    at_most (keyword_costs "enum" ⊕ name_costs e.name ⊕ mark_costs _ ⊕ (statements_cost e.options ⊕ reserved_cost e.numbers e.names ⊕ all_costs _ value_tree value_costs e.values) ⊕ mark_costs _)
    (simp size_adding (omega arith))

-- ---- messages
messages_cost : (ms : Messages) → Costs 0 (p.messages ms) (total_messages weight ms)
unfolding p.messages size weight
messages_cost no_messages = at_most silent_costs (omega arith)
messages_cost (next_message n c place inner rest) =
    at_most ((keyword_costs "message" ⊕ name_costs n ⊕ (mark_costs _ ⊕ (
    statements_cost c.options
    ⊕ reserved_cost c.numbers c.names
    ⊕ extensible_costs c.extensible
    ⊕ all_costs _ member_tree member_costs c.members
    ⊕ messages_cost inner
    ⊕ all_costs _ enum_tree enum_costs c.enums
    ⊕ all_costs _ extension_tree extension_costs c.extensions) ⊕ mark_costs _)
    ⊕ messages_cost rest)) (simp (messages-next, size_adding, size_messages) (omega arith))

-- ---- services
method_end_costs : (os : List ProtoOption) → Costs 0 (p.method_end os) (2 + total weight option_tree os)
method_end_costs [] = at_most (mark_costs _) (omega arith)
method_end_costs (o ∷ os) = at_most (mark_costs _ ⊕ statements_cost (o ∷ os) ⊕ mark_costs _) (omega arith)

stream_costs : (b : Bool) → Costs 0 (p.when b (keyword "stream")) 3
stream_costs true = keyword_costs "stream"
stream_costs false = at_most silent_costs (omega arith)

method_type_costs : (b : Bool) (t : Bytes) → Costs 0 (p.method_type b t) (5 + 2 * length t)
method_type_costs b t = at_most (mark_costs _ ⊕ stream_costs b ⊕ path_costs t ⊕ mark_costs _) (omega arith)

method_costs : (m : Method) → Costs 8 (p.method m) (size weight (method_tree m))
unfolding size weight
method_costs m =
    at_most (keyword_costs "rpc" ⊕ name_costs m.name ⊕ method_type_costs m.from_client m.input ⊕ keyword_costs "returns" ⊕ method_type_costs m.from_server m.output ⊕ method_end_costs m.options)
    (simp size_adding (omega arith))

service_costs : (s : Service) → Costs 8 (p.service s) (size weight (service_tree s))
unfolding size weight
service_costs s =
    at_most (keyword_costs "service" ⊕ name_costs s.name ⊕ mark_costs _ ⊕ (statements_cost s.options ⊕ all_costs _ method_tree method_costs s.methods) ⊕ mark_costs _)
    (simp size_adding (omega arith))

-- ---- files
visibility_costs : (v : ImportVis) → Costs 0 (p.visibility v) 3
visibility_costs ImportVis.Default = at_most silent_costs (omega arith)
visibility_costs ImportVis.Weak = at_most (keyword_costs "weak") (omega arith)
visibility_costs ImportVis.Public = keyword_costs "public"

import_costs : (i : Import) → Costs 8 (p.import i) (size weight (import_tree i))
unfolding size weight
import_costs i = at_most (keyword_costs "import" ⊕ visibility_costs i.visibility ⊕ quoted_costs i.path ⊕ mark_costs _) (omega arith)

package_costs : (t : Bytes) → Costs 0 (p.package_statement t) (4 + 2 * lengths (package_list t))
unfolding lengths
package_costs [] = at_most silent_costs (omega arith)
package_costs (c ∷ cs) = at_most (keyword_costs "package" ⊕ path_costs cs ⊕ mark_costs _) (omega arith)

syntax_costs : (s : Syntax) → Costs 0 (say (Token.string (p.syntax_name s))) 3
syntax_costs Proto2 = string_costs _
syntax_costs Proto3 = string_costs _

file_costs : (m : FileDescriptor) → Costs 0 (p.file m) (12 + 2 * lengths (tree_of m).packages + size weight (tree_of m).items)
unfolding p.file tree_of size
file_costs m =
    at_most (keyword_costs "syntax" ⊕ mark_costs _ ⊕ syntax_costs m.syntax ⊕ mark_costs _
    ⊕ all_costs _ import_tree import_costs m.imports
    ⊕ package_costs m.package_path
    ⊕ statements_cost m.options
    ⊕ messages_cost m.messages
    ⊕ all_costs _ enum_tree enum_costs m.enums
    ⊕ all_costs _ extension_tree extension_costs m.extensions
    ⊕ all_costs _ service_tree service_costs m.services)
    (simp (size_adding, size_messages) (omega arith))

size_weight : (f : Forest) → size weight f ≡ 32 * records f + 2 * text f
unfolding size weight records text
size_weight nothing = omega arith
size_weight (node i p r) = let a = size_weight p in let b = size_weight r in omega arith

pub print_bound : PrintBound
unfolding tape
print_bound m = omega (arith, (file_costs m).within [], size_weight (tree_of m).items)

pub print-fits : PrintFits
print-fits t h r x = let k = room_back t h in omega (arith, print_bound (model t), k.no_more_records, k.no_more_text)
