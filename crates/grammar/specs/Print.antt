-- What a model is printed as: tokens, and the words of a tape.
use Rattle.std.specs.Prelude.{ℕ, suc, ◌+◌, ◌*◌, ◌/◌, ◌%◌, ◌^◌, Bool, true, false, List, [], ◌∷◌, ◌++◌, length, ℤ, pos, negsuc, Some as some, None as none, codes, Option, ◌==◌}
use Prim.Native.String.{String}
use Rattle.token.specs.Token.{Bytes, Token}
use Rattle.grammar.specs.declared.kinds.Syntax.{Syntax}
use Rattle.grammar.specs.declared.kinds.Syntax.TheVariants.{Proto2, Proto3}
use Rattle.grammar.specs.declared.kinds.ImportVis.{ImportVis}
use Rattle.grammar.specs.declared.kinds.Rule.{Rule}
use Rattle.grammar.specs.Tree.{Key}
use Rattle.grammar.specs.Decode.{parts}
use Rattle.grammar.specs.Kinds.{scalar_word, rule_word}
use Rattle.grammar.specs.Grammar.{semicolon, equals, comma, dot, colon, slash, minus_sign, brace, brace_end, bracket, bracket_end, paren, paren_end, angle, angle_end}
use Rattle.grammar.specs.Model.{Constant, Constants, no_constants, next_constant, Entries, no_entries, next_entry, NamePart, ProtoOption, FieldType, Field, Fields, no_fields, next_field, Member, Range, Extension, EnumValue, Enumeration, Messages, no_messages, next_message, Method, Service, Import, FileDescriptor}

abbrev pub Tokens : Type 0
Tokens = List Token

abbrev pub word : String → Token
word s = Token.ident (codes s)

abbrev pub sign : ℕ → Token
sign b = Token.symbol b

-- a text in which each backslash is doubled
abbrev pub escaped : Bytes → Bytes
escaped [] = []
escaped (c ∷ cs) = elim (c == 92) [ true ↦ 92 ∷ 92 ∷ escaped cs | false ↦ c ∷ escaped cs ]

abbrev pub quoted : Bytes → Token
quoted t = Token.string (escaped t)

-- ---- printers: what they print, in front of the tokens given
abbrev pub Printer : Type 0
Printer = Tokens → Tokens

infixr 40 ◌·◌
abbrev pub ◌·◌ : Printer → Printer → Printer
◌·◌ f g rest = f (g rest)

abbrev pub silent : Printer
silent rest = rest

abbrev pub say : Token → Printer
say t rest = t ∷ rest

abbrev pub keyword : String → Printer
keyword w = say (word w)

abbrev pub mark : ℕ → Printer
mark b = say (sign b)

abbrev pub name : Bytes → Printer
name n = say (Token.ident n)

abbrev pub integer : ℕ → Printer
integer n = say (Token.number n)

-- all of a list, one after another; with a separator before each; with one between two
module _ {A : Type 0} (shown : A → Printer) where
  abbrev pub all : List A → Printer
  all [] rest = rest
  all (x ∷ xs) rest = shown x (all xs rest)

  abbrev pub all_after : ℕ → List A → Printer
  all_after s [] rest = rest
  all_after s (x ∷ xs) rest = sign s ∷ shown x (all_after s xs rest)

  abbrev pub separated : ℕ → List A → Printer
  separated s [] = silent
  separated s (x ∷ xs) = shown x · all_after s xs

  -- a statement of a list, if it is not empty
  abbrev pub listed : String → List A → Printer
  listed w [] = silent
  listed w (x ∷ xs) = keyword w · separated comma (x ∷ xs) · mark semicolon

abbrev pub when : Bool → Printer → Printer
when true f = f
when false f = silent

abbrev pub body : Printer → Printer
body f = mark brace · f · mark brace_end

-- a path's identifiers with a dot between two, and one in front of an absolute path
abbrev pub after_dot : Bytes → Printer
after_dot [] = silent
after_dot (c ∷ cs) = name (c ∷ cs)

unfoldable pub path : Bytes → Printer
path t = separated after_dot dot (parts dot t)

-- ---- constants
abbrev pub key : Key → Printer
key (Key.plain n) = name n
key (Key.extension t) = mark bracket · path t · mark bracket_end
key (Key.any_type t u) = mark bracket · path t · mark slash · path u · mark bracket_end

abbrev pub truth_word : Bool → Token
truth_word true = word "true"
truth_word false = word "false"

unfoldable mutual
  pub constant : Constant → Printer
  constant (Constant.unsigned n) = integer n
  constant (Constant.minus n) = mark minus_sign · integer n
  constant (Constant.float negative t) = when negative (mark minus_sign) · say (Token.float t)
  constant (Constant.truth b) = say (truth_word b)
  constant (Constant.path t) = path t
  constant (Constant.string t) = say (Token.string t)
  constant (Constant.message es) = body (entries es)
  constant (Constant.list cs) = mark bracket · list_items cs · mark bracket_end

  pub list_items : Constants → Printer
  list_items no_constants = silent
  list_items (next_constant c cs) = constant c · more_items cs

  pub more_items : Constants → Printer
  more_items no_constants = silent
  more_items (next_constant c cs) = mark comma · constant c · more_items cs

  pub entries : Entries → Printer
  entries no_entries = silent
  entries (next_entry k c es) = key k · mark colon · constant c · entries es

-- ---- options
abbrev pub option_part : NamePart → Printer
option_part (NamePart.direct n) = name n
option_part (NamePart.extension t) = mark paren · path t · mark paren_end

unfoldable pub option : ProtoOption → Printer
option o = separated option_part dot o.name · mark equals · constant o.value

abbrev pub option_statement : ProtoOption → Printer
option_statement o = keyword "option" · option o · mark semicolon

unfoldable pub bracketed_options : List ProtoOption → Printer
bracketed_options [] = silent
bracketed_options (o ∷ os) = mark bracket · separated option comma (o ∷ os) · mark bracket_end

-- ---- ranges and reserved names
abbrev pub range : Range → Printer
range r = elim (r.from == r.to) [ true ↦ integer r.from | false ↦ integer r.from · keyword "to" · integer r.to ]

abbrev pub reserved : List Range → List Bytes → Printer
reserved numbers names = listed range "reserved" numbers · listed (λ n. say (quoted n)) "reserved" names

-- ---- fields
abbrev pub label : Option Rule → Printer
label none = silent
label (some r) = name (rule_word r)

-- a group has no name but the type's
abbrev pub field_name : FieldType → Bytes → Printer
field_name (FieldType.scalar s) n = name n
field_name (FieldType.named t) n = name n
field_name (FieldType.map_of k v) n = name n
field_name (FieldType.group g fs) n = silent

abbrev pub plain_end : List ProtoOption → Printer
plain_end os = bracketed_options os · mark semicolon

unfoldable mutual
  pub type : FieldType → Printer
  type (FieldType.scalar s) = name (scalar_word s)
  type (FieldType.named t) = path t
  type (FieldType.map_of k v) = keyword "map" · mark angle · type k · mark comma · type v · mark angle_end
  type (FieldType.group g fs) = keyword "group" · name g

  -- what stands after the number: a group's body, or options and a semicolon
  pub field_end : FieldType → List ProtoOption → Printer
  field_end (FieldType.scalar s) os = plain_end os
  field_end (FieldType.named t) os = plain_end os
  field_end (FieldType.map_of k v) os = plain_end os
  field_end (FieldType.group g fs) os = body (fields fs)

  pub field : Field → Printer
  field (Field.field rule t n number os place) = label rule · type t · field_name t n · mark equals · integer number · field_end t os

  pub fields : Fields → Printer
  fields no_fields = silent
  fields (next_field f fs) = field f · fields fs

abbrev pub member : Member → Printer
member (Member.field f) = field f
member (Member.oneof o) = keyword "oneof" · name o.name · body (all option_statement o.options · all field o.fields)

-- each extension has its own extend body
abbrev pub extension : Extension → Printer
extension e = keyword "extend" · path e.extendee · body (field e.extends)

-- ---- enums
abbrev pub signed : ℤ → Printer
signed (pos n) = integer n
signed (negsuc n) = mark minus_sign · integer (suc n)

abbrev pub enum_value : EnumValue → Printer
enum_value v = name v.name · mark equals · signed v.number · bracketed_options v.options · mark semicolon

abbrev pub enum : Enumeration → Printer
enum e = keyword "enum" · name e.name · body (all option_statement e.options · reserved e.numbers e.names · all enum_value e.values)

-- ---- messages
unfoldable pub messages : Messages → Printer
messages no_messages = silent
messages (next_message n c place inner rest) =
    keyword "message" · name n · body (
    all option_statement c.options
    · reserved c.numbers c.names
    · listed range "extensions" c.extensible
    · all member c.members
    · messages inner
    · all enum c.enums
    · all extension c.extensions)
    · messages rest

-- ---- services
abbrev pub method_end : List ProtoOption → Printer
method_end [] = mark semicolon
method_end (o ∷ os) = body (all option_statement (o ∷ os))

abbrev pub method_type : Bool → Bytes → Printer
method_type streams t = mark paren · when streams (keyword "stream") · path t · mark paren_end

abbrev pub method : Method → Printer
method m = keyword "rpc" · name m.name · method_type m.from_client m.input · keyword "returns" · method_type m.from_server m.output · method_end m.options

abbrev pub service : Service → Printer
service s = keyword "service" · name s.name · body (all option_statement s.options · all method s.methods)

-- ---- files
abbrev pub syntax_name : Syntax → Bytes
syntax_name Proto2 = codes "proto2"
syntax_name Proto3 = codes "proto3"

abbrev pub visibility : ImportVis → Printer
visibility ImportVis.Default = silent
visibility ImportVis.Weak = keyword "weak"
visibility ImportVis.Public = keyword "public"

abbrev pub import : Import → Printer
import i = keyword "import" · visibility i.visibility · say (quoted i.path) · mark semicolon

-- without the kept leading dot
abbrev pub package_statement : Bytes → Printer
package_statement [] = silent
package_statement (c ∷ cs) = keyword "package" · path cs · mark semicolon

unfoldable pub file : FileDescriptor → Printer
file m =
    keyword "syntax" · mark equals · say (Token.string (syntax_name m.syntax)) · mark semicolon
    · all import m.imports
    · package_statement m.package_path
    · all option_statement m.options
    · messages m.messages
    · all enum m.enums
    · all extension m.extensions
    · all service m.services

abbrev pub print_tokens : FileDescriptor → Tokens
print_tokens m = file m []

-- ---- the words of a tape
-- four bytes a word, the first in the lowest bits
unfoldable pub packed : Bytes → List ℕ
packed [] = []
packed (a ∷ []) = a ∷ []
packed (a ∷ b ∷ []) = (a + b * 256) ∷ []
packed (a ∷ b ∷ c ∷ []) = (a + b * 256 + c * 65536) ∷ []
packed (a ∷ b ∷ c ∷ d ∷ rest) = (a + b * 256 + c * 65536 + d * 16777216) ∷ packed rest

-- the kind stands in bits 31 to 29
abbrev pub head_word : ℕ → ℕ → ℕ
head_word kind low = kind * 2 ^ 29 + low

abbrev pub text_words : ℕ → Bytes → List ℕ
text_words kind t = head_word kind (length t) ∷ packed t

unfoldable pub token_words : Token → List ℕ
token_words (Token.symbol b) = head_word 1 b ∷ []
token_words (Token.number n) = head_word 2 0 ∷ (n % 2 ^ 32) ∷ (n / 2 ^ 32) ∷ []
token_words (Token.ident w) = text_words 3 w
token_words (Token.float w) = text_words 4 w
token_words (Token.string w) = text_words 5 w

unfoldable pub tape : Tokens → List ℕ
tape [] = 0 ∷ []
tape (t ∷ ts) = token_words t ++ tape ts

abbrev pub print : FileDescriptor → List ℕ
print m = tape (print_tokens m)

-- ---- all of this file, for a proof that computes
unfoldable pub opened : Unit {0}
unfolding path constant list_items more_items entries option bracketed_options type field_end field fields messages file packed token_words tape
opened = tt
