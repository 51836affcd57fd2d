-- The grammar of a description file, production by production, with the order of trials and the refusals of the reader.
-- Every bracket that counts for the depth of nesting is read by `nested`, so the depth is counted in one place:
-- a production takes `inner`, which reads a bracket one level deeper, and recurses through nothing else.
use Rattle.std.specs.Prelude.{ℕ, zero, suc, Bool, true, false, if◌then◌else◌, ◌||◌, List, [], ◌∷◌, ◌++◌, ℤ, pos, negsuc, Some as some, None as none, codes, Option, ◌==◌, nat_le}
use Rattle.token.specs.declared.answer.Place.{Place}
use Rattle.token.specs.Token.{Bytes, Token}
use Rattle.grammar.specs.Parse.{Parser, ◌>>=◌, ◌>>◌, ◌<$>◌, return, refuse, given◌then◌else◌, with_some, due, here, look, take, same}
use Rattle.grammar.specs.Parse.{is_symbol, is_string, ident_of, integer_of, accept, expect, next_is, next_is_word, symbol_if, word_if, symbol_due, ident_due, word_due, string_due, words_forbidden, choose, many, unless_next, after_next}
use Rattle.grammar.specs.declared.kinds.Syntax.{Syntax}
use Rattle.grammar.specs.declared.kinds.Syntax.TheVariants.{Proto2, Proto3}
use Rattle.grammar.specs.declared.kinds.ImportVis.{ImportVis}
use Rattle.grammar.specs.declared.kinds.Rule.{Rule}
use Rattle.grammar.specs.declared.kinds.Scalar.{Scalar}
use Rattle.grammar.specs.Tree.{Value, Key, Shape, Item, Forest, nothing, node, one, ◌beside◌, Tree}
use Rattle.token.specs.Law.{between}
use Rattle.grammar.specs.declared.fault.ParserError.TheVariants.{ExpectIdent, IncorrectInput, ExpectConstant, UnknownSyntax, IntegerOverflow, LabelNotAllowed, LabelRequired, GroupNameShouldStartWithUpperCase, MapFieldNotAllowed, StrLitDecodeError, OneOfInGroup, NestingTooDeep}
use Rattle.grammar.specs.Kinds.{rule_word, scalar_word, scalars}
use Rattle.grammar.specs.Decode.{decode, path_refusal}

-- ---- symbols
abbrev pub semicolon : ℕ
semicolon = 59

abbrev pub equals : ℕ
equals = 61

abbrev pub comma : ℕ
comma = 44

abbrev pub dot : ℕ
dot = 46

abbrev pub colon : ℕ
colon = 58

abbrev pub slash : ℕ
slash = 47

abbrev pub plus_sign : ℕ
plus_sign = 43

abbrev pub minus_sign : ℕ
minus_sign = 45

abbrev pub brace : ℕ
brace = 123

abbrev pub brace_end : ℕ
brace_end = 125

abbrev pub bracket : ℕ
bracket = 91

abbrev pub bracket_end : ℕ
bracket_end = 93

abbrev pub paren : ℕ
paren = 40

abbrev pub paren_end : ℕ
paren_end = 41

abbrev pub angle : ℕ
angle = 60

abbrev pub angle_end : ℕ
angle_end = 62

-- ---- what may nest: at most 32 of these are open
-- in which kind of body fields stand
pub data Mode : Type 0 where
  message oneof extend : Mode

pub data Bracket : Type 0 where
  message_constant list_constant map_type : Bracket
  body : Mode → Bracket

abbrev pub Inner : Type 0
Inner = Bracket → Parser Forest

-- { item }, and item { "," item }, side by side
abbrev pub forests_until : ℕ → Parser Forest → Parser Forest
forests_until s item = many ◌beside◌ nothing (unless_next s item)

unfoldable pub separated : ℕ → Parser Forest → Parser Forest
separated s item = do
  first ← item
  more ← many ◌beside◌ nothing (after_next s item)
  return (first beside more)

-- ---- names
-- ident { "." ident }
unfoldable pub dotted : Parser Bytes
dotted = do
  first ← ident_due
  more ← many ◌++◌ [] (after_next dot ((λ w. dot ∷ w) <$> ident_due))
  return (first ++ more)

-- [ "." ] ident { "." ident }
unfoldable pub full_ident : Parser Bytes
full_ident = do
  absolute ← symbol_if dot
  name ← dotted
  return (if absolute then dot ∷ name else name)

abbrev pub capital : Bytes → Bool
capital [] = false
capital (c ∷ cs) = between 65 90 c

-- a group's name is taken only if it begins with a capital letter
unfoldable pub group_name : Parser Bytes
group_name = due (λ t. with_some (ident_of t) (λ w. given capital w then (do take; return w) else refuse GroupNameShouldStartWithUpperCase) (refuse ExpectIdent))

-- ---- numbers
-- a field's number is taken only after its range is checked
unfoldable pub field_number : Parser ℕ
field_number = due (λ t. with_some (integer_of t) (λ n. given nat_le n 2147483647 then (do take; return n) else refuse IntegerOverflow) (refuse IncorrectInput))

abbrev pub negated : ℕ → ℤ
negated zero = pos zero
negated (suc n) = negsuc n

-- an enum's integer is taken before
unfoldable pub enum_number : Parser ℤ
enum_number = do
  negative ← symbol_if minus_sign
  n ← expect IncorrectInput integer_of
  given negative
      then (given nat_le n 2147483648 then return (negated n) else refuse IntegerOverflow)
      else (given nat_le n 2147483647 then return (pos n) else refuse IntegerOverflow)

-- ---- strings that are decoded
unfoldable pub decoded_string : Parser Bytes
decoded_string = do
  text ← string_due
  with_some (decode text) return (refuse StrLitDecodeError)

-- ---- constants
abbrev pub constant_of : Value → Parser Forest
constant_of v = return (one (Item.constant v) nothing)

-- a number after its sign
abbrev pub signed_value : Bool → Token → Option Value
signed_value negative (Token.symbol b) = none
signed_value negative (Token.number n) = some (if negative then Value.minus n else Value.unsigned n)
signed_value negative (Token.ident w) = none
signed_value negative (Token.float w) = some (Value.float negative w)
signed_value negative (Token.string w) = none

abbrev pub in_range : Value → Bool
in_range (Value.unsigned n) = true
in_range (Value.minus n) = nat_le n 9223372036854775808
in_range (Value.float negative t) = true
in_range (Value.truth b) = true
in_range (Value.path t) = true
in_range (Value.string t) = true
in_range Value.message = true
in_range Value.list = true

unfoldable pub signed_number : Bool → Parser Forest
signed_number negative = do
  v ← expect IncorrectInput (signed_value negative)
  given in_range v then constant_of v else refuse IntegerOverflow

-- constant = fullIdent | [ "-" | "+" ] intLit | [ "-" | "+" ] floatLit | strLit | boolLit | message | list
unfoldable pub constant_at : Inner → Token → Parser Forest
constant_at inner (Token.symbol b) =
    given b == brace then inner message_constant
    else given b == bracket then inner list_constant
    else given b == plus_sign then (do take; signed_number false)
    else given b == minus_sign then (do take; signed_number true)
    else refuse ExpectConstant
constant_at inner (Token.number n) = do take; constant_of (Value.unsigned n)
constant_at inner (Token.ident w) = choose ((codes "true", constant_of (Value.truth true)) ∷ (codes "false", constant_of (Value.truth false)) ∷ []) (do p ← full_ident; constant_of (Value.path p))
constant_at inner (Token.float w) = do take; constant_of (Value.float false w)
constant_at inner (Token.string w) = do take; constant_of (Value.string w)

abbrev pub constant : Inner → Parser Forest
constant inner = due (constant_at inner)

-- keyEnd = [ "/" fullIdent ] "]"
unfoldable pub key_end : Bytes → Parser Key
key_end name = do
  any ← symbol_if slash
  given any
      then (do type ← full_ident; symbol_due bracket_end; return (Key.any_type name type))
      else (do symbol_due bracket_end; return (Key.extension name))

-- key = ident | "[" fullIdent keyEnd
unfoldable pub key : Parser Key
key = do
  bracketed ← symbol_if bracket
  given bracketed then (full_ident >>= key_end) else (Key.plain <$> ident_due)

-- entry = key ( ":" constant | message ) [ "," | ";" ]
unfoldable pub entry : Inner → Parser Forest
entry inner = do
  k ← key
  any_constant ← symbol_if colon
  value ← (given any_constant then constant inner else inner message_constant)
  accept (λ t. is_symbol comma t || is_symbol semicolon t)
  return (one (Item.key k) value)

-- [ constant { "," constant } ] "]"
unfoldable pub list_items : Inner → Parser Forest
list_items inner = do
  empty ← symbol_if bracket_end
  given empty
      then return nothing
      else (do
        items ← separated comma (constant inner)
        symbol_due bracket_end
        return items)

-- ---- options
-- part = ident | "(" fullIdent ")"
unfoldable pub option_part : Parser Forest
option_part = do
  extended ← symbol_if paren
  given extended
      then (do
        name ← full_ident
        symbol_due paren_end
        return (one (Item.extension_part name) nothing))
      else ((λ name. one (Item.direct_part name) nothing) <$> ident_due)

-- option = part { "." part } "=" constant
unfoldable pub option : Inner → Parser Forest
option inner = do
  name ← separated dot option_part
  symbol_due equals
  value ← constant inner
  return (one Item.option (name beside value))

-- optionStatement = "option" option ";"
unfoldable pub option_statement : Inner → Parser Forest
option_statement inner = do
  o ← option inner
  symbol_due semicolon
  return o

-- [ "[" option { "," option } "]" ]
unfoldable pub bracketed_options : Inner → Parser Forest
bracketed_options inner = do
  some_stand ← symbol_if bracket
  given some_stand
      then (do
        options ← separated comma (option inner)
        symbol_due bracket_end
        return options)
      else return nothing

-- ---- ranges and reserved
-- range = intLit [ "to" ( intLit | "max" ) ]
unfoldable pub range : (ℕ → ℕ → Item) → ℕ → Parser Forest
range item max = do
  from ← field_number
  wide ← word_if (codes "to")
  to ← (given wide then choose ((codes "max", return max) ∷ []) field_number else return from)
  return (one (item from to) nothing)

-- extensions = "extensions" range { "," range } ";"
unfoldable pub extensions : Parser Forest
extensions = do
  ranges ← separated comma (range Item.extension_range 536870911)
  symbol_due semicolon
  return ranges

-- reserved = "reserved" ( range { "," range } | strLit { "," strLit } ) ";"
unfoldable pub reserved : ℕ → Parser Forest
reserved max = do
  kept ← due (λ t.
      given is_string t
      then separated comma ((λ w. one (Item.reserved_name w) nothing) <$> decoded_string)
      else separated comma (range Item.reserved_range max))
  symbol_due semicolon
  return kept

-- ---- fields
abbrev pub type_of : Shape → Parser Forest
type_of s = return (one (Item.type s) nothing)

unfoldable pub scalar_or : List Scalar → Parser Forest → Parser Forest
scalar_or [] other a = other a
scalar_or (s ∷ ss) other a = (do it_is ← word_if (scalar_word s); given it_is then type_of (Shape.scalar s) else scalar_or ss other) a

-- type = scalar | "map" mapType | fullIdent
unfoldable pub type : Inner → Parser Forest
type inner = scalar_or scalars (choose ((codes "map", inner map_type) ∷ []) (do name ← full_ident; type_of (Shape.named name)))

-- no label stands in a oneof, and none is required in Proto3
abbrev pub label_allowed : Syntax → Mode → Rule → Bool
label_allowed s oneof r = false
label_allowed s message Rule.Optional = true
label_allowed s message Rule.Repeated = true
label_allowed Proto2 message Rule.Required = true
label_allowed Proto3 message Rule.Required = false
label_allowed s extend Rule.Optional = true
label_allowed s extend Rule.Repeated = true
label_allowed Proto2 extend Rule.Required = true
label_allowed Proto3 extend Rule.Required = false

abbrev pub label_required : Syntax → Mode → Bool
label_required Proto2 message = true
label_required Proto2 oneof = false
label_required Proto2 extend = true
label_required Proto3 message = false
label_required Proto3 oneof = false
label_required Proto3 extend = false

abbrev pub map_allowed : Mode → Bool
map_allowed message = true
map_allowed oneof = false
map_allowed extend = true

-- label = "optional" | "repeated" | "required", not taken where it is not allowed
unfoldable pub label_in : Syntax → Mode → List Rule → Parser (Option Rule)
label_in s mode [] a = (given label_required s mode then refuse LabelRequired else return none) a
label_in s mode (r ∷ rs) a =
    (do
      it_is ← next_is_word (rule_word r)
      given it_is
          then (given label_allowed s mode r then (do take; return (some r)) else refuse LabelNotAllowed)
          else label_in s mode rs) a

unfoldable pub label : Syntax → Mode → Parser (Option Rule)
label s mode = do
  map_comes ← next_is_word (codes "map")
  given map_comes
      then (given map_allowed mode then return none else refuse MapFieldNotAllowed)
      else label_in s mode (Rule.Optional ∷ Rule.Repeated ∷ Rule.Required ∷ [])

abbrev pub is_oneof : Item → Bool
is_oneof (Item.import v p) = false
is_oneof Item.option = false
is_oneof (Item.direct_part n) = false
is_oneof (Item.extension_part p) = false
is_oneof (Item.constant v) = false
is_oneof (Item.key k) = false
is_oneof (Item.reserved_range m n) = false
is_oneof (Item.extension_range m n) = false
is_oneof (Item.reserved_name n) = false
is_oneof (Item.message n p) = false
is_oneof (Item.field r n k p) = false
is_oneof (Item.type s) = false
is_oneof (Item.oneof n p) = true
is_oneof (Item.extension p) = false
is_oneof (Item.enum n p) = false
is_oneof (Item.enum_value n k) = false
is_oneof (Item.service n p) = false
is_oneof (Item.method n ci i co o) = false

abbrev pub has_oneof : Forest → Bool
has_oneof nothing = false
has_oneof (node item parts rest) = is_oneof item || has_oneof rest

-- group = label "group" groupName "=" fieldNumber messageBody
unfoldable pub group : Inner → Option Rule → Place → Parser Forest
group inner rule place = do
  name ← group_name
  symbol_due equals
  number ← field_number
  parts ← inner (body message)
  given has_oneof parts
      then refuse OneOfInGroup
      else return (one (Item.field rule [] number place) (one (Item.type (Shape.group name)) parts))

unfoldable pub plain_field : Inner → Option Rule → Place → Parser Forest
plain_field inner rule place = do
  t ← type inner
  name ← ident_due
  symbol_due equals
  number ← field_number
  options ← bracketed_options inner
  symbol_due semicolon
  return (one (Item.field rule name number place) (t beside options))

-- field = label type fieldName "=" fieldNumber [ "[" options "]" ] ";"
unfoldable pub field : Syntax → Inner → Mode → Parser Forest
field s inner mode = do
  place ← here
  rule ← label s mode
  choose ((codes "group", group inner rule place) ∷ []) (plain_field inner rule place)

-- ---- enums
unfoldable pub enum_value : Inner → Parser Forest
enum_value inner = do
  name ← ident_due
  symbol_due equals
  number ← enum_number
  options ← bracketed_options inner
  symbol_due semicolon
  return (one (Item.enum_value name number) options)

unfoldable pub enum_statement : Inner → Parser Forest
enum_statement inner = do
  empty ← symbol_if semicolon
  given empty
      then return nothing
      else choose ((codes "reserved", reserved 2147483647) ∷ (codes "option", option_statement inner) ∷ []) (enum_value inner)

-- enum = "enum" enumName "{" { enumStatement } "}"
unfoldable pub enum : Inner → Place → Parser Forest
enum inner place = do
  name ← ident_due
  symbol_due brace
  parts ← forests_until brace_end (enum_statement inner)
  symbol_due brace_end
  return (one (Item.enum name place) parts)

-- ---- messages
abbrev pub extensions_of : Bytes → Forest → Forest
extensions_of extendee nothing = nothing
extensions_of extendee (node item parts rest) = node (Item.extension extendee) (one item parts) (extensions_of extendee rest)

-- extend = "extend" messageType extendBody: an extension for each field
unfoldable pub extend_fields : Inner → Parser Forest
extend_fields inner = do
  extendee ← full_ident
  fields ← inner (body extend)
  return (extensions_of extendee fields)

unfoldable pub named_body : Inner → Mode → (Bytes → Item) → Parser Forest
named_body inner mode item = do
  name ← ident_due
  parts ← inner (body mode)
  return (one (item name) parts)

abbrev pub message_declarations : Inner → Place → List (Bytes × Parser Forest)
message_declarations inner place =
    (codes "reserved", reserved 536870911)
    ∷ (codes "oneof", named_body inner oneof (λ name. Item.oneof name place))
    ∷ (codes "extend", extend_fields inner)
    ∷ (codes "message", named_body inner message (λ name. Item.message name place))
    ∷ (codes "enum", enum inner place)
    ∷ []

abbrev pub message_words : List Bytes
message_words = codes "reserved" ∷ codes "oneof" ∷ codes "extend" ∷ codes "message" ∷ codes "enum" ∷ codes "extensions" ∷ []

-- `extensions` stands in Proto2 alone
abbrev pub extensions_or : Syntax → Parser Forest → Parser Forest
extensions_or Proto2 other = choose ((codes "extensions", extensions) ∷ []) other
extensions_or Proto3 other = do words_forbidden (codes "extensions" ∷ []); other

unfoldable pub option_or_field : Syntax → Inner → Mode → Parser Forest
option_or_field s inner mode = choose ((codes "option", option_statement inner) ∷ []) (field s inner mode)

unfoldable pub declaration : Syntax → Inner → Place → Mode → Parser Forest
declaration s inner place message = choose (message_declarations inner place) (extensions_or s (option_or_field s inner message))
declaration s inner place oneof = do words_forbidden message_words; option_or_field s inner oneof
declaration s inner place extend = do words_forbidden (message_words ++ codes "option" ∷ []); field s inner extend

unfoldable pub statement : Syntax → Inner → Mode → Parser Forest
statement s inner mode = do
  place ← here
  empty ← symbol_if semicolon
  given empty then return nothing else declaration s inner place mode

-- ---- brackets
abbrev pub opening : Bracket → ℕ
opening message_constant = brace
opening list_constant = bracket
opening map_type = angle
opening (body mode) = brace

-- messageConstant = "{" { entry } "}"
unfoldable pub message_of : Inner → Parser Forest
message_of inner = do
  symbol_due brace
  entries ← forests_until brace_end (entry inner)
  symbol_due brace_end
  return (one (Item.constant Value.message) entries)

-- list = "[" [ constant { "," constant } ] "]"
unfoldable pub list_of : Inner → Parser Forest
list_of inner = do
  symbol_due bracket
  items ← list_items inner
  return (one (Item.constant Value.list) items)

-- mapType = "<" type "," type ">"
unfoldable pub map_of : Inner → Parser Forest
map_of inner = do
  symbol_due angle
  k ← type inner
  symbol_due comma
  v ← type inner
  symbol_due angle_end
  return (one (Item.type Shape.map) (k beside v))

-- body = "{" { statement } "}"
unfoldable pub body_of : Syntax → Inner → Mode → Parser Forest
body_of s inner mode = do
  symbol_due brace
  parts ← forests_until brace_end (statement s inner mode)
  symbol_due brace_end
  return parts

abbrev pub layer : Syntax → Inner → Inner
layer s inner message_constant = message_of inner
layer s inner list_constant = list_of inner
layer s inner map_type = map_of inner
layer s inner (body mode) = body_of s inner mode

-- a bracket of one more than may be open: not taken
unfoldable pub no_room : ℕ → Parser Forest
no_room s = do
  comes ← next_is s
  given comes then refuse NestingTooDeep else (do symbol_due s; return nothing)

-- a bracket where so many more may be opened
unfoldable pub nested : Syntax → ℕ → Inner
nested s zero b a = no_room (opening b) a
nested s (suc room) b a = layer s (nested s room) b a

abbrev pub outermost : Syntax → Inner
outermost s = nested s 32

-- ---- services
-- ";" or 20
unfoldable pub empty_statement : Parser Forest
empty_statement = do
  empty ← symbol_if semicolon
  given empty then return nothing else refuse IncorrectInput

-- "{" { option | ";" } "}", or ";"
unfoldable pub method_options : Inner → Parser Forest
method_options inner = do
  opened ← symbol_if brace
  given opened
      then (do
        options ← forests_until brace_end (choose ((codes "option", option_statement inner) ∷ []) empty_statement)
        symbol_due brace_end
        return options)
      else (do symbol_due semicolon; return nothing)

-- stream = "stream" name "(" type "," type ")" options
unfoldable pub stream : Inner → Parser Forest
stream inner = do
  name ← ident_due
  symbol_due paren
  input ← full_ident
  symbol_due comma
  output ← full_ident
  symbol_due paren_end
  options ← method_options inner
  return (one (Item.method name true input true output) options)

-- rpc = "rpc" name "(" [ "stream" ] type ")" "returns" "(" [ "stream" ] type ")" options
unfoldable pub rpc : Inner → Parser Forest
rpc inner = do
  name ← ident_due
  symbol_due paren
  from_client ← word_if (codes "stream")
  input ← full_ident
  symbol_due paren_end
  word_due (codes "returns")
  symbol_due paren
  from_server ← word_if (codes "stream")
  output ← full_ident
  symbol_due paren_end
  options ← method_options inner
  return (one (Item.method name from_client input from_server output) options)

-- `stream` stands in Proto2 alone
abbrev pub stream_or : Syntax → Inner → Parser Forest → Parser Forest
stream_or Proto2 inner other = choose ((codes "stream", stream inner) ∷ []) other
stream_or Proto3 inner other = other

unfoldable pub service_statement : Syntax → Inner → Parser Forest
service_statement s inner = choose ((codes "rpc", rpc inner) ∷ []) (stream_or s inner (choose ((codes "option", option_statement inner) ∷ []) empty_statement))

unfoldable pub service : Syntax → Inner → Place → Parser Forest
service s inner place = do
  name ← ident_due
  symbol_due brace
  parts ← forests_until brace_end (service_statement s inner)
  symbol_due brace_end
  return (one (Item.service name place) parts)

-- ---- the file
-- syntax = "syntax" "=" ( "proto2" | "proto3" ) ";", or nothing
unfoldable pub syntax : Parser Syntax
syntax = choose ((codes "syntax", stated) ∷ []) (return Proto2)
  where
    named : Bytes → Parser Syntax
    named w = given same w (codes "proto2") then return Proto2 else (given same w (codes "proto3") then return Proto3 else refuse UnknownSyntax)

    stated : Parser Syntax
    stated = do
      symbol_due equals
      w ← decoded_string
      s ← named w
      symbol_due semicolon
      return s

-- import = "import" [ "weak" | "public" ] strLit ";"
unfoldable pub import : Parser Forest
import = do
  v ← choose ((codes "weak", return ImportVis.Weak) ∷ (codes "public", return ImportVis.Public) ∷ []) (return ImportVis.Default)
  path ← decoded_string
  symbol_due semicolon
  with_some (path_refusal path) refuse (return (one (Item.import v path) nothing))

-- a statement of the top level: a package, kept with a leading dot, or records
pub data Top : Type 0 where
  in_package : Bytes → Top
  items : Forest → Top

unfoldable pub package_statement : Parser Top
package_statement = do
  name ← dotted
  symbol_due semicolon
  return (in_package (dot ∷ name))

unfoldable pub top_statement : Syntax → Parser Top
top_statement s = do
  place ← here
  choose
      ((codes "import", items <$> import)
      ∷ (codes "package", package_statement)
      ∷ (codes "option", items <$> option_statement (outermost s))
      ∷ (codes "message", items <$> named_body (outermost s) message (λ name. Item.message name place))
      ∷ (codes "enum", items <$> enum (outermost s) place)
      ∷ (codes "extend", items <$> extend_fields (outermost s))
      ∷ (codes "service", items <$> service s (outermost s) place)
      ∷ [])
      (items <$> empty_statement)

abbrev pub add_top : Top → Tree → Tree
add_top (in_package p) t = record { syntax = t.syntax; packages = p ∷ t.packages; items = t.items }
add_top (items f) t = record { syntax = t.syntax; packages = t.packages; items = f beside t.items }

abbrev pub empty_tree : Syntax → Tree
empty_tree s = record { syntax = s; packages = []; items = nothing }

-- one more statement, unless the file ends
unfoldable pub top_turn : Syntax → Parser (Option Top)
top_turn s = do
  t ← look
  with_some t (λ _. some <$> top_statement s) (return none)

-- file = syntax { import | package | option | message | enum | extend | service | ";" }
unfoldable pub file : Parser Tree
file = do
  s ← syntax
  many add_top (empty_tree s) (top_turn s)

-- ---- all of this file, for a proof that computes
unfoldable pub opened : Unit {0}
unfolding separated dotted full_ident group_name field_number enum_number decoded_string signed_number constant_at key_end key entry list_items option_part option option_statement bracketed_options range extensions reserved scalar_or type label_in label group plain_field field enum_value enum_statement enum extend_fields named_body option_or_field declaration statement message_of list_of map_of body_of no_room nested empty_statement method_options stream rpc service_statement service syntax import package_statement top_statement top_turn file
opened = tt
