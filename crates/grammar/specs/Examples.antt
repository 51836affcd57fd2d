-- Worked examples: from the bytes of a text to the words that its file is printed as, or to the refusal.
use Rattle.std.specs.Prelude.{◌≡◌, ℕ, List, [], ◌∷◌, ◌++◌, replicate, Some as some, None as none, codes}
use Rattle.token.specs.declared.answer.Place.{Place}
use Rattle.token.specs.Token.{Bytes, at, nowhere, Token, Ahead, next, end, fault}
use Rattle.text_source.specs.Text.{text}
use Rattle.grammar.specs.Tree.{Key}
use Rattle.grammar.specs.Model.{Constant, next_entry, no_entries, FileDescriptor, ProtoOption}
use Rattle.grammar.specs.Print as printing
use Rattle.grammar.specs.Ledger.{Ledger, Standing, Answer, answered, refused_by, refusal, new, load, find}

-- ---- how the examples are written
-- what a new catalogue answers to a text, and the models that stand then
abbrev pub answer : Bytes → Answer ℕ
answer bs = (load new (text bs)).answer

abbrev pub models_of : List Standing → List FileDescriptor
models_of [] = []
models_of (f ∷ fs) = f.file_model ∷ models_of fs

abbrev pub models : Bytes → List FileDescriptor
models bs = models_of (load new (text bs)).ledger.files

abbrev pub Loads : Bytes → Type 0
Loads bs = answer bs ≡ answered 0

-- by the reader, at line and column
abbrev pub RefusesAt : Bytes → ℕ → Place → Type 0
RefusesAt bs n p = answer bs ≡ refused_by (refusal 2 n p)

-- by the reader, wherever
abbrev pub anywhere : Answer ℕ → Answer ℕ
anywhere (answered n) = answered n
anywhere (refused_by r) = refused_by (refusal r.layer r.number nowhere)

abbrev pub Refuses : Bytes → ℕ → Type 0
Refuses bs n = anywhere (answer bs) ≡ refused_by (refusal 2 n nowhere)

abbrev pub printed_words : List FileDescriptor → List (List ℕ)
printed_words [] = []
printed_words (m ∷ ms) = printing.print m ∷ printed_words ms

abbrev pub printed_tokens : List FileDescriptor → List (List Token)
printed_tokens [] = []
printed_tokens (m ∷ ms) = printing.print_tokens m ∷ printed_tokens ms

-- the tokens of a text, without their places
abbrev pub tokens_of : Ahead → List Token
tokens_of (next t p a) = t ∷ tokens_of a
tokens_of (end p) = []
tokens_of (fault f p) = []

abbrev pub option_values : List ProtoOption → List Constant
option_values [] = []
option_values (o ∷ os) = o.value ∷ option_values os

abbrev pub values : List FileDescriptor → List Constant
values [] = []
values (m ∷ ms) = option_values m.options ++ values ms

-- ---- the empty text is an empty proto2 file
abbrev pub EmptyText : Type 0
EmptyText =
    printed_words (models [])
    ≡ (0x60000006 ∷ 0x746E7973 ∷ 0x00007861 ∷ 0x2000003D ∷ 0xA0000006 ∷ 0x746F7270 ∷ 0x0000326F ∷ 0x2000003B ∷ 0x00000000 ∷ []) ∷ []

-- ---- enum values are 32-bit integers, and end in a semicolon
abbrev pub EnumValues : Type 0
EnumValues =
    Loads (codes "enum E { A = -2147483648; }")
    × Refuses (codes "enum E { A = 2147483648; }") 23
    × Refuses (codes "enum E { A = -2147483649; }") 23
    × RefusesAt (codes "enum E { A = 0 }") 11 (at 1 16)

-- ---- a field of a message has a label in proto2, and may have none in proto3
abbrev pub Labels : Type 0
Labels =
    RefusesAt (codes "message M { int32 a = 1; }") 25 (at 1 13)
    × Loads (codes "syntax = \"proto3\"; message M { int32 a = 1; }")

-- ---- a body that ends too early
abbrev pub OpenBodies : Type 0
OpenBodies =
    RefusesAt (codes "message M {") 25 (at 1 12)
    × Refuses (codes "syntax = \"proto3\"; message M {") 10

-- ---- a oneof has neither maps nor labels
abbrev pub Oneofs : Type 0
Oneofs =
    Refuses (codes "message M { oneof o { map<int32,int32> a = 1; } }") 27
    × Refuses (codes "message M { oneof o { repeated int32 a = 1; } }") 24
    × Loads (codes "message M { oneof o { int32 a = 1; } }")

-- ---- a message constant keeps every value of a repeated name
abbrev pub RepeatedNames : Type 0
RepeatedNames =
    values (models (codes "option o = {a: 1 b: 2 a: 3};"))
    ≡ Constant.message
    (next_entry (Key.plain (codes "a")) (Constant.unsigned 1)
    (next_entry (Key.plain (codes "b")) (Constant.unsigned 2)
    (next_entry (Key.plain (codes "a")) (Constant.unsigned 3) no_entries)))
    ∷ []

-- ---- a group's name begins with a capital letter
abbrev pub GroupNames : Type 0
GroupNames = Refuses (codes "message M { optional group result = 1 {} }") 26

-- ---- a component of an import path is not empty
abbrev pub ImportPaths : Type 0
ImportPaths = Refuses (codes "import \"a//b\";") 32

-- ---- a stream method is printed as an rpc that streams both ways
abbrev pub Streams : Type 0
Streams =
    printed_tokens (models (codes "service S { stream R (stream.A, B); }"))
    ≡ tokens_of (text (codes "syntax = \"proto2\"; service S { rpc R (stream stream.A) returns (stream B); }")) ∷ []

-- ---- 32 brackets may be open, and not one more
abbrev pub lists : ℕ → Bytes
lists n = codes "option o = " ++ replicate n 91 ++ replicate n 93 ++ codes ";"

abbrev pub Nesting : Type 0
Nesting = Loads (lists 32) × Refuses (lists 33) 35

-- ---- find answers the pair number in places and the type's number
abbrev pub bale : Ledger
bale = (load new (text (codes "message Bale { optional int32 moisture = 3; }"))).ledger

abbrev pub Finds : Type 0
Finds = (find bale 0 (codes "Bale") 3 ≡ answered (some (1, 1))) × (find bale 0 (codes "Bale") 4 ≡ answered none)

-- ---- all of them
abbrev pub Examples : Type 0
Examples =
    EmptyText × EnumValues × Labels × OpenBodies × Oneofs × RepeatedNames × GroupNames × ImportPaths × Streams × Nesting × Finds
