-- Worked examples: a file with a statement of every kind, from its text to words and back; the room that files take; find over
-- them; what a catalogue refuses; and lists of calls.
use Rattle.std.specs.Prelude.{◌≡◌, ℕ, T, List, [], ◌∷◌, ◌++◌, map, replicate, Some as some, None as none, codes, Option}
use Prim.Native.String.{String}
use Rattle.token.specs.Token.{Bytes, Ahead}
use Rattle.token.specs.Law.{lawful}
use Rattle.text_source.specs.Text.{text}
use Rattle.tape_source.specs.Tape.{tape}
use Rattle.grammar.specs.declared.kinds.Syntax.TheVariants.{Proto2, Proto3}
use Rattle.grammar.specs.declared.fault.CatalogueFault.TheVariants.{NoFile, NoRecords, NoText, NoSlot, BufferShort}
use Rattle.grammar.specs.Grammar.{empty_tree}
use Rattle.grammar.specs.Model.{FileDescriptor}
use Rattle.grammar.specs.Erase.{erased}
use Rattle.grammar.specs.Print as printing
use Rattle.grammar.specs.Ledger.{Ledger, Standing, answered, refuse, new, with_files, kept, load, forget, print, places, find}
use Rattle.grammar.specs.Examples.{models_of, models}
use Rattle.round_trip.specs.Calls.{Call, begin, ◌then◌, answer, after, standing}
use Rattle.round_trip.specs.Faithful.{Readable}

-- ---- a file with a statement of every kind
abbrev pub lines : List String → Bytes
lines [] = []
lines (l ∷ ls) = codes l ++ 10 ∷ lines ls

abbrev pub sample : Bytes
sample =
    lines (
    "syntax = \"proto2\";"
    ∷ "import \"google/protobuf/descriptor.proto\";"
    ∷ "import public \"a\\x2fb.proto\";"
    ∷ "import weak \"c d\";"
    ∷ "package old.one;"
    ∷ "package gin.unit;"
    ∷ ";"
    ∷ "option java_package = \"com.gin\";"
    ∷ "option (gin.limit).low.(x.y) = -1.5e3;"
    ∷ "option big = {a: 1, b { c: -0; [x.y]: true } [t.com/a.B]: [1, -2, +3, [], {}, inf, \"s\\\"t\"] };"
    ∷ "message Bale {"
    ∷ "  option deprecated = true;"
    ∷ "  reserved 4, 6 to 8, 100 to max;"
    ∷ "  reserved \"old\", \"back\\\\slash\";"
    ∷ "  extensions 1000 to 1999, 5000;"
    ∷ "  optional int32 moisture = 3;"
    ∷ "  required .gin.unit.Kind kind = 16 [default = HEAVY, (x) = {y: 1}];"
    ∷ "  repeated group Sample = 9 {"
    ∷ "    optional double weight = 1; enum Dropped { Q = 1; } repeated group Inner = 2 { required bytes b = 1; }"
    ∷ "  }"
    ∷ "  map<string, map<int32, Bale.Nest>> m = 11;"
    ∷ "  repeated map<bool, fixed64> lm = 12;"
    ∷ "  oneof pick { option o = 1; string s = 20; group G = 21 { } ; sint64 z = 22; }"
    ∷ "  message Nest { optional Nest again = 1; message Deep { optional float f = 1; } enum E2 { Z = 0; } }"
    ∷ "  enum Kind {"
    ∷ "    option allow_alias = true; LIGHT = 0; HEAVY = -5 [a = 1, b = 2]; reserved 9 to max, 7; reserved \"GONE\"; ;"
    ∷ "  }"
    ∷ "  extend Bale.Nest { optional int32 e1 = 100; repeated group E3 = 101 { optional int32 q = 1; } }"
    ∷ "}"
    ∷ "enum Top { A = 0; }"
    ∷ "extend .google.Field { optional uint32 w = 50000; optional uint64 w2 = 50001; }"
    ∷ "service S {"
    ∷ "  option o = 1; rpc A (stream .gin.X) returns (Y); rpc B (X) returns (stream Y) { option p = \"q\"; ; } stream C (X, Y); ;"
    ∷ "}"
    ∷ [])

-- it loads, and what is proved of readable files is proved of it
abbrev pub SampleReads : Type 0
SampleReads = (m : FileDescriptor) × (models sample ≡ m ∷ []) × Readable m

-- the words that a first file is printed as
abbrev pub first_words : List FileDescriptor → List ℕ
first_words [] = []
first_words (m ∷ ms) = printing.print m

abbrev pub tape_models : List ℕ → List FileDescriptor
tape_models ws = models_of (load new (tape ws)).ledger.files

-- its words, loaded as a tape, give it again, apart from places
abbrev pub SampleAgain : Type 0
SampleAgain = map erased (tape_models (first_words (models sample))) ≡ map erased (models sample)

-- ---- the room that a file takes: records, and bytes of text
abbrev pub took : List Standing → List (ℕ × ℕ)
took [] = []
took (f ∷ fs) = (f.took_records, f.took_text) ∷ took fs

unfoldable pub Takes : String → ℕ → ℕ → Type 0
Takes s records bytes = took (load new (text (codes s))).ledger.files ≡ (records, bytes) ∷ []

abbrev pub RoomTaken : Type 0
RoomTaken =
    Takes "message Bale { optional int32 moisture = 3; }" 3 12
    × Takes "option big = {a: [1, 2]};" 7 4
    × Takes "message M { repeated group G = 1 { enum E { A = 1; } } }" 5 4
    × Takes "extend A.B { optional int32 x = 1; optional int32 y = 2; }" 6 8
    × Takes "package a.b; package c;" 0 6
    × Takes "message M { map<int32, x.Y> m = 1; }" 5 5
    × Takes "import \"a\\x2fb\"; option (a.b).c = 1.5;" 5 10
    × Takes "enum E { reserved 1, 3 to max; reserved \"XY\"; A = -1 [o = true]; }" 8 5
    × Takes "service S { rpc A (stream .X) returns (Y); }" 2 5
    × Takes "option o = {[a.b/c.d]: \"q\\\"r\"};" 5 11

-- ---- find: the pair number in places, and the type's number
unfoldable pub Finds : String → ℕ → Option (ℕ × ℕ) → Type 0
Finds message number found = find (load new (text sample)).ledger 0 (codes message) number ≡ answered found

abbrev pub Found : Type 0
Found =
    Finds "Bale" 3 (some (1, 1))
    × Finds "Bale" 16 (some (2, 16))
    × Finds "Bale" 9 (some (3, 18))
    × Finds "Bale" 1 none
    × Finds "Bale" 11 (some (7, 17))
    × Finds "Bale" 20 (some (10, 11))
    × Finds "Bale" 21 (some (11, 18))
    × Finds "Bale" 22 (some (12, 6))
    × Finds "Bale.Nest" 1 (some (14, 16))
    × Finds "Bale.Nest.Deep" 1 (some (16, 15))
    × Finds "Nest" 1 none

-- ---- what a catalogue refuses
-- so many empty files, and a file of so much room
abbrev pub empties : ℕ → Ledger
empties n = with_files new (replicate n (kept (empty_tree Proto2)))

abbrev pub taken : ℕ → ℕ → Ledger
taken records bytes = with_files new (record { file_model = (kept (empty_tree Proto2)).file_model; took_records = records; took_text = bytes } ∷ [])

abbrev pub nothing_read : Ahead
nothing_read = text []

-- two records, and two bytes of text
abbrev pub two : Ahead
two = text (codes "enum E { A = 0; }")

abbrev pub Refused : Type 0
Refused =
    ((load (empties 7) nothing_read).answer ≡ answered 7)
    × ((load (empties 8) nothing_read).answer ≡ refuse NoSlot)
    × ((load (taken 1022 8190) two).answer ≡ answered 1)
    × ((load (taken 1023 8190) two).answer ≡ refuse NoRecords)
    × ((load (taken 1022 8191) two).answer ≡ refuse NoText)
    × (forget (empties 3) ≡ answered (empties 2))
    × (forget new ≡ refuse NoFile)
    × (print new 0 [] ≡ refuse NoFile)
    × (print (empties 1) 0 (replicate 8 7) ≡ refuse BufferShort)
    × (places (empties 1) 1 [] ≡ refuse NoFile)
    × (places (empties 1) 0 (7 ∷ 8 ∷ []) ≡ answered (0, 7 ∷ 8 ∷ []))
    × (find new 0 [] 1 ≡ refuse NoFile)

-- ---- lists of calls
abbrev pub older : Ahead
older = text (codes "syntax = \"proto2\";")

abbrev pub newer : Ahead
newer = text (codes "syntax = \"proto3\";")

-- a forget removes the newest file, a load after it stands behind what is left, and close and reopen leave all of it
abbrev pub Stand : Type 0
Stand =
    (h : T (lawful older)) (k : T (lawful newer)) →
    (standing (begin then Call.load older h then Call.load newer k then Call.forget) ≡ kept (empty_tree Proto2) ∷ [])
    × (standing (begin then Call.load older h then Call.load newer k then Call.forget then Call.forget then Call.forget then Call.load newer k) ≡ kept (empty_tree Proto3) ∷ [])
    × (standing (begin then Call.load older h then Call.close then Call.reopen then Call.load newer k) ≡ kept (empty_tree Proto2) ∷ kept (empty_tree Proto3) ∷ [])
    × (answer (after (begin then Call.load older h then Call.forget)) Call.forget ≡ refuse NoFile)

-- ---- all of them
abbrev pub Examples : Type 0
Examples = SampleReads × SampleAgain × RoomTaken × Found × Refused × Stand
