-- A printed file, read again, takes no more room: and what a tree must hold for that.
use Rattle.std.specs.Prelude.{◌≡◌, ◌+◌, ◌*◌, ◌<◌, ◌≤◌, List, [], ◌∷◌, length}
use Rattle.token.specs.Token.{Bytes, Ahead}
use Rattle.grammar.specs.Parse.{ok}
use Rattle.grammar.specs.Tree.{Item, Shape, Forest, nothing, node, Tree, tree_records, tree_text}
use Rattle.grammar.specs.Grammar.{file}
use Rattle.grammar.specs.Model.{Part, parts_of, constants, types, fields, FileDescriptor, model}
use Rattle.grammar.specs.Print.{print}
use Rattle.round_trip.specs.Canon.{tree_of}

-- a type, given what its parts mean: a map has its two types
abbrev pub CompleteType : Shape → List Part → Type 0
CompleteType (Shape.scalar s) ps = Unit {0}
CompleteType (Shape.named n) ps = Unit {0}
CompleteType Shape.map ps = 2 ≤ length (types ps)
CompleteType (Shape.group n) ps = Unit {0}

-- a record, given what its parts mean: an option and a name in a message constant have a constant, a field its type, an extension its field
abbrev pub Complete : Item → List Part → Type 0
Complete (Item.import v p) ps = Unit {0}
Complete Item.option ps = 1 ≤ length (constants ps)
Complete (Item.direct_part n) ps = Unit {0}
Complete (Item.extension_part p) ps = Unit {0}
Complete (Item.constant v) ps = Unit {0}
Complete (Item.key k) ps = 1 ≤ length (constants ps)
Complete (Item.reserved_range m n) ps = Unit {0}
Complete (Item.extension_range m n) ps = Unit {0}
Complete (Item.reserved_name n) ps = Unit {0}
Complete (Item.message n p) ps = Unit {0}
Complete (Item.field r n k p) ps = 1 ≤ length (types ps)
Complete (Item.type s) ps = CompleteType s ps
Complete (Item.oneof n p) ps = Unit {0}
Complete (Item.extension p) ps = 1 ≤ length (fields ps)
Complete (Item.enum n p) ps = Unit {0}
Complete (Item.enum_value n k) ps = Unit {0}
Complete (Item.service n p) ps = Unit {0}
Complete (Item.method n ci i co o) ps = Unit {0}

abbrev pub Shaped : Forest → Type 0
Shaped nothing = Unit {0}
Shaped (node item parts rest) = Complete item (parts_of parts) × Shaped parts × Shaped rest

-- no package is empty: each is kept with its leading dot
abbrev pub Named : List Bytes → Type 0
Named [] = Unit {0}
Named (p ∷ ps) = (1 ≤ length p) × Named ps

pub record ReaderShape (t : Tree) : Type 0 where
  pub items_whole : Shaped t.items
  pub packages_named : Named t.packages

-- ---- the theorems
-- the reader gives nothing else
abbrev pub ReaderShaped : Type 0
ReaderShaped = (a b : Ahead) (t : Tree) → file a ≡ ok t b → ReaderShape t

pub record RoomKept (t : Tree) : Type 0 where
  pub no_more_records : tree_records (tree_of (model t)) ≤ tree_records t
  pub no_more_text : tree_text (tree_of (model t)) ≤ tree_text t
  pub less_text : 2 ≤ length t.packages → tree_text (tree_of (model t)) < tree_text t

abbrev pub RoomBack : Type 0
RoomBack = (t : Tree) → ReaderShape t → RoomKept t

-- a file is printed as no more words than this, by the room of the tree that it is read as
abbrev pub PrintBound : Type 0
PrintBound = (m : FileDescriptor) → length (print m) ≤ 32 * tree_records (tree_of m) + 2 * tree_text (tree_of m) + 13

-- so a file that a catalogue holds is printed as 49,165 words at most, and 16,777,215 fit a tape
abbrev pub PrintFits : Type 0
PrintFits = (t : Tree) → ReaderShape t → tree_records t ≤ 1024 → tree_text t ≤ 8192 → length (print (model t)) ≤ 49165

-- ---- so of every file that is read
abbrev pub ReadRoom : Type 0
ReadRoom = (a b : Ahead) (t : Tree) → file a ≡ ok t b → RoomKept t

abbrev pub ReadFits : Type 0
ReadFits = (a b : Ahead) (t : Tree) → file a ≡ ok t b → tree_records t ≤ 1024 → tree_text t ≤ 8192 → length (print (model t)) ≤ 49165
