-- Printing loses nothing but places: what a reader gave is read again from what it is printed as.
use Rattle.std.specs.Prelude.{◌≡◌, T}
use Rattle.token.specs.declared.answer.Place.{Place}
use Rattle.token.specs.Token.{nowhere, Ahead, end, unplaced}
use Rattle.grammar.specs.Parse.{ok}
use Rattle.grammar.specs.Tree.{Tree}
use Rattle.token.specs.Law.{lawful}
use Rattle.round_trip.specs.Alike.{Alike}
use Rattle.grammar.specs.Grammar.{file}
use Rattle.grammar.specs.Model.{FileDescriptor, model}
use Rattle.grammar.specs.Erase.{erased}
use Rattle.grammar.specs.Print.{print, print_tokens}

-- a model that some lawful source gives
pub record Readable (m : FileDescriptor) : Type 0 where
  pub source : Ahead
  pub law : T (lawful source)
  pub tree : Tree
  pub rest : Ahead
  pub is_read : file source ≡ ok tree rest
  pub is_model : model tree ≡ m

-- what is printed is read again, and means what it meant, apart from places
abbrev pub ReadsBack : Type 0
ReadsBack = (m : FileDescriptor) → Readable m → (q : Place) → (t : Tree) × (file (unplaced (print_tokens m) (end q)) ≡ ok t (end q)) × (model t ≡ erased m)

-- a source of what is printed, whatever its places, is read to its end, and gives the same model, apart from places
abbrev pub ReadsAnywhere : Type 0
ReadsAnywhere = (m : FileDescriptor) → Readable m → (a : Ahead) → Alike a (unplaced (print_tokens m) (end nowhere)) → (t : Tree) × (q : Place) × (file a ≡ ok t (end q)) × (erased (model t) ≡ erased m)

-- models that are printed in the same words are the same, apart from places
abbrev pub TellsApart : Type 0
TellsApart = (m n : FileDescriptor) → Readable m → Readable n → print m ≡ print n → erased m ≡ erased n
