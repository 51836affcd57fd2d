-- How a type begins: it is plain and read, or the types of a map are still to be read.
use Rattle.std.specs.Prelude.{◌≡◌, ◌<◌, Ok, Err, Result}
use Rattle.token.specs.Token.{Ahead, count}
use Rattle.grammar.specs.declared.fault.ReadFault.{ReadFault}
use Rattle.grammar.specs.Parse.{ok, refused}
use Rattle.grammar.specs.Tree.{Forest}
use Rattle.grammar.specs.Grammar.{Inner, map_type, type}
use Rattle.store.specs.Held.{Held}
use Rattle.store.specs.Means.{Grew, Kept}
use Rattle.reader.specs.declared.frames.Due.{Due}

-- the word `map` was taken, and nothing was done
pub record AtMap (old new : Held) (a b : Ahead) : Type 0 where
  pub is : (inner : Inner) → type inner a ≡ inner map_type b
  pub took : count b < count a
  pub same : new ≡ old

-- what is due then, whatever may stand inside brackets
abbrev pub BegunType : Held → Held → Result Due ReadFault → Ahead → Ahead → Type 0
BegunType old new (Ok Due.Nothing) a b = (f : Forest) × ((inner : Inner) → type inner a ≡ ok f b) × Kept old new f
BegunType old new (Ok Due.Map) a b = AtMap old new a b
BegunType old new (Ok Due.Message) a b = ⊥
BegunType old new (Ok Due.List) a b = ⊥
BegunType old new (Ok Due.Constant) a b = ⊥
BegunType old new (Ok Due.Entry) a b = ⊥
BegunType old new (Ok Due.Type) a b = ⊥
BegunType old new (Err e) a b = ((inner : Inner) → type inner a ≡ refused e b) × Grew old new
