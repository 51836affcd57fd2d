-- How a constant begins: it is plain and read, or a bracket opens that is still to be read.
use Rattle.std.specs.Prelude.{◌≡◌, Ok, Err, Result}
use Rattle.token.specs.Token.{Ahead}
use Rattle.grammar.specs.declared.fault.ReadFault.{ReadFault}
use Rattle.grammar.specs.Parse.{ok, refused}
use Rattle.grammar.specs.Tree.{Forest}
use Rattle.grammar.specs.Grammar.{Inner, Bracket, message_constant, list_constant, constant}
use Rattle.store.specs.Held.{Held}
use Rattle.store.specs.Means.{Grew, Kept}
use Rattle.reader.specs.declared.frames.Due.{Due}

-- a bracket comes, and nothing was done
pub record AtBracket (of : Bracket) (old new : Held) (a b : Ahead) : Type 0 where
  pub is : (inner : Inner) → constant inner a ≡ inner of a
  pub stays : b ≡ a
  pub same : new ≡ old

-- what is due then, whatever may stand inside brackets
abbrev pub Begun : Held → Held → Result Due ReadFault → Ahead → Ahead → Type 0
Begun old new (Ok Due.Nothing) a b = (f : Forest) × ((inner : Inner) → constant inner a ≡ ok f b) × Kept old new f
Begun old new (Ok Due.Message) a b = AtBracket message_constant old new a b
Begun old new (Ok Due.List) a b = AtBracket list_constant old new a b
Begun old new (Ok Due.Constant) a b = ⊥
Begun old new (Ok Due.Entry) a b = ⊥
Begun old new (Ok Due.Type) a b = ⊥
Begun old new (Ok Due.Map) a b = ⊥
Begun old new (Err e) a b = ((inner : Inner) → constant inner a ≡ refused e b) × Grew old new
