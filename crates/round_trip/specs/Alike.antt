-- The same tokens and the same ending, places apart; trees without their places; and when two replies agree.
use Rattle.std.specs.Prelude.{◌≡◌}
use Rattle.token.specs.declared.answer.Place.{Place}
use Rattle.token.specs.declared.answer.Fault.{Fault}
use Rattle.grammar.specs.declared.fault.ReadFault.{ReadFault}
use Rattle.grammar.specs.Refusals.{read_layer, read_number}
use Rattle.token.specs.Token.{nowhere, Token, Ahead, next, end, fault}
use Rattle.grammar.specs.Parse.{Reply, ok, refused}
use Rattle.grammar.specs.Tree.{Item, Forest, nothing, node, Tree, tree_records, tree_text}
use Rattle.grammar.specs.Grammar.{file}
use Rattle.grammar.specs.Model.{model}
use Rattle.grammar.specs.Erase.{erased}

-- the same tokens, then a clean end both, or the same fault both
pub data Alike : Ahead → Ahead → Type 0 where
  both_next : {t : Token} {p q : Place} {a b : Ahead} → Alike a b → Alike (next t p a) (next t q b)
  both_end : {p q : Place} → Alike (end p) (end q)
  both_fault : {f : Fault} {p q : Place} → Alike (fault f p) (fault f q)

-- what is ahead with every line and column 0
abbrev pub bare : Ahead → Ahead
bare (next t p a) = next t nowhere (bare a)
bare (end p) = end nowhere
bare (fault f p) = fault f nowhere

-- a tree with every line and column 0
abbrev pub item_erased : Item → Item
item_erased (Item.import v p) = Item.import v p
item_erased Item.option = Item.option
item_erased (Item.direct_part n) = Item.direct_part n
item_erased (Item.extension_part p) = Item.extension_part p
item_erased (Item.constant v) = Item.constant v
item_erased (Item.key k) = Item.key k
item_erased (Item.reserved_range m n) = Item.reserved_range m n
item_erased (Item.extension_range m n) = Item.extension_range m n
item_erased (Item.reserved_name n) = Item.reserved_name n
item_erased (Item.message n p) = Item.message n nowhere
item_erased (Item.field r n k p) = Item.field r n k nowhere
item_erased (Item.type s) = Item.type s
item_erased (Item.oneof n p) = Item.oneof n nowhere
item_erased (Item.extension p) = Item.extension p
item_erased (Item.enum n p) = Item.enum n nowhere
item_erased (Item.enum_value n k) = Item.enum_value n k
item_erased (Item.service n p) = Item.service n nowhere
item_erased (Item.method n ci i co o) = Item.method n ci i co o

abbrev pub forest_erased : Forest → Forest
forest_erased nothing = nothing
forest_erased (node item parts rest) = node (item_erased item) (forest_erased parts) (forest_erased rest)

abbrev pub tree_erased : Tree → Tree
tree_erased t = record { syntax = t.syntax; packages = t.packages; items = forest_erased t.items }

-- both read, to trees that are equal apart from places, or both refused with the same layer and number; the rests are alike
pub data Agree : Reply Tree → Reply Tree → Type 0 where
  both_ok : {t u : Tree} {a b : Ahead} → tree_erased t ≡ tree_erased u → Alike a b → Agree (ok t a) (ok u b)
  both_refused : {why whence : ReadFault} {a b : Ahead} → read_layer why ≡ read_layer whence → read_number why ≡ read_number whence → Alike a b → Agree (refused why a) (refused whence b)

-- what load keeps of two trees: models equal apart from places, as many records, as much text
pub record KeptAlike (t u : Tree) : Type 0 where
  pub models : erased (model t) ≡ erased (model u)
  pub as_many_records : tree_records t ≡ tree_records u
  pub as_much_text : tree_text t ≡ tree_text u

-- ---- the theorem: the reader is blind to places
abbrev pub PlacesApart : Type 0
PlacesApart = (a b : Ahead) → Alike a b → Agree (file a) (file b)

abbrev pub KeptApart : Type 0
KeptApart = (t u : Tree) → tree_erased t ≡ tree_erased u → KeptAlike t u
