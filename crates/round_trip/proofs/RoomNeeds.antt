-- Each condition on a tree is needed: a tree without it whose model takes more room.
use Rattle.std.proofs.Common.{◌≡◌, ℕ, [], ◌∷◌, None as none, refl}
use Rattle.token.specs.Token.{nowhere}
use Rattle.grammar.specs.declared.kinds.Syntax.TheVariants.{Proto2}
use Rattle.grammar.specs.declared.kinds.Scalar.{Scalar}
use Rattle.grammar.specs.Tree.{Key, Value, Shape, Item, Forest, nothing, one, Tree, tree_records, tree_text}
use Rattle.grammar.specs.Tree as tree
use Rattle.grammar.specs.Model as m
use Rattle.round_trip.specs.Canon as c
use Rattle.round_trip.specs.Canon.{tree_of}

abbrev holding : Forest → Tree
holding f = record { syntax = Proto2; packages = []; items = f }

-- the records of a tree, and of the tree that its model is read as
Grows : Forest → ℕ → ℕ → Type 0
Grows f before after = (tree_records (holding f) ≡ before) × (tree_records (tree_of (m.model (holding f))) ≡ after)

an_option : Grows (one Item.option nothing) 1 2
unfolding Grows tree.opened m.opened c.opened
an_option = (refl, refl)

a_key : Grows (one Item.option (one (Item.constant Value.message) (one (Item.key (Key.plain [])) nothing))) 3 4
unfolding Grows tree.opened m.opened c.opened
a_key = (refl, refl)

a_field : Grows (one (Item.message [] nowhere) (one (Item.field none [] 1 nowhere) nothing)) 2 3
unfolding Grows tree.opened m.opened c.opened
a_field = (refl, refl)

a_map : Grows (one (Item.message [] nowhere) (one (Item.field none [] 1 nowhere) (one (Item.type Shape.map) (one (Item.type (Shape.scalar Scalar.Bool)) nothing)))) 4 5
unfolding Grows tree.opened m.opened c.opened
a_map = (refl, refl)

an_extension : Grows (one (Item.extension []) nothing) 1 3
unfolding Grows tree.opened m.opened c.opened
an_extension = (refl, refl)

-- two packages that are empty: the text stays
two_empty : Tree
two_empty = record { syntax = Proto2; packages = [] ∷ [] ∷ []; items = nothing }

a_package : (tree_text two_empty ≡ 0) × (tree_text (tree_of (m.model two_empty)) ≡ 0)
unfolding two_empty tree.opened m.opened c.opened
a_package = (refl, refl)
