-- The way back for constants: the tree that a printed constant is read as means that constant.
use Rattle.std.proofs.Common.{◌≡◌, [], ◌∷◌, ◌++◌, refl, ap, ◌∙◌}
use Rattle.grammar.specs.Tree.{Forest, nothing, node, ◌beside◌}
use Rattle.grammar.specs.Model as m
use Rattle.grammar.specs.Model.{Constant, Constants, no_constants, next_constant, Entries, no_entries, next_entry, Part, parts_of}
use Rattle.round_trip.proofs.ConstantAgain.{constant_tree, constants_tree, entries_tree}

pub parts_beside : (f h : Forest) → parts_of (f beside h) ≡ parts_of f ++ parts_of h
unfolding parts_of
parts_beside nothing h = refl
parts_beside (node i p r) h = ap (λ ps. m.part i (parts_of p) ∷ ps) (parts_beside r h)

mutual
  unfolding parts_of constant_tree constants_tree entries_tree

  pub constant-means : (c : Constant) → parts_of (constant_tree c) ≡ m.Part.piece (m.Piece.constant c) ∷ []
  constant-means (Constant.unsigned n) = refl
  constant-means (Constant.minus n) = refl
  constant-means (Constant.float negative t) = refl
  constant-means (Constant.truth b) = refl
  constant-means (Constant.path t) = refl
  constant-means (Constant.string t) = refl
  constant-means (Constant.message es) = ap (λ x. m.Part.piece (m.Piece.constant (Constant.message x)) ∷ []) (entries_mean es)
  constant-means (Constant.list cs) = ap (λ x. m.Part.piece (m.Piece.constant (Constant.list x)) ∷ []) (constants_mean cs)

  pub constants_mean : (cs : Constants) → m.all_constants (m.constants (parts_of (constants_tree cs))) ≡ cs
  constants_mean no_constants = refl
  constants_mean (next_constant c cs) =
      ap (λ ps. m.all_constants (m.constants ps)) (parts_beside (constant_tree c) (constants_tree cs))
      ∙ ap (λ ps. m.all_constants (m.constants (ps ++ parts_of (constants_tree cs)))) (constant-means c)
      ∙ ap (next_constant c) (constants_mean cs)

  pub entries_mean : (es : Entries) → m.all_entries (m.entries (parts_of (entries_tree es))) ≡ es
  entries_mean no_entries = refl
  entries_mean (next_entry k c es) =
      ap (λ ps. next_entry k (m.the_constant ps) (m.all_entries (m.entries (parts_of (entries_tree es))))) (constant-means c)
      ∙ ap (next_entry k c) (entries_mean es)
