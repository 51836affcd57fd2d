-- How a range is read.
use Rattle.std.proofs.Common.{◌≡◌, ℕ, [], ◌∷◌, codes, refl, ap, ◌∙◌}
use Rattle.token.specs.Token.{Ahead}
use Rattle.grammar.specs.Parse.{Reply, ok, refused, Parser, bind, ◌>>=◌, return, given◌then◌else◌, word_if, choose}
use Rattle.grammar.specs.Tree.{Item, nothing, one}
use Rattle.grammar.specs.Grammar.{field_number, range}
use Rattle.reader.specs.Ranges.{range_end}

bind-bind : {A B C : Type 0} (r : Reply A) (f : A → Parser B) (g : B → Parser C) → bind r (λ x a. bind (f x a) g) ≡ bind (bind r f) g
bind-bind (ok x a) f g = refl
bind-bind (refused e a) f g = refl

module _ (item : ℕ → ℕ → Item) (max : ℕ) (a : Ahead) {b : Ahead} where
  range_then : {m : ℕ} → field_number a ≡ ok m b → range item max a ≡ bind (range_end m max b) (λ to. ok (one (item m to) nothing))
  unfolding range range_end ◌>>=◌ return
  range_then {m} e = ap (λ r. bind r (λ from d. bind (word_if (codes "to") d) (λ wide f. bind ((given wide then choose ((codes "max", return max) ∷ []) field_number else return from) f) (λ to. ok (one (item from to) nothing))))) e
      ∙ bind-bind (word_if (codes "to") b) (λ wide. given wide then choose ((codes "max", return max) ∷ []) field_number else return m) (λ to. ok (one (item m to) nothing))

  pub range-is : {m n : ℕ} {c : Ahead} → field_number a ≡ ok m b → range_end m max b ≡ ok n c → range item max a ≡ ok (one (item m n) nothing) c
  range-is {m} e h = range_then e ∙ ap (λ r. bind r (λ to. ok (one (item m to) nothing))) h
