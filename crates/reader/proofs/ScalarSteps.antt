-- The scalar types are tried one after another.
use Rattle.std.proofs.Common.{◌≡◌, ℕ, suc, ◌+◌, ◌<◌, ◌≤◌, Bool, true, false, get_or, drop, Some as some, None as none, Option, sym, ap, ◌∙◌, drop-cons, add-one}
use Rattle.std.proofs.lemmas.List.{at_drop_all}
use Rattle.grammar.specs.declared.fault.ReadFault.{ReadFault}
use Rattle.token.specs.Token.{Ahead}
use Rattle.grammar.specs.declared.kinds.Scalar.{Scalar}
use Rattle.grammar.specs.Kinds.{scalar_word, scalars}
use Rattle.grammar.specs.Parse.{Reply, ok, refused, bind, ◌>>=◌, return, given◌then◌else◌, word_if}
use Rattle.reader.specs.Scalars.{scalar_in}

module _ (k : ℕ) where
  -- what follows the trial of scalar k
  abbrev after_trial : Reply Bool → Reply (Option Scalar)
  after_trial x = bind x (λ it_is. given it_is then return (some (get_or scalars k Scalar.Int32)) else scalar_in (drop (suc k) scalars))

  left-step : k < 15 → (a : Ahead) → scalar_in (drop k scalars) a ≡ after_trial (word_if (scalar_word (get_or scalars k Scalar.Int32)) a)
  unfolding scalar_in ◌>>=◌
  left-step less a = ap (λ ss. scalar_in ss a) (drop-cons scalars k Scalar.Int32 less)

  module _ (less : k < 15) (a : Ahead) {b : Ahead} where
    pub scalar-refused : {i : ReadFault} → word_if (scalar_word (get_or scalars k Scalar.Int32)) a ≡ refused i b → scalar_in (drop k scalars) a ≡ refused i b
    scalar-refused e = left-step less a ∙ ap after_trial e

    pub scalar-found : word_if (scalar_word (get_or scalars k Scalar.Int32)) a ≡ ok true b → scalar_in (drop k scalars) a ≡ ok (some (get_or scalars k Scalar.Int32)) b
    unfolding return given◌then◌else◌
    scalar-found e = left-step less a ∙ ap after_trial e

    pub scalar-next : word_if (scalar_word (get_or scalars k Scalar.Int32)) a ≡ ok false b → scalar_in (drop k scalars) a ≡ scalar_in (drop (k + 1) scalars) b
    unfolding given◌then◌else◌
    scalar-next e = left-step less a ∙ ap after_trial e ∙ ap (λ n. scalar_in (drop n scalars) b) (sym (add-one k))

  -- all were tried
  pub scalar-none : 15 ≤ k → (a : Ahead) → scalar_in (drop k scalars) a ≡ ok none a
  unfolding scalar_in return
  scalar-none all a = ap (λ f. f a) (at_drop_all scalar_in scalars k all)
