-- A production, step by step: what it gives where its first reader gave this, and then what is left.
use Rattle.std.proofs.Common.{◌≡◌, false, Err, Result, refl, ap, ◌∙◌}
use Rattle.std.specs.Result.{IsErr, IsErrAnd}
use Rattle.std.proofs.lemmas.Result.{err_from_is_err_and}
use Rattle.token.specs.Token.{Ahead}
use Rattle.grammar.specs.declared.fault.ReadFault.{ReadFault}
use Rattle.grammar.specs.Parse.{Reply, ok, refused, Parser, bind, ◌>>=◌, ◌>>◌, ◌<$>◌, return, given◌then◌else◌}

module _ {A B : Type 0} (m : Parser A) where
  module _ (f : A → Parser B) (a : Ahead) {b : Ahead} where
    pub chain : {x : A} {r : Reply B} → m a ≡ ok x b → f x b ≡ r → (m >>= f) a ≡ r
    unfolding ◌>>=◌
    chain e h = ap (λ r. bind r f) e ∙ h

    pub stop : {why : ReadFault} → m a ≡ refused why b → (m >>= f) a ≡ refused why b
    unfolding ◌>>=◌
    stop e = ap (λ r. bind r f) e

  module _ (p : Parser B) (a : Ahead) {b : Ahead} where
    pub chain_then : {x : A} {r : Reply B} → m a ≡ ok x b → p b ≡ r → (m >> p) a ≡ r
    unfolding ◌>>◌
    chain_then e h = ap (λ r. bind r (λ _. p)) e ∙ h

    pub stop_then : {why : ReadFault} → m a ≡ refused why b → (m >> p) a ≡ refused why b
    unfolding ◌>>◌
    stop_then e = ap (λ r. bind r (λ _. p)) e

module _ {A B : Type 0} (f : A → B) (m : Parser A) (a : Ahead) {b : Ahead} where
  pub mapped : {x : A} → m a ≡ ok x b → (f <$> m) a ≡ ok (f x) b
  unfolding ◌<$>◌
  mapped e = ap (λ r. bind r (λ x. ok (f x))) e

  pub mapped_refuses : {why : ReadFault} → m a ≡ refused why b → (f <$> m) a ≡ refused why b
  unfolding ◌<$>◌
  mapped_refuses e = ap (λ r. bind r (λ x. ok (f x))) e

module _ {A : Type 0} (p q : Parser A) (a : Ahead) {r : Reply A} where
  pub on_false : q a ≡ r → (given false then p else q) a ≡ r
  unfolding given◌then◌else◌
  on_false e = e

pub returned : {A : Type 0} (x : A) (a : Ahead) → return x a ≡ ok x a
unfolding return
returned x a = refl

-- what the exit of a `?` returns
pub err_exit : {T : Type 0} {e : ReadFault} (r : Result T ReadFault) → IsErr r × IsErrAnd r (λ y. y ≡ e) → r ≡ Err e
err_exit r h = let p = err_from_is_err_and r h.1 in rw (p.1, p.2)
