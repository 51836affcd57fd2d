-- The law that proofs about readers use: `many` is one turn and then `many` again.
use Rattle.std.proofs.Common.{◌≡◌, ℕ, zero, suc, ◌<◌, Some as some, None as none, Option, refl, ap, ◌∙◌, subst, not-suc-le-zero, arith}
use Rattle.token.specs.Token.{Ahead, count}
use Rattle.grammar.specs.Progress.{Onward, Consumes, Unfolds}
use Rattle.grammar.specs.Parse.{Reply, ok, refused, Parser, bind, ◌>>=◌, ◌<$>◌, return, after_turn, many_for, many}

module _ {A B : Type 0} (add : A → B → B) (stop : B) (turn : Parser (Option A)) (consumes : Consumes turn) where
  took : (a : Ahead) (x : A) (b : Ahead) → turn a ≡ ok (some x) b → count b < count a
  took a x b e = subst (Onward a) e (consumes a)

  -- any two counts of turns above the tokens left give the same reply
  pub enough : (n m : ℕ) (a : Ahead) → count a < n → count a < m → many_for add stop n turn a ≡ many_for add stop m turn a
  unfolding many_for ◌>>=◌ ◌<$>◌ return
  enough zero m a h k = absurd (not-suc-le-zero h)
  enough (suc n) zero a h k = absurd (not-suc-le-zero k)
  enough (suc n) (suc m) a h k = go (turn a) refl (λ b. enough n m b)
    where
      go : (r : Reply (Option A)) → turn a ≡ r → ((b : Ahead) → count b < n → count b < m → many_for add stop n turn b ≡ many_for add stop m turn b) → bind r (after_turn add stop (many_for add stop n turn)) ≡ bind r (after_turn add stop (many_for add stop m turn))
      go (ok none b) e again = refl
      go (ok (some x) b) e again = let c = took a x b e in ap (λ r. bind r (λ y. ok (add x y))) (again b (omega arith) (omega arith))
      go (refused why b) e again = refl

  -- THE unfolding law
  pub many-turn : Unfolds add stop turn
  unfolding many many_for ◌>>=◌ ◌<$>◌ return
  many-turn a = go (turn a) refl
    where
      go : (r : Reply (Option A)) → turn a ≡ r → bind r (after_turn add stop (many_for add stop (count a) turn)) ≡ bind r (after_turn add stop (many add stop turn))
      go (ok none b) e = refl
      go (ok (some x) b) e = ap (λ r. bind r (λ y. ok (add x y))) (enough (count a) (suc (count b)) b (took a x b e) (omega arith))
      go (refused why b) e = refl

  -- a run of `many`, turn by turn
  pub many_stops : {a b : Ahead} → turn a ≡ ok none b → many add stop turn a ≡ ok stop b
  unfolding ◌>>=◌ return
  many_stops {a} e = many-turn a ∙ ap (λ r. bind r (after_turn add stop (many add stop turn))) e

  pub many_goes : {a b c : Ahead} {x : A} {y : B} → turn a ≡ ok (some x) b → many add stop turn b ≡ ok y c → many add stop turn a ≡ ok (add x y) c
  unfolding ◌>>=◌ ◌<$>◌
  many_goes {a} {x} e again = many-turn a ∙ ap (λ r. bind r (after_turn add stop (many add stop turn))) e ∙ ap (λ r. bind r (λ y. ok (add x y))) again

-- ---- a run of a reader, step by step
module _ {A B : Type 0} where
  pub run : {r : Reply A} (f : A → Parser B) {x : A} {b : Ahead} {s : Reply B} → r ≡ ok x b → f x b ≡ s → bind r f ≡ s
  run f e h = ap (λ r. bind r f) e ∙ h
