-- How a loop follows `many`: what was read so far, and then what is left.
use Rattle.std.proofs.Common.{◌≡◌, ℕ, true, false, Some as some, None as none, Option, sym, refl, ap, ◌∙◌}
use Rattle.token.specs.Token.{Ahead}
use Rattle.grammar.specs.declared.fault.ReadFault.{ReadFault}
use Rattle.grammar.specs.Parse.{Reply, ok, refused, Parser, bind, ◌>>=◌, ◌<$>◌, return, given◌then◌else◌, symbol_if, after_turn, many, after_next}
use Rattle.grammar.specs.Tree.{Forest, nothing, ◌beside◌}
use Rattle.grammar.specs.Grammar.{separated}
use Rattle.grammar.specs.Progress.{Consumes}
use Rattle.grammar.proofs.ManyLaw.{many-turn}

-- many turns from a₀ are w and then many turns from a
abbrev pub Sofar : {M : Type 0} → (M → M → M) → M → Parser (Option M) → Ahead → M → Ahead → Type 0
Sofar add unit turn a₀ w a = many add unit turn a₀ ≡ bind (many add unit turn a) (λ more b. ok (add w more) b)

pub record Monoid {M : Type 0} (add : M → M → M) (unit : M) : Type 0 where
  pub left : (x : M) → add unit x ≡ x
  pub right : (x : M) → add x unit ≡ x
  pub assoc : (x y z : M) → add (add x y) z ≡ add x (add y z)

module _ {M : Type 0} {add : M → M → M} {unit : M} (m : Monoid add unit) (turn : Parser (Option M)) (consumes : Consumes turn) where
  pub run_start : (a : Ahead) → Sofar add unit turn a unit a
  run_start a = go (many add unit turn a)
    where
      go : (r : Reply M) → r ≡ bind r (λ more b. ok (add unit more) b)
      go (ok x b) = ap (λ y. ok y b) (sym (m.left x))
      go (refused i b) = refl

  module _ (a₀ : Ahead) (w : M) (a : Ahead) (sofar : Sofar add unit turn a₀ w a) where
    unfolded : many add unit turn a₀ ≡ bind (bind (turn a) (after_turn add unit (many add unit turn))) (λ more b. ok (add w more) b)
    unfolding ◌>>=◌
    unfolded = sofar ∙ ap (λ r. bind r (λ more b. ok (add w more) b)) (many-turn add unit turn consumes a)

    pub run_goes : {x : M} {b : Ahead} → turn a ≡ ok (some x) b → Sofar add unit turn a₀ (add w x) b
    unfolding ◌<$>◌
    run_goes {x} {b} e = unfolded ∙ ap (λ r. bind (bind r (after_turn add unit (many add unit turn))) (λ more b. ok (add w more) b)) e ∙ go (many add unit turn b)
      where
        go : (r : Reply M) → bind (bind r (λ y. ok (add x y))) (λ more b. ok (add w more) b) ≡ bind r (λ more b. ok (add (add w x) more) b)
        go (ok y c) = ap (λ z. ok z c) (sym (m.assoc w x y))
        go (refused i c) = refl

    pub run_stops : {b : Ahead} → turn a ≡ ok none b → many add unit turn a₀ ≡ ok w b
    unfolding return
    run_stops {b} e = unfolded ∙ ap (λ r. bind (bind r (after_turn add unit (many add unit turn))) (λ more b. ok (add w more) b)) e ∙ ap (λ z. ok z b) (m.right w)

    pub run_refuses : {i : ReadFault} {b : Ahead} → turn a ≡ refused i b → many add unit turn a₀ ≡ refused i b
    run_refuses {i} {b} e = unfolded ∙ ap (λ r. bind (bind r (after_turn add unit (many add unit turn))) (λ more b. ok (add w more) b)) e

-- ---- turns
module _ {A : Type 0} (s : ℕ) (item : Parser A) (a : Ahead) {b : Ahead} where
  pub after_goes : {x : A} {c : Ahead} → symbol_if s a ≡ ok true b → item b ≡ ok x c → after_next s item a ≡ ok (some x) c
  unfolding after_next ◌>>=◌ ◌<$>◌ given◌then◌else◌
  after_goes e h = rw (e, h)

  pub after_stops : symbol_if s a ≡ ok false b → after_next s item a ≡ ok none b
  unfolding after_next ◌>>=◌ return given◌then◌else◌
  after_stops e = rw e

  pub after_refuses_item : {i : ReadFault} {c : Ahead} → symbol_if s a ≡ ok true b → item b ≡ refused i c → after_next s item a ≡ refused i c
  unfolding after_next ◌>>=◌ ◌<$>◌ given◌then◌else◌
  after_refuses_item e h = rw (e, h)

-- ---- items with a symbol between two
module _ (s : ℕ) (item : Parser Forest) (a : Ahead) {b : Ahead} where
  pub separated-is : {x y : Forest} {c : Ahead} → item a ≡ ok x b → many ◌beside◌ nothing (after_next s item) b ≡ ok y c → separated s item a ≡ ok (x beside y) c
  unfolding separated ◌>>=◌ return
  separated-is e h = rw (e, h)

-- what a call gave, where its value is known
pub got : {A : Type 0} {r : Reply A} {x y : A} {a : Ahead} → ok x a ≡ r → x ≡ y → r ≡ ok y a
got {a} e h = sym e ∙ ap (λ z. ok z a) h
