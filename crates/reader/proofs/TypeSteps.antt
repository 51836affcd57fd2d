-- How a type begins, from what its trials gave.
use Rattle.std.proofs.Common.{◌≡◌, ℕ, suc, ◌<◌, Bool, true, false, List, [], ◌∷◌, Some as some, None as none, Option, codes, sym, refl, ap, ◌∙◌, subst, arith}
use Rattle.token.specs.Token.{Bytes, Token, Ahead, next, end, fault, count}
use Rattle.grammar.specs.declared.fault.ReadFault.{ReadFault}
use Rattle.grammar.specs.declared.kinds.Scalar.{Scalar}
use Rattle.grammar.specs.Kinds.{scalar_word, scalars}
use Rattle.grammar.specs.Parse.{Reply, ok, refused, Parser, bind, ◌>>=◌, ◌>>◌, return, given◌then◌else◌, with_some, look, take, peek, accept, choose, word_if}
use Rattle.grammar.specs.Progress.{Keeps, Left}
use Rattle.grammar.proofs.Progress.{keeps-return, keeps-bind, keeps_if, keeps-accept}
use Rattle.grammar.specs.Tree.{Item, Shape, Forest, nothing, one}
use Rattle.grammar.specs.Grammar.{Inner, map_type, full_ident, type_of, scalar_or, type}
use Rattle.reader.specs.Scalars.{scalar_in}

-- a scalar type, or what else a type may be
abbrev or_else : Parser Forest → Option Scalar → Parser Forest
or_else other none = other
or_else other (some s) = type_of (Shape.scalar s)

tried : (ss : List Scalar) (other : Parser Forest) (a : Ahead) → scalar_or ss other a ≡ bind (scalar_in ss a) (or_else other)
unfolding scalar_or scalar_in ◌>>=◌ return given◌then◌else◌
tried [] other a = refl
tried (s ∷ ss) other a = go (tried ss other) (word_if (scalar_word s) a)
  where
    go : ((b : Ahead) → scalar_or ss other b ≡ bind (scalar_in ss b) (or_else other)) → (r : Reply Bool) → bind r (λ it_is. given it_is then type_of (Shape.scalar s) else scalar_or ss other) ≡ bind (bind r (λ it_is. given it_is then return (some s) else scalar_in ss)) (or_else other)
    go more (ok true b) = refl
    go more (ok false b) = more b
    go more (refused why b) = refl

-- what a type is where it is no scalar
abbrev other_type : Inner → Parser Forest
other_type inner = choose ((codes "map", inner map_type) ∷ []) (do name ← full_ident; type_of (Shape.named name))

begins : (inner : Inner) (a : Ahead) → type inner a ≡ bind (scalar_in scalars a) (or_else (other_type inner))
unfolding type
begins inner a = tried scalars (other_type inner) a

module _ (inner : Inner) (a : Ahead) {b : Ahead} where
  pub type-refused : {why : ReadFault} → scalar_in scalars a ≡ refused why b → type inner a ≡ refused why b
  type-refused e = begins inner a ∙ ap (λ r. bind r (or_else (other_type inner))) e

  pub type-scalar : {s : Scalar} → scalar_in scalars a ≡ ok (some s) b → type inner a ≡ ok (one (Item.type (Shape.scalar s)) nothing) b
  unfolding return
  type-scalar e = begins inner a ∙ ap (λ r. bind r (or_else (other_type inner))) e

  no_scalar : scalar_in scalars a ≡ ok none b → type inner a ≡ other_type inner b
  no_scalar e = begins inner a ∙ ap (λ r. bind r (or_else (other_type inner))) e

  module _ (e : scalar_in scalars a ≡ ok none b) {c : Ahead} where
    pub map-refused : {why : ReadFault} → word_if (codes "map") b ≡ refused why c → type inner a ≡ refused why c
    unfolding choose ◌>>=◌
    map-refused h = no_scalar e ∙ rw h

    pub map-is : word_if (codes "map") b ≡ ok true c → type inner a ≡ inner map_type c
    unfolding choose ◌>>=◌ given◌then◌else◌
    map-is h = no_scalar e ∙ rw h

    module _ (h : word_if (codes "map") b ≡ ok false c) {d : Ahead} where
      pub name-refused : {why : ReadFault} → full_ident c ≡ refused why d → type inner a ≡ refused why d
      unfolding choose ◌>>=◌ given◌then◌else◌
      name-refused k = no_scalar e ∙ rw (h, k)

      pub name-is : {p : Bytes} → full_ident c ≡ ok p d → type inner a ≡ ok (one (Item.type (Shape.named p)) nothing) d
      unfolding choose ◌>>=◌ given◌then◌else◌ return
      name-is k = no_scalar e ∙ rw (h, k)

-- ---- a word that comes is a token less
accept_took : (test : Token → Bool) (a : Ahead) {b : Ahead} → accept test a ≡ ok true b → count b < count a
unfolding accept peek look take return with_some given◌then◌else◌ ◌>>=◌ ◌>>◌
accept_took test (next t p a) {b} e = go (test t) e
  where
    go : (v : Bool) → (given v then (take >> return true) else return false) (next t p a) ≡ ok true b → count b < suc (count a)
    go true e = let s : a ≡ b = cc in let z = ap count s in omega arith
    go false e = let z : ◌≡◌ {A = ℕ} 0 1 = cc in absurd (omega arith)
accept_took test (end p) e = let z : ◌≡◌ {A = ℕ} 0 1 = cc in absurd (omega arith)
accept_took test (fault x p) e = let z : ◌≡◌ {A = ℕ} 0 1 = cc in absurd (omega arith)

scalar_in-keeps : (ss : List Scalar) → Keeps (scalar_in ss)
unfolding scalar_in
scalar_in-keeps [] = record { keeps = λ a. (keeps-return none).keeps a }
scalar_in-keeps (s ∷ ss) = record { keeps = λ a. (keeps-bind _ _ (keeps-accept _) (λ b. keeps_if b _ _ (keeps-return _) (scalar_in-keeps ss))).keeps a }

pub map-took : (a : Ahead) {b c : Ahead} → scalar_in scalars a ≡ ok none b → word_if (codes "map") b ≡ ok true c → count c < count a
map-took a {b} e h =
    let kept : count b < suc (count a) = subst (Left (suc (count a))) e ((scalar_in-keeps scalars).keeps a) in
    let took = accept_took _ b h in
    omega arith
