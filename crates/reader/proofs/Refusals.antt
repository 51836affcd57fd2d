-- Why the components of a path are refused, as an iterator over them finds it.
use Rattle.std.proofs.Common.{◌≡◌, ℕ, suc, ◌==◌, Bool, true, false, cond, List, [], ◌∷◌, Some, None, Option, sym, refl, ap, ◌∙◌, subst}
use Rattle.std.specs.Prelude.{map, slice_get, IfSome, MatchOption}
use denote.Ref.{Bor}
use denote.Param.Members.{Mut, Called}
use Rattle.std.specs.Iterator.{AlwaysYields, YieldsThen, DrainsIf, FindsMapped}
use Rattle.std.specs.Iterator.Runs.{Run, YieldsRun, CallKeepsClosure, AllItemsGive}
use Rattle.std.specs.List.{FoldsTo, slice_split, onto_first}
use Rattle.std.proofs.lemmas.Iterator.{YieldsList, items_from_drains}
use Rattle.token.specs.Token.{Bytes}
use Rattle.grammar.specs.declared.fault.ParserError.{ParserError}
use Rattle.grammar.specs.Decode.{parts, longer, component_refusal, components_refusal}
use Rattle.reader.proofs.Components.{refused-first, passed_first}

-- the library's parts are those of the definitions
pub parts-split : (s : ℕ) (bs : Bytes) → slice_split (λ b. b == s) bs ≡ parts s bs
unfolding parts
parts-split s [] = refl
parts-split s (b ∷ bs) = ap (λ ps. cond (b == s) ([] ∷ ps) (onto_first b ps)) (parts-split s bs) ∙ go (b == s)
  where
    onto : (ps : List Bytes) → onto_first b ps ≡ longer b ps
    onto [] = refl
    onto (p ∷ ps) = refl

    go : (t : Bool) → cond t ([] ∷ parts s bs) (onto_first b (parts s bs)) ≡ elim t [ true ↦ [] ∷ parts s bs | false ↦ longer b (parts s bs) ]
    go true = refl
    go false = onto (parts s bs)

passed_all : (xs : List (Bor Bytes)) → ((k : ℕ) → IfSome (slice_get xs k) (λ x. None ≡ component_refusal x.now)) → components_refusal (map (λ x. x.now) xs) ≡ None
passed_all [] h = refl
passed_all (x ∷ xs) h = passed_first x.now (map (λ y. y.now) xs) (sym (h 0)) ∙ passed_all xs (λ k. h (suc k))

module _ {S F : Type 0} (steps : S → Option (Bor Bytes) → S → Type 0) {g : Mut F (Bor Bytes × Unit {0}) (Option ParserError)} {f : F}
    (gives : (x : Bor Bytes) (r : Option ParserError) (q : F) → Called g f (x, tt) r q → (q ≡ f) × (r ≡ component_refusal x.now)) where
  first_refused : (n : ParserError) (all : List Bytes) (s : S) → AlwaysYields steps (λ x. x.now) s all → (xs : List (Bor Bytes)) (o : Option (Bor Bytes)) (u : S) → YieldsThen steps s xs o u
      → (j : F) → FoldsTo (λ p x q. Called g p (x, tt) None q) f xs j → MatchOption o (Some n ≡ None) (λ x. (h : F) × Called g j (x, tt) (Some n) h) → components_refusal all ≡ Some n
  first_refused n all s w [] None u y j e stop = absurd (cc)
  first_refused n [] s w [] (Some x) u y j e stop = absurd (w x u (subst (λ v. steps v (Some x) u) (sym y.1) y.2))
  first_refused n (b ∷ bs) s w [] (Some x) u y j e stop =
      let here = w.1 x u (subst (λ v. steps v (Some x) u) (sym y.1) y.2) in
      let called : Called g f (x, tt) (Some n) stop.0 = subst (λ p. Called g p (x, tt) (Some n) stop.0) (sym e) stop.1 in
      refused-first b bs n (ap component_refusal (sym here.0) ∙ sym (gives x (Some n) stop.0 called).1)
  first_refused n [] s w (x ∷ xs) o u y j e stop = absurd (w x y.1.0 y.1.1)
  first_refused n (b ∷ bs) s w (x ∷ xs) o u y j e stop =
      let here = w.1 x y.1.0 y.1.1 in
      let told = gives x None e.0 e.1 in
      let more : FoldsTo (λ p z q. Called g p (z, tt) None q) f xs j = subst (λ p. FoldsTo (λ p z q. Called g p (z, tt) None q) p xs j) told.0 e.2 in
      passed_first b bs (ap component_refusal (sym here.0) ∙ sym told.1) ∙ first_refused n bs y.1.0 here.1 xs o u (y.0, y.1.2, y.2) j more stop

  refused_first : (P : ParserError → Type 0) (r : Option ParserError) (all : List Bytes) (s u : S) → YieldsList steps (λ x. x.now) s all → FindsMapped steps g s f r u
      → (p : Run steps) → p.from ≡ s → MatchOption r ((p.whole ≡ true) × AllItemsGive p g f None) P → r ≡ components_refusal all
  unfolding YieldsRun
  refused_first P (Some n) all s u w ran p at told = sym (first_refused n all s w.runs ran.0 ran.1 u ran.3 ran.2 ran.4 ran.5)
  refused_first P None all s u w ran p at told =
      let keeps : CallKeepsClosure g f = λ a r q h. (gives a.0 r q h).0 in
      let drains : DrainsIf steps (Unit {0}) p.from p.items = (p.gave.0.0, p.gave.0.1, λ x. p.gave.0.2 told.0) in
      let items : map (λ x. x.now) p.items ≡ all = items_from_drains p.items (subst (λ v. DrainsIf steps (Unit {0}) v p.items) at drains) w in
      let none : (k : ℕ) → IfSome (slice_get p.items k) (λ x. None ≡ component_refusal x.now) = λ k. passes (slice_get p.items k) (subst (λ o. IfSome o (λ x. Called g f (x, tt) None f)) (p.gave.1 k) (told.1 keeps k)) in
      sym (passed_all p.items none) ∙ ap components_refusal items
    where
      passes : (o : Option (Bor Bytes)) → IfSome o (λ x. Called g f (x, tt) None f) → IfSome o (λ x. None ≡ component_refusal x.now)
      passes None h = tt
      passes (Some x) h = (gives x None f h).1

-- what `find_map` found, by its clauses `ran` and `runs`
pub refusal_from_find_map : {S F : Type 0} {steps : S → Option (Bor Bytes) → S → Type 0} {g : Mut F (Bor Bytes × Unit {0}) (Option ParserError)} {f : F} {s : S} (P : ParserError → Type 0) (r : Option ParserError) (u : S) (all : List Bytes) → FindsMapped steps g s f r u
    → (p : Run steps) → p.from ≡ s → MatchOption r ((p.whole ≡ true) × AllItemsGive p g f None) P → YieldsList steps (λ x. x.now) s all
    → ((x : Bor Bytes) (o : Option ParserError) (q : F) → Called g f (x, tt) o q → (q ≡ f) × (o ≡ component_refusal x.now)) → r ≡ components_refusal all
refusal_from_find_map {steps = steps} {s = s} P r u all ran p at told w gives = refused_first steps gives P r all s u w ran p at told
