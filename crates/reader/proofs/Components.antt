-- The components of a path.
use Rattle.std.proofs.Common.{◌≡◌, ℕ, ◌<◌, true, false, List, [], ◌∷◌, length, get_or, Some, None, Option, sym, refl, ap, arith}
use Rattle.std.proofs.lemmas.Bool.Decides.{nat_tests}
use Rattle.token.specs.Token.{Bytes}
use Rattle.grammar.specs.declared.fault.ParserError.{ParserError}
use Rattle.grammar.specs.declared.fault.ParserError.TheVariants.{PathBackslashes}
use Rattle.grammar.specs.Decode.{parts, holds, component_refusal, components_refusal, path_refusal}

-- ---- one component, from its length and its first two bytes
pub other : (c : List ℕ) → 0 < length c → (length c ≡ 1 → get_or c 0 0 ≡ 46 → ⊥) → (length c ≡ 2 → get_or c 0 0 ≡ 46 → get_or c 1 0 ≡ 46 → ⊥) → None ≡ component_refusal c
other [] n one two = absurd (omega arith)
other (x ∷ []) n one two = let h = one refl in grind (arith, nat_tests)
other (x ∷ y ∷ []) n one two = let h = two refl in grind (arith, nat_tests)
other (x ∷ y ∷ z ∷ zs) n one two = grind (arith, nat_tests)

-- ---- all components
pub refused-first : (w : Bytes) (ws : List Bytes) (n : ParserError) → component_refusal w ≡ Some n → components_refusal (w ∷ ws) ≡ Some n
refused-first w ws n e = ap (λ (o : Option ParserError). elim o [ Some m ↦ Some m | None ↦ components_refusal ws ]) e

pub passed_first : (w : Bytes) (ws : List Bytes) → component_refusal w ≡ None → components_refusal (w ∷ ws) ≡ components_refusal ws
passed_first w ws e = ap (λ (o : Option ParserError). elim o [ Some m ↦ Some m | None ↦ components_refusal ws ]) e

-- ---- the path
pub path-backslash : (p : Bytes) → (length p ≡ 0 → ⊥) → holds 92 p ≡ true → Some PathBackslashes ≡ path_refusal p
unfolding path_refusal
path-backslash [] n e = absurd (n refl)
path-backslash (x ∷ xs) n e = sym (ap (λ b. elim b [ true ↦ Some PathBackslashes | false ↦ components_refusal (parts 47 (x ∷ xs)) ]) e)

pub path_components : (p : Bytes) → (length p ≡ 0 → ⊥) → holds 92 p ≡ false → components_refusal (parts 47 p) ≡ path_refusal p
unfolding path_refusal
path_components [] n e = absurd (n refl)
path_components (x ∷ xs) n e = sym (ap (λ b. elim b [ true ↦ Some PathBackslashes | false ↦ components_refusal (parts 47 (x ∷ xs)) ]) e)
