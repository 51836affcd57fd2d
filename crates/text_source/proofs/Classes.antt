-- A table of sixteen rows of sixteen meets its rule, by one computed test over its 256 entries; and what a class says of a byte.
use Rattle.std.proofs.Common.{◌≡◌, ℕ, ◌+◌, ◌*◌, ◌/◌, ◌%◌, ◌<◌, Bool, true, false, cond, ◌||◌, ◌⊎◌, List, [], map, get_or, sym, refl, ap, ◌∙◌, subst, ⊎_elim, div-add-mod', zero-add, arith}
use Rattle.std.specs.List.{range_with_len}
use Rattle.std.proofs.lemmas.List.FromFn.{get_or-map-range_with_len}
use Rattle.std.proofs.lemmas.Bool.Decides.{nat_tests}
use Rattle.token.specs.Law.{is_letter, is_digit, is_mark, is_name_byte}
use Rattle.text_source.specs.declared.class.Class.{Class}
use Rattle.text_source.specs.declared.class.Class.TheVariants.{Blank, Letter, Digit, Quote, Symbol, Other}
use Rattle.text_source.specs.Classes.{is_blank, is_quote, class_of}

abbrev row : {X : Type 0} → (ℕ → X) → ℕ → List X
row rule r = map (λ i. rule (r * 16 + i)) (range_with_len 0 16)

abbrev pub rows : {X : Type 0} → (ℕ → X) → List (List X)
rows rule = map (row rule) (range_with_len 0 16)

pub at : {X : Type 0} (rule : ℕ → X) (table : List (List X)) → table ≡ rows rule → (b : ℕ) (d : X) → b < 256 → get_or (get_or table (b / 16) []) (b % 16) d ≡ rule b
at rule table e b d h =
    ap (λ t. get_or (get_or t (b / 16) []) (b % 16) d) e
    ∙ ap (λ r. get_or r (b % 16) d) (get_or-map-range_with_len (row rule) 0 16 (b / 16) (b / 16) [] (omega arith) (zero-add (b / 16)))
    ∙ get_or-map-range_with_len (λ i. rule (b / 16 * 16 + i)) 0 16 (b % 16) (b % 16) d (omega arith) (zero-add (b % 16))
    ∙ ap rule (div-add-mod' b 16)

-- ---- what a class says of a byte
abbrev by_tests : Bool → Bool → Bool → Bool → Bool → Class
by_tests blank letter digit quote mark = cond blank Blank (cond letter Letter (cond digit Digit (cond quote Quote (cond mark Symbol Other))))

abbrev Says : ℕ → Class → Type 0
Says b Blank = Unit {0}
Says b Letter = is_letter b ≡ true
Says b Digit = is_digit b ≡ true
Says b Quote = Unit {0}
Says b Symbol = is_mark b ≡ true
Says b Other = Unit {0}

said : (b : ℕ) (blank letter digit quote mark : Bool) → is_letter b ≡ letter → is_digit b ≡ digit → is_mark b ≡ mark → Says b (by_tests blank letter digit quote mark)
said b true letter digit quote mark l d m = tt
said b false true digit quote mark l d m = l
said b false false true quote mark l d m = d
said b false false false true mark l d m = tt
said b false false false false true l d m = m
said b false false false false false l d m = tt

pub says : (b : ℕ) (k : Class) → class_of b ≡ k → Says b k
unfolding class_of
says b k e = subst (Says b) e (said b (is_blank b) (is_letter b) (is_digit b) (is_quote b) (is_mark b) refl refl refl)

-- ---- the classes of the bytes of a name
abbrev names : Class → Bool
names Blank = false
names Letter = true
names Digit = true
names Quote = false
names Symbol = false
names Other = false

named : (blank letter digit quote mark : Bool) → (blank ≡ true → (letter || digit) ≡ false) → names (by_tests blank letter digit quote mark) ≡ (letter || digit)
named true letter digit quote mark h = sym (h refl)
named false true digit quote mark h = refl
named false false true quote mark h = refl
named false false false true mark h = refl
named false false false false true h = refl
named false false false false false h = refl

class_names : (b : ℕ) → names (class_of b) ≡ is_name_byte b
unfolding class_of
class_names b = named (is_blank b) (is_letter b) (is_digit b) (is_quote b) (is_mark b) blank_no_name where
  blank_no_name : is_blank b ≡ true → is_name_byte b ≡ false
  blank_no_name e = grind (arith, nat_tests)

pub name_byte : (b : ℕ) (k : Class) → k ≡ class_of b → (k ≡ Letter) ⊎ (k ≡ Digit) → true ≡ is_name_byte b
name_byte b k e h = ⊎_elim (λ l. sym (ap names l)) (λ d. sym (ap names d)) h ∙ ap names e ∙ class_names b

unnamed : (k : Class) → (k ≡ Letter → ⊥) → (k ≡ Digit → ⊥) → false ≡ names k
unnamed Blank l d = refl
unnamed Letter l d = absurd (l refl)
unnamed Digit l d = absurd (d refl)
unnamed Quote l d = refl
unnamed Symbol l d = refl
unnamed Other l d = refl

pub no_name_byte : (b : ℕ) (k : Class) → k ≡ class_of b → (k ≡ Letter → ⊥) → (k ≡ Digit → ⊥) → false ≡ is_name_byte b
no_name_byte b k e l d = unnamed k l d ∙ ap names e ∙ class_names b
