-- How the rows of a forest change where it grows, and where the cursor stands then.
use Rattle.std.proofs.Common.{◌≡◌, ℕ, suc, ◌+◌, ◌<◌, ◌≤◌, true, false, eqb, List, [], ◌∷◌, ◌++◌, map, length, Some, None, Option, sym, refl, ap, ◌∙◌, append_assoc, append-nil, arith, length-append}
use Rattle.std.specs.Option.{option_or}
use Rattle.std.proofs.lemmas.Bool.Decides.{nat_tests}
use Rattle.grammar.specs.Tree as tree
use Rattle.grammar.specs.Tree.{Forest, nothing, node, one, ◌beside◌, records, text}
use Rattle.store.specs.Rows.{Row, begins, rows, ends}

-- ---- forests beside each other
pub beside_none : (f : Forest) → f beside nothing ≡ f
beside_none nothing = refl
beside_none (node x parts rest) = ap (node x parts) (beside_none rest)

pub beside_assoc : (f g k : Forest) → (f beside g) beside k ≡ f beside (g beside k)
beside_assoc nothing g k = refl
beside_assoc (node x parts rest) g k = ap (node x parts) (beside_assoc rest g k)

pub records_beside : (f g : Forest) → records (f beside g) ≡ records f + records g
unfolding records
records_beside nothing g = omega arith
records_beside (node x parts rest) g = let h = records_beside rest g in omega arith

pub text_beside : (f g : Forest) → text (f beside g) ≡ text f + text g
unfolding text
text_beside nothing g = omega arith
text_beside (node x parts rest) g = let h = text_beside rest g in omega arith

pub records-one : (x : tree.Item) (f : Forest) → records (one x f) ≡ suc (records f)
unfolding records
records-one x f = omega arith

pub text-one : (x : tree.Item) (f : Forest) → text (one x f) ≡ tree.item_text x + text f
unfolding text
text-one x f = omega arith

pub records_none : records nothing ≡ 0
unfolding records
records_none = refl

pub text_none : text nothing ≡ 0
unfolding text
text_none = refl

-- ---- a list whose first entry has the index `at`: another entry at index i
abbrev pub altered : {X : Type 0} → ℕ → ℕ → (X → X) → List X → List X
altered at i g [] = []
altered at i g (x ∷ xs) = elim (eqb at i) [ true ↦ g x ∷ xs | false ↦ x ∷ altered (suc at) i g xs ]

pub altered-here : {X : Type 0} (at : ℕ) (g : X → X) (x : X) (xs : List X) → altered at at g (x ∷ xs) ≡ g x ∷ xs
altered-here at g x xs = let t : eqb at at ≡ true = grind (arith, nat_tests) in rw (t, altered)

pub altered-next : {X : Type 0} (at i : ℕ) (g : X → X) (x : X) (xs : List X) → at < i → altered at i g (x ∷ xs) ≡ x ∷ altered (suc at) i g xs
altered-next at i g x xs l = let t : eqb at i ≡ false = grind (arith, nat_tests) in rw (t, altered)

pub altered-low : {X : Type 0} (at i : ℕ) (g : X → X) (xs : List X) → i < at → altered at i g xs ≡ xs
altered-low at i g [] l = refl
altered-low at i g (x ∷ xs) l = let t : eqb at i ≡ false = grind (arith, nat_tests) in rw (t, altered) (ap (λ ys. x ∷ ys) (altered-low (suc at) i g xs (omega arith)))

pub altered-behind : {X : Type 0} (at i n : ℕ) (g : X → X) (xs ys : List X) → at + length xs ≡ n → n ≤ i → altered at i g (xs ++ ys) ≡ xs ++ altered n i g ys
altered-behind at i n g [] ys e l = let z : at ≡ n = omega arith in ap (λ k. altered k i g ys) z
altered-behind at i n g (x ∷ xs) ys e l = altered-next at i g x (xs ++ ys) (omega arith) ∙ ap (λ zs. x ∷ zs) (altered-behind (suc at) i n g xs ys (omega arith) l)

pub altered-at : {X : Type 0} (at i : ℕ) (g : X → X) (xs : List X) (x : X) (ys : List X) → at + length xs ≡ i → altered at i g (xs ++ x ∷ ys) ≡ xs ++ g x ∷ ys
altered-at at i g xs x ys e = altered-behind at i i g xs (x ∷ ys) e (omega arith) ∙ ap (λ zs. xs ++ zs) (altered-here i g x ys)

pub map-altered : {X Y : Type 0} (f : X → Y) (at i : ℕ) (g : X → X) (k : Y → Y) (xs : List X) → ((x : X) → f (g x) ≡ k (f x)) → map f (altered at i g xs) ≡ altered at i k (map f xs)
map-altered f at i g k [] h = refl
map-altered {X} {Y} f at i g k (x ∷ xs) h =
    elim (eqb at i) as (λ b. map f (elim b as (λ _. List X) [ true ↦ g x ∷ xs | false ↦ x ∷ altered (suc at) i g xs ]) ≡ elim b as (λ _. List Y) [ true ↦ k (f x) ∷ map f xs | false ↦ f x ∷ altered (suc at) i k (map f xs) ]) [
      | true ↦ ap (λ y. y ∷ map f xs) (h x)
      | false ↦ ap (λ ys. f x ∷ ys) (map-altered f (suc at) i g k xs h)
    ]

-- ---- the rows of a forest, whose last item is followed by `after`
unfoldable pub rows_to : Option ℕ → ℕ → Forest → Option ℕ → List Row
rows_to parent at nothing after = []
rows_to parent at (node x parts rest) after =
    record { item = x; parent = parent; first = begins (suc at) parts; next = option_or (begins (suc at + records parts) rest) after }
    ∷ (rows_to (Some at) (suc at) parts None ++ rows_to parent (suc at + records parts) rest after)

abbrev pub row : tree.Item → Option ℕ → Option ℕ → Option ℕ → Row
row x p f n = record { item = x; parent = p; first = f; next = n }

or_none : (o : Option ℕ) → option_or o None ≡ o
or_none None = refl
or_none (Some i) = refl

or_assoc : (a b c : Option ℕ) → option_or (option_or a b) c ≡ option_or a (option_or b c)
or_assoc None b c = refl
or_assoc (Some i) b c = refl

pub rows_to_none : (p : Option ℕ) (at : ℕ) (f : Forest) → rows_to p at f None ≡ rows p at f
unfolding rows rows_to
rows_to_none p at nothing = refl
rows_to_none p at (node x parts rest) =
    let n = or_none (begins (suc at + records parts) rest) in
    let a = rows_to_none (Some at) (suc at) parts in
    let b = rows_to_none p (suc at + records parts) rest in
    λ i. row x p (begins (suc at) parts) (n i) ∷ (a i ++ b i)

pub length-rows_to : (p : Option ℕ) (at : ℕ) (f : Forest) (o : Option ℕ) → length (rows_to p at f o) ≡ records f
unfolding rows_to records
length-rows_to p at nothing o = refl
length-rows_to p at (node x parts rest) o =
    let a = length-rows_to (Some at) (suc at) parts None in
    let b = length-rows_to p (suc at + records parts) rest o in
    let l = length-append (rows_to (Some at) (suc at) parts None) (rows_to p (suc at + records parts) rest o) in
    omega arith

begins_beside : (n m : ℕ) (f g : Forest) → n + records f ≡ m → begins n (f beside g) ≡ option_or (begins n f) (begins m g)
unfolding records
begins_beside n m nothing g e = let z : n ≡ m = omega arith in ap (λ k. begins k g) z
begins_beside n m (node x parts rest) g e = refl

pub rows_to_beside : (p : Option ℕ) (at m : ℕ) (f g : Forest) (o : Option ℕ) → at + records f ≡ m → rows_to p at (f beside g) o ≡ rows_to p at f (option_or (begins m g) o) ++ rows_to p m g o
unfolding rows_to records
rows_to_beside p at m nothing g o e = let z : at ≡ m = omega arith in ap (λ k. rows_to p k g o) z
rows_to_beside p at m (node x parts rest) g o e =
    let n = suc at + records parts in
    let past : n + records rest ≡ m = omega arith in
    let link : option_or (begins n (rest beside g)) o ≡ option_or (begins n rest) (option_or (begins m g) o) = ap (λ b. option_or b o) (begins_beside n m rest g past) ∙ or_assoc (begins n rest) (begins m g) o in
    let us = rows_to (Some at) (suc at) parts None in
    let more : us ++ rows_to p n (rest beside g) o ≡ (us ++ rows_to p n rest (option_or (begins m g) o)) ++ rows_to p m g o =
    ap (λ l. us ++ l) (rows_to_beside p n m rest g o past) ∙ sym (append_assoc us (rows_to p n rest (option_or (begins m g) o)) (rows_to p m g o)) in
    λ i. row x p (begins (suc at) parts) (link i) ∷ more i

-- an item with its parts, behind others
pub rows-within : (p : Option ℕ) (at a : ℕ) (before : Forest) (y : tree.Item) (f : Forest) → at + records before ≡ a → rows p at (before beside one y f) ≡ rows_to p at before (Some a) ++ (row y p (begins (suc a) f) None ∷ rows (Some a) (suc a) f)
unfolding rows
rows-within p at a before y f e =
    sym (rows_to_none p at (before beside one y f)) ∙ rows_to_beside p at a before (one y f) None e
    ∙ ap (λ l. rows_to p at before (Some a) ++ l) (rows_to_none p a (one y f) ∙ ap (λ l. row y p (begins (suc a) f) None ∷ l) (append-nil (rows (Some a) (suc a) f)))

-- ---- the link to a record at `to`
abbrev pub row_next : ℕ → Row → Row
row_next to r = record r { next = Some to }

abbrev pub row_first : ℕ → Row → Row
row_first to r = record r { first = Some to }

abbrev pub row_item : tree.Item → Row → Row
row_item z r = record r { item = z }

abbrev pub relinked : ℕ → Option ℕ → Option ℕ → ℕ → List Row → List Row
relinked at (Some l) o to rs = altered at l (row_next to) rs
relinked at None (Some q) to rs = altered at q (row_first to) rs
relinked at None None to rs = rs

-- the link stands at n or behind it
abbrev pub LinksFrom : ℕ → Option ℕ → Option ℕ → Type 0
LinksFrom n (Some l) o = n ≤ l
LinksFrom n None (Some q) = n ≤ q
LinksFrom n None None = Unit {0}

pub links_sooner : (n m : ℕ) (l o : Option ℕ) → m ≤ n → LinksFrom n l o → LinksFrom m l o
links_sooner n m (Some l) o h k = omega arith
links_sooner n m None (Some q) h k = omega arith
links_sooner n m None None h k = tt

pub relinked-behind : (at n : ℕ) (l o : Option ℕ) (to : ℕ) (xs ys : List Row) → at + length xs ≡ n → LinksFrom n l o → relinked at l o to (xs ++ ys) ≡ xs ++ relinked n l o to ys
relinked-behind at n (Some l) o to xs ys e h = altered-behind at l n (row_next to) xs ys e h
relinked-behind at n None (Some q) to xs ys e h = altered-behind at q n (row_first to) xs ys e h
relinked-behind at n None None to xs ys e h = refl

pub relinked-next : (at : ℕ) (l o : Option ℕ) (to : ℕ) (x : Row) (ys : List Row) → LinksFrom (suc at) l o → relinked at l o to (x ∷ ys) ≡ x ∷ relinked (suc at) l o to ys
relinked-next at (Some l) o to x ys h = altered-next at l (row_next to) x ys (omega arith)
relinked-next at None (Some q) to x ys h = altered-next at q (row_first to) x ys (omega arith)
relinked-next at None None to x ys h = refl

-- ---- where the last item stands
pub ends-from : (at : ℕ) (o : Option ℕ) (x : tree.Item) (parts rest : Forest) → LinksFrom at (ends at (node x parts rest)) o
ends-from at o x parts nothing = omega arith
ends-from at o x parts (node y inner rest) = links_sooner (suc at + records parts) at (ends (suc at + records parts) (node y inner rest)) o (omega arith) (ends-from (suc at + records parts) o y inner rest)

pub ends-one : (at a : ℕ) (f : Forest) (y : tree.Item) (parts : Forest) → at + records f ≡ a → ends at (f beside one y parts) ≡ Some a
unfolding records
ends-one at a nothing y parts e = let z : at ≡ a = omega arith in ap Some z
ends-one at a (node x inner nothing) y parts e = let z : suc at + records inner ≡ a = omega arith in ap Some z
ends-one at a (node x inner (node z below rest)) y parts e = ends-one (suc at + records inner) a (node z below rest) y parts (omega arith)

pub ends-relinked : (p : Option ℕ) (at : ℕ) (x : tree.Item) (parts rest : Forest) (o : Option ℕ) (to : ℕ) → relinked at (ends at (node x parts rest)) o to (rows_to p at (node x parts rest) None) ≡ rows_to p at (node x parts rest) (Some to)
unfolding rows_to
ends-relinked p at x parts nothing o to = altered-here at (row_next to) (row x p (begins (suc at) parts) None) (rows_to (Some at) (suc at) parts None ++ [])
ends-relinked p at x parts (node y inner rest) o to =
    let n = suc at + records parts in
    let l = ends n (node y inner rest) in
    let from = ends-from n o y inner rest in
    let us = rows_to (Some at) (suc at) parts None in
    let vs = rows_to p n (node y inner rest) None in
    let r = row x p (begins (suc at) parts) (Some n) in
    let long = length-rows_to (Some at) (suc at) parts None in
    relinked-next at l o to r (us ++ vs) (links_sooner n (suc at) l o (omega arith) from)
    ∙ ap (λ zs. r ∷ zs) (relinked-behind (suc at) n l o to us vs (omega arith) from ∙ ap (λ zs. us ++ zs) (ends-relinked p n y inner rest o to))
