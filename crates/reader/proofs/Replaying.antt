-- The laws of events and of what is still ahead.
use Rattle.std.proofs.Common.{◌≡◌, ℕ, Bool, true, false, List, [], ◌∷◌, ◌++◌, Some as some, sym, refl, ap, ◌∙◌, append_assoc, arith}
use Rattle.token.specs.Token.{Ahead, next, end, fault}
use Rattle.grammar.specs.declared.fault.ReadFault.{ReadFault}
use Rattle.grammar.specs.declared.fault.ParserError.TheVariants.{ExpectSymbol}
use Rattle.grammar.specs.Parse.{Reply, ok, refused, Parser, bind, ◌>>=◌, ◌>>◌, ◌<$>◌, return, refuse, given◌then◌else◌, with_some, when, look, take, due, peek, accept, expect, is_symbol, next_is, symbol_if, symbol_due, after_turn}
use Rattle.grammar.specs.Tree.{Item, Forest, nothing, node, one, ◌beside◌}
use Rattle.reader.specs.Events.{Event, opens, closes, events}
use Rattle.reader.specs.Brackets.{after, Rest, closing}

pub after-after : (a b : List Event) (r : Reply (List Event)) → after a (after b r) ≡ after (a ++ b) r
after-after a b (ok fs p) = ap (λ l. ok l p) (sym (append_assoc a b fs))
after-after a b (refused why p) = refl

pub after_none : (r : Reply (List Event)) → after [] r ≡ r
after_none (ok fs p) = refl
after_none (refused why p) = refl

-- ---- events of forests
pub events_none : events nothing ≡ []
unfolding events
events_none = refl

pub events-one : (i : Item) (parts : Forest) → events (one i parts) ≡ opens i ∷ (events parts ++ closes ∷ [])
unfolding events
events-one i parts = refl

pub events-node : (i : Item) (v h : Forest) → events (node i v h) ≡ opens i ∷ (events v ++ closes ∷ events h)
unfolding events
events-node i v h = refl

pub events_beside : (f h : Forest) → events (f beside h) ≡ events f ++ events h
unfolding events
events_beside nothing h = refl
events_beside (node x parts rest) h =
    ap (λ (l : List Event). opens x ∷ (events parts ++ closes ∷ l)) (events_beside rest h)
    ∙ ap (λ (l : List Event). opens x ∷ l) (sym (append_assoc (events parts) (closes ∷ events rest) (events h)))

-- a record that is opened, its parts, and its close, one after another
pub node-after : (i : Item) (f : Forest) (r : Reply (List Event)) → after (events (one i f)) r ≡ after (opens i ∷ []) (after (events f) (after (closes ∷ []) r))
node-after i f r =
    ap (λ (l : List Event). after l r) (events-one i f)
    ∙ sym (ap (after (opens i ∷ [])) (after-after (events f) (closes ∷ []) r) ∙ after-after (opens i ∷ []) (events f ++ closes ∷ []) r)

-- ---- what is read inside out is kept from the outside in
pub wrap : (r : Reply Forest) (close : Parser (Unit {0})) (i : Item) (k : Rest) →
    bind (bind r (λ es b. bind (close b) (λ _ c. ok (one i es) c))) (λ f b. after (events f) (k b))
    ≡ after (opens i ∷ []) (bind r (λ es b. after (events es) (bind (close b) (λ _. closing k))))
wrap (ok es b) close i k = go (close b)
  where
    go : (r : Reply (Unit {0})) → bind (bind r (λ _ c. ok (one i es) c)) (λ f b. after (events f) (k b)) ≡ after (opens i ∷ []) (after (events es) (bind r (λ _. closing k)))
    go (ok x c) = node-after i es (k c)
    go (refused why c) = refl
wrap (refused why b) close i k = refl

pub wrap_list : (r : Reply Forest) (more : Parser Forest) (close : Parser (Unit {0})) (i : Item) (k : Rest) →
    bind (bind (bind (bind r (λ first b. bind (more b) (λ rest c. ok (first beside rest) c))) (λ items b. bind (close b) (λ _ c. ok items c))) (λ items b. ok (one i items) b)) (λ f b. after (events f) (k b))
    ≡ after (opens i ∷ []) (bind r (λ f b. after (events f) (bind (more b) (λ h c. after (events h) (bind (close c) (λ _. closing k))))))
wrap_list (ok f b) more close i k = go (more b)
  where
    last : (h : Forest) (r : Reply (Unit {0})) → bind (bind (bind r (λ _ c. ok (f beside h) c)) (λ items b. ok (one i items) b)) (λ f b. after (events f) (k b)) ≡ after (opens i ∷ []) (after (events f) (after (events h) (bind r (λ _. closing k))))
    last h (ok x c) =
        node-after i (f beside h) (k c)
        ∙ ap (after (opens i ∷ [])) (ap (λ (l : List Event). after l (closing k c)) (events_beside f h) ∙ sym (after-after (events f) (events h) (closing k c)))
    last h (refused why c) = refl

    go : (r : Reply Forest) → bind (bind (bind (bind r (λ rest c. ok (f beside rest) c)) (λ items b. bind (close b) (λ _ c. ok items c))) (λ items b. ok (one i items) b)) (λ f b. after (events f) (k b)) ≡ after (opens i ∷ []) (after (events f) (bind r (λ h c. after (events h) (bind (close c) (λ _. closing k)))))
    go (ok h c) = last h (close c)
    go (refused why c) = refl
wrap_list (refused why b) more close i k = refl

pub wrap_map : (r : Reply Forest) (comma : Parser (Unit {0})) (more : Parser Forest) (close : Parser (Unit {0})) (i : Item) (k : Rest) →
    bind (bind r (λ x b. bind (comma b) (λ _ c. bind (more c) (λ y d. bind (close d) (λ _ e. ok (one i (x beside y)) e))))) (λ f b. after (events f) (k b))
    ≡ after (opens i ∷ []) (bind r (λ x b. after (events x) (bind (comma b) (λ _ c. bind (more c) (λ y d. after (events y) (bind (close d) (λ _. closing k)))))))
wrap_map (ok x b) comma more close i k = at_comma (comma b)
  where
    last : (y : Forest) (r : Reply (Unit {0})) → bind (bind r (λ _ e. ok (one i (x beside y)) e)) (λ f b. after (events f) (k b)) ≡ after (opens i ∷ []) (after (events x) (after (events y) (bind r (λ _. closing k))))
    last y (ok u e) =
        node-after i (x beside y) (k e)
        ∙ ap (after (opens i ∷ [])) (ap (λ (l : List Event). after l (closing k e)) (events_beside x y) ∙ sym (after-after (events x) (events y) (closing k e)))
    last y (refused why e) = refl

    at_value : (r : Reply Forest) → bind (bind r (λ y d. bind (close d) (λ _ e. ok (one i (x beside y)) e))) (λ f b. after (events f) (k b)) ≡ after (opens i ∷ []) (after (events x) (bind r (λ y d. after (events y) (bind (close d) (λ _. closing k)))))
    at_value (ok y d) = last y (close d)
    at_value (refused why d) = refl

    at_comma : (r : Reply (Unit {0})) → bind (bind r (λ _ c. bind (more c) (λ y d. bind (close d) (λ _ e. ok (one i (x beside y)) e)))) (λ f b. after (events f) (k b)) ≡ after (opens i ∷ []) (after (events x) (bind r (λ _ c. bind (more c) (λ y d. after (events y) (bind (close d) (λ _. closing k))))))
    at_comma (ok u c) = at_value (more c)
    at_comma (refused why c) = refl
wrap_map (refused why b) comma more close i k = refl

pub wrap_item : (r : Reply Forest) (more : Parser Forest) (k : Rest) →
    bind (bind (bind r (λ x b. ok (some x) b)) (after_turn ◌beside◌ nothing more)) (λ f b. after (events f) (k b))
    ≡ bind r (λ f b. after (events f) (bind (more b) (λ h c. after (events h) (k c))))
unfolding ◌<$>◌
wrap_item (ok f b) more k = go (more b)
  where
    go : (r : Reply Forest) → bind (bind r (λ y c. ok (f beside y) c)) (λ f b. after (events f) (k b)) ≡ after (events f) (bind r (λ h c. after (events h) (k c)))
    go (ok h c) = ap (λ (l : List Event). after l (k c)) (events_beside f h) ∙ sym (after-after (events f) (events h) (k c))
    go (refused why c) = refl
wrap_item (refused why b) more k = refl

pub wrap_entry : (r : Reply Forest) (sep : Parser Bool) (more : Parser Forest) (i : Item) (k : Rest) →
    bind (bind (bind (bind r (λ v b. bind (sep b) (λ _ c. ok (one i v) c))) (λ x b. ok (some x) b)) (after_turn ◌beside◌ nothing more)) (λ f b. after (events f) (k b))
    ≡ after (opens i ∷ []) (bind r (λ v b. after (events v) (closing (λ b. bind (sep b) (λ _ c. bind (more c) (λ h e. after (events h) (k e)))) b)))
unfolding ◌<$>◌
wrap_entry (ok v b) sep more i k = go (sep b)
  where
    last : (r : Reply Forest) → bind (bind r (λ y c. ok (one i v beside y) c)) (λ f b. after (events f) (k b)) ≡ after (opens i ∷ []) (after (events v) (after (closes ∷ []) (bind r (λ h e. after (events h) (k e)))))
    last (ok h c) =
        ap (λ (l : List Event). after l (k c)) (events_beside (one i v) h) ∙ sym (after-after (events (one i v)) (events h) (k c)) ∙ node-after i v (after (events h) (k c))
    last (refused why c) = refl

    go : (r : Reply Bool) → bind (bind (bind (bind r (λ _ c. ok (one i v) c)) (λ x b. ok (some x) b)) (after_turn ◌beside◌ nothing more)) (λ f b. after (events f) (k b)) ≡ after (opens i ∷ []) (after (events v) (after (closes ∷ []) (bind r (λ _ c. bind (more c) (λ h e. after (events h) (k e))))))
    go (ok x c) = last (more c)
    go (refused why c) = refl
wrap_entry (refused why b) sep more i k = refl

-- ---- a symbol that is taken if it comes
pub record Came (c : ℕ) (a b : Ahead) : Type 0 where
  pub seen : next_is c a ≡ ok true a
  pub due_too : symbol_due c a ≡ ok tt b

pub came : (c : ℕ) (a : Ahead) {b : Ahead} → symbol_if c a ≡ ok true b → Came c a b
unfolding accept peek look take return with_some given◌then◌else◌ ◌>>=◌ ◌>>◌ due expect refuse
came c (next t p a) {b} e = go (is_symbol c t) refl e
  where
    go : (v : Bool) → is_symbol c t ≡ v → (given v then (take >> return true) else return false) (next t p a) ≡ ok true b → Came c (next t p a) b
    go true h e =
        let s : a ≡ b = cc in
        record { seen = ap (λ v. ok v (next t p a)) h; due_too = ap (λ v. with_some (when v tt) (λ u. take >> return u) (refuse ExpectSymbol) (next t p a)) h ∙ ap (λ x. ok tt x) s }
    go false h e = let z : ◌≡◌ {A = ℕ} 0 1 = cc in absurd (omega arith)
came c (end p) e = let z : ◌≡◌ {A = ℕ} 0 1 = cc in absurd (omega arith)
came c (fault x p) e = let z : ◌≡◌ {A = ℕ} 0 1 = cc in absurd (omega arith)

pub record Other (c : ℕ) (a b : Ahead) : Type 0 where
  pub seen : next_is c a ≡ ok false a
  pub stays : b ≡ a

pub other : (c : ℕ) (a : Ahead) {b : Ahead} → symbol_if c a ≡ ok false b → Other c a b
unfolding accept peek look take return with_some given◌then◌else◌ ◌>>=◌ ◌>>◌
other c (next t p a) {b} e = go (is_symbol c t) refl e
  where
    go : (v : Bool) → is_symbol c t ≡ v → (given v then (take >> return true) else return false) (next t p a) ≡ ok false b → Other c (next t p a) b
    go true h e = let z : ◌≡◌ {A = ℕ} 0 1 = cc in absurd (omega arith)
    go false h e = let s : b ≡ next t p a = cc in record { seen = ap (λ v. ok v (next t p a)) h; stays = s }
other c (end p) {b} e = let s : b ≡ end p = cc in record { seen = refl; stays = s }
other c (fault x p) e = let z : ◌≡◌ {A = ℕ} 0 1 = cc in absurd (omega arith)

pub unseen : (c : ℕ) (a : Ahead) {why : ReadFault} {b : Ahead} → symbol_if c a ≡ refused why b → next_is c a ≡ refused why b
unfolding accept peek look take return with_some given◌then◌else◌ ◌>>=◌ ◌>>◌
unseen c (next t p a) {why} {b} e = go (is_symbol c t) e
  where
    go : (v : Bool) → (given v then (take >> return true) else return false) (next t p a) ≡ refused why b → next_is c (next t p a) ≡ refused why b
    go true e = let z : ◌≡◌ {A = ℕ} 0 1 = cc in absurd (omega arith)
    go false e = let z : ◌≡◌ {A = ℕ} 0 1 = cc in absurd (omega arith)
unseen c (end p) e = let z : ◌≡◌ {A = ℕ} 0 1 = cc in absurd (omega arith)
unseen c (fault x p) e = e

-- ---- where nothing is left to be read, a reader's reply is a forest and its events
pub ended_ok : (r : Reply Forest) {w : List Event} {b : Ahead} → bind r (λ f c. after (events f) (ok [] c)) ≡ ok w b → (f : Forest) × (r ≡ ok f b) × (events f ++ [] ≡ w)
ended_ok (ok f c) e = let p : events f ++ [] ≡ _ = cc in let q : c ≡ _ = cc in (f, ap (ok f) q, p)
ended_ok (refused why c) e = let z : ◌≡◌ {A = ℕ} 0 1 = cc in absurd (omega arith)

pub ended_refused : (r : Reply Forest) {why : ReadFault} {b : Ahead} → bind r (λ f c. after (events f) (ok [] c)) ≡ refused why b → r ≡ refused why b
ended_refused (ok f c) e = let z : ◌≡◌ {A = ℕ} 0 1 = cc in absurd (omega arith)
ended_refused (refused i c) e = let p : i ≡ _ = cc in let q : c ≡ _ = cc in λ k. refused (p k) (q k)
