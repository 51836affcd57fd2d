-- A record that is put after its text.
use Rattle.std.proofs.Common.{◌≡◌, ℕ, ◌+◌, ◌≤◌, length, sym, refl, ap, ◌∙◌, subst, le_refl, arith}
use Rattle.token.specs.Token.{Bytes}
use Rattle.grammar.specs.Tree as tree
use Rattle.grammar.specs.Tree.{Forest, nothing, one, ◌beside◌, item_text, key_text}
use Rattle.store.specs.declared.parts.Span.{Span}
use Rattle.store.specs.declared.parts.Item.{Item}
use Rattle.store.specs.declared.parts.Key.{Key}
use Rattle.store.specs.declared.table.Store.{Store}
use Rattle.store.specs.Items.{bytes_of, item_of, ItemBy}
use Rattle.store.specs.Held.{Held, held, most_text, put, put_open, close}
use Rattle.store.specs.Means.{Kept, Texted, Reads, Grew}
use Rattle.store.proofs.Keeping.{kept_none, kept-leaf, kept-node, grew_open, texted_none, texted_join, texted-grew, span_on}
use Rattle.reader.specs.Replies.{Wrote, appended}
use Rattle.reader.proofs.Texts.{fits}

pub kept-nothing : (s : Store) → Kept (held s) (held s) nothing
kept-nothing s = kept_none (held s) s.counted s.measured

-- with no text
pub kept-plain : (s : Store) {new : Held} (i : Item) → new ≡ put (held s) i → ItemBy (held s).used i → item_text (item_of (held s).bytes i) ≡ 0 → Kept (held s) new (one (item_of (held s).bytes i) nothing)
kept-plain s {new} i e by size =
    subst (λ h. Kept (held s) h (one (item_of (held s).bytes i) nothing)) (sym e)
    (kept-leaf s.counted s.measured (texted_none (held s) s.measured) (λ short. record { is = refl; by = by }) size)

-- with one text
pub kept-text : (s : Store) {b new : Held} {w : Bytes} {t : Span} (i : Span → Item) (x : Bytes → tree.Item)
    → ((bs : Bytes) (u : Span) → item_of bs (i u) ≡ x (bytes_of bs u)) → ((n : ℕ) (u : Span) → u.to ≤ n → ItemBy n (i u)) → ((v : Bytes) → item_text (x v) ≡ length v)
    → Wrote (held s) b w → t ≡ appended (held s) b → new ≡ put b (i t) → Kept (held s) new (one (x w) nothing)
kept-text s {b} {new} {w} {t} i x reads by size p at e =
    let whole : Span = appended (held s) b in
    subst (λ h. Kept (held s) h (one (x w) nothing)) (sym (e ∙ ap (λ u. put b (i u)) at))
    (kept-leaf {i = i whole} {x = x w} s.counted s.measured p.texted (λ short. record { is = reads b.bytes whole ∙ ap x (p.is short); by = by b.used whole (le_refl _) }) (size w))

-- ---- names in message constants
pub reads_plain : (s : Store) {b : Held} {w : Bytes} {t : Span} → Wrote (held s) b w → t ≡ appended (held s) b → b.used ≤ most_text → Reads b (Item.Name (Key.Plain t)) (tree.Item.key (tree.Key.plain w))
reads_plain s {b} {w} p at short = subst (λ u. Reads b (Item.Name (Key.Plain u)) (tree.Item.key (tree.Key.plain w))) (sym at) (record { is = ap (λ v. tree.Item.key (tree.Key.plain v)) (p.is short); by = le_refl _ })

pub reads_extension : (s : Store) {b : Held} {w : Bytes} {t : Span} → Wrote (held s) b w → t ≡ appended (held s) b → b.used ≤ most_text → Reads b (Item.Name (Key.Extension t)) (tree.Item.key (tree.Key.extension w))
reads_extension s {b} {w} p at short = subst (λ u. Reads b (Item.Name (Key.Extension u)) (tree.Item.key (tree.Key.extension w))) (sym at) (record { is = ap (λ v. tree.Item.key (tree.Key.extension v)) (p.is short); by = le_refl _ })

pub texted_both : (s : Store) {b c : Held} {v w : Bytes} → Wrote (held s) b v → Wrote b c w → Texted (held s) c (length v + length w)
texted_both s p q = texted_join (fits s) p.texted q.texted

pub reads_any : (s m : Store) {c : Held} {v w : Bytes} {t u : Span} → Wrote (held s) (held m) v → t ≡ appended (held s) (held m) → Wrote (held m) c w → u ≡ appended (held m) c → c.used ≤ most_text
    → Reads c (Item.Name (Key.AnyType t u)) (tree.Item.key (tree.Key.any_type v w))
reads_any s m {c} {v} {w} {t} {u} p at q to short =
    let grew = texted-grew (fits m) q.texted in
    let more : m.used ≤ c.used = grew.more_text in
    let one_is : bytes_of c.bytes (appended (held s) (held m)) ≡ v = span_on grew (appended (held s) (held m)) (le_refl _) ∙ p.is (omega arith) in
    let two_is : bytes_of c.bytes (appended (held m) c) ≡ w = q.is short in
    subst (λ x. Reads c (Item.Name (Key.AnyType x u)) (tree.Item.key (tree.Key.any_type v w))) (sym at)
    (subst (λ x. Reads c (Item.Name (Key.AnyType (appended (held s) (held m)) x)) (tree.Item.key (tree.Key.any_type v w))) (sym to)
    (record { is = λ i. tree.Item.key (tree.Key.any_type (one_is i) (two_is i)); by = (more, le_refl _) }))

-- ---- records with parts
pub grew_opened : (s : Store) (i : Item) {new : Held} → new ≡ put_open (held s) i → Grew (held s) new
grew_opened s i e = subst (Grew (held s)) (sym e) (grew_open (held s) i s.counted)

-- a record without text is opened, its parts are read, and it is closed
pub kept-within : (s : Store) {b c new : Held} {f : Forest} (i : Item) → b ≡ put_open (held s) i → item_text (item_of (held s).bytes i) ≡ 0 → ItemBy (held s).used i → Kept b c f → new ≡ close c → Kept (held s) new (one (item_of (held s).bytes i) f)
kept-within s {b} {c} {new} {f} i e size by k end =
    subst (λ h. Kept (held s) h (one (item_of (held s).bytes i) f)) (sym end)
    (kept-node s.counted s.measured (texted_none (held s) s.measured) (λ short. record { is = refl; by = by }) size (subst (λ h. Kept h c f) e k))

-- a record with one text
pub kept-text-within : (s : Store) {b o c new : Held} {w : Bytes} {t : Span} {f : Forest} (i : Span → Item) (x : Bytes → tree.Item)
    → ((bs : Bytes) (u : Span) → item_of bs (i u) ≡ x (bytes_of bs u)) → ((n : ℕ) (u : Span) → u.to ≤ n → ItemBy n (i u)) → ((v : Bytes) → item_text (x v) ≡ length v)
    → Wrote (held s) b w → t ≡ appended (held s) b → o ≡ put_open b (i t) → Kept o c f → new ≡ close c → Kept (held s) new (one (x w) f)
kept-text-within s {b} {o} {c} {new} {w} {t} {f} i x reads by size p at e k end =
    let whole : Span = appended (held s) b in
    subst (λ h. Kept (held s) h (one (x w) f)) (sym end)
    (kept-node {i = i whole} {x = x w} s.counted s.measured p.texted (λ short. record { is = reads b.bytes whole ∙ ap x (p.is short); by = by b.used whole (le_refl _) }) (size w) (subst (λ h. Kept h c f) (e ∙ ap (λ u. put_open b (i u)) at) k))
