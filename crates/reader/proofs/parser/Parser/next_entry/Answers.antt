use Rattle.std.proofs.Common.{[], ◌∷◌, sym, refl, subst}
use Rattle.grammar.specs.Tree as tree
use Rattle.store.specs.Held.{held}
use Rattle.store.specs.declared.parts.Item.TheVariants.{Name}
use Rattle.reader.specs.Events.{opens, closes, Did}
use Rattle.reader.proofs.Runs.{got}
use Rattle.reader.proofs.Texts.{grew_same}
use Rattle.reader.proofs.Doing.{did_open, did-close}
use Rattle.reader.proofs.Opening.{frames_popped, left-popped}
use Rattle.reader.proofs.TurnSteps.{entry_turn_refuses, entry-turned-closes, key_turn_refuses, colon_turn_refuses, entry_turned_any, entry-turned-message}
use Rattle.reader.proofs.Chains.{err_exit}
use Rattle.reader.proofs.parser.Parser.next_entry.Goals as goal

pub returns-in_err-next_symbol_if_eq-clause-turns : goal.returns-in_err-next_symbol_if_eq-clause-turns
returns-in_err-next_symbol_if_eq-clause-turns g c =
    let f = c.args.frames.now in
    rw (err_exit _ c.from_residual.ensures) (entry_turn_refuses f _ c.requires.1 _ (sym c.in_err-next_symbol_if_eq.ensures), grew_same c.args.self.now.out.now)

pub returns-then-branch-clause-turns : goal.returns-then-branch-clause-turns
returns-then-branch-clause-turns g c =
    let f = c.args.frames.now in
    let h = c.pop.new.self in
    let out = c.args.self.now.out.now in
    let top = c.requires.1 in
    let back = frames_popped f h _ _ top c.pop.result c.pop.ensures.items c.pop.ensures.some in
    let more = left-popped f h _ _ top c.pop.result c.pop.ensures.items c.pop.ensures.some c.pop.ensures.room in
    let e = got c.in_ok-next_symbol_if_eq.ensures c.if-branch.true in
    let did : Did (held out) (held c.close.new.self) (closes ∷ []) = subst (λ x. Did (held out) x (closes ∷ [])) (sym c.close.ensures.does) (did-close (held out) out.counted out.measured) in
    entry-turned-closes f _ top _ h back more c.pop.ensures.room e did

pub returns-in_err-key-clause-turns : goal.returns-in_err-key-clause-turns
returns-in_err-key-clause-turns g c =
    let f = c.args.frames.now in
    let e = got c.in_ok-next_symbol_if_eq.ensures c.if-branch.false in
    let k = c.in_err-key.ensures.reads in
    rw (err_exit _ c.from_residual-in_err-key.ensures) (key_turn_refuses f _ c.requires.1 _ e k.0, k.1)

pub returns-in_err-next_symbol_if_eq-2-clause-turns : goal.returns-in_err-next_symbol_if_eq-2-clause-turns
returns-in_err-next_symbol_if_eq-2-clause-turns g c =
    let f = c.args.frames.now in
    let out = c.args.self.now.out.now in
    let e = got c.in_ok-next_symbol_if_eq.ensures c.if-branch.false in
    let k = c.in_ok-key.ensures.reads in
    let did : Did (held out) (held c.open.new.self) (opens (tree.Item.key k.0) ∷ []) = subst (λ x. Did (held out) x (opens (tree.Item.key k.0) ∷ [])) (sym c.open.ensures.does) (did_open (Name c.in_ok-key.key) out.counted out.measured k.2 k.3 refl) in
    rw (err_exit _ c.from_residual-in_err-next_symbol_if_eq-2.ensures) (colon_turn_refuses f _ c.requires.1 _ e k.1 (sym c.in_err-next_symbol_if_eq-2.ensures), did.grew)

pub returns-then-branch-2-clause-turns : goal.returns-then-branch-2-clause-turns
returns-then-branch-2-clause-turns g c =
    let f = c.args.frames.now in
    let out = c.args.self.now.out.now in
    let e = got c.in_ok-next_symbol_if_eq.ensures c.if-branch.false in
    let k = c.in_ok-key.ensures.reads in
    let l = got c.in_ok-next_symbol_if_eq-2.ensures c.if-branch-2.true in
    let did : Did (held out) (held c.open.new.self) (opens (tree.Item.key k.0) ∷ []) = subst (λ x. Did (held out) x (opens (tree.Item.key k.0) ∷ [])) (sym c.open.ensures.does) (did_open (Name c.in_ok-key.key) out.counted out.measured k.2 k.3 refl) in
    entry_turned_any f _ c.requires.1 _ e k.1 l did

pub returns-clause-turns : goal.returns-clause-turns
returns-clause-turns g c =
    let f = c.args.frames.now in
    let out = c.args.self.now.out.now in
    let e = got c.in_ok-next_symbol_if_eq.ensures c.if-branch.false in
    let k = c.in_ok-key.ensures.reads in
    let l = got c.in_ok-next_symbol_if_eq-2.ensures c.if-branch-2.false in
    let did : Did (held out) (held c.open.new.self) (opens (tree.Item.key k.0) ∷ []) = subst (λ x. Did (held out) x (opens (tree.Item.key k.0) ∷ [])) (sym c.open.ensures.does) (did_open (Name c.in_ok-key.key) out.counted out.measured k.2 k.3 refl) in
    entry-turned-message f _ c.requires.1 _ e k.1 l did
