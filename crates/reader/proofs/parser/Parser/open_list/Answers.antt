use Rattle.std.proofs.Common.{◌≡◌, ◌<◌, ◌≤◌, [], ◌∷◌, ◌++◌, length, sym, refl, ◌∙◌, subst, rules}
use Rattle.grammar.specs.Tree as tree
use Rattle.store.specs.Stacks.{items, room}
use Rattle.store.specs.Held.{held}
use Rattle.store.specs.declared.parts.Item.TheVariants.{Constant}
use Rattle.store.specs.declared.parts.Value.TheVariants.{List}
use Rattle.store.proofs.Keeping.{texted_none}
use Rattle.reader.specs.declared.frames.Frame.{Frame}
use Rattle.reader.specs.Events.{opens, closes, Did}
use Rattle.reader.proofs.Runs.{got}
use Rattle.reader.proofs.Texts.{grew_same}
use Rattle.reader.proofs.Doing.{did_open, did-leaf}
use Rattle.reader.proofs.Opening.{frames_pushed, left-pushed, frames_popped, left-popped}
use Rattle.reader.proofs.TurnSteps.{list-turned, list_turned_empty, list_turn_refuses, list_turn_open_refuses, list_turn_full}
use Rattle.reader.proofs.Chains.{err_exit}
use Rattle.reader.proofs.parser.Parser.open_list.Goals as goal

pub returns-then-is_err-clause-turns : goal.returns-then-is_err-clause-turns
returns-then-is_err-clause-turns g c =
    let f = c.args.frames.now in
    let full : room f ≤ length (items f) = search rules in
    (list_turn_full f _ full c.no_room.ensures, grew_same c.args.self.now.out.now)

pub returns-in_err-next_symbol_expect_eq-clause-turns : goal.returns-in_err-next_symbol_expect_eq-clause-turns
returns-in_err-next_symbol_expect_eq-clause-turns g c =
    let f = c.args.frames.now in
    let fits : length (items f) < room f = search rules in
    rw (err_exit _ c.from_residual.ensures) (list_turn_refuses f _ fits (sym c.in_err-next_symbol_expect_eq.ensures), grew_same c.args.self.now.out.now)

pub returns-in_err-next_symbol_if_eq-clause-turns : goal.returns-in_err-next_symbol_if_eq-clause-turns
returns-in_err-next_symbol_if_eq-clause-turns g c =
    let f = c.args.frames.now in
    let fits : length (items f) < room f = search rules in
    let e = sym c.in_ok-next_symbol_expect_eq.ensures in
    rw (err_exit _ c.from_residual-in_err-next_symbol_if_eq.ensures) (list_turn_open_refuses f _ fits e (sym c.in_err-next_symbol_if_eq.ensures), grew_same c.args.self.now.out.now)

pub returns-then-branch-clause-turns : goal.returns-then-branch-clause-turns
returns-then-branch-clause-turns g c =
    let f = c.args.frames.now in
    let p = c.push.new.self in
    let h = c.pop.new.self in
    let out = c.args.self.now.out.now in
    let fits : length (items f) < room f = search rules in
    let pushed : items p ≡ items f ++ Frame.ListConstant ∷ [] = search rules in
    let stays = c.push.ensures.room in
    let top = frames_pushed f p Frame.ListConstant pushed stays fits in
    let less = left-pushed f p Frame.ListConstant pushed stays fits in
    let back = frames_popped p h _ _ top c.pop.result c.pop.ensures.items c.pop.ensures.some in
    let more = left-popped p h _ _ top c.pop.result c.pop.ensures.items c.pop.ensures.some c.pop.ensures.room in
    let e = sym c.in_ok-next_symbol_expect_eq.ensures in
    let k = got c.in_ok-next_symbol_if_eq.ensures c.if-branch.true in
    let did : Did (held out) (held c.put.new.self) (opens (tree.Item.constant tree.Value.list) ∷ closes ∷ []) =
    subst (λ x. Did (held out) x (opens (tree.Item.constant tree.Value.list) ∷ closes ∷ [])) (sym c.put.ensures.does)
    (did-leaf (Constant List) out.counted out.measured (texted_none (held out) out.measured) (λ short. record { is = refl; by = tt }) refl)
    in
    list_turned_empty f _ fits e h back (more ∙ sym less) (c.pop.ensures.room ∙ stays) k did

pub returns-clause-turns : goal.returns-clause-turns
returns-clause-turns g c =
    let f = c.args.frames.now in
    let h = c.push.new.self in
    let out = c.args.self.now.out.now in
    let fits : length (items f) < room f = search rules in
    let pushed : items h ≡ items f ++ Frame.ListConstant ∷ [] = search rules in
    let e = sym c.in_ok-next_symbol_expect_eq.ensures in
    let k = got c.in_ok-next_symbol_if_eq.ensures c.if-branch.false in
    let did : Did (held out) (held c.open.new.self) (opens (tree.Item.constant tree.Value.list) ∷ []) =
    subst (λ x. Did (held out) x (opens (tree.Item.constant tree.Value.list) ∷ [])) (sym c.open.ensures.does)
    (did_open (Constant List) out.counted out.measured (texted_none (held out) out.measured) (λ short. record { is = refl; by = tt }) refl)
    in
    list-turned f _ fits e h pushed c.push.ensures.room k did
