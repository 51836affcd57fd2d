use Rattle.std.proofs.Common.{◌≡◌, ◌<◌, ◌≤◌, [], ◌∷◌, ◌++◌, length, sym, refl, subst, rules}
use Rattle.grammar.specs.Tree as tree
use Rattle.store.specs.Stacks.{items, room}
use Rattle.store.specs.Held.{held}
use Rattle.store.specs.declared.parts.Item.{Item}
use Rattle.store.specs.declared.parts.Shape.{Shape}
use Rattle.store.proofs.Keeping.{texted_none}
use Rattle.reader.specs.declared.frames.Frame.{Frame}
use Rattle.reader.specs.Events.{opens, Did}
use Rattle.reader.proofs.Texts.{grew_same}
use Rattle.reader.proofs.Doing.{did_open}
use Rattle.reader.proofs.TurnSteps.{map-turned, map_turn_refuses, map_turn_full}
use Rattle.reader.proofs.Chains.{err_exit}
use Rattle.reader.proofs.parser.Parser.open_map.Goals as goal

pub returns-then-is_err-clause-turns : goal.returns-then-is_err-clause-turns
returns-then-is_err-clause-turns g c =
    let f = c.args.frames.now in
    let full : room f ≤ length (items f) = search rules in
    (map_turn_full f _ full c.no_room.ensures, grew_same c.args.self.now.out.now)

pub returns-in_err-next_symbol_expect_eq-clause-turns : goal.returns-in_err-next_symbol_expect_eq-clause-turns
returns-in_err-next_symbol_expect_eq-clause-turns g c =
    let f = c.args.frames.now in
    let fits : length (items f) < room f = search rules in
    rw (err_exit _ c.from_residual.ensures) (map_turn_refuses f _ fits (sym c.in_err-next_symbol_expect_eq.ensures), grew_same c.args.self.now.out.now)

pub returns-clause-turns : goal.returns-clause-turns
returns-clause-turns g c =
    let f = c.args.frames.now in
    let h = c.push.new.self in
    let out = c.args.self.now.out.now in
    let fits : length (items f) < room f = search rules in
    let pushed : items h ≡ items f ++ Frame.MapKey ∷ [] = search rules in
    let did : Did (held out) (held c.open.new.self) (opens (tree.Item.type tree.Shape.map) ∷ []) =
    subst (λ x. Did (held out) x (opens (tree.Item.type tree.Shape.map) ∷ [])) (sym c.open.ensures.does)
    (did_open (Item.Type Shape.Map) out.counted out.measured (texted_none (held out) out.measured) (λ short. record { is = refl; by = tt }) refl)
    in
    map-turned f _ h pushed c.push.ensures.room fits (sym c.in_ok-next_symbol_expect_eq.ensures) did
