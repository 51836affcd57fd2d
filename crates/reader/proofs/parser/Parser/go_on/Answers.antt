use Rattle.std.proofs.Common.{[], ◌∷◌, sym, ap, ◌∙◌, subst}
use Rattle.store.specs.Held.{held}
use Rattle.reader.specs.declared.frames.Frame.{Frame}
use Rattle.reader.specs.Events.{closes, Did}
use Rattle.reader.proofs.Runs.{got}
use Rattle.reader.proofs.Texts.{grew_same}
use Rattle.reader.proofs.Doing.{did_none, did-close}
use Rattle.reader.proofs.Opening.{frames_popped, left-popped, frames-set, left-set}
use Rattle.reader.proofs.TurnSteps.{ended_turned, ended_turn_refuses, comma-turned, comma_turn_refuses, list-turned-closes, list_turn_unclosed, key-turned, key_turn_unended, value-turned, value_turn_unclosed}
use Rattle.reader.proofs.Chains.{err_exit}
use Rattle.reader.proofs.parser.Parser.go_on.Goals as goal

pub returns-in_err-next_symbol_if_in-in-MessageConstant-clause-turns : goal.returns-in_err-next_symbol_if_in-in-MessageConstant-clause-turns
returns-in_err-next_symbol_if_in-in-MessageConstant-clause-turns g c =
    let f = c.args.frames.now in
    let out = c.args.self.now.out.now in
    let top = c.requires.1 ∙ ap (λ x. x ∷ c.requires.0) c.in-MessageConstant.is in
    let did : Did (held out) (held c.close.new.self) (closes ∷ []) = subst (λ x. Did (held out) x (closes ∷ [])) (sym c.close.ensures.does) (did-close (held out) out.counted out.measured) in
    rw (err_exit _ c.from_residual.ensures) (ended_turn_refuses f _ top _ (sym c.in_err-next_symbol_if_in-in-MessageConstant.ensures), did.grew)

pub returns-in_ok-next_symbol_if_in-in-MessageConstant-clause-turns : goal.returns-in_ok-next_symbol_if_in-in-MessageConstant-clause-turns
returns-in_ok-next_symbol_if_in-in-MessageConstant-clause-turns g c =
    let f = c.args.frames.now in
    let out = c.args.self.now.out.now in
    let top = c.requires.1 ∙ ap (λ x. x ∷ c.requires.0) c.in-MessageConstant.is in
    let did : Did (held out) (held c.close.new.self) (closes ∷ []) = subst (λ x. Did (held out) x (closes ∷ [])) (sym c.close.ensures.does) (did-close (held out) out.counted out.measured) in
    ended_turned f _ top _ (sym c.in_ok-next_symbol_if_in-in-MessageConstant.ensures) did

pub returns-in_err-next_symbol_if_eq-in-ListConstant-clause-turns : goal.returns-in_err-next_symbol_if_eq-in-ListConstant-clause-turns
returns-in_err-next_symbol_if_eq-in-ListConstant-clause-turns g c =
    let f = c.args.frames.now in
    let top = c.requires.1 ∙ ap (λ x. x ∷ c.requires.0) c.in-ListConstant.is in
    rw (err_exit _ c.from_residual-in_err-next_symbol_if_eq-in-ListConstant.ensures) (comma_turn_refuses f _ top _ (sym c.in_err-next_symbol_if_eq-in-ListConstant.ensures), grew_same c.args.self.now.out.now)

pub returns-then-branch-clause-turns : goal.returns-then-branch-clause-turns
returns-then-branch-clause-turns g c =
    let f = c.args.frames.now in
    let out = c.args.self.now.out.now in
    let top = c.requires.1 ∙ ap (λ x. x ∷ c.requires.0) c.in-ListConstant.is in
    let e = got c.in_ok-next_symbol_if_eq-in-ListConstant.ensures c.if-branch.true in
    comma-turned f _ top _ e (did_none (held out) out.counted out.measured)

pub returns-in_err-next_symbol_expect_eq-in-ListConstant-clause-turns : goal.returns-in_err-next_symbol_expect_eq-in-ListConstant-clause-turns
returns-in_err-next_symbol_expect_eq-in-ListConstant-clause-turns g c =
    let f = c.args.frames.now in
    let top = c.requires.1 ∙ ap (λ x. x ∷ c.requires.0) c.in-ListConstant.is in
    let e = got c.in_ok-next_symbol_if_eq-in-ListConstant.ensures c.if-branch.false in
    rw (err_exit _ c.from_residual-in_err-next_symbol_expect_eq-in-ListConstant.ensures) (list_turn_unclosed f _ top _ e (sym c.in_err-next_symbol_expect_eq-in-ListConstant.ensures), grew_same c.args.self.now.out.now)

pub returns-in_ok-next_symbol_expect_eq-in-ListConstant-clause-turns : goal.returns-in_ok-next_symbol_expect_eq-in-ListConstant-clause-turns
returns-in_ok-next_symbol_expect_eq-in-ListConstant-clause-turns g c =
    let f = c.args.frames.now in
    let h = c.pop.new.self in
    let out = c.args.self.now.out.now in
    let top = c.requires.1 ∙ ap (λ x. x ∷ c.requires.0) c.in-ListConstant.is in
    let back = frames_popped f h _ _ top c.pop.result c.pop.ensures.items c.pop.ensures.some in
    let more = left-popped f h _ _ top c.pop.result c.pop.ensures.items c.pop.ensures.some c.pop.ensures.room in
    let e = got c.in_ok-next_symbol_if_eq-in-ListConstant.ensures c.if-branch.false in
    let did : Did (held out) (held c.close-in-ListConstant.new.self) (closes ∷ []) = subst (λ x. Did (held out) x (closes ∷ [])) (sym c.close-in-ListConstant.ensures.does) (did-close (held out) out.counted out.measured) in
    list-turned-closes f _ top _ e h back more c.pop.ensures.room (sym c.in_ok-next_symbol_expect_eq-in-ListConstant.ensures) did

pub returns-in_err-next_symbol_expect_eq-in-MapKey-clause-turns : goal.returns-in_err-next_symbol_expect_eq-in-MapKey-clause-turns
returns-in_err-next_symbol_expect_eq-in-MapKey-clause-turns g c =
    let f = c.args.frames.now in
    let top = c.requires.1 ∙ ap (λ x. x ∷ c.requires.0) c.in-MapKey.is in
    rw (err_exit _ c.from_residual-in_err-next_symbol_expect_eq-in-MapKey.ensures) (key_turn_unended f _ top _ (sym c.in_err-next_symbol_expect_eq-in-MapKey.ensures), grew_same c.args.self.now.out.now)

pub returns-in_ok-next_symbol_expect_eq-in-MapKey-clause-turns : goal.returns-in_ok-next_symbol_expect_eq-in-MapKey-clause-turns
returns-in_ok-next_symbol_expect_eq-in-MapKey-clause-turns g c =
    let f = c.args.frames.now in
    let h = c.set_top.new.self in
    let out = c.args.self.now.out.now in
    let top = c.requires.1 ∙ ap (λ x. x ∷ c.requires.0) c.in-MapKey.is in
    let set = frames-set f h _ Frame.MapValue _ top c.set_top.result c.set_top.ensures.items c.set_top.ensures.some in
    let same = left-set f h _ Frame.MapValue _ top c.set_top.result c.set_top.ensures.items c.set_top.ensures.some c.set_top.ensures.room in
    key-turned f _ top _ h set same c.set_top.ensures.room (sym c.in_ok-next_symbol_expect_eq-in-MapKey.ensures) (did_none (held out) out.counted out.measured)

pub returns-in_err-next_symbol_expect_eq-in-MapValue-clause-turns : goal.returns-in_err-next_symbol_expect_eq-in-MapValue-clause-turns
returns-in_err-next_symbol_expect_eq-in-MapValue-clause-turns g c =
    let f = c.args.frames.now in
    let top = c.requires.1 ∙ ap (λ x. x ∷ c.requires.0) c.in-MapValue.is in
    rw (err_exit _ c.from_residual-in_err-next_symbol_expect_eq-in-MapValue.ensures) (value_turn_unclosed f _ top _ (sym c.in_err-next_symbol_expect_eq-in-MapValue.ensures), grew_same c.args.self.now.out.now)

pub returns-in_ok-next_symbol_expect_eq-in-MapValue-clause-turns : goal.returns-in_ok-next_symbol_expect_eq-in-MapValue-clause-turns
returns-in_ok-next_symbol_expect_eq-in-MapValue-clause-turns g c =
    let f = c.args.frames.now in
    let h = c.pop-in-MapValue.new.self in
    let out = c.args.self.now.out.now in
    let top = c.requires.1 ∙ ap (λ x. x ∷ c.requires.0) c.in-MapValue.is in
    let back = frames_popped f h _ _ top c.pop-in-MapValue.result c.pop-in-MapValue.ensures.items c.pop-in-MapValue.ensures.some in
    let more = left-popped f h _ _ top c.pop-in-MapValue.result c.pop-in-MapValue.ensures.items c.pop-in-MapValue.ensures.some c.pop-in-MapValue.ensures.room in
    let did : Did (held out) (held c.close-in-MapValue.new.self) (closes ∷ []) = subst (λ x. Did (held out) x (closes ∷ [])) (sym c.close-in-MapValue.ensures.does) (did-close (held out) out.counted out.measured) in
    value-turned f _ top _ h back more c.pop-in-MapValue.ensures.room (sym c.in_ok-next_symbol_expect_eq-in-MapValue.ensures) did
