use Rattle.std.proofs.Common.{◌≡◌, true, false, vec_items, sym, subst, rules}
use Rattle.token.specs.Token.{Ahead}
use Rattle.listing.specs.Listing.{is_last}
use Rattle.listing.proofs.Pushed.{Sofar, begun, one_more, the_last}
use Rattle.listing.proofs.list_tokens.Goals as goal

pub loop-out-init : goal.loop-out-init
loop-out-init g c = begun (g.S.Source.ahead c.args.source.now) (vec_items c.new-out.result) c.new-out.ensures.items

pub loop-out-preserved : goal.loop-out-preserved
loop-out-preserved g c =
    let a = g.S.Source.ahead c.loop-out.source in
    let goes : is_last a ≡ false = search rules in
    subst (λ (b : Ahead). Sofar (g.S.Source.ahead c.args.source.now) b (vec_items c.push_next.new.out)) (sym c.take.ensures)
    (one_more (g.S.Source.ahead c.args.source.now) a (vec_items c.loop-out.out) (vec_items c.push_next.new.out) goes c.loop-out.invariant c.in_ok-push_next.ensures.line)

pub returns : goal.returns
returns g c =
    let a = g.S.Source.ahead c.loop-out.source in
    let stops : is_last a ≡ true = search rules in
    let listed = the_last (g.S.Source.ahead c.args.source.now) a (vec_items c.loop-out.out) (vec_items c.push_next.new.out) stops c.loop-out.invariant c.in_ok-push_next.ensures.line in
    (listed.lines, listed.rest)
