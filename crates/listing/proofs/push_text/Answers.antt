use Rattle.std.proofs.Common.{◌≡◌, ℕ, List, ◌++◌, map, OnOk, sym, refl, subst, rules, tests, arith}
use Rattle.std.specs.List.{range_with_len}
use Rattle.std.proofs.lemmas.List.FromFn.{fill_by_all}
use Rattle.std.proofs.lemmas.Iterator.{YieldsList-from_range, YieldsList-from_map}
use Rattle.std.proofs.lemmas.Iterator.Adapters.{items_from_extend}
use Rattle.token.specs.Token.{spelled, byted}
use Rattle.listing.proofs.push_text.Goals as goal

pub returns : goal.returns
returns g c =
    let a = g.S.Source.ahead c.args.source.now in
    let h = items_from_extend c.extend.result c.extend.ensures.ran (YieldsList-from_map _ (byted a) (YieldsList-from_range 0 c.args.len c.args.len c.map.ensures.source (omega arith)) c.map.ensures.closure (λ x r q k. search (rules, tests))) in
    let all : spelled a ≡ map (byted a) (range_with_len 0 c.args.len) = fill_by_all (byted a) (spelled a) c.args.len 0 (sym c.requires) (λ k l. refl) in
    subst (λ (xs : List ℕ). OnOk c.extend.result (c.extend.new.self.items ≡ c.args.out.now.items ++ xs)) (sym all) (search rules)
