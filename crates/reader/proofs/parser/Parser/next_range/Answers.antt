use Rattle.std.proofs.Common.{sym, refl, subst}
use Rattle.grammar.specs.Tree.{one, nothing}
use Rattle.store.specs.declared.parts.Item.{Item}
use Rattle.store.specs.Held.{held}
use Rattle.store.specs.Means.{Kept}
use Rattle.reader.specs.Ranges.{range_item}
use Rattle.reader.proofs.Leaves.{kept-plain}
use Rattle.reader.proofs.RangeSteps.{range-is}
use Rattle.reader.proofs.parser.Parser.next_range.Goals as goal

pub returns-in-Extension-clause-reads : goal.returns-in-Extension-clause-reads
returns-in-Extension-clause-reads g c =
    let m = c.in_ok-from.from in
    let n = c.in_ok-to.to in
    let kept = kept-plain c.args.self.now.out.now (Item.ExtensionRange m n) c.put.ensures.does tt refl in (
      one (range_item c.args.numbers.kind m n) nothing,
      range-is (range_item c.args.numbers.kind) c.args.numbers.max _ (sym c.in_ok-from.ensures) (sym c.in_ok-to.ensures),
      subst (λ k. Kept (held c.args.self.now.out.now) (held c.put.new.self) (one (range_item k m n) nothing)) (sym c.in-Extension.is) kept,
    )

pub returns-in-Reserved-clause-reads : goal.returns-in-Reserved-clause-reads
returns-in-Reserved-clause-reads g c =
    let m = c.in_ok-from.from in
    let n = c.in_ok-to.to in
    let kept = kept-plain c.args.self.now.out.now (Item.ReservedRange m n) c.put-in-Reserved.ensures.does tt refl in (
      one (range_item c.args.numbers.kind m n) nothing,
      range-is (range_item c.args.numbers.kind) c.args.numbers.max _ (sym c.in_ok-from.ensures) (sym c.in_ok-to.ensures),
      subst (λ k. Kept (held c.args.self.now.out.now) (held c.put-in-Reserved.new.self) (one (range_item k m n) nothing)) (sym c.in-Reserved.is) kept,
    )
