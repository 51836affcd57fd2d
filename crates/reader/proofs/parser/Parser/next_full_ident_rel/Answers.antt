use Rattle.std.proofs.Common.{[], ◌∷◌, ◌++◌, rules}
use Rattle.grammar.specs.Grammar.{dot}
use Rattle.store.proofs.Keeping.{grew_join}
use Rattle.reader.proofs.Runs.{run_start, run_goes, run_stops, run_refuses, after_goes, after_stops, after_refuses_item, got}
use Rattle.reader.proofs.Texts.{wrote_none, wrote_byte, wrote_join, wrote_grew}
use Rattle.reader.proofs.Naming.{dot_item, dot_turn, dot_consumes, texts, item-is, item_refuses, dotted-is, dotted_refuses_more}
use Rattle.reader.proofs.Chains.{err_exit}
use Rattle.reader.proofs.parser.Parser.next_full_ident_rel.Goals as goal

pub parts-init : goal.parts-init
parts-init g c = ([], wrote_none c.next_ident.new.self.out.now, run_start texts dot_turn dot_consumes _, c.in_ok-next_ident.ensures.same)

pub returns-in_err-next_ident-2-clause-reads : goal.returns-in_err-next_ident-2-clause-reads
returns-in_err-next_ident-2-clause-reads g c =
    let first = c.in_ok-next_ident.ensures.reads in
    let i = c.parts.invariant in
    let e = c.in_err-next_ident-2.ensures.reads in
    let d = got c.in_ok-next_symbol_if_eq.ensures c.if-branch.true in
    rw (err_exit _ c.from_residual-in_err-next_ident-2.ensures) (
      dotted_refuses_more _ first.1 (run_refuses texts dot_turn dot_consumes _ _ _ i.2 (after_refuses_item dot dot_item _ d (item_refuses _ e.0))),
      grew_join (wrote_grew c.args.self.now.out.now first.3) (grew_join (wrote_grew c.next_ident.new.self.out.now i.1) (grew_join (wrote_grew c.parts.self.out.now (wrote_byte c.parts.self.out.now dot c.push.ensures.does)) e.1)),
    )

pub parts-preserved : goal.parts-preserved
parts-preserved g c =
    let i = c.parts.invariant in
    let next = c.in_ok-next_ident-2.ensures.reads in
    let d = got c.in_ok-next_symbol_if_eq.ensures c.if-branch.true in (
      i.0 ++ (dot ∷ next.0),
      wrote_join c.next_ident.new.self.out.now i.1 (wrote_join c.parts.self.out.now (wrote_byte c.parts.self.out.now dot c.push.ensures.does) next.3),
      run_goes texts dot_turn dot_consumes _ _ _ i.2 (after_goes dot dot_item _ d (item-is _ next.1)),
      record { store = cc; source = cc },
    )

pub returns-clause-reads : goal.returns-clause-reads
returns-clause-reads g c =
    let first = c.in_ok-next_ident.ensures.reads in
    let i = c.parts.invariant in
    let d = got c.in_ok-next_symbol_if_eq.ensures c.if-branch.false in (
      first.0 ++ i.0,
      dotted-is _ first.1 (run_stops texts dot_turn dot_consumes _ _ _ i.2 (after_stops dot dot_item _ d)),
      search rules,
      wrote_join c.args.self.now.out.now first.3 i.1,
    )
