use Rattle.std.proofs.Common.{sym}
use Rattle.grammar.specs.Tree as tree
use Rattle.reader.proofs.Runs.{got}
use Rattle.reader.proofs.Leaves.{reads_plain, reads_extension, reads_any, texted_both}
use Rattle.reader.proofs.Naming.{plain-is, bracketed_is, any_is}
use Rattle.reader.proofs.parser.Parser.next_message_constant_field_name.Goals as goal

pub returns-then-branch-2-clause-reads : goal.returns-then-branch-2-clause-reads
returns-then-branch-2-clause-reads g c =
    let d = got c.in_ok-next_symbol_if_eq.ensures c.if-branch.true in
    let n = c.in_ok-name.ensures.reads in
    let s = got c.in_ok-next_symbol_if_eq-2.ensures c.if-branch-2.true in
    let t = c.in_ok-full.ensures.reads in (
      tree.Key.any_type n.0 t.0,
      any_is _ d n.1 s t.1 (sym c.in_ok-next_symbol_expect_eq.ensures),
      texted_both c.args.self.now.out.now n.3 t.3,
      reads_any c.args.self.now.out.now c.next_full_ident.new.self.out.now n.3 n.2 t.3 t.2,
    )

pub returns-then-branch-clause-reads : goal.returns-then-branch-clause-reads
returns-then-branch-clause-reads g c =
    let d = got c.in_ok-next_symbol_if_eq.ensures c.if-branch.true in
    let n = c.in_ok-name.ensures.reads in
    let s = got c.in_ok-next_symbol_if_eq-2.ensures c.if-branch-2.false in (
      tree.Key.extension n.0,
      bracketed_is _ d n.1 s (sym c.in_ok-next_symbol_expect_eq-2.ensures),
      n.3.texted,
      reads_extension c.args.self.now.out.now n.3 n.2,
    )

pub returns-clause-reads : goal.returns-clause-reads
returns-clause-reads g c =
    let d = got c.in_ok-next_symbol_if_eq.ensures c.if-branch.false in
    let n = c.in_ok-name-2.ensures.reads in (
      tree.Key.plain n.0,
      plain-is _ d n.1,
      n.3.texted,
      reads_plain c.args.self.now.out.now n.3 n.2,
    )
