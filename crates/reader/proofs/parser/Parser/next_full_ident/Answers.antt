use Rattle.std.proofs.Common.{◌∷◌, sym, rules}
use Rattle.grammar.specs.Grammar.{dot}
use Rattle.store.proofs.Keeping.{grew_join}
use Rattle.reader.proofs.Runs.{got}
use Rattle.reader.proofs.Texts.{wrote_byte, wrote_join, wrote_grew}
use Rattle.reader.proofs.Naming.{absolute_is, full_refuses_name}
use Rattle.reader.proofs.Chains.{err_exit}
use Rattle.reader.proofs.parser.Parser.next_full_ident.Goals as goal

pub returns-in_err-next_full_ident_rel-clause-reads : goal.returns-in_err-next_full_ident_rel-clause-reads
returns-in_err-next_full_ident_rel-clause-reads g c =
    let e = c.in_err-next_full_ident_rel.ensures.reads in
    rw (err_exit _ c.from_residual-in_err-next_full_ident_rel.ensures)
    (full_refuses_name _ (sym c.in_ok-next_symbol_if_eq.ensures) e.0, grew_join (wrote_grew c.args.self.now.out.now (wrote_byte c.args.self.now.out.now dot c.push.ensures.does)) e.1)

pub returns-clause-reads : goal.returns-clause-reads
returns-clause-reads g c =
    let d = got c.in_ok-next_symbol_if_eq.ensures c.if-not-branch.false in
    let name = c.in_ok-next_full_ident_rel.ensures.reads in
    (dot ∷ name.0, absolute_is _ d name.1, search rules, wrote_join c.args.self.now.out.now (wrote_byte c.args.self.now.out.now dot c.push.ensures.does) name.3)
