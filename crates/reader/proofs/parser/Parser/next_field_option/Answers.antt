use Rattle.std.proofs.Common.{sym, refl}
use Rattle.grammar.specs.Tree as tree
use Rattle.grammar.specs.Tree.{one, ◌beside◌}
use Rattle.grammar.specs.Grammar.{option}
use Rattle.store.specs.declared.parts.Item.{Item}
use Rattle.store.proofs.Keeping.{grew_join, kept_join}
use Rattle.reader.proofs.Chains.{err_exit, chain, stop, chain_then, stop_then, returned}
use Rattle.reader.proofs.Leaves.{grew_opened, kept-within}
use Rattle.reader.proofs.parser.Parser.next_field_option.Goals as goal

pub returns-in_err-next_option_name-clause-reads : goal.returns-in_err-next_option_name-clause-reads
unfolding option
returns-in_err-next_option_name-clause-reads g c =
    let e = c.in_err-next_option_name.ensures.reads in
    let opened = grew_opened c.args.self.now.out.now Item.Setting c.open.ensures.does in
    rw (err_exit _ c.from_residual.ensures) (stop _ _ _ e.0, grew_join opened e.1)

pub returns-in_err-next_symbol_expect_eq-clause-reads : goal.returns-in_err-next_symbol_expect_eq-clause-reads
unfolding option
returns-in_err-next_symbol_expect_eq-clause-reads g c =
    let n = c.in_ok-next_option_name.ensures.reads in
    let e = c.in_err-next_symbol_expect_eq.ensures in
    let opened = grew_opened c.args.self.now.out.now Item.Setting c.open.ensures.does in
    rw (err_exit _ c.from_residual-in_err-next_symbol_expect_eq.ensures) (chain _ _ _ n.1 (stop_then _ _ _ (sym e)), grew_join opened n.2.grew)

pub returns-in_err-next_constant-clause-reads : goal.returns-in_err-next_constant-clause-reads
unfolding option
returns-in_err-next_constant-clause-reads g c =
    let n = c.in_ok-next_option_name.ensures.reads in
    let d = c.in_ok-next_symbol_expect_eq.ensures in
    let e = c.in_err-next_constant.ensures.reads in
    let opened = grew_opened c.args.self.now.out.now Item.Setting c.open.ensures.does in
    rw (err_exit _ c.from_residual-in_err-next_constant.ensures) (chain _ _ _ n.1 (chain_then _ _ _ (sym d) (stop _ _ _ e.0)), grew_join opened (grew_join n.2.grew e.1))

pub returns-clause-reads : goal.returns-clause-reads
unfolding option
returns-clause-reads g c =
    let n = c.in_ok-next_option_name.ensures.reads in
    let d = c.in_ok-next_symbol_expect_eq.ensures in
    let v = c.in_ok-next_constant.ensures.reads in
    (one tree.Item.option (n.0 beside v.0), chain _ _ _ n.1 (chain_then _ _ _ (sym d) (chain _ _ _ v.1 (returned _ _))), kept-within c.args.self.now.out.now Item.Setting c.open.ensures.does refl tt (kept_join n.2 v.2) c.close.ensures.does)
