use Rattle.std.proofs.Common.{◌≡◌, drop}
use Rattle.grammar.specs.Kinds.{scalars}
use Rattle.reader.specs.Scalars.{scalar_in}
use Rattle.reader.proofs.tokenizer.scalars.next_scalar_opt.Given as goal

-- no scalar type that was tried is there
abbrev pub invariant-loop-scalar : goal.invariant-loop-scalar
invariant-loop-scalar g l = scalar_in scalars (g.S.Source.ahead l.fn.s) ≡ scalar_in (drop l.scalar-index scalars) (g.S.Source.ahead l.s)
