use Rattle.std.proofs.Common.{T, subst, sym, arith}
use Rattle.token.specs.Token.{Ahead}
use Rattle.token.specs.Law.{lawful}
use Rattle.tape_source.proofs.Steps.{holds-at, found-at}
use Rattle.tape_source.proofs.Lawful.{lawful-scan}
use Rattle.tape_source.proofs.tape.TapeSource.read.Goals as goal

pub invariant_of-result : goal.invariant_of-result
invariant_of-result c =
    let ws = c.args.rest.now in
    record {
      near = omega arith;
      whole = holds-at ws c.judge.result c.judge.ensures;
      law = subst (λ (a : Ahead). T (lawful a)) (sym (found-at c.args.at ws c.judge.result c.judge.ensures)) (lawful-scan 0 c.args.at ws c.requires);
    }

pub returns : goal.returns
returns c = found-at c.args.at c.args.rest.now c.judge.result c.judge.ensures
