use Rattle.reader.proofs.TurnSteps.{begun-turn, begun_type-turn, top-is}
use Rattle.reader.proofs.parser.Parser.next_turn.Goals as goal

pub go_on-requires : goal.go_on-requires
go_on-requires g c = top-is c.args.frames.now c.in-Some.frame c.top.result c.in-Some.is c.top.ensures.items

pub returns-in-Constant-clause-turns : goal.returns-in-Constant-clause-turns
returns-in-Constant-clause-turns g c = rw c.in-Constant.is (begun-turn c.args.frames.now _ _ c.args.self.now.out.now _ _ c.next_plain_constant.ensures.begins)

pub returns-in-Type-clause-turns : goal.returns-in-Type-clause-turns
returns-in-Type-clause-turns g c = rw c.in-Type.is (begun_type-turn c.args.frames.now _ _ c.args.self.now.out.now _ _ c.next_plain_type.ensures.begins)
