use Rattle.std.proofs.Common.{rules, arith}
use Rattle.lq_parse.proofs.Levels.{and_second, or_second}
use Rattle.lq_parse.proofs.test.+is_within.Goals as goal

pub returns-then-is_within : goal.returns-then-is_within
returns-then-is_within t c = and_second _ c.in-And.a c.in-And.b c.args.most _ c.in-And.is (omega arith) (search rules) (search rules)

pub returns-then-is_within-2 : goal.returns-then-is_within-2
returns-then-is_within-2 t c = or_second _ c.in-Or.a c.in-Or.b c.args.most _ c.in-Or.is (omega arith) (search rules) (search rules)
