use Rattle.std.proofs.Common.{rules}
use Rattle.lq_parse.proofs.Bounded.{whole_fault}
use Rattle.lq_parse.proofs.test.any_test.Goals as goal

pub returns-in_err-test : goal.returns-in_err-test
returns-in_err-test c = whole_fault c.args.words.now c.sum.new.words _ c.in_err-test.field-0.0 _ c.in_err-test.ensures (search rules)
