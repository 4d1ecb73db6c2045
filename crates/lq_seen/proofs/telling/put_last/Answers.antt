use Rattle.std.proofs.Common.{arith, ◌∙◌}
use Rattle.lq_seen.proofs.Told.{not_empty, set_last}
use Rattle.lq_seen.proofs.telling.put_last.Goals as goal

pub returns-then-count-gt0 : goal.returns-then-count-gt0
returns-then-count-gt0 c = λ front last is. c.set.ensures ∙ set_last c.args.happened.now front last _ c.len-count.result is c.len-count.ensures

pub returns-else-count-gt0 : goal.returns-else-count-gt0
returns-else-count-gt0 c = λ front last is. absurd (not_empty c.args.happened.now front last c.len-count.result is c.len-count.ensures (omega arith))
