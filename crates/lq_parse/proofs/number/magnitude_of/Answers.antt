use Rattle.std.proofs.Common.{rules}
use Rattle.lq_parse.proofs.Magnitudes.{over_before, over_after}
use Rattle.lq_parse.proofs.number.magnitude_of.Goals as goal

pub returns-then-value : goal.returns-then-value
returns-then-value c = over_before c.loop-rest.value c.loop-rest.rest.now _ (search rules) c.in-len1-up.len_at_least c.loop-rest.invariant.1

pub returns-then-value-gt-MOST : goal.returns-then-value-gt-MOST
returns-then-value-gt-MOST c = over_after c.loop-rest.value _ c.loop-rest.rest.now _ c.from.ensures (search rules) c.in-len1-up.len_at_least c.loop-rest.invariant.2 c.loop-rest.invariant.1
