use Rattle.std.proofs.Common.{refl, arith}
use Rattle.lq_base.proofs.NumberLemmas.{too_many_digits, scaled_step}
use Rattle.lq_base.proofs.convert.+scaled.Goals as goal

pub returns-then-magnitude-ge10000000000000000000000000000000000000-clause-value : goal.returns-then-magnitude-ge10000000000000000000000000000000000000-clause-value
returns-then-magnitude-ge10000000000000000000000000000000000000-clause-value t c =
    rw (too_many_digits c.args.magnitude c.args.more c.args.digits (omega arith) (omega arith)) refl

pub returns-clause-value : goal.returns-clause-value
returns-clause-value t c =
    rw (← scaled_step c.args.magnitude c.args.more (omega arith)) c.scaled.ensures.value
