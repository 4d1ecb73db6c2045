use Rattle.std.proofs.Common.{arith, length}
use Rattle.lq_base.proofs.NumberLemmas.{ten_pow_le}
use Rattle.lq_base.proofs.kind.plain_number.Goals as goal

pub value_after-requires-clause-fits : goal.value_after-requires-clause-fits
value_after-requires-clause-fits c = omega (arith, ten_pow_le (length c.args.text.now) 38 (omega arith))
