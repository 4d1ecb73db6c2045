use Rattle.std.proofs.Common.{arith, length}
use Rattle.lq_base.proofs.NumberLemmas.{ten_pow_le}
use Rattle.lq_base.proofs.moment.digits_at.Goals as goal

pub value_after-requires-clause-fits : goal.value_after-requires-clause-fits
value_after-requires-clause-fits c = omega (arith, ten_pow_le (length c.part-digits.result.now) 38 (omega arith))

pub overflow_cast-result : goal.overflow_cast-result
overflow_cast-result c = omega (arith, ten_pow_le (length c.part-digits.result.now) 4 (omega arith))

pub returns-clause-bound : goal.returns-clause-bound
returns-clause-bound c = omega (arith, ten_pow_le (length c.part-digits.result.now) c.args.count (omega arith))
