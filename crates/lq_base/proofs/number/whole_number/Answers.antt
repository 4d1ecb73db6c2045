use Rattle.std.proofs.Common.{arith, length}
use Rattle.lq_base.proofs.NumberLemmas.{ten_pow_le}
use Rattle.lq_base.proofs.number.whole_number.Goals as goal

pub value_after-magnitude-requires-clause-fits : goal.value_after-magnitude-requires-clause-fits
value_after-magnitude-requires-clause-fits c = omega (arith, ten_pow_le (length c.args.digits.now) 38 (omega arith))

pub signed-requires : goal.signed-requires
signed-requires c = omega (arith, ten_pow_le (length c.args.digits.now) 38 (omega arith))
