use Rattle.std.proofs.Common.{arith}
use Rattle.lq_base.proofs.NumberLemmas.{ten_pow_le}
use Rattle.lq_base.proofs.number.ten_to.Goals as goal

pub pow-requires : goal.pow-requires
pow-requires c = omega (arith, ten_pow_le c.min.result 38 (omega arith))

pub returns-clause-bound : goal.returns-clause-bound
returns-clause-bound c = omega (arith, ten_pow_le c.min.result 38 (omega arith))
