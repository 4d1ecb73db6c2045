use Rattle.std.proofs.Common.{arith, sym}
use Rattle.std.proofs.Math.Nat.{div-eq_of_lt}
use Rattle.lq_base.proofs.NumberLemmas.{ten_pow_le, ten_pow_pos}
use Rattle.lq_base.proofs.number.without_last_digits.Goals as goal

pub returns-then-count-gt38 : goal.returns-then-count-gt38
returns-then-count-gt38 c =
    sym (div-eq_of_lt (omega (arith, ten_pow_le 39 c.args.count (omega arith))))

pub pow-requires : goal.pow-requires
pow-requires c = omega (arith, ten_pow_le c.args.count 38 (omega arith))

pub nonzero_div-result : goal.nonzero_div-result
nonzero_div-result c = omega (arith, ten_pow_pos c.args.count, c.pow.ensures)
