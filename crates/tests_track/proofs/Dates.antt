-- Readings of the clock as moments.
use Rattle.std.proofs.Common.{◌≤◌, ℕ, pos, arith}
use Rattle.std.proofs.lemmas.Int.{ints}
use Rattle.lq_base.specs.Moment.{IsMoment}

pub is_moment : (reading : ℕ) → reading ≤ 253402300799999 → IsMoment (pos reading)
is_moment reading within = (omega (arith, ints), omega (arith, ints))
