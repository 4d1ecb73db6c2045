use Rattle.std.proofs.Common.{arith, pos, ◌≤ℤ◌}
use Rattle.jiff_core.proofs.SignedLemmas.{signed_casts}
use Rattle.lq_base.proofs.DayLemmas.{first_day_le}
use Rattle.lq_base.proofs.moment.day_number.Goals as goal

pub returns-in-Ok-clause-bound : goal.returns-in-Ok-clause-bound
returns-in-Ok-clause-bound c =
    let year : pos 1 ≤ℤ c.in-Ok.date.year = omega (arith, signed_casts, c.in-Ok.ensures.value) in
    let least = first_day_le c.in-Ok.date year in
    (omega (arith, signed_casts, least, c.to_unix_epoch_day.ensures.value), omega (arith, signed_casts, c.to_unix_epoch_day.ensures.bound))
