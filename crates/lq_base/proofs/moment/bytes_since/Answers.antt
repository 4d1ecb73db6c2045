use Rattle.std.proofs.Common.{◌/◌, arith}
use Rattle.jiff_core.proofs.SignedLemmas.{signed_arith}
use Rattle.lq_base.proofs.DayLemmas.{day_after_is}
use Rattle.lq_base.proofs.moment.bytes_since.Goals as goal

pub moment_bytes-requires-clause-year : goal.moment_bytes-requires-clause-year
moment_bytes-requires-clause-year c =
    omega (arith, signed_arith, (day_after_is (c.args.since / 86_400_000)).year, c.date_after-date.ensures.year)
