use Rattle.std.proofs.Common.{arith}
use Rattle.jiff_core.proofs.SignedLemmas.{signed_arith}
use Rattle.lq_base.proofs.DayLemmas.{date_is_day}
use Rattle.lq_base.proofs.moment.date_after.Goals as goal

pub returns-clause-year : goal.returns-clause-year
returns-clause-year c = (date_is_day c.date_of_day.result c.args.count (omega (arith, signed_arith, c.date_of_day.ensures))).0

pub returns-clause-month : goal.returns-clause-month
returns-clause-month c = (date_is_day c.date_of_day.result c.args.count (omega (arith, signed_arith, c.date_of_day.ensures))).1

pub returns-clause-day : goal.returns-clause-day
returns-clause-day c = (date_is_day c.date_of_day.result c.args.count (omega (arith, signed_arith, c.date_of_day.ensures))).2
