use Rattle.lq_report.proofs.Bars.{no_mark}
use Rattle.lq_report.proofs.laws.no_mark_without_bars.Goals as goal

pub returns : goal.returns
returns c = no_mark
