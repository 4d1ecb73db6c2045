use Rattle.lq_report.proofs.Bars.{read}
use Rattle.lq_report.proofs.laws.marks_are_read.Goals as goal

pub returns : goal.returns
returns c = read
