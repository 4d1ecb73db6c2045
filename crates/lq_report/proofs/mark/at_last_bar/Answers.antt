use Rattle.lq_report.proofs.Bars.{last_is}
use Rattle.lq_report.proofs.mark.at_last_bar.Goals as goal

pub returns : goal.returns
returns c = last_is c.args.text.now c.rsplit_once.result c.rsplit_once.ensures.cases
