use Rattle.lq_run.proofs.Names.{behind_is}
use Rattle.lq_run.proofs.holding.behind.Goals as goal

pub returns : goal.returns
returns c = behind_is c.args.who.now c.args.by.now _ c.strip_prefix.ensures.cases
