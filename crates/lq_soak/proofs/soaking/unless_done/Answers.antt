use Rattle.lq_soak.proofs.SoakEnds.{undone_by}
use Rattle.lq_soak.proofs.soaking.unless_done.Goals as goal

pub returns-clause-undone : goal.returns-clause-undone
returns-clause-undone c = undone_by c.args.done.status c.in_default.not-Done
