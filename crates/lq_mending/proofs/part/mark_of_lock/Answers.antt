use Rattle.lq_run.proofs.Stated.{if_made, stated_marked}
use Rattle.lq_mending.proofs.part.mark_of_lock.Goals as goal

pub returns-in-Some-clause-stated : goal.returns-in-Some-clause-stated
returns-in-Some-clause-stated c = if_made c.args.dialect _ _ c.mark_lock.ensures (stated_marked c.args.dialect c.in-Some.by)
