use Rattle.lq_run.proofs.Stated.{if_made, stated_marked}
use Rattle.lq_mending.proofs.part.mark_nobody.Goals as goal

pub returns-clause-stated : goal.returns-clause-stated
returns-clause-stated c = if_made c.args.dialect _ _ c.mark_lock.ensures (stated_marked c.args.dialect c.in_ok-none.none)
