use Rattle.lq_run.proofs.Stated.{if_made, stated_freed, stated_lock, stated_lock_row, stated_log, stated_marked, taken_made}
use Rattle.lq_run.proofs.deed.lock_statement.Goals as goal

pub returns-in-LogMade-clause-stated : goal.returns-in-LogMade-clause-stated
returns-in-LogMade-clause-stated c = if_made c.args.dialect _ _ c.make_log.ensures (stated_log c.args.dialect)

pub returns-in-LockMade-clause-stated : goal.returns-in-LockMade-clause-stated
returns-in-LockMade-clause-stated c = if_made c.args.dialect _ _ c.make_lock.ensures (stated_lock c.args.dialect)

pub returns-in-LockRowMade-clause-stated : goal.returns-in-LockRowMade-clause-stated
returns-in-LockRowMade-clause-stated c = if_made c.args.dialect _ _ c.make_lock_row.ensures (stated_lock_row c.args.dialect)

pub returns-in-Taken-clause-stated : goal.returns-in-Taken-clause-stated
returns-in-Taken-clause-stated c = taken_made c.args.dialect _ _ _ c.take_lock.ensures

pub returns-in-Marked-clause-stated : goal.returns-in-Marked-clause-stated
returns-in-Marked-clause-stated c = if_made c.args.dialect _ _ c.mark_lock.ensures (stated_marked c.args.dialect c.in-Marked.by)

pub returns-in-Freed-clause-stated : goal.returns-in-Freed-clause-stated
returns-in-Freed-clause-stated c = if_made c.args.dialect _ _ c.free_lock.ensures (stated_freed c.args.dialect)
