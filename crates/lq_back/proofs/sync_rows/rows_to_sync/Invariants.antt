use Rattle.std.proofs.Common.{length}
use Rattle.lq_back.proofs.Synced.{Syncs}
use Rattle.lq_back.proofs.sync_rows.rows_to_sync.Given as goal

abbrev pub invariant-loop-set : goal.invariant-loop-set
invariant-loop-set l = Syncs l.options l.reading l.rows l.changelog.sets l.rest l.made

abbrev pub decreases-loop-set : goal.decreases-loop-set
decreases-loop-set l = length l.rest
