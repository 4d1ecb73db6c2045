use Rattle.std.proofs.Common.{length}
use Rattle.lq_model.proofs.written.+write_pairs.Given as goal

abbrev pub decreases-write_pairs : goal.decreases-write_pairs
decreases-write_pairs l = length l.rows.now
