use Rattle.std.proofs.Common.{length}
use Rattle.lq_tables.proofs.constraints.+last_open.Given as goal

abbrev pub decreases-last_open : goal.decreases-last_open
decreases-last_open l = length l.bytes.now
