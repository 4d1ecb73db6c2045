use Rattle.std.proofs.Common.{length, ◌≡◌}
use Rattle.lq_commands.proofs.Inserted.{first_out}
use Rattle.lq_commands.proofs.sync.first_out.Given as goal

abbrev pub invariant-loop-row : goal.invariant-loop-row
invariant-loop-row l = first_out l.count l.rest ≡ first_out (length l.before) l.rows

abbrev pub decreases-loop-row : goal.decreases-loop-row
decreases-loop-row l = length l.rest
