use Rattle.std.proofs.Common.{◌≡◌, ◌++◌}
use Rattle.lq_tell.specs.SoakLog.{number_at, sets_text, table_at}
use Rattle.lq_tell.proofs.soak_log.append_sets.Given as goal

abbrev pub invariant-loop-made : goal.invariant-loop-made
invariant-loop-made l = (l.to ≡ l.fn.to ++ sets_text l.number l.made) × (l.drawn ≡ number_at l.number l.made) × (l.table ≡ table_at l.number l.made)
