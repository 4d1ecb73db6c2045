use Rattle.std.proofs.Common.{◌≡◌, drop, ◌++◌}
use Rattle.std.specs.Prelude.{option_map}
use Rattle.lq_track.specs.Database.{rows_in}
use Rattle.lq_track.proofs.log_reading.rows_in.Given as goal

abbrev pub invariant-loop-values : goal.invariant-loop-values
invariant-loop-values l = option_map (λ more. l.rows ++ more) (rows_in (drop l.values-index l.stored)) ≡ rows_in l.stored
