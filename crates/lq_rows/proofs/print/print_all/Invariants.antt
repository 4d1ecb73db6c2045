use Rattle.std.proofs.Common.{◌≡◌, ◌++◌, map}
use Rattle.lq_rows.specs.Stored.{fingerprint}
use Rattle.lq_rows.proofs.print.print_all.Given as goal

abbrev pub invariant-loop-row : goal.invariant-loop-row
invariant-loop-row l = map fingerprint l.rows.now ≡ l.prints ++ map fingerprint l.row-iterator
