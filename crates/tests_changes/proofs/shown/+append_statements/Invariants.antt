use Rattle.std.proofs.Common.{length}
use Rattle.tests_changes.proofs.shown.+append_statements.Given as goal

abbrev pub decreases-append_statements : goal.decreases-append_statements
decreases-append_statements g l = length l.statements.now
