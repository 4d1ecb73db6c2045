use Rattle.std.proofs.Common.{length}
use Rattle.tests_reading.proofs.lexemes.lexemes.Given as goal

abbrev pub decreases-loop-left : goal.decreases-loop-left
decreases-loop-left l = length l.left
