use Rattle.std.proofs.Common.{◌≡◌, length}
use Rattle.lq_base.specs.Sql.{is_trivia}
use Rattle.lq_sqllex.proofs.trivia.is_trivia.Given as goal

abbrev pub invariant-loop-left : goal.invariant-loop-left
invariant-loop-left l = is_trivia l.dialect l.text ≡ is_trivia l.dialect l.left

abbrev pub decreases-loop-left : goal.decreases-loop-left
decreases-loop-left l = length l.left
