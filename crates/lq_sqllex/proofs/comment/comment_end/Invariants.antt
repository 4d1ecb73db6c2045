use Rattle.std.proofs.Common.{◌≡◌, ◌≤◌, ◌+◌, suc, length}
use Rattle.lq_base.specs.Sql.{comment_end, after}
use Rattle.lq_sqllex.proofs.comment.comment_end.Given as goal

abbrev pub invariant-loop-rest : goal.invariant-loop-rest
invariant-loop-rest l = record {
  whole : comment_end l.nesting 1 l.text ≡ after l.passed (comment_end l.nesting (suc l.outer) l.rest);
  count : l.passed + length l.rest ≡ length l.text;
  depth : l.outer ≤ l.passed;
}

abbrev pub decreases-loop-rest : goal.decreases-loop-rest
decreases-loop-rest l = length l.rest
