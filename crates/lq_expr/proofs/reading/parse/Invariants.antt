use Rattle.std.proofs.Common.{drop, ◌≤◌}
use Rattle.lq_expr.specs.Words.{words}
use Rattle.lq_expr.proofs.Shallow.{Within}
use Rattle.lq_expr.proofs.reading.parse.Given as goal

abbrev pub invariant-loop-byte : goal.invariant-loop-byte
invariant-loop-byte l = (Within 64 0 (words l.text) → Within 64 l.depth (words (drop l.byte-index l.text))) × (l.depth ≤ 64)
