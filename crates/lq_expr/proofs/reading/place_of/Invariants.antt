use Rattle.std.proofs.Common.{◌≡◌, ◌+◌, ◌≤◌, drop}
use Rattle.lq_expr.specs.Cuts.{place}
use Rattle.lq_expr.proofs.reading.place_of.Given as goal

abbrev pub invariant-loop-i : goal.invariant-loop-i
invariant-loop-i l = (place l.operator 0 l.words ≡ l.i + place l.operator l.depth (drop l.i l.words)) × (l.depth ≤ l.i)
