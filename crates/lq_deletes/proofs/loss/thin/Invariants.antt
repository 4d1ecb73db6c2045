use Rattle.std.proofs.Common.{drop, map, ◌≡◌}
use Rattle.lq_rows.specs.Stored.{Continues}
use Rattle.lq_deletes.specs.Places.{AreMarked, marks_of, with_thinned}
use Rattle.lq_deletes.proofs.loss.thin.Given as goal

abbrev pub invariant-loop-loss : goal.invariant-loop-loss
invariant-loop-loss l =
    let rest = map marks_of (drop l.loss-index l.losses) in
    (with_thinned rest l.parts.now ≡ with_thinned (map marks_of l.losses) l.initial.parts.now)
    × AreMarked rest l.parts.now.tables
    × Continues l.initial.parts l.parts
