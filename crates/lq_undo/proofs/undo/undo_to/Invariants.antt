use Rattle.std.proofs.Common.{◌-◌, ◌≡◌, ◌≤◌}
use Rattle.lq_undo.specs.Ago.{ago}
use Rattle.lq_undo.proofs.undo.undo_to.Given as goal

abbrev pub invariant-loop-held : goal.invariant-loop-held
invariant-loop-held g l =
    (l.mark ≤ g.H.Undo.changes l.held)
    × (ago g.H.Undo.before (g.H.Undo.changes l.held - l.mark) l.held ≡ ago g.H.Undo.before (g.H.Undo.changes l.initial.held - l.initial.mark) l.initial.held)

abbrev pub decreases-loop-held : goal.decreases-loop-held
decreases-loop-held g l = g.H.Undo.changes l.held
