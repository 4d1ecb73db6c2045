use Rattle.lq_deletes.proofs.Notes.{stepped}
use Rattle.lq_deletes.proofs.spread.spread.Goals as goal

pub loop-at-smaller : goal.loop-at-smaller
loop-at-smaller c =
    (stepped _ _ _ _ _ _ _ _ c.requires.below c.loop-at.invariant c.in-Some.ensures.items c.children.ensures c.in_ok-note_all.ensures).1

pub loop-at-preserved : goal.loop-at-preserved
loop-at-preserved c =
    (stepped _ _ _ _ _ _ _ _ c.requires.below c.loop-at.invariant c.in-Some.ensures.items c.children.ensures c.in_ok-note_all.ensures).0
