use Rattle.std.proofs.Common.{subst}
use Rattle.lq_outside.specs.Forms.{Notes}
use Rattle.lq_outside.proofs.Listing.{listing_none, listing_more}
use Rattle.lq_outside.proofs.folder.paths_under.Goals as goal

pub loop-file-init : goal.loop-file-init
loop-file-init c = listing_none _ _ c.new-paths.ensures

pub loop-file-preserved : goal.loop-file-preserved
loop-file-preserved c = listing_more _ _ c.file-item.result _ _ _ _ c.loop-file-test.true c.file-item.is c.loop-file.invariant
    (subst (λ p. Notes c.args.folder.now p c.loop-file.paths c.note.new.paths) (c.as_str.ensures) c.in_ok-note.ensures)
