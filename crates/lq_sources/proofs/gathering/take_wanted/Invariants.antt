use Rattle.std.proofs.Common.{◌-◌, ◌≡◌}
use Rattle.lq_sources.specs.Items.{so_far}
use Rattle.lq_sources.specs.Walk.{held}
use Rattle.lq_sources.proofs.Steps.{AtWanted}
use Rattle.lq_sources.proofs.gathering.take_wanted.Given as goal

abbrev pub invariant-loop-wants : goal.invariant-loop-wants
invariant-loop-wants g l =
    AtWanted (g.G.Gather.means l.gather) l.is_root l.path l.i l.entry.0 l.entry.1 (g.F.Files.told l.fn.files) (g.F.Files.told l.files) (g.F.Files.faults l.fn.files) (g.F.Files.faults l.files)
    (held l.fn.reading l.fn.gathered) l.given (so_far l.reading) l.gathered l.wants
    × (l.reading.sets ≡ l.fn.reading.sets)

abbrev pub decreases-loop-wants : goal.decreases-loop-wants
decreases-loop-wants g l = 10000 - l.reading.files
