use Rattle.std.proofs.Common.{◌+◌, ◌*◌, drop, false}
use Rattle.lq_sources.specs.Walk.{each, each_from, file, held, take_item, take_path}
use Rattle.lq_sources.proofs.Steps.{Gone}
use Rattle.lq_sources.proofs.walking.+file.Given as goal

abbrev pub decreases-read_file : goal.decreases-read_file
decreases-read_file g l = l.terms.levels * 8 + 0

abbrev pub decreases-read_path : goal.decreases-read_path
decreases-read_path g l = l.terms.levels * 8 + 1

abbrev pub decreases-read_paths : goal.decreases-read_paths
decreases-read_paths g l = l.terms.levels * 8 + 2

abbrev pub decreases-read_folder : goal.decreases-read_folder
decreases-read_folder g l = l.terms.levels * 8 + 3

abbrev pub decreases-take_entry : goal.decreases-take_entry
decreases-take_entry g l = l.terms.levels * 8 + 4

abbrev pub decreases-take_item : goal.decreases-take_item
decreases-take_item g l = l.terms.levels * 8 + 5

abbrev pub decreases-take_items : goal.decreases-take_items
decreases-take_items g l = l.terms.levels * 8 + 6

abbrev pub decreases-read_contents : goal.decreases-read_contents
decreases-read_contents g l = l.terms.levels * 8 + 7

abbrev pub invariant-take_items-loop-i : goal.invariant-take_items-loop-i
invariant-take_items-loop-i g l = Gone
    (λ source. each_from (take_item (g.G.Gather.means l.gather) source (file (g.G.Gather.means l.gather) source l.terms.levels false) l.terms.is_root l.path) 0 l.items (held l.fn.reading l.fn.gathered))
    (λ source. each_from (take_item (g.G.Gather.means l.gather) source (file (g.G.Gather.means l.gather) source l.terms.levels false) l.terms.is_root l.path) l.i (drop l.i l.items) (held l.reading l.gathered))
    (g.F.Files.told l.fn.files) (g.F.Files.told l.files) (g.F.Files.faults l.fn.files) (g.F.Files.faults l.files)

abbrev pub invariant-read_paths-loop-path : goal.invariant-read_paths-loop-path
invariant-read_paths-loop-path g l = Gone
    (λ source. each (take_path (file (g.G.Gather.means l.gather) source l.terms.levels false)) l.paths (held l.fn.reading l.fn.gathered))
    (λ source. each_from (λ i. take_path (file (g.G.Gather.means l.gather) source l.terms.levels false)) l.path-index (drop l.path-index l.paths) (held l.reading l.gathered))
    (g.F.Files.told l.fn.files) (g.F.Files.told l.files) (g.F.Files.faults l.fn.files) (g.F.Files.faults l.files)
