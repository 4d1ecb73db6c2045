use Rattle.std.proofs.Common.{take}
use Rattle.lq_outside.specs.Forms.{held_in, IsListing}
use Rattle.lq_outside.proofs.folder.paths_under.Given as goal

abbrev pub invariant-loop-file : goal.invariant-loop-file
invariant-loop-file l = IsListing (held_in (take l.file-index l.files)) l.folder l.paths
