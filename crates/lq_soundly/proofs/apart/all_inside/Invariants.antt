use Rattle.std.proofs.Common.{drop, ◌++◌, ◌≡◌}
use Rattle.std.specs.List.{flat_map}
use Rattle.lq_model.specs.NameSpaces.{names_inside}
use Rattle.lq_parts.specs.Steps.{tables_of}
use Rattle.lq_soundly.proofs.apart.all_inside.Given as goal

abbrev pub invariant-loop-entry : goal.invariant-loop-entry
invariant-loop-entry l =
    l.names ++ flat_map names_inside (tables_of (drop l.entry-index l.entries)) ≡ flat_map names_inside (tables_of l.entries)
