use Rattle.std.proofs.Common.{drop, ◌≡◌}
use Rattle.std.specs.List.{list_any}
use Rattle.lq_decide.specs.Faults.{set_child}
use Rattle.lq_parts.specs.Steps.{tables_of}
use Rattle.lq_rowops.proofs.orphan.one_lost.Given as goal

abbrev pub invariant-loop-entry : goal.invariant-loop-entry
invariant-loop-entry l =
    let p = set_child l.table l.sets l.parts.now l.parts.now in
    list_any p (tables_of (drop l.entry-index l.entries)) ≡ list_any p (tables_of l.entries)
