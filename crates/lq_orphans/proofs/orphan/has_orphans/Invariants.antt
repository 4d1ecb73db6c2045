use Rattle.std.proofs.Common.{Bool, drop, ◌≡◌}
use Rattle.std.specs.List.{list_any}
use Rattle.lq_base.specs.declared.name.Name.{Name}
use Rattle.lq_model.specs.Catalogue.{Table}
use Rattle.lq_model.specs.Plan.{has_orphan}
use Rattle.lq_parts.specs.Steps.{tables_of}
use Rattle.lq_orphans.proofs.orphan.has_orphans.Given as goal

abbrev pub invariant-loop-entry : goal.invariant-loop-entry
invariant-loop-entry l =
    let p : Name × Table → Bool = λ e. has_orphan l.parts.now e.1 in
    list_any p (tables_of (drop l.entry-index l.entries)) ≡ list_any p (tables_of l.entries)
