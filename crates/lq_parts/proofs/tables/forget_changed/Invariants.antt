use Rattle.std.proofs.Common.{◌≡◌}
use Rattle.lq_parts.specs.Taken.{IsOrdered}
use Rattle.lq_parts.specs.Steps.{tables_of}
use Rattle.lq_parts.proofs.tables.forget_changed.Given as goal

abbrev pub invariant-loop-step : goal.invariant-loop-step
invariant-loop-step l = (tables_of l.entries.items ≡ tables_of l.initial.entries.items) × (IsOrdered l.initial.entries.items → IsOrdered l.entries.items)
