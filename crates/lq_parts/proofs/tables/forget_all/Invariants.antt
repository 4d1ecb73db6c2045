use Rattle.std.proofs.Common.{vec_len, ◌≡◌}
use Rattle.lq_parts.specs.Taken.{IsOrdered}
use Rattle.lq_parts.specs.Steps.{tables_of}
use Rattle.lq_parts.proofs.tables.forget_all.Given as goal

abbrev pub invariant-loop-at : goal.invariant-loop-at
invariant-loop-at l = (vec_len l.entries ≡ vec_len l.initial.entries) × (tables_of l.entries.items ≡ tables_of l.initial.entries.items) × (IsOrdered l.initial.entries.items → IsOrdered l.entries.items)
