use Rattle.std.proofs.Common.{drop, ◌≡◌}
use Rattle.std.specs.List.{list_any}
use Rattle.lq_model.specs.Constraints.{has_index_in}
use Rattle.lq_keyops.proofs.anywhere.table_with.Given as goal

abbrev pub invariant-loop-entry : goal.invariant-loop-entry
invariant-loop-entry l = list_any (λ e. has_index_in l.name e.0 e.1.now) (drop l.entry-index l.tables) ≡ list_any (λ e. has_index_in l.name e.0 e.1.now) l.tables
