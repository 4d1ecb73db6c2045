use Rattle.std.proofs.Common.{◌≡◌, drop}
use Rattle.std.specs.List.{list_any}
use Rattle.lq_model.specs.SqlTable.{same_sort}
use Rattle.lq_statement.proofs.column.has_sort.Given as goal

abbrev pub invariant-loop-other : goal.invariant-loop-other
invariant-loop-other l = list_any (same_sort l.clause) (drop l.other-index l.others) ≡ list_any (same_sort l.clause) l.others
