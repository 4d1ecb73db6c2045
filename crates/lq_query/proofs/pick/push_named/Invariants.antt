use Rattle.std.proofs.Common.{◌≡◌, ◌++◌, filter, take}
use Rattle.lq_base.specs.Name.{is_named}
use Rattle.lq_query.proofs.pick.push_named.Given as goal

abbrev pub invariant-loop-column : goal.invariant-loop-column
invariant-loop-column l = l.found ≡ l.initial.found ++ filter (λ column. is_named l.name column.name) (take l.column-index l.columns)
