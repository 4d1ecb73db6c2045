use Rattle.std.proofs.Common.{drop, ◌++◌, ◌≡◌}
use Rattle.std.specs.List.{filter}
use Rattle.lq_one_row.specs.Only.{is_taken_at}
use Rattle.lq_one_row.proofs.only.taken_at.Given as goal

abbrev pub invariant-loop-at : goal.invariant-loop-at
invariant-loop-at l = l.taken.items ++ filter (is_taken_at l.test l.held.now) (drop l.at-index l.places) ≡ filter (is_taken_at l.test l.held.now) l.places
