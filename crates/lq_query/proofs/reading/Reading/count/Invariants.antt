use Rattle.std.proofs.Common.{◌≡◌, ◌+◌}
use Rattle.std.specs.List.{count_by}
use Rattle.lq_query.specs.Given.{is_counted}
use Rattle.lq_query.proofs.reading.Reading.count.Given as goal

abbrev pub invariant-loop-row : goal.invariant-loop-row
invariant-loop-row l =
    (goal.iterator-loop-row).can_next l.row-iterator
    × (goal.iterator-loop-row).is_finite l.row-iterator
    × (count_by (is_counted l.self.view l.self.table.now l.self.query.now l.self.columns.now) l.fn.rows ≡ l.count + count_by (is_counted l.self.view l.self.table.now l.self.query.now l.self.columns.now) l.row-iterator)
