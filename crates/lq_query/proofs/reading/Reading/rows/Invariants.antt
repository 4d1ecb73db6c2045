use Rattle.std.proofs.Common.{◌≡◌, ◌++◌}
use Rattle.std.specs.List.{filter_map}
use Rattle.lq_query.specs.Given.{given}
use Rattle.lq_query.proofs.reading.Reading.rows.Given as goal

abbrev pub invariant-loop-row : goal.invariant-loop-row
invariant-loop-row l =
    (goal.iterator-loop-row).can_next l.row-iterator
    × (goal.iterator-loop-row).is_finite l.row-iterator
    × (filter_map (given l.self.view l.self.table.now l.self.query.now l.self.columns.now) l.fn.rows ≡ l.found ++ filter_map (given l.self.view l.self.table.now l.self.query.now l.self.columns.now) l.row-iterator)
