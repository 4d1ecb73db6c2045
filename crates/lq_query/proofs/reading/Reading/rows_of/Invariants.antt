use Rattle.std.proofs.Common.{drop, map, ◌++◌, ◌≡◌}
use Rattle.std.specs.List.{filter_map}
use Rattle.lq_query.specs.Given.{given}
use Rattle.lq_query.proofs.reading.Reading.rows_of.Given as goal

abbrev pub invariant-loop-row : goal.invariant-loop-row
invariant-loop-row l =
    l.found ++ filter_map (given l.self.view l.self.table.now l.self.query.now l.self.columns.now) (map (λ row. row.now) (drop l.row-index l.rows))
    ≡ filter_map (given l.self.view l.self.table.now l.self.query.now l.self.columns.now) (map (λ row. row.now) l.rows)
