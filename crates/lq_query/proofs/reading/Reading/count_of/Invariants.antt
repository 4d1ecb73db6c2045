use Rattle.std.proofs.Common.{drop, map, ◌+◌, ◌≡◌}
use Rattle.std.specs.List.{count_by}
use Rattle.lq_query.specs.Given.{is_counted}
use Rattle.lq_query.proofs.reading.Reading.count_of.Given as goal

abbrev pub invariant-loop-row : goal.invariant-loop-row
invariant-loop-row l =
    count_by (is_counted l.self.view l.self.table.now l.self.query.now l.self.columns.now) (map (λ row. row.now) l.rows)
    ≡ l.count + count_by (is_counted l.self.view l.self.table.now l.self.query.now l.self.columns.now) (map (λ row. row.now) (drop l.row-index l.rows))
