use Rattle.std.proofs.Common.{map}
use Rattle.lq_query.proofs.AskedLemmas.{other_answer}
use Rattle.lq_query.proofs.GivenLemmas.{answered_all, answered_columns, answered_count}
use Rattle.lq_query.proofs.reading.Reading.answered_of.Goals as goal

pub returns-in_ok-count_of-in-Count : goal.returns-in_ok-count_of-in-Count
returns-in_ok-count_of-in-Count c =
    let own = c.args.self.now in
    other_answer c.counted.result _ _ (answered_count own.table.now own.columns.now own.query.now own.view (map (λ row. row.now) c.args.rows.now) c.in_ok-count_of-in-Count.field-0 c.in-Count.is c.in_ok-count_of-in-Count.ensures) c.counted.ensures

pub returns-in_ok-rows_of-in-All : goal.returns-in_ok-rows_of-in-All
returns-in_ok-rows_of-in-All c =
    let own = c.args.self.now in
    answered_all own.table.now own.columns.now own.query.now own.view (map (λ row. row.now) c.args.rows.now) c.in_ok-rows_of-in-All.field-0 c.in-All.is c.in_ok-rows_of-in-All.ensures

pub returns-in_ok-rows_of-in-Columns : goal.returns-in_ok-rows_of-in-Columns
returns-in_ok-rows_of-in-Columns c =
    let own = c.args.self.now in
    rw (c.len.ensures) (answered_columns own.table.now own.columns.now own.query.now own.view (map (λ row. row.now) c.args.rows.now) c.in_ok-rows_of-in-Columns.field-0 c.in-Columns.names c.in-Columns.is c.in_ok-rows_of-in-Columns.ensures)
