use Rattle.lq_query.proofs.AskedLemmas.{other_answer}
use Rattle.lq_query.proofs.GivenLemmas.{answered_all, answered_columns, answered_count}
use Rattle.lq_query.proofs.reading.Reading.answered.Goals as goal

pub returns-in_ok-count-in-Count : goal.returns-in_ok-count-in-Count
returns-in_ok-count-in-Count c =
    let own = c.args.self.now in
    other_answer c.counted.result _ _ (answered_count own.table.now own.columns.now own.query.now own.view c.args.rows c.in_ok-count-in-Count.field-0 c.in-Count.is c.in_ok-count-in-Count.ensures) c.counted.ensures

pub returns-in_ok-rows-in-All : goal.returns-in_ok-rows-in-All
returns-in_ok-rows-in-All c =
    let own = c.args.self.now in
    answered_all own.table.now own.columns.now own.query.now own.view c.args.rows c.in_ok-rows-in-All.field-0 c.in-All.is c.in_ok-rows-in-All.ensures

pub returns-in_ok-rows-in-Columns : goal.returns-in_ok-rows-in-Columns
returns-in_ok-rows-in-Columns c =
    let own = c.args.self.now in
    rw (c.len.ensures) (answered_columns own.table.now own.columns.now own.query.now own.view c.args.rows c.in_ok-rows-in-Columns.field-0 c.in-Columns.names c.in-Columns.is c.in_ok-rows-in-Columns.ensures)
