use Rattle.lq_beside.proofs.RowsAnswered.{rows_answered}
use Rattle.lq_beside.proofs.laws.rows_answered.Goals as goal

pub returns : goal.returns
returns c = rows_answered
