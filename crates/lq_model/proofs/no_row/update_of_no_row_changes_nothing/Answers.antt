use Rattle.lq_model.proofs.NoRowTaken.{update_of_none}
use Rattle.lq_model.proofs.no_row.update_of_no_row_changes_nothing.Goals as goal

pub returns : goal.returns
returns c = update_of_none
