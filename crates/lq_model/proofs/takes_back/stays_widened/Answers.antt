use Rattle.lq_model.proofs.AddDropColumn.{widened_by_add}
use Rattle.lq_model.proofs.Between.{widened_by_modify, widened_by_not_null, widened_by_update}
use Rattle.lq_model.proofs.takes_back.stays_widened.Goals as goal

pub returns : goal.returns
returns c = (widened_by_add, widened_by_update, widened_by_not_null, widened_by_modify)
