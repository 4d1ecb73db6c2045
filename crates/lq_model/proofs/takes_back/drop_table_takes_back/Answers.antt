use Rattle.lq_model.proofs.CreateDrop.{drop_after_create}
use Rattle.lq_model.proofs.takes_back.drop_table_takes_back.Goals as goal

pub returns : goal.returns
returns c = drop_after_create
