use Rattle.lq_model.proofs.AddDropColumn.{drop_after_add}
use Rattle.lq_model.proofs.takes_back.drop_column_takes_back.Goals as goal

pub returns : goal.returns
returns c = λ d t def by c e k sound made. drop_after_add d t def by c e k sound made
