use Rattle.lq_model.proofs.UndoMysql.{drop_unique_after}
use Rattle.lq_model.proofs.takes_back.drop_unique_takes_back.Goals as goal

pub returns : goal.returns
returns c = λ t u by c e k sound made. drop_unique_after t u by c e k sound made
