use Rattle.lq_model.proofs.UndoIndexes.{drop_after_index}
use Rattle.lq_model.proofs.UndoMysql.{drop_index_after}
use Rattle.lq_model.proofs.takes_back.drop_index_takes_back.Goals as goal

pub returns : goal.returns
returns c = λ t i. (λ by c e k sound made. drop_after_index t i by c e k sound made, λ by c e k sound made. drop_index_after t i by c e k sound made)
