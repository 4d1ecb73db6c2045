use Rattle.lq_model.proofs.UndoMysql.{drop_foreign_key_after}
use Rattle.lq_model.proofs.takes_back.drop_foreign_key_takes_back.Goals as goal

pub returns : goal.returns
returns c = λ t f by c e k sound made. drop_foreign_key_after t f by c e k sound made
