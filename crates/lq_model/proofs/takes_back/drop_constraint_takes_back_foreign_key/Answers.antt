use Rattle.lq_model.proofs.UndoConstraints.{drop_after_foreign_key}
use Rattle.lq_model.proofs.takes_back.drop_constraint_takes_back_foreign_key.Goals as goal

pub returns : goal.returns
returns c = λ t f by c e k sound made. drop_after_foreign_key t f by c e k sound made
