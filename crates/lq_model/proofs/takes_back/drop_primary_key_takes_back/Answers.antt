use Rattle.lq_model.proofs.UndoMysql.{drop_primary_key_after}
use Rattle.lq_model.proofs.takes_back.drop_primary_key_takes_back.Goals as goal

pub returns : goal.returns
returns c = λ t k by c e n sound fresh made. drop_primary_key_after t k by c e n sound fresh made
