use Rattle.lq_model.proofs.RenameEither.{rename_table_after}
use Rattle.lq_model.proofs.takes_back.rename_table_takes_back.Goals as goal

pub returns : goal.returns
returns c = λ d a b near by c e k sound made. rename_table_after d a b near by c e k sound made
