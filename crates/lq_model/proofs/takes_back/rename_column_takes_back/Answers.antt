use Rattle.lq_model.proofs.UndoRenameColumn.{column_renamed_back}
use Rattle.lq_model.proofs.takes_back.rename_column_takes_back.Goals as goal

pub returns : goal.returns
returns c = λ d t a b by c e k sound made. column_renamed_back d t a b by c e k sound made
