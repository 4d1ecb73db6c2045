use Rattle.std.specs.Prelude.{false, true}
use Rattle.lq_model.proofs.UndoModify.{modify_back}
use Rattle.lq_model.proofs.takes_back.modify_takes_back.Goals as goal

pub returns : goal.returns
returns c = λ d t n k. (λ by c e m sound fresh made. modify_back d t n k false by c e m sound fresh made, λ by c e m sound fresh made. modify_back d t n k true by c e m sound fresh made)
