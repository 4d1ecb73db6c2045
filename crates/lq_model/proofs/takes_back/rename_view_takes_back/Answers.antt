use Rattle.lq_model.proofs.Views.{rename_view_after}
use Rattle.lq_model.proofs.takes_back.rename_view_takes_back.Goals as goal

pub returns : goal.returns
returns c = λ d a b by c e k sound made. rename_view_after d a b by c e k sound made
