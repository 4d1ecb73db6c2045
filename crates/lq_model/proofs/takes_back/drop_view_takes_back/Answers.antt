use Rattle.lq_model.proofs.Views.{drop_view_after}
use Rattle.lq_model.proofs.takes_back.drop_view_takes_back.Goals as goal

pub returns : goal.returns
returns c = λ d v q replace by c e k sound fresh made. drop_view_after d v q replace by c e k sound fresh made
