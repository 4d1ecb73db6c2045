use Rattle.lq_model.proofs.AddDropColumn.{drop_widened}
use Rattle.lq_model.proofs.takes_back.drop_column_takes_back_widened.Goals as goal

pub returns : goal.returns
returns c = λ d t n by c e sound wide named. drop_widened by d t n c e sound wide named
