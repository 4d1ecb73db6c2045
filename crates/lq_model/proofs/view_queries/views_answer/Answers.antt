use Rattle.lq_model.proofs.ViewAnswers.{views_answer}
use Rattle.lq_model.proofs.view_queries.views_answer.Goals as goal

pub returns : goal.returns
returns c = views_answer
