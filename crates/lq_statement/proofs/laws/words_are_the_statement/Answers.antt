use Rattle.std.proofs.Common.{refl}
use Rattle.lq_model.specs.SqlText.{statement_in}
use Rattle.lq_statement.proofs.laws.words_are_the_statement.Goals as goal

pub returns : goal.returns
unfolding statement_in
returns c = λ d a b same. rw same refl
