use Rattle.std.proofs.Common.{refl}
use Rattle.lq_model.specs.SqlText.{statement_in}
use Rattle.lq_parse.proofs.Meaning.{spelled_same}
use Rattle.lq_statement.proofs.laws.spellings_change_no_statement.Goals as goal

pub returns : goal.returns
unfolding statement_in
returns c = λ d a b found other is_a is_b same. rw (spelled_same d a b found other is_a is_b same) refl
