use Rattle.std.proofs.Common.{refl}
use Rattle.lq_model.specs.SqlText.{statement_in}
use Rattle.lq_parse.proofs.Meaning.{words_same}
use Rattle.lq_statement.proofs.laws.blanks_change_no_statement.Goals as goal

pub returns : goal.returns
unfolding statement_in
returns c = λ d a b found other is_a is_b same. rw (words_same d a b found other is_a is_b same) refl
