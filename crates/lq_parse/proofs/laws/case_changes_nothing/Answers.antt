use Rattle.lq_parse.proofs.Meaning.{case_changes_nothing}
use Rattle.lq_parse.proofs.laws.case_changes_nothing.Goals as goal

pub returns : goal.returns
returns c = case_changes_nothing
