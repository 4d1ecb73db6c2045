use Rattle.lq_parse.proofs.QuotedNames.{quotes_change_no_test}
use Rattle.lq_parse.proofs.laws.quotes_change_no_test.Goals as goal

pub returns : goal.returns
returns c = quotes_change_no_test
