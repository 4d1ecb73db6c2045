use Rattle.lq_parse.proofs.QuotedNames.{quotes_change_no_query}
use Rattle.lq_parse.proofs.laws.quotes_change_no_query.Goals as goal

pub returns : goal.returns
returns c = quotes_change_no_query
