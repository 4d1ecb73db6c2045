use Rattle.lq_parse.proofs.Meaning.{names_need_no_quotes}
use Rattle.lq_parse.proofs.laws.names_need_no_quotes.Goals as goal

pub returns : goal.returns
returns c = names_need_no_quotes
