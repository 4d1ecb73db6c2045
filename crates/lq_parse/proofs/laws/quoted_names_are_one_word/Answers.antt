use Rattle.lq_parse.proofs.Quotes.{names_whole}
use Rattle.lq_parse.proofs.laws.quoted_names_are_one_word.Goals as goal

pub returns : goal.returns
returns c = names_whole c.lexemes_go_on.ensures c.names_are_read.ensures
