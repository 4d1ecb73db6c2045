use Rattle.lq_parse.proofs.Quotes.{strings_whole}
use Rattle.lq_parse.proofs.laws.strings_are_one_word.Goals as goal

pub returns : goal.returns
returns c = strings_whole c.lexemes_go_on.ensures c.texts_are_read.ensures
