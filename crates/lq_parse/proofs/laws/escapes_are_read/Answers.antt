use Rattle.lq_parse.proofs.Escapes.{escapes_are_read}
use Rattle.lq_parse.proofs.laws.escapes_are_read.Goals as goal

pub returns : goal.returns
returns c = escapes_are_read c.lexemes_go_on.ensures
