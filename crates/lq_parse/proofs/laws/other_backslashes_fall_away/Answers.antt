use Rattle.lq_parse.proofs.Escapes.{other_backslashes_fall_away}
use Rattle.lq_parse.proofs.laws.other_backslashes_fall_away.Goals as goal

pub returns : goal.returns
returns c = other_backslashes_fall_away c.lexemes_go_on.ensures
