use Rattle.lq_model.proofs.KeepsSound.{statement_keeps}
use Rattle.lq_model.proofs.keeps_sound.statement_keeps_sound.Goals as goal

pub returns : goal.returns
returns c = statement_keeps
