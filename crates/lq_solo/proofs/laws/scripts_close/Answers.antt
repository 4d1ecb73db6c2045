use Rattle.lq_solo.proofs.Works.{scripts_close}
use Rattle.lq_solo.proofs.laws.scripts_close.Goals as goal

pub returns : goal.returns
returns c = scripts_close
