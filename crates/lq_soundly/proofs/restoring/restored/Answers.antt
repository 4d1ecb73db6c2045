use Rattle.lq_soundly.proofs.SoundLemmas.{told}
use Rattle.lq_soundly.proofs.restoring.restored.Goals as goal

pub returns : goal.returns
returns c = told c.args.dialect c.args.state c.in_ok-found.found c.in_ok-found.ensures
