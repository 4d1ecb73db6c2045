use Rattle.lq_model.proofs.CanonLemmas.{change_told}
use Rattle.lq_model.proofs.canon_laws.text_tells_change.Goals as goal

pub returns : goal.returns
returns c = change_told
