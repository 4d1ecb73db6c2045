use Rattle.lq_model.proofs.CanonLemmas.{changes_told}
use Rattle.lq_model.proofs.canon_laws.text_tells_changes.Goals as goal

pub returns : goal.returns
returns c = changes_told
