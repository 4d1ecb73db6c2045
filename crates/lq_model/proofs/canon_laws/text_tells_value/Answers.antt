use Rattle.lq_model.proofs.CanonLemmas.{value_told}
use Rattle.lq_model.proofs.canon_laws.text_tells_value.Goals as goal

pub returns : goal.returns
returns c = value_told
