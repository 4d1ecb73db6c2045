use Rattle.lq_base.proofs.NameLemmas.{names_tell_keys}
use Rattle.lq_base.proofs.laws.names_tell_keys.Goals as goal

pub returns : goal.returns
returns c = names_tell_keys
