use Rattle.lq_base.proofs.NameLemmas.{keys_tell_names}
use Rattle.lq_base.proofs.laws.keys_tell_names.Goals as goal

pub returns : goal.returns
returns c = keys_tell_names
