use Rattle.lq_base.proofs.ValueLemmas.{into_kind-is_value}
use Rattle.lq_base.proofs.laws.into_is_value.Goals as goal

pub returns : goal.returns
returns c = into_kind-is_value
