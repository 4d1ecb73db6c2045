use Rattle.lq_sources.proofs.Sources.{no_second}
use Rattle.lq_sources.proofs.laws.source_is_one.Goals as goal

pub returns : goal.returns
returns c = no_second
