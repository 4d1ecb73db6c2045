use Rattle.lq_sources.proofs.Sources.{has_source}
use Rattle.lq_sources.proofs.laws.files_have_source.Goals as goal

pub returns : goal.returns
returns c = has_source
