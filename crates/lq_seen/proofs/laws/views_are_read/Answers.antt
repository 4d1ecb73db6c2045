use Rattle.lq_seen.proofs.Read.{views_are_read}
use Rattle.lq_seen.proofs.laws.views_are_read.Goals as goal

pub returns : goal.returns
returns c = views_are_read
