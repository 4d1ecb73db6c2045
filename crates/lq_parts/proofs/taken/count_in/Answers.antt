use Rattle.std.proofs.Common.{subst}
use Rattle.lq_parts.specs.Taken.{AreCounts}
use Rattle.lq_parts.proofs.taken.count_in.Goals as goal

pub returns-in-Some : goal.returns-in-Some
returns-in-Some c = λ ns are. c.counts_to.ensures ns (subst (AreCounts ns) c.in-Some.is are)
