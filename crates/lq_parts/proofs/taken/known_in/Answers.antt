use Rattle.std.proofs.Common.{subst}
use Rattle.lq_parts.specs.Taken.{IsTrueOf}
use Rattle.lq_parts.proofs.taken.known_in.Goals as goal

pub returns-in-Some : goal.returns-in-Some
returns-in-Some c = λ ns is. c.has_name.ensures ns (subst (IsTrueOf ns) c.in-Some.is is)
