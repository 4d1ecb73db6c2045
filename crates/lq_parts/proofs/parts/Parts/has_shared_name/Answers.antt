use Rattle.lq_parts.proofs.PartLemmas.{shared_is}
use Rattle.lq_parts.proofs.parts.Parts.has_shared_name.Goals as goal

pub returns-clause-found : goal.returns-clause-found
returns-clause-found c = rw (c.has_object-has_object.ensures, c.in_ok-has_inner.ensures.found) (shared_is c.args.self.now.now c.args.name.now)
