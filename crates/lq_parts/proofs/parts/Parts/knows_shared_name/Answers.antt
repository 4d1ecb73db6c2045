use Rattle.lq_parts.proofs.PartLemmas.{shared_is}
use Rattle.lq_parts.proofs.parts.Parts.knows_shared_name.Goals as goal

pub returns-in-Some : goal.returns-in-Some
returns-in-Some c = rw (c.has_object-has_object.ensures, c.in-Some.ensures) (shared_is c.args.self.now.now c.args.name.now)
