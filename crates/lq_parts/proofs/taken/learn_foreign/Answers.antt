use Rattle.std.proofs.Common.{subst}
use Rattle.lq_model.specs.Catalogue.{foreign_names}
use Rattle.lq_parts.specs.Taken.{IsTrueOf}
use Rattle.lq_parts.proofs.TakenLemmas.{just_more}
use Rattle.lq_parts.proofs.taken.learn_foreign.Goals as goal

pub returns-in_ok-add_foreign-in-Some : goal.returns-in_ok-add_foreign-in-Some
returns-in_ok-add_foreign-in-Some c = λ it ns is known. just_more (foreign_names it) ns c.in-Some.set c.add_foreign.new.set (c.in_ok-add_foreign-in-Some.ensures it is) (subst (IsTrueOf ns) c.in-Some.is known)
