use Rattle.std.proofs.Common.{subst}
use Rattle.lq_model.specs.NameSpaces.{names_inside}
use Rattle.lq_parts.specs.Taken.{IsTrueOf}
use Rattle.lq_parts.proofs.TakenLemmas.{just_more}
use Rattle.lq_parts.proofs.taken.learn_inner.Goals as goal

pub returns-in_ok-add_inner-in-Some : goal.returns-in_ok-add_inner-in-Some
returns-in_ok-add_inner-in-Some c = λ it ns is known. just_more (names_inside (c.args.table.now, it)) ns c.in-Some.set c.add_inner.new.set (c.in_ok-add_inner-in-Some.ensures it is) (subst (IsTrueOf ns) c.in-Some.is known)
