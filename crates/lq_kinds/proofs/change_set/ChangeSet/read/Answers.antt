use Rattle.std.proofs.Common.{◌≡◌, subst, sym, true}
use Rattle.lq_model.proofs.Lists.{and_true}
use Rattle.lq_kinds.specs.ChangeSets.{set_with}
use Rattle.lq_kinds.specs.ReadFor.{is_read_for}
use Rattle.lq_kinds.specs.declared.change_set.ChangeSet.{ChangeSet}
use Rattle.lq_kinds.proofs.change_set.ChangeSet.read.Goals as goal

pub returns-clause-right : goal.returns-clause-right
unfolding set_with
returns-clause-right g c =
    let P : ChangeSet → Type 0 = λ x. is_read_for c.args.dialect x ≡ true in
    subst P (sym c.in_ok-set.ensures) (and_true _ _ c.in_ok-heading.ensures.right c.in_ok-notes.ensures.right)
