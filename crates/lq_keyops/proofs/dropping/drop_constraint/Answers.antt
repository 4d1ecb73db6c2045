use Rattle.std.proofs.Common.{subst, sym}
use Rattle.lq_chain.specs.History.{History}
use Rattle.lq_model.specs.Catalogue.{Catalogue}
use Rattle.lq_model.specs.Constraints as spec
use Rattle.lq_model.specs.Plan.{decide}
use Rattle.lq_model.specs.Sound.{IsSound}
use Rattle.lq_rows.specs.Stored.{Answers}
use Rattle.lq_keyops.proofs.dropping.drop_constraint.Goals as goal

pub drop_constraint_tested-requires : goal.drop_constraint_tested-requires
drop_constraint_tested-requires c = subst (λ (h : History Catalogue). IsSound c.args.dialect h.now) (sym c.in_ok-see_targets.ensures) c.requires

pub returns : goal.returns
returns c =
    subst (λ (h : History Catalogue). Answers (decide (spec.drop_constraint c.args.by c.args.dialect c.args.table.now c.args.name.now h.now)) h c.drop_constraint_tested.new.parts c.drop_constraint_tested.result) c.in_ok-see_targets.ensures c.drop_constraint_tested.ensures
