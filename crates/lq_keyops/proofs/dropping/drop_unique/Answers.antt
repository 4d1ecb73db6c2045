use Rattle.std.proofs.Common.{subst, sym}
use Rattle.lq_chain.specs.History.{History}
use Rattle.lq_model.specs.Catalogue.{Catalogue}
use Rattle.lq_model.specs.Constraints as spec
use Rattle.lq_model.specs.Plan.{decide}
use Rattle.lq_model.specs.Sound.{IsSound}
use Rattle.lq_rows.specs.Stored.{Answers}
use Rattle.lq_keyops.proofs.dropping.drop_unique.Goals as goal

pub drop_unique_tested-requires : goal.drop_unique_tested-requires
drop_unique_tested-requires c = subst (λ (h : History Catalogue). IsSound c.args.dialect h.now) (sym c.in_ok-see_targets.ensures) c.requires

pub returns : goal.returns
returns c =
    subst (λ (h : History Catalogue). Answers (decide (spec.drop_unique c.args.by c.args.dialect c.args.table.now c.args.name.now h.now)) h c.drop_unique_tested.new.parts c.drop_unique_tested.result) c.in_ok-see_targets.ensures c.drop_unique_tested.ensures
