use Rattle.std.proofs.Common.{subst, sym}
use Rattle.lq_chain.specs.History.{History}
use Rattle.lq_model.specs.Catalogue.{Catalogue}
use Rattle.lq_model.specs.Plan.{decide}
use Rattle.lq_model.specs.Sound.{IsSound}
use Rattle.lq_model.specs.Tables as spec
use Rattle.lq_rows.specs.Stored.{Answers}
use Rattle.lq_tableops.proofs.dropping.drop_table.Goals as goal

pub drop_tested-requires : goal.drop_tested-requires
drop_tested-requires c = subst (λ (h : History Catalogue). IsSound c.args.dialect h.now) (sym c.in_ok-learn_targets.ensures) c.requires

pub returns : goal.returns
returns c =
    subst (λ (h : History Catalogue). Answers (decide (spec.drop_table c.args.by c.args.dialect c.args.table.now h.now)) h c.drop_tested.new.parts c.drop_tested.result) c.in_ok-learn_targets.ensures c.drop_tested.ensures
