use Rattle.std.proofs.Common.{subst, sym}
use Rattle.lq_chain.specs.History.{History}
use Rattle.lq_model.specs.Catalogue.{Catalogue}
use Rattle.lq_model.specs.Constraints as spec
use Rattle.lq_model.specs.Plan.{decide}
use Rattle.lq_model.specs.Sound.{IsSound}
use Rattle.lq_rows.specs.Stored.{Answers}
use Rattle.lq_keyops.proofs.foreign.add_foreign_key.Goals as goal

pub add_foreign_key_tested-requires : goal.add_foreign_key_tested-requires
add_foreign_key_tested-requires c = subst (λ (h : History Catalogue). IsSound c.args.dialect h.now) (sym c.in_ok-learn_foreign.ensures) c.requires

pub returns : goal.returns
returns c =
    subst (λ (h : History Catalogue). Answers (decide (spec.add_foreign_key c.args.by c.args.dialect c.args.table.now c.args.foreign.now h.now)) h c.add_foreign_key_tested.new.parts c.add_foreign_key_tested.result) c.in_ok-learn_foreign.ensures c.add_foreign_key_tested.ensures
