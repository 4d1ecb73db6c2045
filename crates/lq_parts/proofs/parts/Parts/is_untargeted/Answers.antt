use Rattle.std.proofs.Common.{Some, false, rules, subst, ◌≡◌}
use Rattle.std.specs.Map.{lookup}
use Rattle.lq_base.specs.Name.{is_named}
use Rattle.lq_chain.specs.History.{History}
use Rattle.lq_model.specs.Catalogue.{Catalogue}
use Rattle.lq_model.specs.Tables.{is_targeted}
use Rattle.lq_parts.proofs.TargetLemmas.{own_alone}
use Rattle.lq_parts.proofs.parts.Parts.is_untargeted.Goals as goal

pub returns-in-Some-knows_targets : goal.returns-in-Some-knows_targets
returns-in-Some-knows_targets c =
    let t = c.args.table.now in
    let ts = c.self.inside.tables.now in
    let it = c.in-Some.held.now.now in
    let there : lookup (is_named t) ts ≡ Some it = search rules in
    subst (λ (h : History Catalogue). is_targeted h.now t ≡ false) c.self.view_is
    (own_alone t ts it c.foreign_keys.result.now c.in-Some-knows_targets.all c.aiming-own.result there (c.in-Some-knows_targets.ensures ts c.self.invariant) c.foreign_keys.ensures c.aiming-own.ensures c.if-all-own.true)
