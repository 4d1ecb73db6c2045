use Rattle.std.proofs.Common.{rules, subst, sym}
use Rattle.std.specs.Prelude.{Err, IfOk, ◌≡◌}
use Rattle.lq_players.proofs.BackPlanned.{lack_only}
use Rattle.lq_players.proofs.RowsRead.{err_so}
use Rattle.lq_players.proofs.UpdateTurns.{plans_here}
use Rattle.lq_players.specs.RollingBack.{IsRefusal}
use Rattle.lq_players.specs.Updating.{IsPlanFor, Plans}
use Rattle.lq_kinds.specs.ReadFor.{AreFor}
use Rattle.lq_players.proofs.update_checks.plan_on.Goals as goal

pub check_changelog-requires : goal.check_changelog-requires
check_changelog-requires g c = record { dialect = c.requires.asked.dialect }

pub returns-in_err-own-clause-plans : goal.returns-in_err-own-clause-plans
returns-in_err-own-clause-plans g c =
    let is : c.from_residual.result ≡ Err c.in_err-own.field-0.0 = search rules in
    subst (λ r. Plans c.args.dialect c.args.asked (g.K.Look.catalogue c.args.look.now) r) (sym is)
    (λ database stands. c.in_err-own.ensures.refuses database stands (c.requires.rows database stands))

pub returns-in_err-own-clause-refusal : goal.returns-in_err-own-clause-refusal
returns-in_err-own-clause-refusal g c = err_so c.from_residual.result c.in_err-own.field-0.0 IsRefusal (search rules) c.in_err-own.ensures.refusal

pub plan_turns-requires-clause-read : goal.plan_turns-requires-clause-read
plan_turns-requires-clause-read g c = subst (λ d. AreFor d c.args.asked.changelog) (sym c.requires.asked.dialect) c.requires.asked.read

pub returns-clause-reads : goal.returns-clause-reads
returns-clause-reads g c = subst (λ d. IfOk c.plan_turns.result (IsPlanFor d)) c.requires.asked.dialect c.plan_turns.ensures.reads

pub returns-clause-plans : goal.returns-clause-plans
returns-clause-plans g c =
    plans_here c.args.dialect c.args.asked (g.K.Look.catalogue c.args.look.now) c.args.rows.now c.in_ok-own.own c.plan_turns.result c.in_ok-own.ensures.faultless
    (λ database stands. (c.requires.rows database stands, c.in_ok-own.ensures.own database stands (c.requires.rows database stands))) c.plan_turns.ensures.plans c.plan_turns.ensures.lack

pub returns-clause-refusal : goal.returns-clause-refusal
returns-clause-refusal g c = lack_only c.plan_turns.result c.plan_turns.ensures.lack
