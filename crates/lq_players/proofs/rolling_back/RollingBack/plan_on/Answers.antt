use Rattle.std.proofs.Common.{rules}
use Rattle.lq_players.proofs.BackPlanned.{plans_invalid, plans_on}
use Rattle.lq_players.proofs.RowsRead.{err_so}
use Rattle.lq_players.specs.RollingBack.{IsRefusal}
use Rattle.lq_players.proofs.rolling_back.RollingBack.plan_on.Goals as goal

pub returns-in_err-check_faults-clause-plans : goal.returns-in_err-check_faults-clause-plans
returns-in_err-check_faults-clause-plans c =
    plans_invalid c.args.self.now c.args.dialect c.args.rows.now c.from_residual.result c.in_err-check_faults.field-0.0 (search rules) c.in_err-check_faults.ensures.passes

pub returns-in_err-check_faults-clause-refusal : goal.returns-in_err-check_faults-clause-refusal
returns-in_err-check_faults-clause-refusal c = err_so c.from_residual.result c.in_err-check_faults.field-0.0 IsRefusal (search rules) c.in_err-check_faults.ensures.refusal

pub returns-clause-plans : goal.returns-clause-plans
returns-clause-plans c = plans_on c.args.self.now c.args.dialect c.args.rows.now c.plan_back.result c.in_ok-check_faults.ensures.passes c.plan_back.ensures.passes c.plan_back.ensures.turns
