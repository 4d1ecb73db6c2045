use Rattle.std.proofs.Common.{rules, subst, sym}
use Rattle.std.specs.Prelude.{Err, IfOk, [], ◌≡◌}
use Rattle.lq_players.proofs.RowsRead.{err_so}
use Rattle.lq_players.proofs.UpdateTurns.{faultless, ok_always, refused_first, refused_then}
use Rattle.lq_players.specs.RollingBack.{IsRefusal, Refuses}
use Rattle.lq_players.specs.Updating.{IsOwn, log_of, update_refusal}
use Rattle.lq_turns.specs.Faults.{faults}
use Rattle.lq_players.proofs.update_checks.check_changelog.Goals as goal

pub returns-in_err-check_faults-clause-refuses : goal.returns-in_err-check_faults-clause-refuses
returns-in_err-check_faults-clause-refuses g c = λ database stands same.
    err_so c.from_residual.result c.in_err-check_faults.field-0.0 (Refuses (update_refusal c.args.asked.now database)) (search rules)
    (refused_first c.args.asked.now c.args.rows.now database c.in_err-check_faults.field-0.0 same c.in_err-check_faults.ensures.passes)

pub returns-in_err-check_faults-clause-refusal : goal.returns-in_err-check_faults-clause-refusal
returns-in_err-check_faults-clause-refusal g c = err_so c.from_residual.result c.in_err-check_faults.field-0.0 IsRefusal (search rules) c.in_err-check_faults.ensures.refusal

pub returns-in_err-check_faults-clause-own : goal.returns-in_err-check_faults-clause-own
returns-in_err-check_faults-clause-own g c = λ database stands same.
    let is : c.from_residual.result ≡ Err c.in_err-check_faults.field-0.0 = search rules in
    subst (λ r. IfOk r (IsOwn c.args.asked.now database)) (sym is) tt

pub returns-clause-faultless : goal.returns-clause-faultless
returns-clause-faultless g c = ok_always c.check_own.result (faults (log_of c.args.asked.now).sets c.args.rows.now ≡ []) (faultless (faults (log_of c.args.asked.now).sets c.args.rows.now) c.in_ok-check_faults.ensures.passes)

pub returns-clause-refuses : goal.returns-clause-refuses
returns-clause-refuses g c = λ database stands same.
    refused_then c.check_own.result c.args.asked.now c.args.rows.now database same c.in_ok-check_faults.ensures.passes (c.check_own.ensures.refuses database stands same)
