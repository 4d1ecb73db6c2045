use Rattle.std.proofs.Common.{ap, rules, subst, sym, ◌∙◌}
use Rattle.std.specs.Prelude.{Err, List, length, ◌≡◌}
use Rattle.lq_base.specs.declared.tracking.Tracked.{Tracked}
use Rattle.lq_commands.proofs.Commanded.{none_of}
use Rattle.lq_rehearsal.proofs.RehearsalJobs.{bound_answers, checked_did, unready_answers}
use Rattle.lq_commands.specs.Refusals.{Passes, unready}
use Rattle.lq_commands.specs.Rehearsal.{unrehearsed}
use Rattle.lq_rehearsal.proofs.rehearsal.update_testing_rollback.Goals as goal

pub returns-in_err-rows-clause-did : goal.returns-in_err-rows-clause-did
returns-in_err-rows-clause-did g c =
    let is : c.from_residual.result ≡ Err c.in_err-rows.field-0.0 = search rules in
    checked_did g.S.Store.state g.S.Store.crashes c.args.given c.args.store.now c.from_residual.result c.in_err-rows.field-0.0 is
    (λ database has. unready_answers c.args.given database c.from_residual.result c.in_err-rows.field-0.0 is (c.in_err-rows.ensures.passes database has))

pub returns-in_err-check_bound-clause-did : goal.returns-in_err-check_bound-clause-did
returns-in_err-check_bound-clause-did g c =
    let is : c.from_residual-in_err-check_bound.result ≡ Err c.in_err-check_bound.field-0.0 = search rules in
    checked_did g.S.Store.state g.S.Store.crashes c.args.given c.args.store.now c.from_residual-in_err-check_bound.result c.in_err-check_bound.field-0.0 is
    (λ database has. bound_answers c.args.given database c.from_residual-in_err-check_bound.result c.in_err-check_bound.field-0.0 is c.in_ok-rows.rows (c.in_ok-rows.ensures.rows database has) (c.in_ok-rows.ensures.passes database has)
    (subst (λ (rs : List Tracked). Passes {A = Unit {0}} (unrehearsed c.args.given rs) (Err c.in_err-check_bound.field-0.0)) c.as_slice.ensures c.in_err-check_bound.ensures))

pub rehearse-requires-clause-rows : goal.rehearse-requires-clause-rows
rehearse-requires-clause-rows g c = λ database has. ap (λ (rs : List Tracked). length rs) (c.in_ok-rows.ensures.rows database has) ∙ sym c.len.ensures

pub rehearse-requires-clause-passed : goal.rehearse-requires-clause-passed
rehearse-requires-clause-passed g c = λ database has. none_of (unready c.args.given database) c.in_ok-rows.rows (c.in_ok-rows.ensures.passes database has)

pub rehearse-requires-clause-free : goal.rehearse-requires-clause-free
rehearse-requires-clause-free g c = λ database has.
    ap (unrehearsed c.args.given) (c.in_ok-rows.ensures.rows database has ∙ sym c.as_slice.ensures)
    ∙ none_of (unrehearsed c.args.given c.as_slice.result.now) c.in_ok-check_bound.field-0 c.in_ok-check_bound.ensures
