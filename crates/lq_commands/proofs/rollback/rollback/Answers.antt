use Rattle.std.proofs.Common.{refl, rules, sym, ◌∙◌}
use Rattle.std.specs.Prelude.{Err, ◌≡◌}
use Rattle.lq_commands.proofs.Endings.{untouched_crashes, untouched_works}
use Rattle.lq_commands.proofs.RolledBack.{unready_answers, unready_no_disk, whole_answers, whole_kept}
use Rattle.lq_commands.specs.Scripts.{rollback_script}
use Rattle.lq_commands.proofs.rollback.rollback.Goals as goal

pub rollback_rows-requires-clause-rows : goal.rollback_rows-requires-clause-rows
rollback_rows-requires-clause-rows g c = λ database has. c.in_ok-rows.ensures.rows database has ∙ sym c.as_slice.ensures

pub returns-in_err-rows-clause-answers : goal.returns-in_err-rows-clause-answers
returns-in_err-rows-clause-answers g c =
    let is : c.from_residual.result ≡ Err c.in_err-rows.field-0.0 = search rules in
    λ database has. unready_answers c.args.given c.args.target.now database c.from_residual.result c.in_err-rows.field-0.0 is (c.in_err-rows.ensures.passes database has)

-- nothing was done with the store
pub returns-in_err-rows-clause-refused : goal.returns-in_err-rows-clause-refused
returns-in_err-rows-clause-refused g c = λ database has refused. refl

pub returns-in_err-rows-clause-works : goal.returns-in_err-rows-clause-works
returns-in_err-rows-clause-works g c = λ database has.
    let is : c.from_residual.result ≡ Err c.in_err-rows.field-0.0 = search rules in
    untouched_works c.args.given.options.dialect (rollback_script c.args.given c.args.target.now database) database (g.S.Store.state c.args.store.now) c.from_residual.result c.in_err-rows.field-0.0 is has

pub returns-in_err-rows-clause-any_moment : goal.returns-in_err-rows-clause-any_moment
returns-in_err-rows-clause-any_moment g c = λ database has. untouched_crashes c.args.given.options.dialect (rollback_script c.args.given c.args.target.now database) database (g.S.Store.state c.args.store.now) (g.S.Store.crashes c.args.store.now)

pub returns-in_err-rows-clause-disk : goal.returns-in_err-rows-clause-disk
returns-in_err-rows-clause-disk g c =
    let on = c.requires.ready in
    let is : c.from_residual.result ≡ Err c.in_err-rows.field-0.0 = search rules in
    λ disk. absurd (unready_no_disk c.args.given c.args.target.now on.database c.from_residual.result c.in_err-rows.field-0.0 is (c.in_err-rows.ensures.passes on.database on.has) disk)

pub returns-clause-tells : goal.returns-clause-tells
returns-clause-tells g c = c.rollback_rows.ensures.tells

pub returns-clause-answers : goal.returns-clause-answers
returns-clause-answers g c = λ database has.
    whole_answers c.args.given c.args.target.now database c.in_ok-rows.rows c.as_slice.result.now (c.in_ok-rows.ensures.passes database has) (c.in_ok-rows.ensures.rows database has ∙ sym c.as_slice.ensures)
    c.rollback_rows.result c.rollback_rows.ensures.answers

pub returns-clause-refused : goal.returns-clause-refused
returns-clause-refused g c = λ database has.
    whole_kept c.args.given c.args.target.now database c.in_ok-rows.rows c.as_slice.result.now (c.in_ok-rows.ensures.passes database has) (c.in_ok-rows.ensures.rows database has ∙ sym c.as_slice.ensures)
    c.args.store.now c.rollback_rows.new.store c.rollback_rows.ensures.refused

pub returns-clause-works : goal.returns-clause-works
returns-clause-works g c = c.rollback_rows.ensures.works

pub returns-clause-any_moment : goal.returns-clause-any_moment
returns-clause-any_moment g c = c.rollback_rows.ensures.any_moment
