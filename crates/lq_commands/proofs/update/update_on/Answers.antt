use Rattle.std.proofs.Common.{ap, rules, ◌∙◌}
use Rattle.std.specs.Prelude.{Err, ◌≡◌}
use Rattle.lq_kinds.specs.declared.change_set.Changelog.{Changelog}
use Rattle.lq_plan.specs.Told.{work}
use Rattle.lq_seen.specs.View.{views}
use Rattle.lq_tell.specs.declared.status.Status.TheVariants as status
use Rattle.lq_commands.proofs.Endings.{untouched_crashes, untouched_works}
use Rattle.lq_commands.proofs.Planned.{some_work}
use Rattle.lq_commands.proofs.Updated.{idle_tells, idle_works, not_both, ok_on_its}
use Rattle.lq_commands.specs.Scripts.{sets_in, settled_in, sets_script}
use Rattle.lq_commands.specs.Works.{EndsUpdate}
use Rattle.lq_commands.proofs.update.update_on.Goals as goal

pub returns-in_err-work-clause-works : goal.returns-in_err-work-clause-works
returns-in_err-work-clause-works g c = λ database has.
    let is : c.from_residual.result ≡ Err status.OutOfMemory = search rules in
    untouched_works c.args.given.options.dialect (sets_script c.args.given database) database (g.S.Store.state c.args.store.now) c.from_residual.result status.OutOfMemory is has

pub returns-in_err-work-clause-any_moment : goal.returns-in_err-work-clause-any_moment
returns-in_err-work-clause-any_moment g c = λ database has. untouched_crashes c.args.given.options.dialect (sets_script c.args.given database) database (g.S.Store.state c.args.store.now) (g.S.Store.crashes c.args.store.now)

pub returns-then-is_empty-clause-tells : goal.returns-then-is_empty-clause-tells
returns-then-is_empty-clause-tells g c =
    let given = c.args.given in
    ok_on_its given.options.dialect (g.S.Store.state c.args.store.now) c.no_turns.result (λ done database. EndsUpdate c.args.prints (settled_in c.args.prints given database) done)
    (λ database has. idle_tells given c.args.rows.now database (c.requires.rows database has) c.in_ok-work.work (c.in_ok-work.ensures ∙ ap (λ (x : Changelog). work (views c.args.given.options x.sets) c.args.rows.now) c.get.ensures) (c.is_empty.ensures.0 c.if-is_empty.true)
    c.args.prints c.no_turns.result c.no_turns.ensures.done c.no_turns.ensures.out c.no_turns.ensures.own c.no_turns.ensures.warned)

pub returns-then-is_empty-clause-works : goal.returns-then-is_empty-clause-works
returns-then-is_empty-clause-works g c = λ database has.
    idle_works c.args.given c.args.rows.now database (c.requires.rows database has) c.in_ok-work.work (c.in_ok-work.ensures ∙ ap (λ (x : Changelog). work (views c.args.given.options x.sets) c.args.rows.now) c.get.ensures) (c.is_empty.ensures.0 c.if-is_empty.true)
    (g.S.Store.state c.args.store.now) c.no_turns.result c.no_turns.ensures.done has

pub returns-then-is_empty-clause-any_moment : goal.returns-then-is_empty-clause-any_moment
returns-then-is_empty-clause-any_moment g c = λ database has. untouched_crashes c.args.given.options.dialect (sets_script c.args.given database) database (g.S.Store.state c.args.store.now) (g.S.Store.crashes c.args.store.now)

pub run-requires-clause-work : goal.run-requires-clause-work
run-requires-clause-work g c = some_work c.args.rows.now 0 (sets_in c.args.given) (λ none. not_both c.is_empty.result (c.is_empty.ensures.1 ((c.in_ok-work.ensures ∙ ap (λ (x : Changelog). work (views c.args.given.options x.sets) c.args.rows.now) c.get.ensures) ∙ none)) c.if-is_empty.false)
