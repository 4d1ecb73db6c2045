use Rattle.std.proofs.Common.{ap, rules, ◌∙◌}
use Rattle.std.specs.Prelude.{Err, None, ◌≡◌}
use Rattle.lq_tell.specs.declared.status.Status.TheVariants as status
use Rattle.lq_commands.proofs.Endings.{kept_lock, untouched_crashes, untouched_works, works_by, works_left}
use Rattle.lq_commands.proofs.Inserted.{names_stop, sync_tells}
use Rattle.lq_commands.proofs.Commanded.{answers_end}
use Rattle.lq_commands.specs.Scripts.{sync_script, refused_at}
use Rattle.lq_turns.specs.Laws.{insert_stop, marked_by}
use Rattle.lq_commands.proofs.sync.insert_some.Goals as goal

pub returns-in_err-happened-clause-works : goal.returns-in_err-happened-clause-works
returns-in_err-happened-clause-works g c = λ database has.
    let is : c.from_residual.result ≡ Err status.OutOfMemory = search rules in
    untouched_works c.args.given.options.dialect (sync_script c.args.given database) database (g.S.Store.state c.args.store.now) c.from_residual.result status.OutOfMemory is has

pub returns-in_err-happened-clause-any_moment : goal.returns-in_err-happened-clause-any_moment
returns-in_err-happened-clause-any_moment g c = λ database has. untouched_crashes c.args.given.options.dialect (sync_script c.args.given database) database (g.S.Store.state c.args.store.now) (g.S.Store.crashes c.args.store.now)

pub returns-in_err-of-clause-works : goal.returns-in_err-of-clause-works
returns-in_err-of-clause-works g c = λ database has.
    let is : c.from_residual-in_err-of.result ≡ Err status.OutOfMemory = search rules in
    untouched_works c.args.given.options.dialect (sync_script c.args.given database) database (g.S.Store.state c.args.store.now) c.from_residual-in_err-of.result status.OutOfMemory is has

pub returns-in_err-of-clause-any_moment : goal.returns-in_err-of-clause-any_moment
returns-in_err-of-clause-any_moment g c = λ database has. untouched_crashes c.args.given.options.dialect (sync_script c.args.given database) database (g.S.Store.state c.args.store.now) (g.S.Store.crashes c.args.store.now)

pub returns-in_err-end-clause-works : goal.returns-in_err-end-clause-works
returns-in_err-end-clause-works g c = λ database has.
    let is : c.from_residual-in_err-end.result ≡ Err status.OutOfMemory = search rules in
    works_left c.args.given.options.dialect (sync_script c.args.given database) database (g.S.Store.state c.args.store.now) (g.S.Store.state c.run.new.store) c.from_residual-in_err-end.result status.OutOfMemory is (c.in_err-end.ensures.left database has)

pub ended-requires-clause-lock : goal.ended-requires-clause-lock
ended-requires-clause-lock g c =
    let at = c.requires.ready in
    kept_lock c.args.given.options.dialect (sync_script c.args.given at.database) at.database (g.S.Store.state c.args.store.now) (g.S.Store.state c.run.new.store) c.in_ok-end.end (c.in_ok-end.ensures.leaves at.database at.has)

pub ended-requires-clause-stopped : goal.ended-requires-clause-stopped
ended-requires-clause-stopped g c =
    names_stop c.args.made c.args.before.now c.in_ok-of.of c.in_ok-happened.happened c.in_ok-end.end
    (c.in_ok-of.ensures ∙ ap (λ rows. refused_at (insert_stop rows c.args.before.now)) c.as_slice-rows.ensures) (c.in_ok-happened.ensures ∙ ap (marked_by None) c.as_slice-rows.ensures) c.in_ok-end.ensures.tells

pub returns-clause-answers : goal.returns-clause-answers
returns-clause-answers g c = answers_end c.ended.result c.ended.ensures.fault c.ended.ensures.ends

pub returns-clause-tells : goal.returns-clause-tells
returns-clause-tells g c =
    sync_tells c.args.given c.args.before.now c.args.made c.requires.rows (g.S.Store.state c.args.store.now) c.ended.result c.in_ok-of.of c.as_slice.result.now c.in_ok-end.end c.requires.before
    (c.in_ok-of.ensures ∙ ap (λ rows. refused_at (insert_stop rows c.args.before.now)) c.as_slice-rows.ensures)
    (c.as_slice.ensures ∙ c.in_ok-happened.ensures ∙ ap (marked_by None) c.as_slice-rows.ensures) c.in_ok-end.ensures.tells c.ended.ensures.whole c.ended.ensures.tells c.ended.ensures.out c.ended.ensures.quiet

pub returns-clause-works : goal.returns-clause-works
returns-clause-works g c = λ database has.
    works_by c.args.given.options.dialect (sync_script c.args.given database) database (g.S.Store.state c.args.store.now) (g.S.Store.state c.run.new.store) c.in_ok-end.end c.ended.result c.ended.ensures.whole
    c.ended.ensures.full (c.in_ok-end.ensures.leaves database has) (c.in_ok-end.ensures.left database has) (c.in_ok-end.ensures.full database has)
