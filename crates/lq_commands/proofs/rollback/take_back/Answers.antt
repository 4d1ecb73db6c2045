use Rattle.std.proofs.Common.{ap, inr, refl, rules, sym, ◌∙◌}
use Rattle.std.specs.Prelude.{Err, None, reverse, ◌≡◌}
use Rattle.lq_kinds.specs.declared.change_set.Changelog.{Changelog}
use Rattle.lq_seen.specs.View.{any_meaning, views}
use Rattle.lq_tell.specs.declared.status.Status.TheVariants as status
use Rattle.lq_turns.specs.Script.{undo_turns}
use Rattle.lq_commands.proofs.Endings.{untouched_crashes, untouched_works}
use Rattle.lq_commands.proofs.RolledBack.{err_answers, has_turns, idle_tells, idle_works, memory_no_disk, no_rows, still_some, taken_so, taken_tells_ok}
use Rattle.lq_commands.proofs.Updated.{answers_done, no_disk, ok_on_its}
use Rattle.lq_commands.specs.Scripts.{rolled_back, taking_back}
use Rattle.lq_commands.specs.Works.{EndsRollback, CrashesIn, Works}
use Rattle.lq_commands.proofs.rollback.take_back.Goals as goal

-- there is nothing to take back

pub returns-then-is_empty-clause-tells : goal.returns-then-is_empty-clause-tells
returns-then-is_empty-clause-tells g c =
    let given = c.args.given in
    let none = no_rows c.args.undone.now c.is_empty.result c.is_empty.ensures c.if-is_empty.true in
    ok_on_its given.options.dialect (g.S.Store.state c.args.store.now) c.no_turns.result (λ done database. EndsRollback c.args.prints (rolled_back c.args.prints given (reverse c.args.undone.now) database) done)
    (λ database has. idle_tells given database c.args.prints c.no_turns.result c.args.undone.now none c.no_turns.ensures.done c.no_turns.ensures.out c.no_turns.ensures.quiet)

pub returns-then-is_empty-clause-answers : goal.returns-then-is_empty-clause-answers
returns-then-is_empty-clause-answers g c = answers_done c.no_turns.result c.no_turns.ensures.fault c.no_turns.ensures.done

pub returns-then-is_empty-clause-works : goal.returns-then-is_empty-clause-works
returns-then-is_empty-clause-works g c =
    let none = no_rows c.args.undone.now c.is_empty.result c.is_empty.ensures c.if-is_empty.true in
    λ database has. idle_works c.args.given database (g.S.Store.state c.args.store.now) c.no_turns.result c.args.undone.now none c.no_turns.ensures.done has

pub returns-then-is_empty-clause-any_moment : goal.returns-then-is_empty-clause-any_moment
returns-then-is_empty-clause-any_moment g c = λ database has. untouched_crashes c.args.given.options.dialect (taking_back c.args.given (reverse c.args.undone.now) database) database (g.S.Store.state c.args.store.now) (g.S.Store.crashes c.args.store.now)

pub returns-then-is_empty-clause-disk : goal.returns-then-is_empty-clause-disk
returns-then-is_empty-clause-disk g c = λ disk. absurd (no_disk c.no_turns.result c.no_turns.ensures.fault disk)

-- there is no memory for the turns

pub returns-in_err-source-clause-answers : goal.returns-in_err-source-clause-answers
returns-in_err-source-clause-answers g c = err_answers None c.from_residual.result status.OutOfMemory (search rules) (inr refl)

pub returns-in_err-source-clause-works : goal.returns-in_err-source-clause-works
returns-in_err-source-clause-works g c = λ database has.
    let is : c.from_residual.result ≡ Err status.OutOfMemory = search rules in
    untouched_works c.args.given.options.dialect (taking_back c.args.given (reverse c.args.undone.now) database) database (g.S.Store.state c.args.store.now) c.from_residual.result status.OutOfMemory is has

pub returns-in_err-source-clause-any_moment : goal.returns-in_err-source-clause-any_moment
returns-in_err-source-clause-any_moment g c = λ database has. untouched_crashes c.args.given.options.dialect (taking_back c.args.given (reverse c.args.undone.now) database) database (g.S.Store.state c.args.store.now) (g.S.Store.crashes c.args.store.now)

pub returns-in_err-source-clause-disk : goal.returns-in_err-source-clause-disk
returns-in_err-source-clause-disk g c =
    let lack : c.from_residual.result ≡ Err status.OutOfMemory = search rules in
    λ disk. absurd (memory_no_disk c.from_residual.result lack disk)

-- the turns are made

pub run-requires-clause-back : goal.run-requires-clause-back
run-requires-clause-back g c = c.in_ok-source.ensures.reads

pub run-requires-clause-knows : goal.run-requires-clause-knows
run-requires-clause-knows g c = c.in_ok-source.ensures.knows

pub run-requires-clause-some : goal.run-requires-clause-some
run-requires-clause-some g c =
    has_turns c.args.given (reverse c.args.undone.now) (reverse c.in_ok-source.source.turns) (ap (λ (x : Changelog). undo_turns c.args.given.options.dialect any_meaning (views c.args.given.options x.sets) (reverse c.args.undone.now)) (sym c.get.ensures) ∙ c.in_ok-source.ensures.turns c.args.given.options)
    (still_some c.args.undone.now c.is_empty.result c.is_empty.ensures c.if-is_empty.false)

pub returns-clause-tells : goal.returns-clause-tells
returns-clause-tells g c =
    taken_tells_ok c.args.given (g.S.Store.state c.args.store.now) c.args.prints c.run.result (reverse c.args.undone.now) (reverse c.in_ok-source.source.turns) (ap (λ (x : Changelog). undo_turns c.args.given.options.dialect any_meaning (views c.args.given.options x.sets) (reverse c.args.undone.now)) (sym c.get.ensures) ∙ c.in_ok-source.ensures.turns c.args.given.options) c.run.ensures.tells

pub returns-clause-works : goal.returns-clause-works
returns-clause-works g c = λ database has.
    let x = g.S.Store.state c.args.store.now in
    let y = g.S.Store.state c.run.new.store in
    taken_so c.args.given database (λ calls. Works c.args.given.options.dialect calls database x c.run.result y) (reverse c.args.undone.now) (reverse c.in_ok-source.source.turns) (ap (λ (x : Changelog). undo_turns c.args.given.options.dialect any_meaning (views c.args.given.options x.sets) (reverse c.args.undone.now)) (sym c.get.ensures) ∙ c.in_ok-source.ensures.turns c.args.given.options) (c.run.ensures.works database has)

pub returns-clause-any_moment : goal.returns-clause-any_moment
returns-clause-any_moment g c = λ database has.
    let x = g.S.Store.state c.args.store.now in
    let before = g.S.Store.crashes c.args.store.now in
    let now = g.S.Store.crashes c.run.new.store in
    taken_so c.args.given database (λ calls. CrashesIn c.args.given.options.dialect calls database x before now) (reverse c.args.undone.now) (reverse c.in_ok-source.source.turns) (ap (λ (x : Changelog). undo_turns c.args.given.options.dialect any_meaning (views c.args.given.options x.sets) (reverse c.args.undone.now)) (sym c.get.ensures) ∙ c.in_ok-source.ensures.turns c.args.given.options) (c.run.ensures.any_moment database has)
