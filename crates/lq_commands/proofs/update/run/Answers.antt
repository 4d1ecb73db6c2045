use Rattle.std.proofs.Common.{rules}
use Rattle.std.specs.Prelude.{Err, ◌≡◌}
use Rattle.lq_tell.specs.declared.status.Status.TheVariants as status
use Rattle.lq_seen.specs.View.{any_meaning}
use Rattle.lq_turns.specs.Deed.{contents_of}
use Rattle.lq_commands.proofs.Endings.{untouched_crashes, untouched_works}
use Rattle.lq_commands.proofs.Stopped.{sets_named, sets_stopped}
use Rattle.lq_commands.proofs.Updated.{ok_on_its, sets_told, turns_crash, turns_may, turns_work}
use Rattle.lq_commands.specs.Scripts.{sets_in, settled_in, sets_script}
use Rattle.lq_commands.specs.Works.{EndsUpdate}
use Rattle.lq_commands.proofs.update.run.Goals as goal

pub returns-in_err-source-clause-works : goal.returns-in_err-source-clause-works
returns-in_err-source-clause-works g c = λ database has.
    let is : c.from_residual.result ≡ Err status.OutOfMemory = search rules in
    untouched_works c.args.given.options.dialect (sets_script c.args.given database) database (g.S.Store.state c.args.store.now) c.from_residual.result status.OutOfMemory is has

pub returns-in_err-source-clause-any_moment : goal.returns-in_err-source-clause-any_moment
returns-in_err-source-clause-any_moment g c = λ database has. untouched_crashes c.args.given.options.dialect (sets_script c.args.given database) database (g.S.Store.state c.args.store.now) (g.S.Store.crashes c.args.store.now)

pub run_turns-source-requires-clause-may_run : goal.run_turns-source-requires-clause-may_run
run_turns-source-requires-clause-may_run g c = λ database has.
    let made = c.in_ok-source.ensures in
    (settled_in c.args.prints c.args.given database, turns_may c.args.given (g.S.Store.state c.args.store.now) c.args.rows.now c.in_ok-source.source made.left c.args.prints c.requires.ready c.requires.rows c.requires.moment c.requires.read c.requires.short c.requires.work made.knows database has)

pub ended-requires-clause-stopped : goal.ended-requires-clause-stopped
ended-requires-clause-stopped g c =
    let given = c.args.given in
    let at = c.requires.ready in
    let made = c.in_ok-source.ensures in
    let ran = c.run_turns-source in
    let told = settled_in c.args.prints given at.database in
    let may = turns_may given (g.S.Store.state c.args.store.now) c.args.rows.now c.in_ok-source.source made.left c.args.prints c.requires.ready c.requires.rows c.requires.moment c.requires.read c.requires.short c.requires.work made.knows at.database at.has in
    sets_stopped ran.result.source.outcome given.options.dialect given.stamp told (sets_named given.options.dialect any_meaning given.stamp.reading (sets_in given) (contents_of at.database)) ran.result.end
    (sets_told ran.result.source given.options.dialect given.stamp told ran.result.end (ran.ensures.tells at.database at.has told may)) (ran.ensures.stops at.database at.has told may)

pub returns-clause-tells : goal.returns-clause-tells
returns-clause-tells g c =
    let given = c.args.given in
    let x = g.S.Store.state c.args.store.now in
    let made = c.in_ok-source.ensures in
    let ran = c.run_turns-source in
    ok_on_its given.options.dialect x c.ended.result (λ done database. EndsUpdate c.args.prints (settled_in c.args.prints given database) done)
    (λ database has. c.ended.ensures.tells (settled_in c.args.prints given database)
    (sets_told ran.result.source given.options.dialect given.stamp (settled_in c.args.prints given database) ran.result.end
    (ran.ensures.tells database has (settled_in c.args.prints given database)
    (turns_may given x c.args.rows.now c.in_ok-source.source made.left c.args.prints c.requires.ready c.requires.rows c.requires.moment c.requires.read c.requires.short c.requires.work made.knows database has))))

pub returns-clause-works : goal.returns-clause-works
returns-clause-works g c = λ database has.
    let ran = c.run_turns-source in
    turns_work c.args.given (g.S.Store.state c.args.store.now) c.args.rows.now c.in_ok-source.source c.in_ok-source.ensures.left database (c.requires.rows database has) c.requires.work
    (g.S.Store.state ran.new.store) ran.result.end c.ended.result c.ended.ensures.whole c.ended.ensures.full (ran.ensures.leaves database has) (ran.ensures.left database has)
    (ran.ensures.full database has)

pub returns-clause-any_moment : goal.returns-clause-any_moment
returns-clause-any_moment g c = λ database has.
    let ran = c.run_turns-source in
    turns_crash c.args.given (g.S.Store.state c.args.store.now) c.args.rows.now c.in_ok-source.source c.in_ok-source.ensures.left database (c.requires.rows database has) c.requires.work
    (g.S.Store.crashes c.args.store.now) (g.S.Store.crashes ran.new.store) (ran.ensures.any_moment database has)
