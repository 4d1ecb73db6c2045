use Rattle.std.specs.Prelude.{reverse}
use Rattle.lq_seen.specs.Telling.{of_turns}
use Rattle.lq_seen.specs.View.{any_meaning}
use Rattle.lq_turns.specs.Deed.{contents_of}
use Rattle.lq_turns.specs.Rest.{OfRows}
use Rattle.lq_commands.proofs.Endings.{kept_lock}
use Rattle.lq_commands.proofs.RolledBack.{back_crashes, back_may, back_works, rows_told}
use Rattle.lq_commands.proofs.Stopped.{rows_stopped, turns_named}
use Rattle.lq_commands.proofs.Updated.{answers_end, ok_on_its}
use Rattle.lq_commands.specs.Works.{EndsRollback}
use Rattle.lq_commands.specs.Scripts.{turns_script}
use Rattle.lq_commands.proofs.rollback.run.Goals as goal

pub run_turns-source-requires-clause-reads : goal.run_turns-source-requires-clause-reads
run_turns-source-requires-clause-reads g c = c.requires.back

pub run_turns-source-requires-clause-may_run : goal.run_turns-source-requires-clause-may_run
run_turns-source-requires-clause-may_run g c = λ database has.
    let d = c.args.given.options.dialect in
    (of_turns c.args.prints d (reverse c.args.source.turns) (contents_of database), back_may d c.args.given.stamp c.args.source c.requires.some c.args.prints c.requires.moment c.requires.back c.requires.knows database)

pub ended-requires-clause-lock : goal.ended-requires-clause-lock
ended-requires-clause-lock g c =
    let d = c.args.given.options.dialect in
    let on = c.requires.ready in
    let ran = c.run_turns-source in
    kept_lock d (turns_script d any_meaning c.args.given.stamp (OfRows (reverse c.args.source.turns)) on.database) on.database (g.S.Store.state c.args.store.now) (g.S.Store.state ran.new.store) ran.result.end
    (ran.ensures.leaves on.database on.has)

pub ended-requires-clause-stopped : goal.ended-requires-clause-stopped
ended-requires-clause-stopped g c =
    let d = c.args.given.options.dialect in
    let stamp = c.args.given.stamp in
    let on = c.requires.ready in
    let ran = c.run_turns-source in
    let told = of_turns c.args.prints d (reverse c.args.source.turns) (contents_of on.database) in
    let may = back_may d stamp c.args.source c.requires.some c.args.prints c.requires.moment c.requires.back c.requires.knows on.database in
    rows_stopped ran.result.source.outcome d stamp told (turns_named d (reverse c.args.source.turns) (contents_of on.database)) ran.result.end (rows_told ran.result.source d stamp told ran.result.end (ran.ensures.tells on.database on.has told may)) (ran.ensures.stops on.database on.has told may)

pub returns-clause-tells : goal.returns-clause-tells
returns-clause-tells g c =
    let d = c.args.given.options.dialect in
    let stamp = c.args.given.stamp in
    let turns = reverse c.args.source.turns in
    let ran = c.run_turns-source in
    ok_on_its d (g.S.Store.state c.args.store.now) c.ended.result (λ done database. EndsRollback c.args.prints (of_turns c.args.prints d turns (contents_of database)) done)
    (λ database has. c.ended.ensures.tells (of_turns c.args.prints d turns (contents_of database))
    (rows_told ran.result.source d stamp (of_turns c.args.prints d turns (contents_of database)) ran.result.end
    (ran.ensures.tells database has (of_turns c.args.prints d turns (contents_of database)) (back_may d stamp c.args.source c.requires.some c.args.prints c.requires.moment c.requires.back c.requires.knows database))))

pub returns-clause-answers : goal.returns-clause-answers
returns-clause-answers g c = answers_end c.ended.result c.ended.ensures.fault c.ended.ensures.ends

pub returns-clause-works : goal.returns-clause-works
returns-clause-works g c = λ database has.
    let ran = c.run_turns-source in
    back_works c.args.given.options.dialect c.args.given.stamp c.args.source c.requires.some database (g.S.Store.state c.args.store.now) (g.S.Store.state ran.new.store) ran.result.end c.ended.result
    c.ended.ensures.whole c.ended.ensures.full (ran.ensures.leaves database has) (ran.ensures.left database has) (ran.ensures.full database has)

pub returns-clause-any_moment : goal.returns-clause-any_moment
returns-clause-any_moment g c = λ database has.
    let ran = c.run_turns-source in
    back_crashes c.args.given.options.dialect c.args.given.stamp c.args.source c.requires.some database (g.S.Store.state c.args.store.now) (g.S.Store.crashes c.args.store.now) (g.S.Store.crashes ran.new.store)
    (ran.ensures.any_moment database has)

pub returns-clause-disk : goal.returns-clause-disk
returns-clause-disk g c = λ disk. c.run_turns-source.ensures.rose (c.ended.ensures.disk disk)
