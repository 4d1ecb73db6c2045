use Rattle.lq_base.specs.declared.command.Command.TheVariants as command
use Rattle.std.proofs.Common.{refl}
use Rattle.std.specs.Prelude.{false}
use Rattle.lq_commands.proofs.Commanded.{answers_as, crashes_as, kept_as, works_as}
use Rattle.lq_commands.proofs.MayWrite.{writes}
use Rattle.lq_commands.proofs.Telling.{on_its_tells, tells_as}
use Rattle.lq_commands.specs.Works.{EndsSync, synced_in, EndsRollback, EndsUpdate}
use Rattle.lq_commands.specs.Outputs.{back_in}
use Rattle.lq_commands.specs.Scripts.{updated_in}
use Rattle.lq_commands.proofs.command.run_command.Goals as goal

pub returns-in-Update-clause-answers : goal.returns-in-Update-clause-answers
returns-in-Update-clause-answers g c = λ database has. answers_as c.args.command.now command.Update c.in-Update.is c.args.given database c.update.result (c.update.ensures.answers database has)

pub returns-in-Update-clause-refused : goal.returns-in-Update-clause-refused
returns-in-Update-clause-refused g c = λ database has. kept_as c.args.command.now command.Update c.in-Update.is c.args.given database c.args.store.now c.update.new.store (c.update.ensures.refused database has)

pub returns-in-Update-clause-works : goal.returns-in-Update-clause-works
returns-in-Update-clause-works g c = λ database has.
    works_as c.args.command.now command.Update c.in-Update.is c.args.given database (g.S.Store.state c.args.store.now) (g.S.Store.state c.update.new.store) c.update.result (c.update.ensures.works database has)

pub returns-in-Rollback-clause-answers : goal.returns-in-Rollback-clause-answers
returns-in-Rollback-clause-answers g c = λ database has. answers_as c.args.command.now (command.Rollback c.in-Rollback.target) c.in-Rollback.is c.args.given database c.rollback.result (c.rollback.ensures.answers database has)

pub returns-in-Rollback-clause-refused : goal.returns-in-Rollback-clause-refused
returns-in-Rollback-clause-refused g c = λ database has. kept_as c.args.command.now (command.Rollback c.in-Rollback.target) c.in-Rollback.is c.args.given database c.args.store.now c.rollback.new.store (c.rollback.ensures.refused database has)

pub returns-in-Rollback-clause-works : goal.returns-in-Rollback-clause-works
returns-in-Rollback-clause-works g c = λ database has.
    works_as c.args.command.now (command.Rollback c.in-Rollback.target) c.in-Rollback.is c.args.given database (g.S.Store.state c.args.store.now) (g.S.Store.state c.rollback.new.store) c.rollback.result (c.rollback.ensures.works database has)

pub returns-in-Sync-clause-answers : goal.returns-in-Sync-clause-answers
returns-in-Sync-clause-answers g c = λ database has. answers_as c.args.command.now command.Sync c.in-Sync.is c.args.given database c.sync.result (c.sync.ensures.answers database has)

pub returns-in-Sync-clause-refused : goal.returns-in-Sync-clause-refused
returns-in-Sync-clause-refused g c = λ database has. kept_as c.args.command.now command.Sync c.in-Sync.is c.args.given database c.args.store.now c.sync.new.store (c.sync.ensures.refused database has)

pub returns-in-Sync-clause-works : goal.returns-in-Sync-clause-works
returns-in-Sync-clause-works g c = λ database has.
    works_as c.args.command.now command.Sync c.in-Sync.is c.args.given database (g.S.Store.state c.args.store.now) (g.S.Store.state c.sync.new.store) c.sync.result (c.sync.ensures.works database has)

-- these may write

pub returns-in-Update-clause-reads : goal.returns-in-Update-clause-reads
returns-in-Update-clause-reads g c = λ reads. writes c.args.command.now command.Update c.in-Update.is refl reads

pub returns-in-Rollback-clause-reads : goal.returns-in-Rollback-clause-reads
returns-in-Rollback-clause-reads g c = λ reads. writes c.args.command.now (command.Rollback c.in-Rollback.target) c.in-Rollback.is refl reads

pub returns-in-Sync-clause-reads : goal.returns-in-Sync-clause-reads
returns-in-Sync-clause-reads g c = λ reads. writes c.args.command.now command.Sync c.in-Sync.is refl reads

-- at any moment

pub returns-in-Update-clause-any_moment : goal.returns-in-Update-clause-any_moment
returns-in-Update-clause-any_moment g c = λ database has.
    crashes_as c.args.command.now command.Update c.in-Update.is c.args.given database (g.S.Store.state c.args.store.now) (g.S.Store.crashes c.args.store.now) (g.S.Store.crashes c.update.new.store) (c.update.ensures.any_moment database has)

pub returns-in-Rollback-clause-any_moment : goal.returns-in-Rollback-clause-any_moment
returns-in-Rollback-clause-any_moment g c = λ database has.
    crashes_as c.args.command.now (command.Rollback c.in-Rollback.target) c.in-Rollback.is c.args.given database (g.S.Store.state c.args.store.now) (g.S.Store.crashes c.args.store.now) (g.S.Store.crashes c.rollback.new.store)
    (c.rollback.ensures.any_moment database has)

pub returns-in-Sync-clause-any_moment : goal.returns-in-Sync-clause-any_moment
returns-in-Sync-clause-any_moment g c = λ database has.
    crashes_as c.args.command.now command.Sync c.in-Sync.is c.args.given database (g.S.Store.state c.args.store.now) (g.S.Store.crashes c.args.store.now) (g.S.Store.crashes c.sync.new.store) (c.sync.ensures.any_moment database has)

-- what they tell

pub returns-in-Update-clause-tells : goal.returns-in-Update-clause-tells
returns-in-Update-clause-tells g c = λ database has.
    let given = c.args.given in
    tells_as c.args.command.now command.Update c.in-Update.is given database c.update.result
    (on_its_tells given.options.dialect (g.S.Store.state c.args.store.now) c.update.result (λ done e. EndsUpdate false (updated_in false given e) done) c.update.ensures.tells database has)

pub returns-in-Rollback-clause-tells : goal.returns-in-Rollback-clause-tells
returns-in-Rollback-clause-tells g c = λ database has.
    let given = c.args.given in
    let target = c.in-Rollback.target in
    tells_as c.args.command.now (command.Rollback target) c.in-Rollback.is given database c.rollback.result
    (on_its_tells given.options.dialect (g.S.Store.state c.args.store.now) c.rollback.result (λ done e. EndsRollback false (back_in false given target e) done) c.rollback.ensures.tells database has)

pub returns-in-Sync-clause-tells : goal.returns-in-Sync-clause-tells
returns-in-Sync-clause-tells g c = λ database has.
    let given = c.args.given in
    tells_as c.args.command.now command.Sync c.in-Sync.is given database c.sync.result
    (on_its_tells given.options.dialect (g.S.Store.state c.args.store.now) c.sync.result (λ done e. EndsSync (synced_in given e) done) c.sync.ensures.tells database has)
