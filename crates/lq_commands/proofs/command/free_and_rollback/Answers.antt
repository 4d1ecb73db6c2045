use Rattle.std.proofs.Common.{subst}
use Rattle.std.specs.Prelude.{Option, true}
use Rattle.lq_cli.specs.declared.line.Job.TheVariants.{RollbackSql}
use Rattle.lq_tell.specs.declared.status.Status.{Status}
use Rattle.lq_commands.proofs.Freed.{freed, freed_ready, rollback_freed, rollback_tells}
use Rattle.lq_commands.proofs.Commanded.{answers_end, answers_so}
use Rattle.lq_commands.proofs.Printed.{freed_room, ran_room}
use Rattle.lq_commands.proofs.Telling.{on_its_tells, rollback_cut}
use Rattle.lq_commands.specs.Outputs.{back_in}
use Rattle.lq_commands.specs.Refusals.{Answers, print_rollback}
use Rattle.lq_commands.specs.Scripts.{rollback_script}
use Rattle.lq_commands.specs.Works.{EndsRollback}
use Rattle.lq_commands.proofs.command.free_and_rollback.Goals as goal

pub rollback-requires-clause-ready : goal.rollback-requires-clause-ready
rollback-requires-clause-ready g c = freed_ready c.args.given.options.dialect (g.S.Store.state c.args.store.now) (g.S.Store.state c.free.new.store) c.in-Ok.ensures.leaves c.requires.ready

pub returns-in-Ok-clause-answers : goal.returns-in-Ok-clause-answers
returns-in-Ok-clause-answers g c = λ database has.
    subst (λ (refused : Option Status). Answers refused c.rollback.result) (rollback_freed c.args.given database c.args.target.now)
    (c.rollback.ensures.answers (freed c.args.given.options.dialect database) (c.in-Ok.ensures.leaves database has).database_is)

pub returns-in-Ok-clause-tells : goal.returns-in-Ok-clause-tells
returns-in-Ok-clause-tells g c = λ database has.
    let given = c.args.given in
    let target = c.args.target.now in
    rollback_tells given database target c.rollback.result
    (on_its_tells given.options.dialect (g.S.Store.state c.free.new.store) c.rollback.result (λ done e. EndsRollback true (back_in true given target e) done) c.rollback.ensures.tells
    (freed given.options.dialect database) (c.in-Ok.ensures.leaves database has).database_is)

pub returns-in-Err-clause-answers : goal.returns-in-Err-clause-answers
returns-in-Err-clause-answers g c = λ database has.
    answers_so (print_rollback c.args.given c.args.target.now database) c.fault_answer.result (c.requires.passes database has) (answers_end c.fault_answer.result c.fault_answer.ensures.fault c.fault_answer.ensures.ends)

pub returns-in-Err-clause-tells : goal.returns-in-Err-clause-tells
returns-in-Err-clause-tells g c = λ database has. rollback_cut true (back_in true c.args.given c.args.target.now database) c.fault_answer.result c.fault_answer.ensures.unfinished c.fault_answer.ensures.quiet

-- the room of the calls

pub returns-in-Ok-clause-room : goal.returns-in-Ok-clause-room
returns-in-Ok-clause-room g c =
    ran_room c.args.given.options.dialect (rollback_script c.args.given c.args.target.now) (g.S.Store.state c.args.store.now) (g.S.Store.state c.free.new.store) (g.S.Store.state c.rollback.new.store) c.rollback.result c.in-Ok.ensures.leaves c.rollback.ensures.works

pub returns-in-Err-clause-room : goal.returns-in-Err-clause-room
returns-in-Err-clause-room g c =
    freed_room c.args.given.options.dialect (rollback_script c.args.given c.args.target.now) (g.S.Store.state c.args.store.now) (g.S.Store.state c.free.new.store) c.in-Err.fault c.fault_answer.result c.fault_answer.ensures.unfinished c.fault_answer.ensures.same c.in-Err.ensures.full
