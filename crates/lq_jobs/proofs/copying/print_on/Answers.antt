use Rattle.std.proofs.Common.{subst, sym}
use Rattle.lq_commands.specs.Outputs.{TellsJob}
use Rattle.lq_commands.specs.Refusals.{Answers}
use Rattle.lq_jobs.proofs.CopyRoom.{RoomOnIts}
use Rattle.lq_jobs.proofs.copying.print_on.Goals as goal
use Rattle.lq_jobs.specs.Bytes.{job_of}
use Rattle.lq_jobs.specs.Jobs.{job_calls, job_refusal}

pub returns-in-Update-clause-answers : goal.returns-in-Update-clause-answers
returns-in-Update-clause-answers g c = λ database has. subst (λ printing. Answers (job_refusal (job_of printing) c.args.given database) c.print_update.result) (sym c.in-Update.is) (c.print_update.ensures.answers database has)

pub returns-in-Update-clause-tells : goal.returns-in-Update-clause-tells
returns-in-Update-clause-tells g c = λ database has. subst (λ printing. TellsJob (job_of printing) c.args.given database c.print_update.result) (sym c.in-Update.is) (c.print_update.ensures.tells database has)

pub returns-in-Rollback-clause-answers : goal.returns-in-Rollback-clause-answers
returns-in-Rollback-clause-answers g c = λ database has. subst (λ printing. Answers (job_refusal (job_of printing) c.args.given database) c.print_rollback.result) (sym c.in-Rollback.is) (c.print_rollback.ensures.answers database has)

pub returns-in-Rollback-clause-tells : goal.returns-in-Rollback-clause-tells
returns-in-Rollback-clause-tells g c = λ database has. subst (λ printing. TellsJob (job_of printing) c.args.given database c.print_rollback.result) (sym c.in-Rollback.is) (c.print_rollback.ensures.tells database has)

pub returns-in-Update-clause-room : goal.returns-in-Update-clause-room
returns-in-Update-clause-room g c =
    subst (λ printing. RoomOnIts c.args.given.options.dialect (job_calls (job_of printing) c.args.given) (g.S.Store.state c.args.store.now) c.print_update.result) (sym c.in-Update.is) c.print_update.ensures.room

pub returns-in-Rollback-clause-room : goal.returns-in-Rollback-clause-room
returns-in-Rollback-clause-room g c =
    subst (λ printing. RoomOnIts c.args.given.options.dialect (job_calls (job_of printing) c.args.given) (g.S.Store.state c.args.store.now) c.print_rollback.result) (sym c.in-Rollback.is) c.print_rollback.ensures.room
