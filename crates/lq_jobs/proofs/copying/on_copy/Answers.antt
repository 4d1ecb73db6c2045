use Rattle.std.proofs.Common.{inl, refl}
use Rattle.lq_commands.specs.Stamp.{stamp_of}
use Rattle.lq_jobs.proofs.Copied.{copy_opens, copy_tells, no_copy_answers, no_copy_kind, no_copy_tells}
use Rattle.lq_jobs.proofs.CopyRoom.{copy_room}
use Rattle.lq_jobs.proofs.DamagedFiles.{copy_damaged, fails_so, no_copy_place}
use Rattle.lq_jobs.proofs.copying.on_copy.Goals as goal
use Rattle.lq_jobs.specs.Bytes.{given_at, job_of}
use Rattle.lq_jobs.specs.Jobs.{job_calls, job_refusal}

pub returns-in-Err-clause-answers : goal.returns-in-Err-clause-answers
returns-in-Err-clause-answers g c = λ database opens.
    no_copy_answers c.args.asked.options.dialect (g.D.Disk.told c.args.disk.now) c.in-Err.status (job_refusal (job_of c.args.printing) (given_at c.args.asked (stamp_of c.args.who.now (g.C.Clock.last c.args.clock.now))) database) database
    c.in-Err.ensures.refused opens

pub returns-in-Err-clause-tells : goal.returns-in-Err-clause-tells
returns-in-Err-clause-tells g c = λ database opens. tt

pub returns-in-Err-clause-room : goal.returns-in-Err-clause-room
returns-in-Err-clause-room g c = tt

pub returns-in-Err-clause-damaged : goal.returns-in-Err-clause-damaged
returns-in-Err-clause-damaged g c = no_copy_tells c.args.asked.options.dialect (g.D.Disk.told c.args.disk.now) c.in-Err.status c.in-Err.ensures.refused

pub returns-in-Err-clause-kind : goal.returns-in-Err-clause-kind
returns-in-Err-clause-kind g c = no_copy_kind (g.D.Disk.told c.args.disk.now) c.in-Err.status c.in-Err.ensures.refused

pub returns-in-Err-clause-once : goal.returns-in-Err-clause-once
returns-in-Err-clause-once g c = inl refl

pub returns-in-Ok-clause-answers : goal.returns-in-Ok-clause-answers
returns-in-Ok-clause-answers g c = λ database opens.
    c.on_bytes.ensures.answers database (copy_opens c.args.asked.options.dialect (g.D.Disk.told c.args.disk.now) _ database c.in-Ok.ensures.copied opens)

pub returns-in-Ok-clause-tells : goal.returns-in-Ok-clause-tells
returns-in-Ok-clause-tells g c = λ database opens.
    c.on_bytes.ensures.tells database (copy_opens c.args.asked.options.dialect (g.D.Disk.told c.args.disk.now) _ database c.in-Ok.ensures.copied opens)

pub returns-in-Ok-clause-room : goal.returns-in-Ok-clause-room
returns-in-Ok-clause-room g c =
    let given = given_at c.args.asked (stamp_of c.args.who.now (g.C.Clock.last c.on_bytes.new.clock)) in
    copy_room c.args.asked.options.dialect (g.D.Disk.told c.args.disk.now) _ c.in-Ok.ensures.copied (job_calls (job_of c.args.printing) given) c.on_bytes.result c.on_bytes.ensures.room

pub returns-in-Ok-clause-damaged : goal.returns-in-Ok-clause-damaged
returns-in-Ok-clause-damaged g c = copy_tells c.args.asked.options.dialect (g.D.Disk.told c.args.disk.now) _ c.in-Ok.ensures.copied c.on_bytes.result c.on_bytes.ensures.damaged

pub returns-in-Ok-clause-fault : goal.returns-in-Ok-clause-fault
returns-in-Ok-clause-fault g c = λ is. absurd (c.on_bytes.ensures.sure is)

pub returns-in-Err-clause-fails : goal.returns-in-Err-clause-fails
returns-in-Err-clause-fails g c = λ place damaged.
    fails_so place c.in-Err.status (no_copy_place c.args.asked.options.dialect (g.D.Disk.told c.args.disk.now) c.in-Err.status c.in-Err.ensures.refused place damaged)

pub returns-in-Ok-clause-fails : goal.returns-in-Ok-clause-fails
returns-in-Ok-clause-fails g c = λ place damaged.
    c.on_bytes.ensures.fails place (copy_damaged c.args.asked.options.dialect (g.D.Disk.told c.args.disk.now) _ c.in-Ok.ensures.copied place damaged)
