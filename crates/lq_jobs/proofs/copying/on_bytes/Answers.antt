use Rattle.std.proofs.Common.{ap, inl, inr, refl, subst, sym, ◌∙◌}
use Rattle.std.specs.Prelude.{Err}
use Rattle.lq_commands.specs.Refusals.{Answers}
use Rattle.lq_commands.specs.Stamp.{stamp_of}
use Rattle.lq_tell.specs.declared.status.Status.TheVariants as status
use Rattle.lq_jobs.proofs.Copied.{copy_fault_answers, copy_fault_kind, copy_fault_tells, copy_no_disk}
use Rattle.lq_jobs.proofs.CopyRoom.{loaded_room}
use Rattle.lq_jobs.proofs.DamagedFiles.{copy_load_tells, fails_by, loads_whole}
use Rattle.lq_jobs.proofs.OnFiles.{err_is, fault_answers, fault_kind, fault_tells}
use Rattle.lq_jobs.proofs.Ready.{is_ready, opened}
use Rattle.lq_jobs.proofs.copying.on_bytes.Goals as goal
use Rattle.lq_jobs.specs.Bytes.{TellsDamage, given_at, load_status, copy_status, job_of}
use Rattle.lq_jobs.specs.Jobs.{job_calls, job_refusal}
use Rattle.lq_jobs.specs.Kinds.{IsOfDatabase}

pub on_loaded-requires-clause-ready : goal.on_loaded-requires-clause-ready
on_loaded-requires-clause-ready g c = is_ready c.args.asked.options.dialect _ _ _ _ c.in-Ok.db c.in-Ok.ensures.valid c.in-Ok.ensures.new c.in-Ok.ensures.clean

pub returns-in-Ok-clause-answers : goal.returns-in-Ok-clause-answers
returns-in-Ok-clause-answers g c = λ database opens.
    let loaded = c.in-Ok.ensures in
    c.on_loaded.ensures.answers database (opened c.args.asked.options.dialect _ _ _ _ c.in-Ok.db loaded.valid loaded.new (g.D.Disk.told c.args.copy) database loaded.told loaded.catalogue opens)

pub returns-in-Ok-clause-tells : goal.returns-in-Ok-clause-tells
returns-in-Ok-clause-tells g c = λ database opens.
    let loaded = c.in-Ok.ensures in
    c.on_loaded.ensures.tells database (opened c.args.asked.options.dialect _ _ _ _ c.in-Ok.db loaded.valid loaded.new (g.D.Disk.told c.args.copy) database loaded.told loaded.catalogue opens)

pub returns-in-Ok-clause-room : goal.returns-in-Ok-clause-room
returns-in-Ok-clause-room g c =
    let loaded = c.in-Ok.ensures in
    let given = given_at c.args.asked (stamp_of c.args.who.now (g.C.Clock.last c.on_loaded.new.clock)) in
    loaded_room c.args.asked.options.dialect _ _ _ _ c.in-Ok.db loaded.valid loaded.new (g.D.Disk.told c.args.copy) loaded.told loaded.catalogue (job_calls (job_of c.args.printing) given) c.on_loaded.result c.on_loaded.ensures.room

pub returns-in-Ok-clause-damaged : goal.returns-in-Ok-clause-damaged
returns-in-Ok-clause-damaged g c = c.on_loaded.ensures.whole (g.D.Disk.told c.args.copy)

pub returns-in-Ok-clause-once : goal.returns-in-Ok-clause-once
returns-in-Ok-clause-once g c = inr c.on_loaded.ensures.once

pub returns-in-Err-clause-answers : goal.returns-in-Err-clause-answers
returns-in-Err-clause-answers g c = λ database opens.
    let fault = c.in-Err.refused.fault in
    let refused = job_refusal (job_of c.args.printing) (given_at c.args.asked (stamp_of c.args.who.now (g.C.Clock.last c.args.clock.now))) database in
    subst (λ s. Answers refused (Err s)) (sym (c.copy_status.ensures ∙ ap copy_status c.load_status.ensures))
    (copy_fault_answers refused (load_status fault) (fault_answers c.args.asked.options.dialect (g.D.Disk.told c.args.copy) (g.D.Disk.faults c.args.copy) (g.D.Disk.faults c.in-Err.refused.disk) fault refused database c.in-Err.ensures.fault opens))

pub returns-in-Err-clause-tells : goal.returns-in-Err-clause-tells
returns-in-Err-clause-tells g c = λ database opens. tt

pub returns-in-Err-clause-room : goal.returns-in-Err-clause-room
returns-in-Err-clause-room g c = tt

pub returns-in-Err-clause-damaged : goal.returns-in-Err-clause-damaged
returns-in-Err-clause-damaged g c =
    let fault = c.in-Err.refused.fault in
    let d = c.args.asked.options.dialect in
    let told = g.D.Disk.told c.args.copy in
    subst (λ s. TellsDamage d told (Err s)) (sym (c.copy_status.ensures ∙ ap copy_status c.load_status.ensures))
    (copy_fault_tells d told (load_status fault) (fault_tells d told (g.D.Disk.faults c.args.copy) (g.D.Disk.faults c.in-Err.refused.disk) fault c.in-Err.ensures.fault))

pub returns-in-Err-clause-kind : goal.returns-in-Err-clause-kind
returns-in-Err-clause-kind g c =
    subst (λ s. IsOfDatabase (Err s)) (sym (c.copy_status.ensures ∙ ap copy_status c.load_status.ensures)) (copy_fault_kind (load_status c.in-Err.refused.fault) (fault_kind c.in-Err.refused.fault))

pub returns-in-Err-clause-sure : goal.returns-in-Err-clause-sure
returns-in-Err-clause-sure g c = λ is. copy_no_disk c.load_status.result (sym c.copy_status.ensures ∙ err_is c.copy_status.result status.DiskFault is)

pub returns-in-Err-clause-once : goal.returns-in-Err-clause-once
returns-in-Err-clause-once g c = inl refl

pub returns-in-Ok-clause-fails : goal.returns-in-Ok-clause-fails
returns-in-Ok-clause-fails g c = λ place damaged.
    let loaded = c.in-Ok.ensures in
    loads_whole c.args.asked.options.dialect _ _ _ _ c.in-Ok.db loaded.valid (g.D.Disk.told c.args.copy) loaded.catalogue place damaged

pub returns-in-Err-clause-fails : goal.returns-in-Err-clause-fails
returns-in-Err-clause-fails g c = λ place damaged.
    let fault = c.in-Err.refused.fault in
    fails_by place c.copy_status.result (copy_status (load_status fault)) (c.copy_status.ensures ∙ ap copy_status c.load_status.ensures)
    (copy_load_tells c.args.asked.options.dialect (g.D.Disk.told c.args.copy) (g.D.Disk.faults c.args.copy) (g.D.Disk.faults c.in-Err.refused.disk) fault c.in-Err.ensures.fault place damaged)
