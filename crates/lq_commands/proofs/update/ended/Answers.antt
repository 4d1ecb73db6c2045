use Rattle.std.proofs.Common.{ap, inr, refl, rules}
use Rattle.std.specs.Prelude.{Err, None, Result, ◌≡◌}
use Rattle.lq_tell.specs.declared.done.Done.{Done}
use Rattle.lq_tell.specs.declared.status.Status.{Status}
use Rattle.lq_tell.specs.declared.status.Status.TheVariants as status
use Rattle.lq_commands.proofs.RolledBack.{err_disk, err_err, err_ok, memory_no_disk}
use Rattle.lq_commands.proofs.Updated.{tells_update}
use Rattle.lq_commands.specs.Refusals.{IsFault}
use Rattle.lq_commands.specs.Works.{EndsUpdate}
use Rattle.lq_commands.proofs.update.ended.Goals as goal

-- the run met a fault

pub returns-in_err-status-clause-tells : goal.returns-in_err-status-clause-tells
returns-in_err-status-clause-tells c =
    let is : c.from_residual.result ≡ Err c.in_err-status.field-0.0 = search rules in
    λ account told. err_ok c.from_residual.result c.in_err-status.field-0.0 (λ done. EndsUpdate c.args.prints account done) is

pub returns-in_err-status-clause-fault : goal.returns-in_err-status-clause-fault
returns-in_err-status-clause-fault c = err_err c.from_residual.result c.in_err-status.field-0.0 IsFault (search rules) c.in_err-status.ensures.fault

pub returns-in_err-status-clause-disk : goal.returns-in_err-status-clause-disk
returns-in_err-status-clause-disk c =
    let is : c.from_residual.result ≡ Err c.in_err-status.field-0.0 = search rules in
    λ disk. c.in_err-status.ensures.disk (ap (λ (s : Status). let r : Result Status Status = Err s in r) (err_disk c.from_residual.result c.in_err-status.field-0.0 is disk))

-- there is no memory for its text

pub returns-in_err-out-clause-tells : goal.returns-in_err-out-clause-tells
returns-in_err-out-clause-tells c =
    let lack : c.from_residual-in_err-out.result ≡ Err status.OutOfMemory = search rules in
    λ account told. err_ok c.from_residual-in_err-out.result status.OutOfMemory (λ done. EndsUpdate c.args.prints account done) lack

pub returns-in_err-out-clause-fault : goal.returns-in_err-out-clause-fault
returns-in_err-out-clause-fault c = err_err c.from_residual-in_err-out.result status.OutOfMemory IsFault (search rules) (inr refl)

pub returns-in_err-out-clause-disk : goal.returns-in_err-out-clause-disk
returns-in_err-out-clause-disk c =
    let lack : c.from_residual-in_err-out.result ≡ Err status.OutOfMemory = search rules in
    λ disk. absurd (memory_no_disk c.from_residual-in_err-out.result lack disk)

-- it came to its end

pub returns-clause-tells : goal.returns-clause-tells
returns-clause-tells c =
    let done : Done = record { status = c.in_ok-status.status; out = c.in_ok-out.out; own = None; warned = c.args.outcome.warned } in
    λ account told. tells_update c.args.prints c.args.outcome account c.args.end done c.as_slice-lines.result.now c.as_slice-texts.result.now c.as_slice-lines.ensures c.as_slice-texts.ensures
    c.in_ok-status.ensures.whole c.in_ok-status.ensures.tells c.in_ok-out.ensures refl c.in_ok-status.ensures.full told
