use Rattle.std.proofs.Common.{subst}
use Rattle.std.specs.Prelude.{IfErr}
use Rattle.lq_jobs.proofs.OnFiles.{rose_later}
use Rattle.lq_jobs.proofs.OnlyRead.{read_on, read_once}
use Rattle.lq_jobs.proofs.copying.copy_of.Goals as goal
use Rattle.lq_jobs.specs.Bytes.{IsNoCopy}

pub returns-in-Ok-clause-copied : goal.returns-in-Ok-clause-copied
returns-in-Ok-clause-copied g c = rw c.size.ensures.told at c.copy_sized.ensures.copied

pub returns-in-Ok-clause-refused : goal.returns-in-Ok-clause-refused
returns-in-Ok-clause-refused g c = subst (λ told. IfErr c.copy_sized.result (IsNoCopy told)) c.size.ensures.told c.copy_sized.ensures.refused

pub returns-in-Ok-clause-failed : goal.returns-in-Ok-clause-failed
returns-in-Ok-clause-failed g c = λ is.
    rose_later (g.D.Disk.faults c.args.disk.now) (g.D.Disk.faults c.size.new.self) (g.D.Disk.faults c.copy_sized.new.disk) c.size.ensures.faults.later (c.copy_sized.ensures.failed is)

pub returns-in-Ok-clause-any_moment : goal.returns-in-Ok-clause-any_moment
returns-in-Ok-clause-any_moment g c =
    read_on (g.D.Disk.told c.args.disk.now) (g.D.Disk.crashes c.args.disk.now) (g.met.D.Disk.sound c.args.disk.now) (g.D.Disk.crashes c.size.new.self) c.size.ensures.crash (g.D.Disk.crashes c.copy_sized.new.disk) c.copy_sized.ensures.any_moment

pub returns-in-Err-clause-any_moment : goal.returns-in-Err-clause-any_moment
returns-in-Err-clause-any_moment g c = read_once (g.D.Disk.told c.args.disk.now) (g.D.Disk.crashes c.args.disk.now) (g.met.D.Disk.sound c.args.disk.now) (g.D.Disk.crashes c.size.new.self) c.size.ensures.crash
