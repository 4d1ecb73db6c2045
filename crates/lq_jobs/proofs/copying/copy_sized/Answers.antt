use Rattle.lq_jobs.proofs.Copied.{copied_as}
use Rattle.lq_jobs.proofs.copying.copy_sized.Goals as goal

pub returns-clause-copied : goal.returns-clause-copied
returns-clause-copied g c = copied_as (g.D.Disk.told c.args.disk.now) _ _ c.new.ensures.told c.in_ok-bytes.ensures.bytes
