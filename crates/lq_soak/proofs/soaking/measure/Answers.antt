use Rattle.std.proofs.Common.{Some}
use Rattle.lq_soak.proofs.SoakRuns.{measured}
use Rattle.lq_soak.proofs.soaking.measure.Goals as goal

pub returns-in-Ok-clause-measured : goal.returns-in-Ok-clause-measured
returns-in-Ok-clause-measured c = measured c.args.dialect (Some c.args.disk.bytes.items) c.in-Ok.entries c.len.result c.used.result (rw c.used.ensures c.in-Ok.ensures.read) c.len.ensures
