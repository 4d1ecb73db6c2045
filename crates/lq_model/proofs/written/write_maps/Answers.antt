use Rattle.std.proofs.Common.{refl}
use Rattle.lq_model.proofs.WentOn.{stays}
use Rattle.lq_model.proofs.written.write_maps.Goals as goal

pub loop-item-init : goal.loop-item-init
loop-item-init g c = record { written = refl; begun = refl; on = stays _ _ refl }
