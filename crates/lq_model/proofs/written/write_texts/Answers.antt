use Rattle.std.proofs.Common.{refl}
use Rattle.lq_model.proofs.WentOn.{stays}
use Rattle.lq_model.proofs.written.write_texts.Goals as goal

pub loop-name-init : goal.loop-name-init
loop-name-init c = record { written = refl; begun = refl; on = stays _ _ refl }
