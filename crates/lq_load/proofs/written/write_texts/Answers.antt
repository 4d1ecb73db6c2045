use Rattle.std.proofs.Common.{refl}
use Rattle.lq_model.proofs.WentOn.{stays}
use Rattle.lq_load.proofs.written.write_texts.Goals as goal

pub loop-field-init : goal.loop-field-init
loop-field-init c = record { written = refl; begun = refl; on = stays _ _ refl }
