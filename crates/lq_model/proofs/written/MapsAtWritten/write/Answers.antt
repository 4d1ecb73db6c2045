use Rattle.lq_model.proofs.WentOn.{on_err, stays}
use Rattle.lq_model.proofs.written.MapsAtWritten.write.Goals as goal

pub returns-in_err-key-clause-front : goal.returns-in_err-key-clause-front
returns-in_err-key-clause-front g c = on_err _ _ (stays _ _ c.in_err-key.ensures.unchanged)
