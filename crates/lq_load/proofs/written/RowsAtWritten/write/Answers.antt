use Rattle.lq_model.proofs.WentOn.{on_err, stays}
use Rattle.lq_load.proofs.written.RowsAtWritten.write.Goals as goal

pub returns-in_err-key-clause-front : goal.returns-in_err-key-clause-front
returns-in_err-key-clause-front c = on_err _ _ (stays _ _ c.in_err-key.ensures.unchanged)
