use Rattle.std.proofs.Common.{ap}
use Rattle.lq_rows.specs.Stored.{reshaped}
use Rattle.lq_parts.proofs.StepLemmas.{set_edited}
use Rattle.lq_parts.proofs.tables.shape_back.Goals as goal

pub returns-clause-items : goal.returns-clause-items
returns-clause-items c =
    set_edited c.args.entries.now.items c.args.at (λ e. (e.0, reshaped c.args.shape e.1)) c.index_mut.result.now _ c.index_mut.ensures.value (ap (λ held. (c.index_mut.result.now.0, held)) c.reshape.ensures.new)
