use Rattle.std.proofs.Common.{ap}
use Rattle.lq_chain.specs.History.{undone_to}
use Rattle.lq_rows.specs.Stored.{rows_of, with_rows}
use Rattle.lq_parts.proofs.StepLemmas.{set_edited}
use Rattle.lq_parts.proofs.tables.rows_back.Goals as goal

pub returns-clause-items : goal.returns-clause-items
returns-clause-items c =
    set_edited c.args.entries.now.items c.args.at (λ e. (e.0, with_rows (undone_to (rows_of e.1) c.args.mark) c.args.next e.1)) c.index_mut.result.now _ c.index_mut.ensures.value (ap (λ held. (c.index_mut.result.now.0, held)) c.go_back.ensures)
