use Rattle.std.proofs.Common.{rules, ◌≡◌}
use Rattle.lq_parts.specs.Taken.{position_of}
use Rattle.lq_parts.specs.Steps.{Entries}
use Rattle.lq_parts.proofs.StepLemmas.{the_table_is}
use Rattle.lq_parts.proofs.tables.has_row_in.Goals as goal

pub returns-clause-found : goal.returns-clause-found
returns-clause-found c =
    let es : Entries = c.args.entries.now.items in
    let at : c.standing-at.result ≡ position_of c.args.table.now es = search rules in
    rw (the_table_is c.args.table.now es c.index_mut.result.now c.requires.there (rw (← at) c.index_mut.ensures.value)) c.has_row.ensures.found
