use Rattle.std.proofs.Common.{rules, ◌≡◌}
use Rattle.lq_parts.specs.Taken.{position_of}
use Rattle.lq_parts.specs.Steps.{Entries}
use Rattle.lq_parts.proofs.EntryLemmas.{ordered_less}
use Rattle.lq_parts.proofs.StepLemmas.{take_tables}
use Rattle.lq_parts.proofs.tables.take_out.Goals as goal

pub returns-clause-tables : goal.returns-clause-tables
returns-clause-tables c =
    let es : Entries = c.args.entries.now.items in
    let at : c.standing-at.result ≡ position_of c.args.name.now es = search rules in
    rw (c.remove-name.ensures.items, at) (take_tables c.args.name.now es)

pub returns-clause-ordered : goal.returns-clause-ordered
returns-clause-ordered c =
    let es : Entries = c.args.entries.now.items in
    let at : c.standing-at.result ≡ position_of c.args.name.now es = search rules in
    rw (c.remove-name.ensures.items, at) (ordered_less c.args.name.now es c.requires.ordered)
