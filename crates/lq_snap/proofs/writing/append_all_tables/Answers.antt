use Rattle.std.proofs.Common.{rules}
use Rattle.lq_snap.proofs.EntryLemmas.{tables_counted, tables_ok}
use Rattle.lq_snap.proofs.writing.append_all_tables.Goals as goal

pub returns-clause-bytes : goal.returns-clause-bytes
returns-clause-bytes c =
    tables_counted c.args.entries.now _ c.args.to.now.items c.write.new.to.items c.append_tables.new.to.items c.in_ok-write.ensures.bytes c.in_ok-append_tables.ensures.bytes (search rules)

pub returns-clause-fits : goal.returns-clause-fits
returns-clause-fits c = tables_ok c.args.entries.now _ c.in_ok-write.ensures.fits c.in_ok-append_tables.ensures.fits (search rules)
