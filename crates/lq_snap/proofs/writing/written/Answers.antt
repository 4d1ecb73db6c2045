use Rattle.lq_snap.proofs.EntryLemmas.{parts_fit, parts_written}
use Rattle.lq_snap.proofs.writing.written.Goals as goal

pub returns-clause-bytes : goal.returns-clause-bytes
returns-clause-bytes c =
    parts_written c.args.parts.now.now c.tables.result.now c.views.result.now c.sequences.result.now
    c.new-bytes.result.items c.append_all_tables.new.to.items c.append_all_views.new.to.items c.append_all_sequences.new.to.items
    c.new-bytes.ensures.items c.tables.ensures c.views.ensures c.sequences.ensures
    c.in_ok-append_all_tables.ensures.bytes c.in_ok-append_all_views.ensures.bytes c.in_ok-append_all_sequences.ensures.bytes

pub returns-clause-fits : goal.returns-clause-fits
returns-clause-fits c =
    parts_fit c.args.parts.now.now c.tables.result.now c.views.result.now c.sequences.result.now c.tables.ensures c.views.ensures c.sequences.ensures
    c.in_ok-append_all_tables.ensures.fits c.in_ok-append_all_views.ensures.fits c.in_ok-append_all_sequences.ensures.fits
