use Rattle.std.proofs.Common.{ap, length, sym, ◌∙◌}
use Rattle.lq_chain.specs.Marks.{replaced}
use Rattle.lq_model.specs.Catalogue.{Table, the_table}
use Rattle.lq_rows.specs.Stored.{with_shape}
use Rattle.lq_columnops.proofs.RowLemmas as lemma
use Rattle.lq_columnops.proofs.rows.reshape.Goals as goal

pub replace_some-requires-clause-there : goal.replace_some-requires-clause-there
replace_some-requires-clause-there c =
    let db = c.args.parts.now.now in
    rw (c.in_ok-shape_table.ensures.ok) (lemma.still_there db c.args.table.now c.requires.there (with_shape c.args.shape (the_table db c.args.table.now)))

pub replace_some-requires-clause-each : goal.replace_some-requires-clause-each
replace_some-requires-clause-each c =
    let db = c.args.parts.now.now in
    rw (c.in_ok-shape_table.ensures.ok) (c.requires.each ∙ ap (λ (it : Table). length it.rows) (sym (lemma.the_table_is db c.args.table.now c.requires.there (with_shape c.args.shape (the_table db c.args.table.now)))))

pub returns-clause-ok : goal.returns-clause-ok
returns-clause-ok c = rw (c.in_ok-replace_some.ensures.ok, c.in_ok-shape_table.ensures.ok) (lemma.both c.args.parts.now.now c.args.table.now c.requires.there c.args.shape (replaced c.args.by.items))
