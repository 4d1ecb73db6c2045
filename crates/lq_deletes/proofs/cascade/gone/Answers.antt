use Rattle.std.proofs.Common.{[], ap, length, subst, sym, true, ◌∙◌, ◌≡◌}
use Rattle.std.specs.List.{flat_map, list_all}
use Rattle.lq_model.specs.Catalogue.{the_table}
use Rattle.lq_deletes.specs.Places.{taken_in, Gains, tables_linked, numbered, row_total, AreMarks, Spread, are_below}
use Rattle.lq_deletes.proofs.Cascaded.{are_gone, below_marks, marks_total}
use Rattle.lq_deletes.proofs.DeleteLemmas.{found}
use Rattle.lq_deletes.proofs.Numbered.{standing_are, standing_below}
use Rattle.lq_deletes.proofs.cascade.gone.Goals as goal

pub edges_of-requires : goal.edges_of-requires
edges_of-requires c =
    let db = c.args.parts.now.now in
    let t = c.args.table.now in
    let test = c.args.test.now in
    let marks = c.in_ok-marks.marks in
    let columns = rw c.columns_of.ensures at c.in_ok-marks.ensures in
    let taken : marks.items ≡ flat_map (taken_in t test (the_table db t).columns) db.tables = columns ∙ ap (flat_map (taken_in t test (the_table db t).columns)) c.tables-entries.ensures in
    ap row_total c.tables-entries.ensures ∙ sym (c.len.ensures ∙ marks.ok.0 ∙ marks_total t test db c.requires.linked marks.items taken)

pub spread-requires-clause-below : goal.spread-requires-clause-below
spread-requires-clause-below c =
    let db = c.args.parts.now.now in
    let t = c.args.table.now in
    let test = c.args.test.now in
    let marks = c.in_ok-marks.marks in
    let edges = c.in_ok-edges.edges.items in
    let columns = rw c.columns_of.ensures at c.in_ok-marks.ensures in
    let taken : marks.items ≡ flat_map (taken_in t test (the_table db t).columns) db.tables = columns ∙ ap (flat_map (taken_in t test (the_table db t).columns)) c.tables-entries.ensures in
    let gains = subst (λ ts. Gains (tables_linked ts 0 ts) [] edges) c.tables-entries.ensures c.in_ok-edges.ensures.all in
    subst (λ es. list_all (are_below (length marks.items)) es ≡ true) (sym c.deref-2.ensures.value) (below_marks t test db c.requires.linked marks.items taken edges gains)

pub spread-requires-clause-work : goal.spread-requires-clause-work
spread-requires-clause-work c =
    let marks = c.in_ok-marks.marks.items in
    let work : c.in_ok-work.work.items ≡ numbered (λ mark. mark) 0 marks = c.in_ok-work.ensures ∙ ap (numbered (λ mark. mark) 0) c.deref.ensures.value in
    subst (λ ws. are_below (length marks) ws ≡ true) (sym work) (standing_below marks)

pub spread-requires-clause-start : goal.spread-requires-clause-start
spread-requires-clause-start c =
    let marks = c.in_ok-marks.marks.items in
    let work : c.in_ok-work.work.items ≡ numbered (λ mark. mark) 0 marks = c.in_ok-work.ensures ∙ ap (numbered (λ mark. mark) 0) c.deref.ensures.value in
    subst (λ ws. AreMarks ws marks) (sym work) (standing_are marks)

pub returns-clause-rows : goal.returns-clause-rows
returns-clause-rows c =
    let db = c.args.parts.now.now in
    let t = c.args.table.now in
    let test = c.args.test.now in
    let marks = c.in_ok-marks.marks in
    let edges = c.in_ok-edges.edges.items in
    let new = c.spread.new.marks.items in
    let columns = rw c.columns_of.ensures at c.in_ok-marks.ensures in
    let taken : marks.items ≡ flat_map (taken_in t test (the_table db t).columns) db.tables = columns ∙ ap (flat_map (taken_in t test (the_table db t).columns)) c.tables-entries.ensures in
    let gains = subst (λ ts. Gains (tables_linked ts 0 ts) [] edges) c.tables-entries.ensures c.in_ok-edges.ensures.all in
    are_gone t test db c.requires.linked marks.items taken edges gains (found t db c.requires.there) new (subst (λ es. Spread es marks.items new) c.deref-2.ensures.value c.in_ok-spread.ensures)

pub returns-clause-len : goal.returns-clause-len
returns-clause-len c =
    let db = c.args.parts.now.now in
    let t = c.args.table.now in
    let test = c.args.test.now in
    let marks = c.in_ok-marks.marks in
    let columns = rw c.columns_of.ensures at c.in_ok-marks.ensures in
    let taken : marks.items ≡ flat_map (taken_in t test (the_table db t).columns) db.tables = columns ∙ ap (flat_map (taken_in t test (the_table db t).columns)) c.tables-entries.ensures in
    c.spread.new.marks.ok.0 ∙ c.in_ok-spread.ensures.same ∙ marks_total t test db c.requires.linked marks.items taken
