use Rattle.std.proofs.Common.{ap, map, sym, ◌∙◌, ◌≡◌}
use Rattle.lq_parts.specs.Steps.{tables_of}
use Rattle.lq_deletes.specs.Places.{losses, marks_of}
use Rattle.lq_deletes.proofs.Cascaded.{losses_marked, losses_thin}
use Rattle.lq_deletes.proofs.DeleteLemmas.{found}
use Rattle.lq_deletes.proofs.cascade.losses.Goals as goal

pub returns-clause-marked : goal.returns-clause-marked
returns-clause-marked c =
    let db = c.args.parts.now.now in
    let marks = c.in_ok-marks.marks in
    let are : map marks_of c.in_ok-all.all.items ≡ losses marks.items db.tables = c.in_ok-all.ensures ∙ ap (λ ms. losses ms (tables_of c.tables.result.now)) c.deref.ensures.value ∙ ap (losses marks.items) c.tables.ensures in
    losses_marked c.args.table.now c.args.test.now db c.requires.linked marks.items (sym marks.ok.0 ∙ c.in_ok-marks.ensures.len) c.in_ok-marks.ensures.rows (map marks_of c.in_ok-all.all.items) are

pub returns-clause-thinned : goal.returns-clause-thinned
returns-clause-thinned c =
    let db = c.args.parts.now.now in
    let marks = c.in_ok-marks.marks in
    let are : map marks_of c.in_ok-all.all.items ≡ losses marks.items db.tables = c.in_ok-all.ensures ∙ ap (λ ms. losses ms (tables_of c.tables.result.now)) c.deref.ensures.value ∙ ap (losses marks.items) c.tables.ensures in
    losses_thin c.args.table.now c.args.test.now db c.requires.linked marks.items (sym marks.ok.0 ∙ c.in_ok-marks.ensures.len) c.in_ok-marks.ensures.rows (map marks_of c.in_ok-all.all.items) are (found c.args.table.now db c.requires.there)
