use Rattle.lq_report.specs.Mark.{Marked}
use Rattle.lq_mending.proofs.Passing.{goes_on, stops}
use Rattle.lq_mending.specs.Undoes.{invalid, set_marked, unless_undone}
use Rattle.lq_mending.specs.declared.part.Part.{Part}
use Rattle.lq_mending.proofs.part.checked_part.Goals as goal

pub returns-in-Ok-clause-passes : goal.returns-in-Ok-clause-passes
returns-in-Ok-clause-passes g c =
    let o = c.args.options.now in
    let changelog = c.args.changelog.now in
    let rows = c.args.rows.now in
    let mark : Marked = (c.args.mark.now.identity.now, c.args.mark.now.form, c.args.mark.now.statement.now) in
    goes_on {A = Unit {0}} {B = Part} (invalid o changelog rows) (unless_undone o mark (set_marked o changelog rows mark)) tt c.marked_part.result c.in-Ok.ensures.passes c.marked_part.ensures.passes

pub returns-in-Err-clause-passes : goal.returns-in-Err-clause-passes
returns-in-Err-clause-passes g c =
    let o = c.args.options.now in
    let changelog = c.args.changelog.now in
    let rows = c.args.rows.now in
    let mark : Marked = (c.args.mark.now.identity.now, c.args.mark.now.form, c.args.mark.now.statement.now) in
    stops (Unit {0}) Part (invalid o changelog rows) (unless_undone o mark (set_marked o changelog rows mark)) c.in-Err.fault c.in-Err.ensures.passes
