use Rattle.std.proofs.Common.{rules, subst, ◌≡◌}
use Rattle.lq_model.specs.Rows.{next_of, stated}
use Rattle.lq_rows.specs.Stored.{Means}
use Rattle.lq_rowops.specs.InsertTests.{row_meant}
use Rattle.lq_rowops.proofs.InsertSteps as step
use Rattle.lq_rowops.proofs.inserting.plan_stated.Goals as goal

pub returns-in-Err : goal.returns-in-Err
returns-in-Err c =
    let it = c.args.held.now.now in
    let means = subst (Means (row_meant c.columns.result.now c.next.result c.args.columns.now c.args.stated.now c.args.values.now)) c.in-Err.is c.new_row.ensures in
    step.bad_row c.args.dialect it c.args.columns.now c.args.values.now c.in-Err.fault c.columns.result.now c.next.result c.args.stated.now (search rules) (search rules) (search rules) means

pub returns : goal.returns
returns c =
    let it = c.args.held.now.now in
    let means = subst (Means (row_meant c.columns.result.now c.next.result c.args.columns.now c.args.stated.now c.args.values.now)) c.in-Ok.is c.new_row.ensures in
    record {
      row = step.good_row it c.args.columns.now c.args.values.now c.in-Ok.row c.columns.result.now c.next.result c.args.stated.now (search rules) (search rules) (search rules) means;
      next = (let is : c.in-Some.next ≡ next_of c.args.dialect (stated it c.args.columns.now) it.columns c.in-Ok.row it.next = search rules in is);
      full = rw (c.len.ensures) (step.full_is _);
    }
