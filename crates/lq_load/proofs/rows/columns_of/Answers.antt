use Rattle.std.proofs.Common.{Some, ap, false, length, rules, ◌≡◌, ◌∙◌}
use Rattle.std.specs.Prelude.{◌==◌}
use Rattle.csv.specs.Records.{field_at, fields_of}
use Rattle.lq_tree.specs.Items.{are_some}
use Rattle.lq_load.specs.Rows.{is_column}
use Rattle.lq_load.proofs.Fields.{all_found, all_tested, fails, one_failed, one_found, passes, some_fields}
use Rattle.lq_load.proofs.rows.columns_of.Goals as goal

pub loop-field-preserved : goal.loop-field-preserved
loop-field-preserved c =
    let inv = c.loop-field.invariant in
    let step = c.in-Some.ensures.steps in (
      ap (λ r. r.now) step.0 ∙ inv.0,
      one_found is_column (fields_of c.args.heading.now) c.loop-field.columns c.push.new.self c.loop-field.field-iterator.at c.next.new.self.at c.in-Some.field.now c.in-Some-2.column c.in_ok-column.field-0
          (step.1 ∙ ap (λ r. field_at (fields_of r) c.loop-field.field-iterator.at) inv.0) step.2 c.in_ok-column.ensures c.in-Some-2.is c.in_ok-push-in-Some-2.ensures.ok inv.1,
    )

pub returns-in-None-2 : goal.returns-in-None-2
returns-in-None-2 c =
    let inv = c.loop-field.invariant in
    let step = c.in-Some.ensures.steps in
    let some : (length (fields_of c.args.heading.now) == 0) ≡ false = search rules in
    fails (are_some is_column) (fields_of c.args.heading.now) (
    some_fields is_column (fields_of c.args.heading.now) some
    ∙ one_failed is_column (fields_of c.args.heading.now) c.loop-field.columns c.loop-field.field-iterator.at c.in-Some.field.now c.in_ok-column.field-0
    (step.1 ∙ ap (λ r. field_at (fields_of r) c.loop-field.field-iterator.at) inv.0) c.in_ok-column.ensures c.in-None-2.is inv.1
    )

pub returns : goal.returns
returns c =
    let inv = c.loop-field.invariant in
    let step = c.in-None.ensures.steps in
    let some : (length (fields_of c.args.heading.now) == 0) ≡ false = search rules in
    let end = step.1 ∙ ap (λ r. field_at (fields_of r) c.loop-field.field-iterator.at) inv.0 in
    ap (λ fs. Some fs) (all_found is_column (fields_of c.args.heading.now) c.loop-field.columns c.loop-field.field-iterator.at end inv.1)
    ∙ passes (are_some is_column) (fields_of c.args.heading.now) (
    some_fields is_column (fields_of c.args.heading.now) some ∙ all_tested is_column (fields_of c.args.heading.now) c.loop-field.columns c.loop-field.field-iterator.at end inv.1
    )
