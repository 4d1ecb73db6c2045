use Rattle.std.proofs.Common.{Some, ap, ◌∙◌}
use Rattle.std.specs.List.{list_all}
use Rattle.std.specs.Str.{is_utf8}
use Rattle.csv.specs.Records.{field_at, fields_of}
use Rattle.lq_load.proofs.Fields.{all_found, all_tested, fails, one_failed, one_found, passes}
use Rattle.lq_load.proofs.rows.texts_of.Goals as goal

pub loop-field-preserved : goal.loop-field-preserved
loop-field-preserved c =
    let inv = c.loop-field.invariant in
    let step = c.in-Some.ensures.steps in (
      ap (λ r. r.now) step.0 ∙ inv.0,
      one_found is_utf8 (fields_of c.args.fields.now) c.loop-field.texts c.push.new.self c.loop-field.field-iterator.at c.next.new.self.at c.in-Some.field.now c.in-Some-2.text c.in_ok-text.field-0
          (step.1 ∙ ap (λ r. field_at (fields_of r) c.loop-field.field-iterator.at) inv.0) step.2 c.in_ok-text.ensures c.in-Some-2.is c.in_ok-push-in-Some-2.ensures.ok inv.1,
    )

pub returns-in-None-2 : goal.returns-in-None-2
returns-in-None-2 c =
    let inv = c.loop-field.invariant in
    let step = c.in-Some.ensures.steps in
    fails (list_all is_utf8) (fields_of c.args.fields.now) (
    one_failed is_utf8 (fields_of c.args.fields.now) c.loop-field.texts c.loop-field.field-iterator.at c.in-Some.field.now c.in_ok-text.field-0
    (step.1 ∙ ap (λ r. field_at (fields_of r) c.loop-field.field-iterator.at) inv.0) c.in_ok-text.ensures c.in-None-2.is inv.1
    )

pub returns : goal.returns
returns c =
    let inv = c.loop-field.invariant in
    let step = c.in-None.ensures.steps in
    let end = step.1 ∙ ap (λ r. field_at (fields_of r) c.loop-field.field-iterator.at) inv.0 in
    ap (λ fs. Some fs) (all_found is_utf8 (fields_of c.args.fields.now) c.loop-field.texts c.loop-field.field-iterator.at end inv.1)
    ∙ passes (list_all is_utf8) (fields_of c.args.fields.now) (all_tested is_utf8 (fields_of c.args.fields.now) c.loop-field.texts c.loop-field.field-iterator.at end inv.1)
