use Rattle.std.proofs.Common.{List, Option, ap, ◌∙◌}
use Rattle.std.specs.List.{list_any}
use Rattle.lq_base.specs.declared.value.Value.{Value}
use Rattle.lq_model.specs.Catalogue.{the_table}
use Rattle.lq_rowops.specs.InsertTests.{strays}
use Rattle.lq_rowops.proofs.ChangeLemmas.{all_changed}
use Rattle.lq_rowops.proofs.changing.change_all.Goals as goal

pub returns-clause-ok : goal.returns-clause-ok
returns-clause-ok c =
    let t = c.args.table.now in
    let h = c.args.parts.now in
    all_changed c.args.sets.now c.args.test.now (the_table h.now t) c.in_ok-new.new.rows.items c.in_ok-new.ensures.rows t h.now h c.replace_some.new.self
    (rw c.is_stray_by.ensures.same at c.in_ok-replace_some.ensures.ok)

pub returns-clause-are : goal.returns-clause-are
returns-clause-are c =
    let t = c.args.table.now in
    let db = c.args.parts.now.now in
    let it = the_table db t in
    let by = c.deref.ensures.value ∙ c.in_ok-new.ensures.rows in
    record {
      count = c.in_ok-new.ensures.count;
      nulls = c.in_ok-new.ensures.nulls;
      stray = c.in_ok-is_stray.ensures.found ∙ ap (λ (bs : List (Option (List Value))). list_any (strays t c.args.sets.now bs db it.columns) it.foreign) by;
    }
