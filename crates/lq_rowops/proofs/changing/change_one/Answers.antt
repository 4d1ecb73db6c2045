use Rattle.std.proofs.Common.{List, Option, ap, ◌∙◌}
use Rattle.std.specs.List.{list_any}
use Rattle.lq_base.specs.declared.value.Value.{Value}
use Rattle.lq_model.specs.Catalogue.{the_table, has_bad_null}
use Rattle.lq_model.specs.declared.column.Column.{Column}
use Rattle.lq_rowops.specs.InsertTests.{is_some_such, strays}
use Rattle.lq_rowops.proofs.ChangeLemmas.{one_changed, one_counted, one_strays, one_such}
use Rattle.lq_rowops.proofs.changing.change_one.Goals as goal

pub returns-clause-ok : goal.returns-clause-ok
returns-clause-ok c =
    let t = c.args.table.now in
    let h = c.args.parts.now in
    one_changed c.args.sets.now c.args.test.now (the_table h.now t) c.args.at c.requires.only c.in_ok-new.new c.in_ok-new.ensures t h.now h c.put_at.new.parts
    (rw c.is_stray_by.ensures.same at c.in_ok-put_at.ensures.ok)

pub returns-clause-are : goal.returns-clause-are
returns-clause-are c =
    let t = c.args.table.now in
    let sets = c.args.sets.now in
    let test = c.args.test.now in
    let db = c.args.parts.now.now in
    let it = the_table db t in
    let new = c.in_ok-new.new in
    let is = c.in_ok-new.ensures in
    record {
      count = one_counted sets test it c.args.at c.requires.only;
      nulls = c.is_null_in-has_null.ensures ∙ ap (λ (cs : List Column). is_some_such (has_bad_null cs) new) c.columns_of.ensures ∙ one_such sets test it c.args.at c.requires.only new is (has_bad_null it.columns);
      stray = c.in_ok-is_stray.ensures.found ∙ ap (λ (bs : List (Option (List Value))). list_any (strays t sets bs db it.columns) it.foreign) c.from_ref.ensures.value ∙ one_strays sets test it c.args.at c.requires.only new is t db;
    }
