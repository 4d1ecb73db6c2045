use Rattle.std.proofs.Common.{false, rules, ◌&&◌, ◌≡◌}
use Rattle.std.specs.List.{list_any}
use Rattle.lq_base.specs.Name.{is_named}
use Rattle.lq_model.specs.Catalogue.{the_table, is_null, picked, same_values}
use Rattle.lq_rows.specs.Stored.{has_values_in}
use Rattle.lq_rowops.proofs.InsertDecides.{lacks_by}
use Rattle.lq_rowops.proofs.inserting.lacks_parent.Goals as goal

pub returns-clause-found : goal.returns-clause-found
returns-clause-found c =
    let db = c.args.parts.now.now in
    let t = c.args.table.now in
    let f = c.args.key.now in
    let cs = c.args.columns.now in
    let row = c.args.row.now in
    let own = c.in_ok-own.own in
    let are : own ≡ picked cs f.columns row = search rules in
    let no_null : list_any is_null own ≡ false = search rules in
    let other : (is_named t f.table && same_values own (picked cs f.targets row)) ≡ false = search rules in
    let is : c.in_ok-found.found ≡ has_values_in f.targets own (the_table db f.table) = search rules in
    lacks_by db t (the_table db t) row f c.in_ok-found.found cs own c.requires are no_null other is
