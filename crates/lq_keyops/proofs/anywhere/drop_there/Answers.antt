use Rattle.std.proofs.Common.{Some, ap, rules, sym, ◌∙◌, ◌≡◌}
use Rattle.lq_chain.specs.History.{changed}
use Rattle.lq_model.specs.Catalogue.{table_of}
use Rattle.lq_model.specs.Constraints as spec
use Rattle.lq_keyops.proofs.Ended.{shaped_there}
use Rattle.lq_keyops.proofs.anywhere.drop_there.Goals as goal

pub returns-clause-ok : goal.returns-clause-ok
returns-clause-ok c =
    let db = c.args.parts.now.now in
    let here : table_of db c.args.table.now ≡ Some c.in-Some.held.now.now = search rules in
    c.in_ok-shape_table.ensures.ok ∙ ap (changed c.args.parts.now) (sym (shaped_there db c.args.table.now c.in-Some.held.now.now (spec.without_index_in c.args.name.now c.args.table.now) c.in_ok-shape.shape here c.in_ok-shape.ensures))
