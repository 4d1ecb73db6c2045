use Rattle.std.proofs.Common.{false, is_some, rules, ◌≡◌}
use Rattle.lq_model.specs.Catalogue.{table_of}
use Rattle.lq_renames.proofs.Renamed.{is_view}
use Rattle.lq_renames.proofs.table.rename_there.Goals as goal

pub move_view-requires-clause-there : goal.move_view-requires-clause-there
move_view-requires-clause-there c =
    let other : is_some (table_of c.args.parts.now.now c.args.table.now) ≡ false = search rules in
    is_view c.args.parts.now.now c.args.table.now c.requires.there other
