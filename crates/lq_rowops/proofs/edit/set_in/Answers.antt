use Rattle.std.proofs.Common.{Some, length, rules, sym, ◌≡◌, ◌≤◌}
use Rattle.std.specs.List.{position}
use Rattle.lq_base.specs.Name.{is_named}
use Rattle.lq_rowops.proofs.EditLemmas.{short_set}
use Rattle.lq_rowops.proofs.edit.set_in.Goals as goal

pub returns-else-at-len : goal.returns-else-at-len
returns-else-at-len c =
    let found : position (λ column. is_named c.args.name.now column.name) c.args.columns.now ≡ Some c.in-Some.at = search rules in
    let short : length c.args.row.now ≤ c.in-Some.at = search rules in
    sym (short_set c.args.name.now c.args.value c.args.columns.now c.args.row.now c.in-Some.at found short)
