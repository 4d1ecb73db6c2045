use Rattle.std.proofs.Common.{sym, ◌∙◌}
use Rattle.lq_back.proofs.Synced.{passes}
use Rattle.lq_back.proofs.sync_rows.add_unless_there.Goals as goal

pub returns-in_ok-add : goal.returns-in_ok-add
returns-in_ok-add c = λ rows has at. c.in_ok-add.ensures c.args.options.now rows (sym (c.has_no_row.ensures rows has) ∙ c.if-has_no_row.true) at

pub returns-else-has_no_row : goal.returns-else-has_no_row
returns-else-has_no_row c = λ rows has at. passes c.args.options.now c.args.reading rows c.args.set.now c.args.made.now (sym (c.has_no_row.ensures rows has) ∙ c.if-has_no_row.false) at
