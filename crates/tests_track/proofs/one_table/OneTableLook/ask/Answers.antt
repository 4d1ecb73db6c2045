use Rattle.std.proofs.Common.{[], sym, ◌∙◌}
use Rattle.lq_base.specs.Name.{is_named}
use Rattle.lq_model.proofs.Lists.{not_false}
use Rattle.tests_track.proofs.Whole.{asked_whole}
use Rattle.tests_track.proofs.one_table.OneTableLook.ask.Goals as goal

pub returns-in-Ok : goal.returns-in-Ok
returns-in-Ok c =
    let table = c.args.self.now in
    asked_whole table.name (record { columns = table.columns; key = table.key; uniques = []; foreign = []; indexes = []; next = 1; rows = table.rows })
    c.args.query.now c.args.by c.in-Ok.answered c.in-Program.is
    (not_false (is_named c.args.query.now.table c.args.self.now.name) (sym c.ne.ensures ∙ c.if-ne.false)) (c.is_for_all.ensures c.if-not-is_for_all.false) c.in-Ok.ensures
