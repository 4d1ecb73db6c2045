use Rattle.std.proofs.Common.{arith, rules, ◌<◌, ◌^◌}
use Rattle.lq_run.proofs.Stated.{if_made, stated_again, stated_cleared, stated_deleted, stated_filled, stated_inserted, stated_tagged}
use Rattle.lq_run.proofs.deed.row_statement.Goals as goal

pub returns-in-Inserted-clause-stated : goal.returns-in-Inserted-clause-stated
returns-in-Inserted-clause-stated c =
    let small : c.in-Inserted.row.order < 2 ^ 32 = search rules in
    if_made c.args.dialect _ _ c.insert_row.ensures (stated_inserted c.args.dialect c.in-Inserted.row small)

pub returns-in-Renewed-clause-stated : goal.returns-in-Renewed-clause-stated
returns-in-Renewed-clause-stated c =
    let small : c.in-Renewed.row.order < 2 ^ 32 = omega arith in
    if_made c.args.dialect _ _ c.again_row.ensures (stated_again c.args.dialect c.in-Renewed.row small)

pub returns-in-Deleted-clause-stated : goal.returns-in-Deleted-clause-stated
returns-in-Deleted-clause-stated c = if_made c.args.dialect _ _ c.delete_row.ensures (stated_deleted c.args.dialect c.in-Deleted.of)

pub returns-in-Filled-clause-stated : goal.returns-in-Filled-clause-stated
returns-in-Filled-clause-stated c = if_made c.args.dialect _ _ c.fill_sum.ensures (stated_filled c.args.dialect c.in-Filled.of c.in-Filled.sum)

pub returns-in-Tagged-clause-stated : goal.returns-in-Tagged-clause-stated
returns-in-Tagged-clause-stated c = if_made c.args.dialect _ _ c.set_tag.ensures (stated_tagged c.args.dialect c.in-Tagged.of c.in-Tagged.tag)

pub returns-in-Cleared-clause-stated : goal.returns-in-Cleared-clause-stated
returns-in-Cleared-clause-stated c = if_made c.args.dialect _ _ c.clear_sums.ensures (stated_cleared c.args.dialect)
