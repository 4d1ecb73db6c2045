use Rattle.lq_back.proofs.RowsBack.{all_back, their_ways}
use Rattle.lq_back.proofs.row_back.undo_turns.Goals as goal

pub undo_all-requires : goal.undo_all-requires
undo_all-requires c = their_ways c.args.changelog.now.sets c.args.rows.now c.args.ways.now c.requires.ways

pub returns : goal.returns
returns c = all_back c.args.dialect c.args.changelog.now.sets c.args.rows.now c.in_ok-turns.turns c.in_ok-turns.ensures
