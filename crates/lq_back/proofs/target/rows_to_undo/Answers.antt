use Rattle.lq_back.proofs.Undone.{all_undone, stay_fits}
use Rattle.lq_back.proofs.target.rows_to_undo.Goals as goal

pub split_at-requires : goal.split_at-requires
split_at-requires c = stay_fits c.args.target.now c.args.rows.now c.in_ok-stay.stay c.in_ok-stay.ensures.stay

pub returns-clause-undone : goal.returns-clause-undone
returns-clause-undone c = all_undone c.args.target.now c.args.rows.now c.split_at.result.1.now c.in_ok-stay.stay c.in_ok-stay.ensures.stay c.split_at.ensures.back
