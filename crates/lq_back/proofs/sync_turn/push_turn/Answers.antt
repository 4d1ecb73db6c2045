use Rattle.lq_back.proofs.Laid.{turn_laid}
use Rattle.lq_back.proofs.sync_turn.push_turn.Goals as goal

pub returns : goal.returns
returns c = turn_laid c.args.rows.now c.args.calls.now c.push.new.calls c.push_inserts.new.calls c.push-2.new.calls c.in_ok-push.ensures c.in_ok-push_inserts.ensures c.in_ok-push-2.ensures
