use Rattle.lq_back.proofs.Laid.{all_laid}
use Rattle.lq_back.proofs.sync_turn.calls_of.Goals as goal

pub returns : goal.returns
returns c = all_laid c.args.rows c.new-calls.result c.push_turn.new.calls c.new-calls.ensures c.in_ok-push_turn.ensures
