use Rattle.std.proofs.Common.{refl, rules}
use Rattle.lq_back.proofs.Laid.{one_laid, rows_laid}
use Rattle.lq_back.proofs.sync_turn.push_inserts.Goals as goal

pub loop-row-init : goal.loop-row-init
loop-row-init c = refl

pub loop-row-preserved : goal.loop-row-preserved
loop-row-preserved c = one_laid c.loop-row.rows c.pop.new.self c.in-Some.row c.loop-row.calls c.push.new.calls _ c.in-Some.ensures c.in_ok-push.ensures c.loop-row.invariant

pub returns : goal.returns
returns c = rows_laid c.loop-row.rows c.loop-row.calls _ (search rules) c.loop-row.invariant
