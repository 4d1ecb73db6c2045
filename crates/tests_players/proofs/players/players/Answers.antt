use Rattle.lq_players.specs.AnyCommand.{IsUnstarted}
use Rattle.tests_players.proofs.Added.{all_added}
use Rattle.tests_players.proofs.players.players.Goals as goal

pub loop-line-preserved : goal.loop-line-preserved
loop-line-preserved g c = record {
  next = tt;
  finite = tt;
  unstarted = all_added (IsUnstarted g.P.SqlText.dialect) c.loop-line.players.items c.push.new.self.items c.player-player.result c.push.result c.expect.result c.expect.ensures c.push.ensures.items c.loop-line.invariant.unstarted c.player-player.ensures;
}
