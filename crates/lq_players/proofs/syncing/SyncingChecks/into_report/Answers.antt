use Rattle.std.proofs.Common.{ap}
use Rattle.lq_playing.specs.declared.came.Report.{Report}
use Rattle.lq_players.proofs.syncing.SyncingChecks.into_report.Goals as goal

pub returns : goal.returns
returns c = ap (λ (r : Report). record r { happened = c.args.self.marked }) c.new-report.ensures
