use Rattle.std.proofs.Common.{ap}
use Rattle.lq_playing.specs.declared.came.Report.{Report}
use Rattle.lq_players.proofs.at_once.listing.Goals as goal

pub returns : goal.returns
returns c = ap (λ (r : Report). record r { pending = c.args.pending }) c.new-report.ensures
