use Rattle.std.proofs.Common.{ap, ◌∙◌}
use Rattle.lq_playing.specs.Answers.{nothing}
use Rattle.lq_playing.specs.declared.came.Report.{Report}
use Rattle.lq_players.proofs.at_once.freeing.Goals as goal

pub returns : goal.returns
returns c = ap (λ (r : Report). record r { freed = c.if_held.result }) c.new-report.ensures ∙ ap (λ held. record nothing { freed = held }) c.if_held.ensures
