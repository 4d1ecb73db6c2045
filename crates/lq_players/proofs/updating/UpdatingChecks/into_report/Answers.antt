use Rattle.std.proofs.Common.{ap, sym, ◌∙◌}
use Rattle.lq_players.specs.Updating.{report_in}
use Rattle.lq_players.proofs.updating.UpdatingChecks.into_report.Goals as goal

pub returns-in-Some : goal.returns-in-Some
returns-in-Some c = c.report_of.ensures ∙ ap (λ o. report_in o c.args.self.report) (sym c.in-Some.is)

pub returns : goal.returns
returns c = ap (λ o. report_in o c.args.self.report) (sym c.in-None.is)
