use Rattle.std.proofs.Common.{ap, sym, ◌∙◌}
use Rattle.lq_players.specs.RollingBack.{turns_report}
use Rattle.lq_players.proofs.rolling_back.RollingBackChecks.into_report.Goals as goal

pub returns-in-Some : goal.returns-in-Some
returns-in-Some c = c.report_of.ensures ∙ ap turns_report (sym c.in-Some.is)

pub returns : goal.returns
returns c = c.new.ensures ∙ ap turns_report (sym c.in-None.is)
