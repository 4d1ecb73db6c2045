use Rattle.std.proofs.Common.{ap, refl, ◌∙◌}
use Rattle.lq_playing.proofs.Taking.{fresh_by}
use Rattle.lq_playing.proofs.Told.{not_none}
use Rattle.lq_playing.proofs.playing.Playing.new.Goals as goal

pub returns-clause-new : goal.returns-clause-new
returns-clause-new g c = λ n. record { begun = refl; answer = refl; opens = refl; faulted = refl; owes = λ why owed. not_none c.new.result.fault owed.0 owed.1 c.new.ensures.unstopped.0 }

pub returns-clause-ready : goal.returns-clause-ready
returns-clause-ready g c = λ none. fresh_by g.T.Source.reads c.new.result c.args.command c.args.dialect c.args.stamp c.new.ensures.command c.new.ensures.source c.requires.reads c.requires.moment c.requires.plain c.new.ensures.unstopped

pub returns-clause-dialect : goal.returns-clause-dialect
returns-clause-dialect g c = c.new.ensures.command.0

pub returns-clause-job : goal.returns-clause-job
returns-clause-job g c =
    ap (λ s. g.T.Checks.job s c.new.result.dialect c.new.result.stamp) c.new.ensures.source ∙ ap (λ d. g.T.Checks.job c.args.command d c.new.result.stamp) c.new.ensures.command.0 ∙ ap (λ t. g.T.Checks.job c.args.command c.args.dialect t) c.new.ensures.command.1

pub returns-clause-stamp : goal.returns-clause-stamp
returns-clause-stamp g c = c.new.ensures.command.1
