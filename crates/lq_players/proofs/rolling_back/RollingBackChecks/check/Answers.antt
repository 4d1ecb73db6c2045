use Rattle.lq_players.proofs.BackMade.{checked_refused, checked_turns}
use Rattle.lq_players.proofs.BackPlanned.{new_read}
use Rattle.lq_players.specs.RollingBack.{turns_left}
use Rattle.lq_players.proofs.rolling_back.RollingBackChecks.check.Goals as goal

pub returns-in-Ok-clause-checked : goal.returns-in-Ok-clause-checked
returns-in-Ok-clause-checked g c =
    checked_turns c.args.self.now c.args.dialect c.args._stamp.now (g.K.Look.catalogue c.args.look.now) c.in-Ok.turns c.first_verdict-first.result c.requires.moment c.first_verdict-first.ensures c.in-Ok.ensures.new c.in-Ok.ensures.plans

pub returns-in-Ok-clause-reads : goal.returns-in-Ok-clause-reads
returns-in-Ok-clause-reads g c = record { options = c.requires.reads.options; changelog = c.requires.reads.changelog; turns = new_read c.args.self.now.prints c.args.dialect c.in-Ok.turns c.in-Ok.ensures.new }

pub returns-in-Err-clause-checked : goal.returns-in-Err-clause-checked
returns-in-Err-clause-checked g c =
    checked_refused c.args.self.now c.args.dialect c.args._stamp.now (g.K.Look.catalogue c.args.look.now) (turns_left c.args.self.now.turns) c.args.self.now c.in-Err.refusal c.in-Err.ensures.refusal c.in-Err.ensures.plans
