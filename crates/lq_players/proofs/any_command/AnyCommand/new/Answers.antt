use Rattle.lq_players.proofs.any_command.AnyCommand.new.Goals as goal

pub returns-clause-unstarted : goal.returns-clause-unstarted
returns-clause-unstarted c = c.start.ensures.unstarted

pub returns-clause-job : goal.returns-clause-job
returns-clause-job c = c.start.ensures.job

pub returns-clause-owns : goal.returns-clause-owns
returns-clause-owns c = c.start.ensures.owns
