use Rattle.lq_players.proofs.BackSource.{gives_up_none, gives_up_on, left_same, source_read, still_read}
use Rattle.lq_players.proofs.rolling_back.RollingBackSource.refused.Goals as goal

pub returns-in-Some-clause-left : goal.returns-in-Some-clause-left
returns-in-Some-clause-left c = left_same c.args.self.now c.in-Some.turns c.refused.new.self c.in-Some.is c.refused.ensures.left

pub returns-in-Some-clause-gives_up : goal.returns-in-Some-clause-gives_up
returns-in-Some-clause-gives_up c = λ d stamp told. gives_up_on c.args.self.now c.in-Some.turns c.refused.new.self c.in-Some.is d stamp told (c.refused.ensures.gives_up d stamp told)

pub returns-in-Some-clause-reads : goal.returns-in-Some-clause-reads
returns-in-Some-clause-reads c = λ d read.
    still_read c.args.self.now c.in-Some.turns c.refused.new.self c.in-Some.is d read (c.refused.ensures.reads d (source_read c.args.self.now c.in-Some.turns c.in-Some.turns c.in-Some.is d read))

pub returns-in-None-clause-gives_up : goal.returns-in-None-clause-gives_up
returns-in-None-clause-gives_up c = λ d stamp told. gives_up_none c.args.self.now c.in-None.is d stamp told
