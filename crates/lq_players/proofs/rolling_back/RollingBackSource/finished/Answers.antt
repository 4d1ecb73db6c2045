use Rattle.lq_players.proofs.BackSource.{knows_none, knows_on, left_same, source_read, still_read}
use Rattle.lq_players.proofs.rolling_back.RollingBackSource.finished.Goals as goal

pub returns-in-Some-clause-knows : goal.returns-in-Some-clause-knows
returns-in-Some-clause-knows c = λ d stamp told contents. knows_on c.args.self.now c.in-Some.turns c.finished.new.self c.in-Some.is d stamp told contents (c.finished.ensures.knows d stamp told contents)

pub returns-in-Some-clause-left : goal.returns-in-Some-clause-left
returns-in-Some-clause-left c = left_same c.args.self.now c.in-Some.turns c.finished.new.self c.in-Some.is c.finished.ensures.left

pub returns-in-Some-clause-reads : goal.returns-in-Some-clause-reads
returns-in-Some-clause-reads c = λ d read.
    still_read c.args.self.now c.in-Some.turns c.finished.new.self c.in-Some.is d read (c.finished.ensures.reads d (source_read c.args.self.now c.in-Some.turns c.in-Some.turns c.in-Some.is d read))

pub returns-in-None-clause-knows : goal.returns-in-None-clause-knows
returns-in-None-clause-knows c = λ d stamp told contents. knows_none c.args.self.now c.in-None.is d stamp told contents
