use Rattle.lq_players.proofs.BackSource.{left_same, looks_none, looks_on, source_read, still_read}
use Rattle.lq_players.proofs.rolling_back.RollingBackSource.looks.Goals as goal

pub looks-requires : goal.looks-requires
looks-requires g c = record { reads = source_read c.args.self.now c.in-Some.turns c.in-Some.turns c.in-Some.is c.args.dialect c.requires.reads }

pub returns-in-Some-clause-left : goal.returns-in-Some-clause-left
returns-in-Some-clause-left g c = left_same c.args.self.now c.in-Some.turns c.looks.new.self c.in-Some.is c.looks.ensures.left

pub returns-in-Some-clause-looks : goal.returns-in-Some-clause-looks
returns-in-Some-clause-looks g c = λ stamp told.
    looks_on c.args.self.now c.in-Some.turns c.looks.new.self c.in-Some.is c.args.dialect stamp told (g.K.Look.catalogue c.args.look.now) (c.looks.ensures.looks stamp told)

pub returns-in-Some-clause-reads : goal.returns-in-Some-clause-reads
returns-in-Some-clause-reads g c = still_read c.args.self.now c.in-Some.turns c.looks.new.self c.in-Some.is c.args.dialect c.requires.reads c.looks.ensures.reads

pub returns-in-None-clause-looks : goal.returns-in-None-clause-looks
returns-in-None-clause-looks g c = λ stamp told. looks_none c.args.self.now c.in-None.is c.args.dialect stamp told (g.K.Look.catalogue c.args.look.now)
