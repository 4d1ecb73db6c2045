use Rattle.std.proofs.Common.{ap, sym, ◌∙◌}
use Rattle.lq_players.proofs.UpdateMakes.{looks_past, looks_so, turns_for}
use Rattle.lq_players.specs.Updating.{left_in}
use Rattle.lq_players.proofs.updating.UpdatingSource.looks.Goals as goal

pub looks-requires : goal.looks-requires
looks-requires g c = record { reads = turns_for c.args.dialect c.args.self.now c.in-Some.source c.in-Some.is c.requires.reads }

pub returns-in-Some-clause-left : goal.returns-in-Some-clause-left
returns-in-Some-clause-left g c = c.looks.ensures.left ∙ ap left_in (sym c.in-Some.is)

pub returns-in-Some-clause-looks : goal.returns-in-Some-clause-looks
returns-in-Some-clause-looks g c = λ stamp told. looks_so c.args.dialect stamp told c.args.self.now.turns c.in-Some.source c.looks.new.self c.in-Some.is (g.K.Look.catalogue c.args.look.now) (c.looks.ensures.looks stamp told)

pub returns-in-Some-clause-reads : goal.returns-in-Some-clause-reads
returns-in-Some-clause-reads g c = record { asked = c.requires.reads.asked; turns = c.looks.ensures.reads }

pub returns-in-None-clause-looks : goal.returns-in-None-clause-looks
returns-in-None-clause-looks g c = λ stamp told. looks_past c.args.dialect stamp told c.args.self.now.turns c.in-None.is (g.K.Look.catalogue c.args.look.now)
