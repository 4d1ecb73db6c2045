use Rattle.std.proofs.Common.{ap, sym, ◌∙◌}
use Rattle.lq_players.proofs.UpdateMakes.{gives_none, gives_up_so, turns_for}
use Rattle.lq_players.specs.Updating.{left_in}
use Rattle.lq_players.proofs.updating.UpdatingSource.refused.Goals as goal

pub returns-in-Some-clause-left : goal.returns-in-Some-clause-left
returns-in-Some-clause-left c = c.refused.ensures.left ∙ ap left_in (sym c.in-Some.is)

pub returns-in-Some-clause-gives_up : goal.returns-in-Some-clause-gives_up
returns-in-Some-clause-gives_up c = λ d stamp told. gives_up_so d stamp told c.args.self.now.turns c.in-Some.source c.refused.new.self c.in-Some.is (c.refused.ensures.gives_up d stamp told)

pub returns-in-Some-clause-reads : goal.returns-in-Some-clause-reads
returns-in-Some-clause-reads c = λ d reads. record { asked = reads.asked; turns = c.refused.ensures.reads d (turns_for d c.args.self.now c.in-Some.source c.in-Some.is reads) }

pub returns-in-None-clause-gives_up : goal.returns-in-None-clause-gives_up
returns-in-None-clause-gives_up c = λ d stamp told. gives_none d stamp told c.args.self.now.turns c.in-None.is
