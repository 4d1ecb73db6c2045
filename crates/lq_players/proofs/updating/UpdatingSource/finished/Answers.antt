use Rattle.std.proofs.Common.{ap, sym, ◌∙◌}
use Rattle.lq_players.proofs.UpdateMakes.{knows_none, knows_so, turns_for}
use Rattle.lq_players.specs.Updating.{left_in}
use Rattle.lq_players.proofs.updating.UpdatingSource.finished.Goals as goal

pub returns-in-Some-clause-knows : goal.returns-in-Some-clause-knows
returns-in-Some-clause-knows c = λ d stamp told z. knows_so d stamp told c.args.self.now.turns c.in-Some.source c.finished.new.self c.in-Some.is z (c.finished.ensures.knows d stamp told z)

pub returns-in-Some-clause-left : goal.returns-in-Some-clause-left
returns-in-Some-clause-left c = c.finished.ensures.left ∙ ap left_in (sym c.in-Some.is)

pub returns-in-Some-clause-reads : goal.returns-in-Some-clause-reads
returns-in-Some-clause-reads c = λ d reads. record { asked = reads.asked; turns = c.finished.ensures.reads d (turns_for d c.args.self.now c.in-Some.source c.in-Some.is reads) }

pub returns-in-None-clause-knows : goal.returns-in-None-clause-knows
returns-in-None-clause-knows c = λ d stamp told z. knows_none d stamp told c.args.self.now.turns c.in-None.is z
