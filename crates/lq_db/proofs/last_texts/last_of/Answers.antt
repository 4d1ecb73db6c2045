use Rattle.std.proofs.Common.{sym, ◌∙◌}
use Rattle.lq_db.proofs.Lasts.{last_there}
use Rattle.lq_db.proofs.last_texts.last_of.Goals as goal

pub returns-in-Some-pop : goal.returns-in-Some-pop
returns-in-Some-pop c =
    sym (last_there c.loop-entry.entries c.pop.new.self c.in-Some.entry c.in-Texts.texts c.pop-in-Texts.new.self c.in-Some-pop.text c.in-Some.ensures c.in-Texts.is (sym c.in-Texts.texts-is ∙ c.in-Some-pop.ensures)) ∙ c.loop-entry.invariant
