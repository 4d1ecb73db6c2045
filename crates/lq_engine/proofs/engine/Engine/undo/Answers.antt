use Rattle.std.proofs.Common.{reverse}
use Rattle.lq_engine.proofs.Marks as lemma
use Rattle.lq_engine.proofs.engine.Engine.undo.Goals as goal

pub invariant_of-self : goal.invariant_of-self
invariant_of-self c = rw (c.clear.ensures.items, c.undo_to.ensures) (lemma.all_back c.self.inside.dialect c.self.inside.parts (reverse c.self.inside.starts.items) c.self.invariant)

pub returns : goal.returns
returns c = rw (c.clear.ensures.items, c.undo_to.ensures, ← c.self.view_is) (lemma.all_back_view c.self.inside.dialect c.self.inside.parts (reverse c.self.inside.starts.items) c.self.invariant)
