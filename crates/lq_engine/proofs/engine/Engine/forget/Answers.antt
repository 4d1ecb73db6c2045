use Rattle.std.proofs.Common.{ap, reverse, []}
use Rattle.lq_engine.specs.State.{State, state}
use Rattle.lq_engine.proofs.Marks as lemma
use Rattle.lq_engine.proofs.engine.Engine.forget.Goals as goal

pub invariant_of-self : goal.invariant_of-self
invariant_of-self c = rw (c.clear.ensures.items, c.forget.ensures) (lemma.forgot c.self.inside.dialect c.self.inside.parts (reverse c.self.inside.starts.items) c.self.invariant)

pub returns : goal.returns
returns c = rw (c.clear.ensures.items, c.forget.ensures) (ap (λ (s : State). state s.dialect s.now []) c.self.view_is)
