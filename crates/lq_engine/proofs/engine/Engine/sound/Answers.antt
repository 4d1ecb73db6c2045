use Rattle.std.proofs.Common.{reverse, subst}
use Rattle.lq_model.specs.Sound.{IsSound}
use Rattle.lq_engine.specs.State.{State}
use Rattle.lq_engine.proofs.Marks as lemma
use Rattle.lq_engine.proofs.engine.Engine.sound.Goals as goal

pub returns : goal.returns
returns c = subst (λ (s : State). IsSound s.dialect s.now) c.self.view_is (lemma.is_sound c.self.inside.dialect c.self.inside.parts (reverse c.self.inside.starts.items) c.self.invariant)
