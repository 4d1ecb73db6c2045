use Rattle.lq_parts.proofs.parts.Parts.step_back.Goals as goal

pub invariant_of-self-in-Some-Tables : goal.invariant_of-self-in-Some-Tables
invariant_of-self-in-Some-Tables c = c.forget.ensures c.step_back.new.self.now
