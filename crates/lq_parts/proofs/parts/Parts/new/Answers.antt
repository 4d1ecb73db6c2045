use Rattle.lq_parts.proofs.parts.Parts.new.Goals as goal

pub invariant_of-result : goal.invariant_of-result
invariant_of-result c = c.new-4.ensures c.new.result.now
