use Rattle.lq_parts.proofs.TakenLemmas.{taken_known}
use Rattle.lq_parts.proofs.parts.Parts.take_table.Goals as goal

pub invariant_of-self-in-Ok : goal.invariant_of-self-in-Ok
invariant_of-self-in-Ok c = taken_known c.self.inside.tables c.take.new.self c.args.name.now c.unlearn_table.new.names c.in-Ok.ensures.ok (c.unlearn_table.ensures c.self.invariant)

pub invariant_of-self-in-Err : goal.invariant_of-self-in-Err
invariant_of-self-in-Err c = c.forget.ensures c.take.new.self.now
