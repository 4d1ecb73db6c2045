use Rattle.lq_engine.proofs.Marks.{begun_at}
use Rattle.lq_engine.proofs.engine.Engine.of_sound.Goals as goal

pub invariant_of-result : goal.invariant_of-result
invariant_of-result c = rw (c.new.ensures.items) (begun_at c.args.dialect c.args.parts c.requires)
