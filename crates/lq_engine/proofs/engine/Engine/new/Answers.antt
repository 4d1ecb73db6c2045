use Rattle.lq_engine.proofs.Marks as lemma
use Rattle.lq_engine.proofs.engine.Engine.new.Goals as goal

pub invariant_of-result : goal.invariant_of-result
invariant_of-result c = rw (c.new.ensures, c.new-2.ensures.items) (lemma.begun c.args.dialect (lemma.nothing_sound c.args.dialect))
