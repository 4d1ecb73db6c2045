use Rattle.lq_base.proofs.convert.+scaled.Given as goal

abbrev pub decreases-scaled : goal.decreases-scaled
decreases-scaled l = l.more
