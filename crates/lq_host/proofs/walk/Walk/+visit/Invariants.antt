use Rattle.lq_host.proofs.walk.Walk.+visit.Given as goal

abbrev pub decreases-visit : goal.decreases-visit
decreases-visit l = l.levels
