use Rattle.lq_model.proofs.default_name.+cut.Given as goal

abbrev pub decreases-cut : goal.decreases-cut
decreases-cut l = l.most
