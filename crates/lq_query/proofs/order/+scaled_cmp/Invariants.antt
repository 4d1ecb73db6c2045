use Rattle.lq_query.proofs.order.+scaled_cmp.Given as goal

abbrev pub decreases-scaled_cmp : goal.decreases-scaled_cmp
decreases-scaled_cmp l = l.more
