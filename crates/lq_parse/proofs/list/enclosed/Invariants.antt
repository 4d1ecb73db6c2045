use Rattle.lq_parse.proofs.list.enclosed.Given as goal

abbrev pub ghost-separated : goal.ghost-separated
ghost-separated g a = g.p
