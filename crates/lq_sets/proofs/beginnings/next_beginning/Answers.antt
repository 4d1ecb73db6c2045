use Rattle.lq_sets.proofs.Begins.{first_missing, first_popped, rest_missing, rest_popped}
use Rattle.lq_sets.proofs.beginnings.next_beginning.Goals as goal

pub returns-in-Some-clause-first : goal.returns-in-Some-clause-first
returns-in-Some-clause-first c = first_popped c.args.beginnings.now c.pop.new.self c.in-Some.beginning c.in-Some.ensures

pub returns-in-Some-clause-rest : goal.returns-in-Some-clause-rest
returns-in-Some-clause-rest c = rest_popped c.args.beginnings.now c.pop.new.self c.in-Some.beginning c.in-Some.ensures

pub returns-in-None-clause-first : goal.returns-in-None-clause-first
returns-in-None-clause-first c = first_missing c.args.beginnings.now c.in-None.ensures.0

pub returns-in-None-clause-rest : goal.returns-in-None-clause-rest
returns-in-None-clause-rest c = rest_missing c.args.beginnings.now c.pop.new.self c.in-None.ensures.0 c.in-None.ensures.1
