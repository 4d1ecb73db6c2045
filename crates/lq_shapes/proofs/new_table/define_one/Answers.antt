use Rattle.lq_shapes.proofs.CreatedLemmas as lemma
use Rattle.lq_shapes.proofs.new_table.define_one.Goals as goal

pub returns-in-None : goal.returns-in-None
returns-in-None c = lemma.without_key c.args.def.now c.in_ok-new.new c.args.key.now c.in-None.is c.in_ok-new.ensures

pub returns-in-Some : goal.returns-in-Some
returns-in-Some c = lemma.with_key c.args.def.now c.in_ok-new.new c.args.key.now c.args.names.now c.keyed.result c.requires c.in_ok-new.ensures c.keyed.ensures
