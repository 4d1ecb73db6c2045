use Rattle.lq_arm.proofs.Known.{known_also}
use Rattle.lq_arm.proofs.columns.was_known.Goals as goal

pub returns-in-Ok-clause-also : goal.returns-in-Ok-clause-also
returns-in-Ok-clause-also c = λ n. known_also c.args.known.now c.insert.new.self c.args.name c.in-Ok.ensures.keys n
