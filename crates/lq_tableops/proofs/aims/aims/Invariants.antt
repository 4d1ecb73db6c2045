use Rattle.std.proofs.Common.{take}
use Rattle.lq_shapes.specs.Created.{made}
use Rattle.lq_tableops.specs.Aimed.{AreAims}
use Rattle.lq_tableops.proofs.aims.aims.Given as goal

abbrev pub invariant-loop-key : goal.invariant-loop-key
invariant-loop-key l = AreAims l.new.name.now (made l.own l.new.key.now l.new.uniques.now l.new.foreign.now) l.parts.now (take l.key-index l.new.foreign.now) l.all
