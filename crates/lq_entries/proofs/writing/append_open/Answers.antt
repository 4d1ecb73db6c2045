use Rattle.std.proofs.Common.{refl}
use Rattle.lq_entries.proofs.Moments.{stood}
use Rattle.lq_entries.proofs.writing.append_open.Goals as goal

pub returns-in-None-clause-crash : goal.returns-in-None-clause-crash
returns-in-None-clause-crash g c = stood _ _ _ _ _ _ _ (g.met.D.Disk.sound _) c.requires.whole.settled refl refl
