use Rattle.std.proofs.Common.{refl}
use Rattle.lq_entries.proofs.Moments.{stood}
use Rattle.lq_entries.proofs.writing.append_all.Goals as goal

pub returns-then-lacks_room-clause-crash : goal.returns-then-lacks_room-clause-crash
returns-then-lacks_room-clause-crash g c = stood _ _ _ _ _ _ _ (g.met.D.Disk.sound _) c.requires.whole.settled refl refl
