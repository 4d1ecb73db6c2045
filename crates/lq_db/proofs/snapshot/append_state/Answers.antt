use Rattle.std.proofs.Common.{arith, ap, length, refl}
use Rattle.lq_entries.proofs.Logs.{size_is}
use Rattle.lq_entries.proofs.Moments.{stood}
use Rattle.lq_frames.specs.declared.entry.Body.TheVariants.{State}
use Rattle.lq_db.proofs.snapshot.append_state.Goals as goal

pub returns-in-Err-clause-crash : goal.returns-in-Err-clause-crash
returns-in-Err-clause-crash g c = stood _ _ _ _ _ _ _ (g.met.D.Disk.sound _) c.requires.whole.settled refl refl

pub returns-in-Ok-append_one-clause-size : goal.returns-in-Ok-append_one-clause-size
returns-in-Ok-append_one-clause-size g c =
    omega (arith, c.size.ensures.value, size_is (State c.in-Ok.state), ap (λ l. length l) c.in-Ok.ensures.bytes)
