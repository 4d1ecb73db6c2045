use Rattle.std.proofs.Common.{refl, sym, ap, [], ◌∷◌}
use Rattle.lq_entries.proofs.Both.{crash_first, crash_second, cut_first, cut_second, gained_both, room_is}
use Rattle.lq_entries.proofs.Moments.{stood}
use Rattle.lq_entries.specs.Log.{entries_of, log_of}
use Rattle.lq_journal.specs.State.{disk_of}
use Rattle.lq_store.specs.Journal.Entry.{Texts}
use Rattle.lq_entries.proofs.writing.append_both.Goals as goal

pub returns-in_default-clause-crash : goal.returns-in_default-clause-crash
returns-in_default-clause-crash g c = stood _ _ _ _ _ _ _ (g.met.D.Disk.sound _) c.requires.whole.settled refl refl

pub returns-then-is_past-clause-crash : goal.returns-then-is_past-clause-crash
returns-then-is_past-clause-crash g c = stood _ _ _ _ _ _ _ (g.met.D.Disk.sound _) c.requires.whole.settled refl refl

pub returns-in-Err-Disk-clause-does : goal.returns-in-Err-Disk-clause-does
returns-in-Err-Disk-clause-does g c = cut_first _ _ _ _ (rw c.in-Err-Disk.field-0-is at c.in-Err-Disk.ensures.does)

pub returns-in-Err-Disk-clause-crash : goal.returns-in-Err-Disk-clause-crash
returns-in-Err-Disk-clause-crash g c = crash_first _ (entries_of c.args.first.now) (Texts c.args.second.now ∷ []) _ _ c.in-Err-Disk.ensures.crash

pub returns-in-Ok-append_one-clause-does : goal.returns-in-Ok-append_one-clause-does
returns-in-Ok-append_one-clause-does g c = (
  room_is _ _ _ _ _ _ _ _ (sym c.limit.ensures) c.used-used.ensures c.in-Some.ensures c.is_past.ensures c.if-is_past.false,
  gained_both (entries_of c.args.first.now) (Texts c.args.second.now ∷ []) (log_of (g.D.Disk.told (disk_of c.args.to.now)) c.args.to.now) _ _ c.in-Ok.ensures.does.1 c.in-Ok-append_one.ensures.does.1,
)

pub returns-in-Ok-append_one-clause-crash : goal.returns-in-Ok-append_one-clause-crash
returns-in-Ok-append_one-clause-crash g c = crash_second _ _ (entries_of c.args.first.now) (Texts c.args.second.now ∷ []) _ _ _ c.in-Ok.ensures.crash (ap (λ l. l.entries) c.in-Ok.ensures.does.1) c.in-Ok-append_one.ensures.crash

pub returns-in-Err-Disk-append_one-clause-does : goal.returns-in-Err-Disk-append_one-clause-does
returns-in-Err-Disk-append_one-clause-does g c = cut_second (entries_of c.args.first.now) (Texts c.args.second.now ∷ []) _ _ _ c.in-Ok.ensures.does.1 (rw c.in-Err-Disk-append_one.field-0-is at c.in-Err-Disk-append_one.ensures.does)

pub returns-in-Err-Disk-append_one-clause-crash : goal.returns-in-Err-Disk-append_one-clause-crash
returns-in-Err-Disk-append_one-clause-crash g c = crash_second _ _ (entries_of c.args.first.now) (Texts c.args.second.now ∷ []) _ _ _ c.in-Ok.ensures.crash (ap (λ l. l.entries) c.in-Ok.ensures.does.1) c.in-Err-Disk-append_one.ensures.crash
