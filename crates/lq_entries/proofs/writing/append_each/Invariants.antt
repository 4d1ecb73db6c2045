use Rattle.std.proofs.Common.{◌≡◌, ◌≤◌, take}
use Rattle.lq_entries.specs.Log.{IsWhole, crashes_in, gained, log_of}
use Rattle.lq_journal.specs.State.{dialect_of, disk_of, limit_of}
use Rattle.lq_store.specs.Journal.{LeavesFront, of_texts}
use Rattle.lq_entries.proofs.writing.append_each.Given as goal

abbrev pub invariant-loop-entry : goal.invariant-loop-entry
invariant-loop-entry g l = record {
  whole : IsWhole (g.D.Disk.told (disk_of l.to)) (g.D.Disk.crashes (disk_of l.to)) l.to;
  logged : log_of (g.D.Disk.told (disk_of l.to)) l.to ≡ gained (of_texts (take l.entry-index l.entries)) (log_of (g.D.Disk.told (disk_of l.fn.to)) l.fn.to);
  crash : LeavesFront (log_of (g.D.Disk.told (disk_of l.fn.to)) l.fn.to).entries (of_texts (take l.entry-index l.entries))
      (crashes_in (dialect_of l.fn.to) (limit_of l.fn.to) (g.D.Disk.crashes (disk_of l.fn.to))) (crashes_in (dialect_of l.to) (limit_of l.to) (g.D.Disk.crashes (disk_of l.to)));
  later : g.D.Disk.faults (disk_of l.fn.to) ≤ g.D.Disk.faults (disk_of l.to);
}
