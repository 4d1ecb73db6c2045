use Rattle.std.proofs.Common.{rules, tests, ◌+◌, ◌<◌, arith, length, refl, sym}
use Rattle.lq_entries.specs.Log.{log_of}
use Rattle.lq_journal.specs.State.{disk_of}
use Rattle.lq_entries.proofs.Each.{crash_cut, crash_next, cut_next, gained_next, gained_none, has_room, parts, whole}
use Rattle.lq_entries.proofs.Moments.{stood}
use Rattle.lq_entries.proofs.writing.append_each.Goals as goal

pub loop-entry-init : goal.loop-entry-init
loop-entry-init g c = record {
  whole = c.requires.whole;
  logged = gained_none (log_of (g.D.Disk.told (disk_of c.args.to.now)) c.args.to.now);
  crash = stood _ _ _ _ _ _ _ (g.met.D.Disk.sound _) c.requires.whole.settled refl refl;
  later = omega arith;
}

pub returns-in-Err-Disk-clause-does : goal.returns-in-Err-Disk-clause-does
returns-in-Err-Disk-clause-does g c =
    let tested = c.loop-entry-test.true in
    let less : c.loop-entry.entry-index < length c.args.entries.now = search (rules, tests) in
    let next = parts c.args.entries.now c.loop-entry.entry-index c.entry-item.result c.entry-item.result less (sym c.entry-item.is) in
    let x = log_of (g.D.Disk.told (disk_of c.args.to.now)) c.args.to.now in
    let m = log_of (g.D.Disk.told (disk_of c.loop-entry.to)) c.loop-entry.to in
    let y = log_of (g.D.Disk.told (disk_of c.append_one.new.to)) c.append_one.new.to in
    cut_next _ _ _ _ _ next (whole c.args.entries.now (c.loop-entry.entry-index + 1)) x m y c.loop-entry.invariant.logged (rw c.in-Err-Disk.field-0-is at c.in-Err-Disk.ensures.does)

pub returns-in-Err-Disk-clause-crash : goal.returns-in-Err-Disk-clause-crash
returns-in-Err-Disk-clause-crash g c =
    let tested = c.loop-entry-test.true in
    let less : c.loop-entry.entry-index < length c.args.entries.now = search (rules, tests) in
    let next = parts c.args.entries.now c.loop-entry.entry-index c.entry-item.result c.entry-item.result less (sym c.entry-item.is) in
    let x = log_of (g.D.Disk.told (disk_of c.args.to.now)) c.args.to.now in
    let m = log_of (g.D.Disk.told (disk_of c.loop-entry.to)) c.loop-entry.to in
    let y = log_of (g.D.Disk.told (disk_of c.append_one.new.to)) c.append_one.new.to in
    crash_cut _ _ _ _ _ next (whole c.args.entries.now (c.loop-entry.entry-index + 1)) x m y c.loop-entry.invariant.logged _ _ _ c.loop-entry.invariant.crash c.in-Err-Disk.ensures.crash

pub unreachable-requires : goal.unreachable-requires
unreachable-requires g c =
    let tested = c.loop-entry-test.true in
    let less : c.loop-entry.entry-index < length c.args.entries.now = search (rules, tests) in
    let next = parts c.args.entries.now c.loop-entry.entry-index c.entry-item.result c.entry-item.result less (sym c.entry-item.is) in
    let x = log_of (g.D.Disk.told (disk_of c.args.to.now)) c.args.to.now in
    let m = log_of (g.D.Disk.told (disk_of c.loop-entry.to)) c.loop-entry.to in
    let does = rw c.in-Err-Full.field-0-is at c.in-Err-Full.ensures.does in
    has_room _ _ _ _ _ next (whole c.args.entries.now (c.loop-entry.entry-index + 1)) x m m c.loop-entry.invariant.logged c.args.room c.requires.room does.0

pub loop-entry-preserved : goal.loop-entry-preserved
loop-entry-preserved g c =
    let tested = c.loop-entry-test.true in
    let less : c.loop-entry.entry-index < length c.args.entries.now = search (rules, tests) in
    let next = parts c.args.entries.now c.loop-entry.entry-index c.entry-item.result c.entry-item.result less (sym c.entry-item.is) in
    let x = log_of (g.D.Disk.told (disk_of c.args.to.now)) c.args.to.now in
    let m = log_of (g.D.Disk.told (disk_of c.loop-entry.to)) c.loop-entry.to in
    let y = log_of (g.D.Disk.told (disk_of c.append_one.new.to)) c.append_one.new.to in
    record {
      whole = c.in-Ok.ensures.whole;
      logged = gained_next _ _ _ _ _ next (whole c.args.entries.now (c.loop-entry.entry-index + 1)) x m y c.loop-entry.invariant.logged c.in-Ok.ensures.does.1;
      crash = crash_next _ _ _ _ _ next (whole c.args.entries.now (c.loop-entry.entry-index + 1)) x m y c.loop-entry.invariant.logged _ _ _ c.loop-entry.invariant.crash c.in-Ok.ensures.crash;
      later = omega (arith, c.loop-entry.invariant.later, c.in-Ok.ensures.later);
    }
