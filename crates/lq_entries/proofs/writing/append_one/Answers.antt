use Rattle.std.proofs.Common.{◌∙◌, ap, arith}
use Rattle.lq_entries.specs.Log.{log_of}
use Rattle.lq_journal.specs.State.{disk_of}
use Rattle.lq_entries.proofs.Logs.{cut_maybe, cut_none, entries_more, entries_same, has_room, lacks_room, log_is, size_is}
use Rattle.lq_entries.proofs.Moments.{added, kept}
use Rattle.lq_entries.proofs.writing.append_one.Goals as goal

pub returns-in-Err-clause-does : goal.returns-in-Err-clause-does
returns-in-Err-clause-does g c =
    let e = c.in-Err.ensures in
    cut_none _ _ _ e.opening.dialect_is e.opening.limit_is (entries_same _ _ _ _ _ _ e.opening.dialect_is e.opening.limit_is e.same)

pub returns-in-Err-clause-crash : goal.returns-in-Err-clause-crash
returns-in-Err-clause-crash g c =
    let e = c.in-Err.ensures in
    kept _ _ _ _ _ _ _ _ e.opening.dialect_is e.opening.limit_is (e.any_moment c.requires.whole.settled)

pub returns-in-Ok-append-clause-does : goal.returns-in-Ok-append-clause-does
returns-in-Ok-append-clause-does g c =
    let e = c.in-Ok.ensures in
    let f = c.in-Ok-append.ensures in
    let s = size_is (g.B.Encoded.says c.args.entry.now) in
    let room = has_room c.args.room _ _ _ _ (g.B.Encoded.says c.args.entry.now) e.opening.limit_is e.used (λ less. cc (f.full.0 less)) in (
      room,
      log_is _ _ _ _ _ _ _ _ (f.opening.dialect_is ∙ e.opening.dialect_is) (f.opening.limit_is ∙ e.opening.limit_is) (omega (arith, f.used, e.used, s))
          (entries_more _ _ _ _ _ _ _ _ _ _ _ e.opening.dialect_is e.opening.limit_is f.opening.dialect_is f.opening.limit_is e.same f.added),
    )

pub returns-in-Ok-append-clause-crash : goal.returns-in-Ok-append-clause-crash
returns-in-Ok-append-clause-crash g c =
    let e = c.in-Ok.ensures in
    let f = c.in-Ok-append.ensures in
    added _ _ _ _ _ _ _ _ _ _ _ _ _ e.opening.dialect_is e.opening.limit_is f.opening.dialect_is f.opening.limit_is (e.any_moment c.requires.whole.settled) e.same (f.any_moment (e.durable c.requires.whole.settled))

pub returns-in-Err-Disk-clause-does : goal.returns-in-Err-Disk-clause-does
returns-in-Err-Disk-clause-does g c =
    let e = c.in-Ok.ensures in
    let f = c.in-Err-Disk.ensures in
    cut_maybe _ _ _ _ _ _ _ _ _ _ _ _ _ e.opening.dialect_is e.opening.limit_is f.opening.dialect_is f.opening.limit_is e.same f.failed

pub returns-in-Err-Disk-clause-crash : goal.returns-in-Err-Disk-clause-crash
returns-in-Err-Disk-clause-crash g c =
    let e = c.in-Ok.ensures in
    let f = c.in-Err-Disk.ensures in
    added _ _ _ _ _ _ _ _ _ _ _ _ _ e.opening.dialect_is e.opening.limit_is f.opening.dialect_is f.opening.limit_is (e.any_moment c.requires.whole.settled) e.same (f.any_moment (e.durable c.requires.whole.settled))

pub returns-in-Err-Full-clause-does : goal.returns-in-Err-Full-clause-does
returns-in-Err-Full-clause-does g c =
    let e = c.in-Ok.ensures in
    let f = c.in-Err-Full.ensures in
    let s = size_is (g.B.Encoded.says c.args.entry.now) in
    let numbers = rw c.in-Err-Full.field-0-is at f.fault in
    let same = rw c.in-Err-Full.field-0-is at f.unchanged in
    let why = c.in-Err-Full.field-0-is in
    let less = f.full.1 (cc) in (
      lacks_room c.args.room _ _ _ _ (g.B.Encoded.says c.args.entry.now) e.opening.limit_is e.used less,
      (
        numbers.0 ∙ e.used,
        (
          omega (arith, numbers.1, s),
          ap (λ j. log_of (g.D.Disk.told (disk_of j)) j) (same tt) ∙ log_is _ _ _ _ _ _ _ _ e.opening.dialect_is e.opening.limit_is e.used (entries_same _ _ _ _ _ _ e.opening.dialect_is e.opening.limit_is e.same),
        ),
      ),
    )

pub returns-in-Err-Full-clause-crash : goal.returns-in-Err-Full-clause-crash
returns-in-Err-Full-clause-crash g c =
    let e = c.in-Ok.ensures in
    let f = c.in-Err-Full.ensures in
    added _ _ _ _ _ _ _ _ _ _ _ _ _ e.opening.dialect_is e.opening.limit_is f.opening.dialect_is f.opening.limit_is (e.any_moment c.requires.whole.settled) e.same (f.any_moment (e.durable c.requires.whole.settled))
