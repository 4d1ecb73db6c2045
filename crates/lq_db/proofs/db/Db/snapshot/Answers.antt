use Rattle.std.proofs.Common.{rules, ◌≡◌, ◌∙◌, ap, false, refl, sym, true}
use Rattle.lq_db.specs.Db.{is_unwritten, lives}
use Rattle.lq_entries.specs.Log.{log_of}
use Rattle.lq_journal.specs.State.{dialect_of, disk_of, limit_of}
use Rattle.lq_session.specs.Session.{begun_in}
use Rattle.lq_db.proofs.AloneLeft.{closed_same}
use Rattle.lq_db.proofs.Lasts.{ends_told}
use Rattle.lq_db.proofs.RanItself.{whole_lives}
use Rattle.lq_db.proofs.Snapshots.{none_begun, not_wanting, snapshot_crash, snapshot_does, snapshot_held, snapshot_last, snapshot_opening, snapshot_reads}
use Rattle.lq_db.proofs.db.Db.snapshot.Goals as goal

pub returns-then-not-has_text-clause-does : goal.returns-then-not-has_text-clause-does
returns-then-not-has_text-clause-does g c =
    let is = c.requires.valid.lives c.requires.live in
    let has : c.has_text.result ≡ false = search rules in
    (rw has at (ends_told (dialect_of c.args.self.now.journal) (limit_of c.args.self.now.journal) (g.D.Disk.told (disk_of c.args.self.now.journal)) c.args.self.now.texts.in_journal c.has_text.result is.last_is.in_journal c.has_text.ensures), refl)

pub returns-clause-does : goal.returns-clause-does
returns-clause-does g c =
    let is = c.requires.valid.lives c.requires.live in
    let x = log_of (g.D.Disk.told (disk_of c.args.self.now.journal)) c.args.self.now.journal in
    let y = log_of (g.D.Disk.told (disk_of c.append_state-done.new.to)) c.append_state-done.new.to in
    let h = g.E.Executor.held c.args.self.now.engine in
    let none = none_begun h c.args.self.now.begun c.requires.closed in
    let same = closed_same _ h _ _ none is.is_held.begun_is in
    let has : c.has_text.result ≡ true = search rules in
    let ends = rw has at (ends_told (dialect_of c.args.self.now.journal) (limit_of c.args.self.now.journal) (g.D.Disk.told (disk_of c.args.self.now.journal)) c.args.self.now.texts.in_journal c.has_text.result is.last_is.in_journal c.has_text.ensures) in
    rw (c.note.ensures.result, c.note.ensures.live)
    (snapshot_does _ _ _ (begun_in h c.args.self.now.begun) x y _ _ same ends c.append_state-done.ensures.size c.append_state-done.ensures.does)

pub returns-clause-valid : goal.returns-clause-valid
returns-clause-valid g c =
    let is = c.requires.valid.lives c.requires.live in
    let x = log_of (g.D.Disk.told (disk_of c.args.self.now.journal)) c.args.self.now.journal in
    let y = log_of (g.D.Disk.told (disk_of c.append_state-done.new.to)) c.append_state-done.new.to in
    let h = g.E.Executor.held c.args.self.now.engine in
    let none = none_begun h c.args.self.now.begun c.requires.closed in
    let wrote = c.append_state-done.ensures in
    let journal = snapshot_opening h x y c.args.self.now.begun none c.append_state-done.result wrote.does ∙ is.journal_is in
    record {
      journal_is = journal;
      lives = λ live.
          let alive : lives c.append_state-done.result true ≡ true = ap (lives c.append_state-done.result) (sym c.requires.live) ∙ (sym c.note.ensures.live ∙ live) in
          record {
            whole = whole_lives _ _ alive wrote.whole;
            sql_is = is.sql_is;
            journal_is = journal;
            is_held = snapshot_held h x y c.args.self.now.begun none _ _ c.append_state-done.result alive wrote.reads wrote.does is.is_held;
            last_is = snapshot_last h x y c.args.self.now.begun none c.args.self.now.texts c.note_state.new.self c.append_state-done.result alive wrote.does c.note_state.ensures is.last_is;
          };
    }

pub returns-clause-crash : goal.returns-clause-crash
returns-clause-crash g c =
    let is = c.requires.valid.lives c.requires.live in
    let h = g.E.Executor.held c.args.self.now.engine in
    let none = none_begun h c.args.self.now.begun c.requires.closed in
    let same = closed_same _ h _ _ none is.is_held.begun_is in
    let has : c.has_text.result ≡ true = search rules in
    let ends = rw has at (ends_told (dialect_of c.args.self.now.journal) (limit_of c.args.self.now.journal) (g.D.Disk.told (disk_of c.args.self.now.journal)) c.args.self.now.texts.in_journal c.has_text.result is.last_is.in_journal c.has_text.ensures) in
    snapshot_crash _ _ _ _ _ same ends c.append_state-done.ensures.crash

pub returns-clause-reads : goal.returns-clause-reads
returns-clause-reads g c =
    let is = c.requires.valid.lives c.requires.live in
    let h = g.E.Executor.held c.args.self.now.engine in
    let none = none_begun h c.args.self.now.begun c.requires.closed in
    let same = closed_same _ h _ _ none is.is_held.begun_is in
    let has : c.has_text.result ≡ true = search rules in
    let ends = rw has at (ends_told (dialect_of c.args.self.now.journal) (limit_of c.args.self.now.journal) (g.D.Disk.told (disk_of c.args.self.now.journal)) c.args.self.now.texts.in_journal c.has_text.result is.last_is.in_journal c.has_text.ensures) in
    λ written. record {
      due = ends;
      reads = snapshot_reads c.args.self.now.dialect h is.is_held.dialect_is same
          (c.append_state-done.ensures.made (not_wanting c.append_state-done.result (ap is_unwritten (sym c.note.ensures.result) ∙ written)));
    }
