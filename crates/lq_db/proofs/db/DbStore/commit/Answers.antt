use Rattle.std.proofs.Common.{◌∙◌, refl, sym, ap}
use Rattle.lq_entries.specs.Log.{log_of}
use Rattle.lq_journal.specs.State.{disk_of}
use Rattle.lq_session.specs.declared.open.Open.{Open}
use Rattle.lq_db.proofs.Commits.{begun_same, committed_ok, failed, held_ok, open_is, uncommitted, uncommitted_held, written_is}
use Rattle.lq_db.proofs.Lasts.{committed_last, same_last}
use Rattle.lq_db.proofs.db.DbStore.commit.Goals as goal

pub returns-in-Ok-clause-does : goal.returns-in-Ok-clause-does
returns-in-Ok-clause-does g c =
    let begun = sym c.take.ensures.value ∙ c.in-Some.is in
    let begun_is = open_is _ (g.E.Executor.held c.args.self.now.engine) _ _ _ begun (c.requires.valid.lives c.requires.live).is_held.begun_is in
    let does = c.in-Ok.ensures.does in
    committed_ok _ (g.E.Executor.held c.args.self.now.engine) (g.E.Executor.held c.commit.new.engine) _ _ _ (log_of (g.D.Disk.told (disk_of c.args.self.now.journal)) c.args.self.now.journal) (log_of (g.D.Disk.told (disk_of c.commit.new.journal)) c.commit.new.journal) _ begun c.take.ensures.after begun_is.some c.in-Ok.ensures.kept does.0 does.1

pub returns-in-Ok-clause-valid : goal.returns-in-Ok-clause-valid
returns-in-Ok-clause-valid g c =
    let is = c.requires.valid.lives c.requires.live in
    let begun = sym c.take.ensures.value ∙ c.in-Some.is in
    let log = c.in-Ok.ensures.does.1 in
    let journal = ap (λ l. l.dialect) log ∙ is.journal_is in
    record {
      journal_is = journal;
      lives = λ live. record {
        whole = c.in-Ok.ensures.whole;
        sql_is = is.sql_is;
        journal_is = journal;
        is_held = held_ok _ (g.E.Executor.held c.args.self.now.engine) (g.E.Executor.held c.commit.new.engine) _ _ _ _ _ _ _ begun c.take.ensures.after c.in-Ok.ensures.kept (ap (λ l. l.entries) log) c.in-Ok.ensures.lock is.is_held;
        last_is = rw c.commit-in-Ok.ensures (committed_last _ _ _ _ _ _ begun c.take.ensures.after (ap (λ l. l.entries) log) is.last_is);
      };
    }

pub returns-in-Ok-clause-crash : goal.returns-in-Ok-clause-crash
returns-in-Ok-clause-crash g c =
    let begun = sym c.take.ensures.value ∙ c.in-Some.is in
    let begun_is = open_is _ (g.E.Executor.held c.args.self.now.engine) _ _ _ begun (c.requires.valid.lives c.requires.live).is_held.begun_is in
    rw (written_is (g.E.Executor.held c.args.self.now.engine) _ _ _ begun begun_is.some) c.in-Ok.ensures.crash

pub returns-in-Err-Disk-clause-does : goal.returns-in-Err-Disk-clause-does
returns-in-Err-Disk-clause-does g c =
    let begun = sym c.take.ensures.value ∙ c.in-Some.is in
    let begun_is = open_is _ (g.E.Executor.held c.args.self.now.engine) _ _ _ begun (c.requires.valid.lives c.requires.live).is_held.begun_is in
    failed _ _ _ _ _ _ _ (log_of (g.D.Disk.told (disk_of c.args.self.now.journal)) c.args.self.now.journal) (log_of (g.D.Disk.told (disk_of c.commit.new.journal)) c.commit.new.journal) _ (written_is (g.E.Executor.held c.args.self.now.engine) _ _ _ begun begun_is.some) (rw c.in-Err-Disk.field-0-is at c.in-Err-Disk.ensures.does)

pub returns-in-Err-Disk-clause-crash : goal.returns-in-Err-Disk-clause-crash
returns-in-Err-Disk-clause-crash g c =
    let begun = sym c.take.ensures.value ∙ c.in-Some.is in
    let begun_is = open_is _ (g.E.Executor.held c.args.self.now.engine) _ _ _ begun (c.requires.valid.lives c.requires.live).is_held.begun_is in
    rw (written_is (g.E.Executor.held c.args.self.now.engine) _ _ _ begun begun_is.some) c.in-Err-Disk.ensures.crash

pub returns-in-Err-Full-clause-crash : goal.returns-in-Err-Full-clause-crash
returns-in-Err-Full-clause-crash g c =
    let begun = sym c.take.ensures.value ∙ c.in-Some.is in
    let begun_is = open_is _ (g.E.Executor.held c.args.self.now.engine) _ _ _ begun (c.requires.valid.lives c.requires.live).is_held.begun_is in
    rw (written_is (g.E.Executor.held c.args.self.now.engine) _ _ _ begun begun_is.some) c.in-Err-Full.ensures.crash

pub returns-in-Err-Disk-clause-valid : goal.returns-in-Err-Disk-clause-valid
returns-in-Err-Disk-clause-valid g c =
    let cut = rw c.in-Err-Disk.field-0-is at c.in-Err-Disk.ensures.does in
    record { journal_is = cut.dialect_is ∙ c.requires.valid.journal_is; lives = λ live. cc }

pub returns-in-Err-Full-clause-does : goal.returns-in-Err-Full-clause-does
returns-in-Err-Full-clause-does g c =
    let begun = sym c.take.ensures.value ∙ c.in-Some.is in
    let begun_is = open_is _ (g.E.Executor.held c.args.self.now.engine) _ _ _ begun (c.requires.valid.lives c.requires.live).is_held.begun_is in
    uncommitted _ (g.E.Executor.held c.args.self.now.engine) (g.E.Executor.held c.commit.new.engine) _ _ _ _ _ (log_of (g.D.Disk.told (disk_of c.args.self.now.journal)) c.args.self.now.journal) (log_of (g.D.Disk.told (disk_of c.commit.new.journal)) c.commit.new.journal) _ _ _ begun begun_is.some (rw c.in-Err-Full.field-0-is at c.in-Err-Full.ensures.does) c.in-Err-Full.ensures.back

pub returns-in-Err-Full-clause-valid : goal.returns-in-Err-Full-clause-valid
returns-in-Err-Full-clause-valid g c =
    let is = c.requires.valid.lives c.requires.live in
    let begun = sym c.take.ensures.value ∙ c.in-Some.is in
    let same = rw c.in-Err-Full.field-0-is at c.in-Err-Full.ensures.does in
    let log = same.1.1.1 in
    let journal = ap (λ l. l.dialect) log ∙ is.journal_is in
    record {
      journal_is = journal;
      lives = λ live. record {
        whole = rw c.in-Err-Full.field-0-is at c.in-Err-Full.ensures.whole;
        sql_is = is.sql_is;
        journal_is = journal;
        is_held = uncommitted_held _ (g.E.Executor.held c.args.self.now.engine) (g.E.Executor.held c.commit.new.engine) _ _ _ _ _ _ _ begun (ap (λ l. l.entries) log) c.in-Err-Full.ensures.back is.is_held;
        last_is = same_last _ _ _ _ _ _ _ begun refl (ap (λ (o : Open). o.entry) (begun_same _ _ c.in-Err-Full.ensures.back)) (ap (λ l. l.entries) log) is.last_is;
      };
    }
