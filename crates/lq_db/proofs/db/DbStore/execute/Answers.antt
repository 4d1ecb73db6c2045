use Rattle.std.proofs.Common.{◌≡◌, ◌∙◌, true, refl, sym, ap}
use Rattle.lq_journal.specs.State.{disk_of}
use Rattle.lq_db.specs.Db.{lives}
use Rattle.lq_entries.specs.Log.{log_of}
use Rattle.lq_db.proofs.Commits.{open_is}
use Rattle.lq_db.proofs.Executed.{taken_held}
use Rattle.lq_db.proofs.Lasts.{itself_last, taken_last}
use Rattle.lq_db.proofs.RanItself.{itself_held, itself_written, ran_itself, same_opening, whole_lives}
use Rattle.lq_entries.proofs.Moments.{stood}
use Rattle.lq_db.proofs.db.DbStore.execute.Goals as goal

pub returns-clause-valid : goal.returns-clause-valid
returns-clause-valid g c =
    let is = c.requires.valid.lives c.requires.live in
    let spelled = rw is.sql_is at c.in-Ok.ensures in
    let stated = rw is.sql_is at (g.met.P.SqlText.spelled _ _ c.in-Ok.ensures) in
    record {
      journal_is = is.journal_is;
      lives = λ live. record {
        whole = is.whole;
        sql_is = is.sql_is;
        journal_is = is.journal_is;
        is_held = taken_held _ _ _ _ (g.E.Executor.held c.args.self.now.engine) (g.E.Executor.held c.take-done.new.engine) _ _ _ _ _ _ c.in-Some.is spelled stated c.take-done.ensures is.is_held;
        last_is = taken_last _ _ _ (g.E.Executor.held c.args.self.now.engine) (g.E.Executor.held c.take-done.new.engine) _ _ _ _ _ _ _ c.in-Some.is c.take-done.ensures (rw c.in-Ok-new.ensures at c.note_taken.ensures) is.last_is;
      };
    }

pub returns-clause-crash : goal.returns-clause-crash
returns-clause-crash g c = stood _ _ _ _ _ _ _ (g.met.D.Disk.sound _) (c.requires.valid.lives c.requires.live).whole.settled refl refl

pub returns-then-commits_itself-clause-does : goal.returns-then-commits_itself-clause-does
returns-then-commits_itself-clause-does g c =
    let is = c.requires.valid.lives c.requires.live in
    let x = log_of (g.D.Disk.told (disk_of c.args.self.now.journal)) c.args.self.now.journal in
    let y = log_of (g.D.Disk.told (disk_of c.run_itself-done.new.journal)) c.run_itself-done.new.journal in
    let begun = open_is _ (g.E.Executor.held c.args.self.now.engine) _ _ _ c.in-Some.is is.is_held.begun_is in
    let spelled = rw is.sql_is at c.in-Ok.ensures in
    let itself = sym c.commits_itself.ensures ∙ c.if-commits_itself.true in
    rw (c.note.ensures.result, c.note.ensures.live)
    (ran_itself _ _ _ _ (g.E.Executor.held c.args.self.now.engine) (g.E.Executor.held c.run_itself-done.new.engine) _ _ _ _ c.run_itself-done.new.lock x y _ _ c.in-Some.is begun.some spelled itself c.run_itself-done.ensures.does)

pub returns-then-commits_itself-clause-valid : goal.returns-then-commits_itself-clause-valid
returns-then-commits_itself-clause-valid g c =
    let is = c.requires.valid.lives c.requires.live in
    let x = log_of (g.D.Disk.told (disk_of c.args.self.now.journal)) c.args.self.now.journal in
    let y = log_of (g.D.Disk.told (disk_of c.run_itself-done.new.journal)) c.run_itself-done.new.journal in
    let spelled = rw is.sql_is at c.in-Ok.ensures in
    let stated = rw is.sql_is at (g.met.P.SqlText.spelled _ _ c.in-Ok.ensures) in
    let opening = same_opening c.args.self.now.dialect c.args.by c.args.text.now c.in-Ok.statement (g.E.Executor.held c.args.self.now.engine) (g.E.Executor.held c.run_itself-done.new.engine) c.in-Some.begun c.run_itself-done.new.begun c.args.self.now.lock c.run_itself-done.new.lock x y c.run_itself-done.result c.run_itself-done.ensures.does in
    record {
      journal_is = opening.0 ∙ is.journal_is;
      lives = λ live.
          let alive : lives c.run_itself-done.result true ≡ true = ap (lives c.run_itself-done.result) (sym c.requires.live) ∙ (sym c.note.ensures.live ∙ live) in
          record {
            whole = whole_lives _ _ alive c.run_itself-done.ensures.whole;
            sql_is = is.sql_is;
            journal_is = opening.0 ∙ is.journal_is;
            is_held = itself_held _ _ _ _ (g.E.Executor.held c.args.self.now.engine) (g.E.Executor.held c.run_itself-done.new.engine) _ _ _ _ _ x y _ alive c.in-Some.is spelled stated c.run_itself-done.ensures.does is.is_held;
            last_is = itself_last _ _ _ (g.E.Executor.held c.args.self.now.engine) (g.E.Executor.held c.run_itself-done.new.engine) _ _ _ _ _ x y _ _ _ alive c.in-Some.is c.run_itself-done.ensures.does (rw c.in-Ok-new.ensures at c.note_itself.ensures) is.last_is;
          };
    }

pub returns-then-commits_itself-clause-crash : goal.returns-then-commits_itself-clause-crash
returns-then-commits_itself-clause-crash g c =
    let is = c.requires.valid.lives c.requires.live in
    let x = log_of (g.D.Disk.told (disk_of c.args.self.now.journal)) c.args.self.now.journal in
    let begun = open_is _ (g.E.Executor.held c.args.self.now.engine) _ _ _ c.in-Some.is is.is_held.begun_is in
    let spelled = rw is.sql_is at c.in-Ok.ensures in
    let itself = sym c.commits_itself.ensures ∙ c.if-commits_itself.true in
    rw (itself_written _ _ _ _ (g.E.Executor.held c.args.self.now.engine) _ _ x c.args.self.now.live c.in-Some.is begun.some spelled itself) c.run_itself-done.ensures.crash

pub returns-in-Err-NotSql-clause-crash : goal.returns-in-Err-NotSql-clause-crash
returns-in-Err-NotSql-clause-crash g c = stood _ _ _ _ _ _ _ (g.met.D.Disk.sound _) (c.requires.valid.lives c.requires.live).whole.settled refl refl

pub returns-in_default-clause-crash : goal.returns-in_default-clause-crash
returns-in_default-clause-crash g c = stood _ _ _ _ _ _ _ (g.met.D.Disk.sound _) (c.requires.valid.lives c.requires.live).whole.settled refl refl

pub returns-in-Err-OutOfMemory-clause-crash : goal.returns-in-Err-OutOfMemory-clause-crash
returns-in-Err-OutOfMemory-clause-crash g c = stood _ _ _ _ _ _ _ (g.met.D.Disk.sound _) (c.requires.valid.lives c.requires.live).whole.settled refl refl
