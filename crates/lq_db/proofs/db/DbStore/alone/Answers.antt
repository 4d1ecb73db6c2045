use Rattle.std.proofs.Common.{◌∙◌, ap, None}
use Rattle.lq_db.specs.Alone.{ended_by}
use Rattle.lq_store.specs.Executor.{kept}
use Rattle.lq_store.specs.Journal.{of_texts}
use Rattle.lq_store.specs.Work.{outcome_all, work_in}
use Rattle.lq_db.proofs.AloneLeft.{done_held}
use Rattle.lq_db.proofs.Lasts.{renewed_last}
use Rattle.lq_db.proofs.db.DbStore.alone.Goals as goal

pub returns-in-Ran-clause-valid : goal.returns-in-Ran-clause-valid
returns-in-Ran-clause-valid g c =
    let is = c.requires.valid.lives c.requires.live in
    let log = c.in-Ok-append_all.ensures.does.1 in
    let meant = c.in-Ok.ensures in
    let journal = ap (λ l. l.dialect) log ∙ is.journal_is in
    record {
      journal_is = journal;
      lives = λ live. record {
        whole = c.in-Ok-append_all.ensures.whole;
        sql_is = is.sql_is;
        journal_is = journal;
        is_held = rw c.forget.ensures (done_held _ (ended_by c.in-Ok.prepared.ended 0) (outcome_all c.args.self.now.dialect c.args.texts.now (work_in None (kept (g.E.Executor.held c.args.self.now.engine)))) (g.E.Executor.held c.args.self.now.engine) (g.E.Executor.held c.prepare.new.engine) (of_texts c.in-Ok.prepared.entries) _ _ _ c.in-Ok.prepared.lock _ c.in_default.is meant.0 meant.2 (rw c.as_slice.ensures at (ap (λ l. l.entries) log)) is.is_held);
        last_is = renewed_last _ _ c.in-Ok.prepared.entries _ c.in-Ok.prepared.last _ _ c.in_default.is meant.3 (rw c.as_slice.ensures at (ap (λ l. l.entries) log)) c.renew.ensures is.last_is;
      };
    }

pub returns-in-Ok-append_all-clause-valid : goal.returns-in-Ok-append_all-clause-valid
returns-in-Ok-append_all-clause-valid g c =
    let is = c.requires.valid.lives c.requires.live in
    let log = c.in-Ok-append_all.ensures.does.1 in
    let meant = c.in-Ok.ensures in
    let journal = ap (λ l. l.dialect) log ∙ is.journal_is in
    record {
      journal_is = journal;
      lives = λ live. record {
        whole = c.in-Ok-append_all.ensures.whole;
        sql_is = is.sql_is;
        journal_is = journal;
        is_held = rw c.forget.ensures (done_held _ (ended_by c.in-Ok.prepared.ended 0) (outcome_all c.args.self.now.dialect c.args.texts.now (work_in None (kept (g.E.Executor.held c.args.self.now.engine)))) (g.E.Executor.held c.args.self.now.engine) (g.E.Executor.held c.prepare.new.engine) (of_texts c.in-Ok.prepared.entries) _ _ _ c.in-Ok.prepared.lock _ c.in_default.is meant.0 meant.2 (rw c.as_slice.ensures at (ap (λ l. l.entries) log)) is.is_held);
        last_is = renewed_last _ _ c.in-Ok.prepared.entries _ c.in-Ok.prepared.last _ _ c.in_default.is meant.3 (rw c.as_slice.ensures at (ap (λ l. l.entries) log)) c.renew.ensures is.last_is;
      };
    }

pub returns-in-Err-Disk-clause-valid : goal.returns-in-Err-Disk-clause-valid
returns-in-Err-Disk-clause-valid g c =
    let cut = rw c.in-Err-Disk.field-0-is at c.in-Err-Disk.ensures.does in
    record { journal_is = cut.dialect_is ∙ c.requires.valid.journal_is; lives = λ live. cc }
