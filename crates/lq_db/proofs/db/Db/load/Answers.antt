use Rattle.std.proofs.Common.{◌∙◌, refl, sym, ap, drop}
use Rattle.lq_frames.specs.Body.{has_state}
use Rattle.lq_journal.specs.State.{dialect_of, limit_of, disk_of}
use Rattle.lq_db.proofs.Loaded.{db_fault, raised_catalogue, raised_clean, raised_held, undamaged}
use Rattle.lq_db.proofs.Lasts.{loaded_last}
use Rattle.lq_db.proofs.db.Db.load.Goals as goal

pub returns-in-Err-raise-clause-fault : goal.returns-in-Err-raise-clause-fault
returns-in-Err-raise-clause-fault g c =
    db_fault g.P.SqlText.dialect c.args.dialect c.args.limit _ c.used-used.result _ _ _ _ c.as_slice.result.now c.in-Err-raise.fault c.requires.sql c.as_slice.ensures c.used-used.ensures c.in-Ok.ensures.read c.in-Err-raise.ensures

pub returns-in-Ok-raise-clause-valid : goal.returns-in-Ok-raise-clause-valid
returns-in-Ok-raise-clause-valid g c =
    let e = c.in-Ok.ensures in
    record {
      whole = record {
        loaded = e.loaded;
        settled = e.settled;
        undamaged = undamaged c.args.dialect (dialect_of c.in-Ok.journal) c.args.limit (limit_of c.in-Ok.journal) _ _ _ _ e.read e.told e.dialect e.limit;
      };
      sql_is = c.requires.sql;
      journal_is = e.dialect;
      is_held = raised_held g.P.SqlText.dialect c.args.dialect (dialect_of c.in-Ok.journal) c.args.limit (limit_of c.in-Ok.journal) _ _ _ _ c.as_slice.result.now (g.E.Executor.held c.in-Ok-raise.raised.engine) c.in-Ok-raise.raised.lock c.requires.sql e.dialect e.limit e.told c.as_slice.ensures e.read c.in-Ok-raise.ensures;
      last_is = loaded_last c.args.dialect (dialect_of c.in-Ok.journal) c.args.limit (limit_of c.in-Ok.journal) _ _ _ _ _ e.dialect e.limit e.told e.read c.last_of.ensures;
    }

pub returns-in-Ok-raise-clause-catalogue : goal.returns-in-Ok-raise-clause-catalogue
returns-in-Ok-raise-clause-catalogue g c =
    raised_catalogue g.P.SqlText.dialect c.args.dialect c.args.limit _ _ _ c.as_slice.result.now (g.E.Executor.held c.in-Ok-raise.raised.engine) c.in-Ok-raise.raised.lock c.requires.sql c.as_slice.ensures c.in-Ok.ensures.read c.in-Ok-raise.ensures

pub returns-in-Ok-raise-clause-clean : goal.returns-in-Ok-raise-clause-clean
returns-in-Ok-raise-clause-clean g c =
    raised_clean g.P.SqlText.dialect c.args.dialect _ (g.E.Executor.held c.in-Ok-raise.raised.engine) c.in-Ok-raise.raised.lock c.requires.sql c.in-Ok-raise.ensures

pub raise-requires-clause-states : goal.raise-requires-clause-states
raise-requires-clause-states g c = ap (λ es. has_state (drop 1 es)) c.as_slice.ensures ∙ c.in-Ok.ensures.texts_behind
