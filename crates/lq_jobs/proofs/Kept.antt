-- The headline from what calls leave.
use Rattle.std.proofs.Common.{subst, sym}
use Rattle.std.specs.Prelude.{List, Option, Some, length, true, ℕ, ◌≡◌}
use Rattle.lq_base.specs.declared.command.Target.{Target}
use Rattle.lq_base.specs.declared.dialect.Dialect.{Dialect}
use Rattle.lq_commands.proofs.Planned.{kept}
use Rattle.lq_commands.proofs.ViewsRead.{views_are_read}
use Rattle.lq_commands.specs.Scripts.{log_in, rollback_script, rollback_to, sets_in, sync_script, update_script}
use Rattle.lq_commands.specs.declared.given.Given.{Given}
use Rattle.lq_kinds.specs.ReadFor.{AreFor}
use Rattle.lq_any.specs.declared.any_change.AnyChange.{AnyChange}
use Rattle.lq_model.specs.Sound.{IsSound}
use Rattle.lq_seen.specs.View.{any_meaning}
use Rattle.lq_track.specs.Database.{Database}
use Rattle.lq_turns.proofs.Synced.{sync_rests}
use Rattle.lq_turns.proofs.Undone.{rollback_rests}
use Rattle.lq_turns.proofs.Updates.{update_rests}
use Rattle.lq_turns.specs.Deed.{Contents, contents_of}
use Rattle.lq_turns.specs.Laws.{AreKnown, IsAtRest, synced}
use Rattle.lq_turns.specs.Ran.{RanSince, Run, are_reversible}
use Rattle.lq_turns.specs.Script.{rows_kept}
use Rattle.lq_turns.specs.Session.{left_by}
use Rattle.lq_turns.specs.Settle.{updated}
use Rattle.lq_jobs.specs.Bytes.{Becomes}
use Rattle.lq_jobs.specs.Headline.{HoldsAtRest}

module _ (given : Given) (database : Database) (before after : Option (List ℕ)) where
  abbrev d : Dialect
  d = given.options.dialect

  pub updates : IsSound d database.users → AreFor d given.changelog → Becomes d (update_script given database) database before after
      → HoldsAtRest d after database (updated d any_meaning given.stamp.reading (log_in given) (contents_of database)).contents
  updates sound read becomes =
      (left_by d (update_script given database) database, becomes.holds, update_rests any_meaning kept d given.stamp (log_in given) database sound (views_are_read d given.options given.changelog read))

  pub syncs : Becomes d (sync_script given database) database before after → HoldsAtRest d after database (synced given.stamp.reading (sets_in given) (contents_of database)).contents
  syncs becomes = (left_by d (sync_script given database) database, becomes.holds, sync_rests d given.stamp (log_in given) database)

  pub restores : (target : Target) (point : Contents) (ran : List (Run AnyChange)) → RanSince d any_meaning point ran (contents_of database) → are_reversible d any_meaning ran point.users ≡ true
      → AreKnown d any_meaning (sets_in given) ran → rows_kept target database.rows ≡ Some (length point.rows) → Becomes d (rollback_script given target database) database before after → HoldsAtRest d after database point
  restores target point ran since reversible known stays becomes = (
    left_by d (rollback_script given target database) database,
    becomes.holds,
    subst (λ (o : Option ℕ). IsAtRest database point (left_by d (rollback_to given o database) database)) (sym stays) (rollback_rests any_meaning kept d given.stamp (sets_in given) point ran database since reversible known),
  )
