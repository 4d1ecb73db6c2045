-- The calls of a rollback and of a changelog-sync are made of all but the lock.
use Rattle.std.proofs.Common.{refl}
use Rattle.std.specs.Prelude.{List, None, Option, Some, [], ℕ, ◌∷◌, ◌≡◌}
use Rattle.laws_repair.proofs.Unlocked.{locked_as}
use Rattle.lq_base.specs.declared.command.Target.{Target}
use Rattle.lq_base.specs.declared.tracking.Lock.{Lock}
use Rattle.lq_base.specs.declared.tracking.Tracked.{Tracked}
use Rattle.lq_commands.specs.Scripts.{rollback_script, rollback_to, sets_in, sync_script}
use Rattle.lq_commands.specs.declared.given.Given.{Given}
use Rattle.lq_seen.specs.View.{any_meaning}
use Rattle.lq_track.specs.Database.{Database}
use Rattle.lq_turns.specs.Script.{rollback_of, rows_kept, rows_undone, undo_turns, rows_to_sync, sync_of}
use Rattle.lq_turns.specs.declared.call.Call.{Call}
use Rattle.lq_turns.specs.declared.turn.Turn.{Turn}

module _ (given : Given) (lock : Lock) (database : Database) where
  turns_as : (turns : List Turn) → rollback_of given.options.dialect given.stamp turns (locked_as lock database) ≡ rollback_of given.options.dialect given.stamp turns database
  turns_as [] = refl
  turns_as (turn ∷ turns) = refl

  -- of turns, where there are any
  abbrev undone_by : Database → Option (List Turn) → List Call
  undone_by x o = elim o as (λ _. List Call) [ Some turns ↦ rollback_of given.options.dialect given.stamp turns x | None ↦ [] ]

  undone_as : (o : Option (List Turn)) → undone_by (locked_as lock database) o ≡ undone_by database o
  undone_as None = refl
  undone_as (Some turns) = turns_as turns

  stay_as : (o : Option ℕ) → rollback_to given o (locked_as lock database) ≡ rollback_to given o database
  stay_as None = refl
  stay_as (Some stay) = undone_as (undo_turns given.options.dialect any_meaning (sets_in given) (rows_undone stay database.rows))

  pub back_as : (target : Target) → rollback_script given target (locked_as lock database) ≡ rollback_script given target database
  back_as target = stay_as (rows_kept target database.rows)

  rows_as : (rows : List Tracked) → sync_of given.options.dialect given.stamp rows (locked_as lock database) ≡ sync_of given.options.dialect given.stamp rows database
  rows_as [] = refl
  rows_as (row ∷ rows) = refl

  pub sync_as : sync_script given (locked_as lock database) ≡ sync_script given database
  sync_as = rows_as (rows_to_sync given.stamp.reading (sets_in given) database.rows)
