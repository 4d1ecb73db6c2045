-- Each command's script closes, and its answer is its own.
use Rattle.std.proofs.Common.{ap, sym, ◌∙◌}
use Rattle.std.specs.Prelude.{Bool, List, None, Option, Some, [], false, if◌then◌else◌, map, not, option_map, refl, true, ℕ, ◌&&◌, ◌++◌, ◌∷◌, ◌≡◌}
use Rattle.lq_alone.specs.Stopped.{ClosesIn}
use Rattle.lq_base.specs.declared.command.Command.TheVariants as command
use Rattle.lq_base.specs.declared.command.Command.{Command}
use Rattle.lq_base.specs.declared.dialect.Dialect.{Dialect}
use Rattle.lq_base.specs.declared.tracking.Lock.{Lock}
use Rattle.lq_base.specs.declared.tracking.Tracked.{Tracked}
use Rattle.lq_drill.specs.declared.fault.DrillFault.TheVariants as fault
use Rattle.lq_drill.specs.declared.fault.DrillFault.{DrillFault}
use Rattle.lq_any.specs.declared.any_change.AnyChange.{AnyChange}
use Rattle.lq_model.specs.declared.caller.Room.TheVariants.{Ordinary}
use Rattle.lq_players.proofs.Refused.{refused_early}
use Rattle.lq_players.specs.Tasks.{answer_by, refuses, stop_of}
use Rattle.lq_playing.specs.Answers.{answer_of, as_failed, as_locked, failure_of, is_failure, only}
use Rattle.lq_playing.specs.declared.came.Came.{Came}
use Rattle.lq_seen.specs.View.{any_meaning}
use Rattle.lq_solo.specs.Solo.{ScriptsClose, WorksAnswerOwn}
use Rattle.lq_track.specs.Database.{Database}
use Rattle.lq_track.specs.Log.{identity_of}
use Rattle.lq_turns.specs.Deed.{contents_of}
use Rattle.lq_turns.specs.Jobs.{needs_lock, script_of}
use Rattle.lq_turns.specs.Laws.{rollback_calls}
use Rattle.lq_turns.specs.Script.{closing, has_work, last_row, opening, rollback_of, rows_kept, rows_to_sync, rows_undone, sets_calls, sync_of, tag_of, turns_made, undo_turns, with_lock}
use Rattle.lq_turns.specs.Set.{Set}
use Rattle.lq_turns.specs.Settle.{is_halt, own_choice}
use Rattle.lq_turns.specs.Turn.{made}
use Rattle.lq_turns.specs.declared.answer.Answer.TheVariants as answer
use Rattle.lq_turns.specs.declared.answer.Answer.{Answer}
use Rattle.lq_turns.specs.declared.call.Call.TheVariants.{Alone, Begin, Commit, Execute}
use Rattle.lq_turns.specs.declared.call.Call.{Call}
use Rattle.lq_turns.specs.declared.deed.Deed.TheVariants.{Locks, Rows}
use Rattle.lq_turns.specs.declared.deed.OnRows.TheVariants.{Inserted, Tagged}
use Rattle.lq_turns.specs.declared.stamp.Stamp.{Stamp}
use Rattle.lq_turns.specs.declared.stop.Stop.TheVariants.{Halted, Refused}
use Rattle.lq_turns.specs.declared.stop.Stop.{Stop}
use Rattle.lq_turns.specs.declared.turn.Turn.{Turn}

-- of one call at most there is no call between two

none_cut : (A : Type 0) (first : Call) (more : List Call) (next : Call) (rest : List Call) → [] ≡ (first ∷ more) ++ next ∷ rest → A
none_cut A first more next rest is = Prim.cc

one_cut : (A : Type 0) (call first : Call) (more : List Call) (next : Call) (rest : List Call) → call ∷ [] ≡ (first ∷ more) ++ next ∷ rest → A
one_cut A call first [] next rest is = Prim.cc
one_cut A call first (other ∷ more) next rest is = Prim.cc

none_closes : ClosesIn []
none_closes cut = none_cut _ cut.first cut.more cut.next cut.rest cut.is

one_closes : (call : Call) → ClosesIn (call ∷ [])
one_closes call cut = one_cut _ call cut.first cut.more cut.next cut.rest cut.is

-- a command that takes the lock

lock_closes : (stamp : Stamp) (database : Database) (calls : List Call) → ClosesIn (with_lock stamp database calls)
lock_closes stamp database calls cut = record { before = Alone (map Locks (opening stamp database)) Ordinary ∷ calls; after = []; is = refl }

update_closes : (b : Bool) (stamp : Stamp) (database : Database) (calls : List Call) → ClosesIn (if b then with_lock stamp database calls else [])
update_closes true stamp database calls = lock_closes stamp database calls
update_closes false stamp database calls = none_closes

sync_closes : (d : Dialect) (stamp : Stamp) (rows : List Tracked) (database : Database) → ClosesIn (sync_of d stamp rows database)
sync_closes d stamp [] database = none_closes
sync_closes d stamp (row ∷ rows) database = lock_closes stamp database (made d (Begin ∷ map (λ (r : Tracked). Execute (Rows (Inserted r))) (row ∷ rows) ++ Commit ∷ []) (contents_of database))

turns_close : (d : Dialect) (stamp : Stamp) (turns : List Turn) (database : Database) → ClosesIn (rollback_of d stamp turns database)
turns_close d stamp [] database = none_closes
turns_close d stamp (turn ∷ turns) database = lock_closes stamp database (turns_made d stamp.who (turn ∷ turns) (contents_of database))

back_closes : (d : Dialect) (stamp : Stamp) (o : Option (List Turn)) (database : Database) → ClosesIn (elim o [ Some turns ↦ rollback_of d stamp turns database | None ↦ [] ])
back_closes d stamp None database = none_closes
back_closes d stamp (Some turns) database = turns_close d stamp turns database

to_closes : (d : Dialect) (stamp : Stamp) (sets : List (Set AnyChange)) (o : Option ℕ) (database : Database) → ClosesIn (elim o [ Some stay ↦ rollback_calls d any_meaning stamp sets stay database | None ↦ [] ])
to_closes d stamp sets None database = none_closes
to_closes d stamp sets (Some stay) database = back_closes d stamp (undo_turns d any_meaning sets (rows_undone stay database.rows)) database

tag_closes : (tag : List ℕ) (o : Option Tracked) → ClosesIn (tag_of tag o)
tag_closes tag None = none_closes
tag_closes tag (Some row) = one_closes (Alone (Rows (Tagged (identity_of row) tag) ∷ []) Ordinary)

release_closes : (b : Bool) → ClosesIn (if b then closing ∷ [] else [])
release_closes true = one_closes closing
release_closes false = none_closes

pub scripts_close : ScriptsClose
scripts_close prints d task database = by task.command where
  by : (c : Command) → ClosesIn (script_of d any_meaning c task.stamp task.changelog database)
  by command.Validate = none_closes
  by command.Status = none_closes
  by command.Update = update_closes (has_work task.changelog.sets database.rows && not (is_halt (own_choice task.changelog (contents_of database)))) task.stamp database (sets_calls d any_meaning task.stamp task.changelog.sets (contents_of database))
  by (command.Tag tag) = tag_closes tag (last_row database.rows)
  by (command.Rollback target) = to_closes d task.stamp task.changelog.sets (rows_kept target database.rows) database
  by command.Sync = sync_closes d task.stamp (rows_to_sync task.stamp.reading task.changelog.sets database.rows) database
  by command.Release = release_closes database.lock.locked

-- no answer of its own is one to a fault

failed_is : (why : DrillFault) → is_failure (failure_of why) ≡ true
failed_is fault.Disk = refl
failed_is (fault.Full used next) = refl
failed_is fault.OutOfMemory = refl

not_true : false ≡ true → ⊥
not_true is = Prim.cc

own_not : (a : Answer) (why : DrillFault) → is_failure a ≡ false → a ≡ failure_of why → ⊥
own_not a why own is = not_true (sym own ∙ ap is_failure is ∙ failed_is why)

stop_own : (o : Option Stop) → is_failure (answer_by o) ≡ false
stop_own None = refl
stop_own (Some (Halted place why)) = refl
stop_own (Some (Refused of refusal)) = refl

told_is : (o : Option Answer) (b : Answer) → option_map only o ≡ Some (only b) → o ≡ Some b
told_is None b is = none is where
  none : (let o : Option Came = None in o) ≡ Some (only b) → (let o : Option Answer = None in o) ≡ Some b
  none is = Prim.cc
told_is (Some a) b is = ap (option_map answer_of) is

locked_not : (lock : Lock) (why : DrillFault) → Some (as_locked lock) ≡ Some (as_failed why) → ⊥
locked_not lock why is = own_not (answer.Locked lock) why refl (one (ap (option_map answer_of) is)) where
  one : Some (answer.Locked lock) ≡ Some (failure_of why) → answer.Locked lock ≡ failure_of why
  one is = Prim.cc

pub works_answer_own : WorksAnswerOwn
works_answer_own prints d task database why = (
  λ is. own_not (answer_by (stop_of d task database)) why (stop_own (stop_of d task database)) (ap answer_of is),
  by (needs_lock task.command && database.lock.locked),
) where
  by : (b : Bool) → (if b then Some (as_locked database.lock) else option_map only (refuses d task database)) ≡ Some (as_failed why) → ⊥
  by true is = locked_not database.lock why is
  by false is = own_not (failure_of why) why (refused_early d task database (failure_of why) (told_is (refuses d task database) (failure_of why) is)).1 refl
