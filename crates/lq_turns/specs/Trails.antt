-- Commands that are run again after any number of stops.
use Rattle.std.specs.List.{list_all}
use Rattle.std.specs.Prelude.{Bool, List, None, Ok, Some, [], false, length, true, ℕ, ◌≡◌}
use Rattle.lq_base.specs.declared.command.Target.{Target}
use Rattle.lq_base.specs.declared.command.Target.TheVariants.{Count, Date, Tag}
use Rattle.lq_base.specs.declared.dialect.Dialect.{Dialect}
use Rattle.lq_base.specs.declared.dialect.Dialect.TheVariants.{Postgresql}
use Rattle.lq_model.specs.Sound.{IsSound}
use Rattle.lq_track.specs.Database.{Database}
use Rattle.lq_turns.specs.Deed.{Contents, all_done, contents_of}
use Rattle.lq_turns.specs.Laws.{AreKnown, AreRead, IsAtRest, rollback_calls}
use Rattle.lq_turns.specs.Ran.{RanSince, Run, are_reversible}
use Rattle.lq_turns.specs.Script.{rows_kept, update_calls}
use Rattle.lq_turns.specs.Session.{left_by}
use Rattle.lq_turns.specs.Set.{Changelog, Meaning, Set}
use Rattle.lq_turns.specs.Settle.{updated}
use Rattle.lq_turns.specs.Stops.{IsSteady, IsTrail, Journal, are_twins, has_own_sum, joined}
use Rattle.lq_turns.specs.declared.call.Call.{Call}
use Rattle.lq_turns.specs.declared.stamp.Stamp.{Stamp}

-- the journals from the empty one to the last, each a stop of the command, under any name, or of release-locks; and the database that the last one gives, whose lock is not held
pub record IsStopped (start : Database) (command : List ℕ → Database → List Call) (database : Database) : Type 0 where
  pub stops : List Journal
  pub last : Journal
  pub trail : IsTrail Postgresql start command [] stops last
  pub led : all_done Postgresql (joined last) start ≡ Ok database
  pub unlocked : database.lock.locked ≡ false

-- In postgresql, a steady update that was stopped any number of times, and is then run to its end, leaves what it would have left without a stop, with a free lock, or as it was before the first where nothing was called, and has the same stop.
abbrev pub UpdateResumes : {Key : Type 0} → Meaning Key → Type 0
UpdateResumes {Key} m = (stamp : Stamp) (g : Changelog Key) (start database : Database)
    → IsSound Postgresql start.users → AreRead Postgresql m g.sets → list_all has_own_sum g.sets ≡ true → are_twins g.sets ≡ false
    → IsSteady Postgresql m stamp g (contents_of start)
    → IsStopped start (λ who. update_calls Postgresql m (record stamp { who = who }) g) database
    → IsAtRest start (updated Postgresql m stamp.reading g (contents_of start)).contents (left_by Postgresql (update_calls Postgresql m stamp g database) database)
    × ((updated Postgresql m stamp.reading g (contents_of database)).stop ≡ (updated Postgresql m stamp.reading g (contents_of start)).stop)

-- a rollback's calls, where its target is found and each row behind it has what takes it back
abbrev pub rollback_to : {Key : Type 0} → Dialect → Meaning Key → Stamp → List (Set Key) → Target → Database → List Call
rollback_to d m stamp sets target database = elim (rows_kept target database.rows) [ Some stay ↦ rollback_calls d m stamp sets stay database | None ↦ [] ]

abbrev pub is_by_count : Target → Bool
is_by_count (Tag tag) = false
is_by_count (Count n) = true
is_by_count (Date at) = false

-- In postgresql, a rollback by tag or date that takes back what ran since a point, was stopped any number of times, and is then run to its end, leaves the database of that point, with a free lock, or as it was before the first where nothing was called.
abbrev pub RollbackResumes : {Key : Type 0} → Meaning Key → Type 0
RollbackResumes {Key} m = (stamp : Stamp) (sets : List (Set Key)) (target : Target) (before : Contents) (xs : List (Run Key)) (start database : Database)
    → is_by_count target ≡ false → RanSince Postgresql m before xs (contents_of start) → are_reversible Postgresql m xs before.users ≡ true → AreKnown Postgresql m sets xs
    → rows_kept target start.rows ≡ Some (length before.rows) → list_all (λ (x : Run Key). x.set.in_transaction) xs ≡ true
    → IsStopped start (λ who. rollback_to Postgresql m (record stamp { who = who }) sets target) database
    → IsAtRest start before (left_by Postgresql (rollback_to Postgresql m stamp sets target database) database)

-- and what ran in it is taken back as if there had been no stop
abbrev pub ResumedReturns : {Key : Type 0} → Meaning Key → Type 0
ResumedReturns {Key} m = (stamp later : Stamp) (g : Changelog Key) (sets : List (Set Key)) (xs : List (Run Key)) (start database : Database)
    → IsSound Postgresql start.users → AreRead Postgresql m g.sets → list_all has_own_sum g.sets ≡ true → are_twins g.sets ≡ false
    → IsSteady Postgresql m stamp g (contents_of start)
    → IsStopped start (λ who. update_calls Postgresql m (record stamp { who = who }) g) database
    → RanSince Postgresql m (contents_of start) xs (updated Postgresql m stamp.reading g (contents_of start)).contents → are_reversible Postgresql m xs start.users ≡ true → AreKnown Postgresql m sets xs
    → IsAtRest start (contents_of start) (left_by Postgresql (rollback_calls Postgresql m later sets (length start.rows) (left_by Postgresql (update_calls Postgresql m stamp g database) database)) (left_by Postgresql (update_calls Postgresql m stamp g database) database))
