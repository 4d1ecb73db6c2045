-- The laws of updates and rollbacks.
use Rattle.std.specs.List.{list_all}
use Rattle.std.specs.Prelude.{Err, List, None, Ok, Option, Result, Some, [], false, length, map, true, ℕ, ◌∷◌, ◌≡◌, ◌⊎◌}
use Rattle.lq_base.specs.declared.dialect.Dialect.{Dialect}
use Rattle.lq_base.specs.declared.reason.Reason.{Reason}
use Rattle.lq_base.specs.declared.run.Did.TheVariants as did
use Rattle.lq_base.specs.declared.run.Happened.{Happened}
use Rattle.lq_base.specs.declared.tracking.Tracked.{Tracked}
use Rattle.lq_model.specs.Sound.{IsSound}
use Rattle.lq_track.specs.Database.{Database, SameDatabase}
use Rattle.lq_track.specs.Lock.{free}
use Rattle.lq_track.specs.Log.{identity_of}
use Rattle.lq_turns.specs.Deed.{Contents, contents_of, rows_after, tagged, with_contents, without_sum}
use Rattle.lq_turns.specs.Ran.{RanSince, Run, are_reversible}
use Rattle.lq_turns.specs.Script.{all_rolled, clear_calls, last_row, release_calls, rollback_of, rows_to_sync, rows_undone, set_of, sync_calls, tag_calls, undo_turns, update_calls}
use Rattle.lq_turns.specs.Session.{left_by}
use Rattle.lq_turns.specs.Set.{Changelog, Meaning, Set}
use Rattle.lq_turns.specs.Settle.{Settled, updated}
use Rattle.lq_turns.specs.declared.call.Call.{Call}
use Rattle.lq_turns.specs.declared.deed.OnRows.TheVariants.{Inserted}
use Rattle.lq_turns.specs.declared.stamp.Stamp.{Stamp}
use Rattle.lq_turns.specs.declared.stop.Stop.{Stop}
use Rattle.lq_turns.specs.declared.stop.Stop.TheVariants.{Refused as Stopped}
use Rattle.lq_turns.specs.declared.turn.Turn.{Turn}

-- the database with these contents, and its lock free
abbrev pub at_rest : Database → Contents → Database
at_rest database contents = record (with_contents database contents) { lock = free }

-- a database with these contents, and its lock free; or the one that was there before
pub record IsAtRest (before : Database) (contents : Contents) (now : Database) : Type 0 where
  pub users : now.users ≡ contents.users
  pub rows : now.rows ≡ contents.rows
  pub lock : (now.lock ≡ free) ⊎ (now ≡ before)

-- the changes of each changeset were read for the dialect
abbrev pub AreRead : {Key : Type 0} → Dialect → Meaning Key → List (Set Key) → Type 0
AreRead {Key} d m xs = list_all (λ (x : Set Key). list_all (m.is_for d) x.changes) xs ≡ true

-- the calls of an update leave what its changesets do at their turns, with a free lock
abbrev pub UpdateLeaves : {Key : Type 0} → Meaning Key → Type 0
UpdateLeaves {Key} m = (d : Dialect) (stamp : Stamp) (g : Changelog Key) (database : Database)
    → IsSound d database.users → database.lock ≡ free → AreRead d m g.sets
    → SameDatabase (left_by d (update_calls d m stamp g database) database) (at_rest database (updated d m stamp.reading g (contents_of database)).contents)

-- each is in the changelog the changeset of its identity, and its changes were read for the dialect
abbrev pub AreKnown : {Key : Type 0} → Dialect → Meaning Key → List (Set Key) → List (Run Key) → Type 0
AreKnown d m sets [] = Unit {0}
AreKnown d m sets (x ∷ xs) = ((set_of sets x.set.identity ≡ Some x.set) × (list_all (m.is_for d) x.set.changes ≡ true)) × AreKnown d m sets xs

-- a rollback's calls, where each of its rows has what takes it back
abbrev pub rollback_calls : {Key : Type 0} → Dialect → Meaning Key → Stamp → List (Set Key) → ℕ → Database → List Call
rollback_calls d m stamp sets stay database = elim (undo_turns d m sets (rows_undone stay database.rows)) [ Some turns ↦ rollback_of d stamp turns database | None ↦ [] ]

-- taking back what ran since a point leaves the database of that point, with a free lock
abbrev pub RollbackRestores : {Key : Type 0} → Meaning Key → Type 0
RollbackRestores {Key} m = (d : Dialect) (stamp : Stamp) (sets : List (Set Key)) (before : Contents) (xs : List (Run Key)) (database : Database)
    → database.lock ≡ free → RanSince d m before xs (contents_of database) → are_reversible d m xs before.users ≡ true → AreKnown d m sets xs
    → SameDatabase (left_by d (rollback_calls d m stamp sets (length before.rows) database) database) (at_rest database before)

-- the calls of any rollback leave what its turns do, with a free lock
abbrev pub RollbackLeaves : Type 0
RollbackLeaves = (d : Dialect) (stamp : Stamp) (turns : List Turn) (database : Database) → database.lock ≡ free
    → SameDatabase (left_by d (rollback_of d stamp turns database) database) (at_rest database (all_rolled d turns (contents_of database)).contents)

-- What a tag, a clear-checksums and a release-locks leave, which make one call.

-- a tag changes the tag of the last row alone
abbrev pub TagLeaves : Type 0
TagLeaves = (d : Dialect) (tag : List ℕ) (row : Tracked) (database : Database) → last_row database.rows ≡ Some row
    → left_by d (tag_calls tag database) database ≡ record database { rows = map (tagged (identity_of row) tag) database.rows }

-- a clear-checksums takes the sum of each row, and changes nothing else
abbrev pub ClearLeaves : Type 0
ClearLeaves = (d : Dialect) (database : Database)
    → left_by d (clear_calls database) database ≡ record database { rows = map without_sum database.rows }

-- a release-locks frees a held lock, and changes nothing else
abbrev pub ReleaseLeaves : Type 0
ReleaseLeaves = (d : Dialect) (database : Database)
    → (database.lock.locked ≡ true → left_by d (release_calls database) database ≡ at_rest database (contents_of database)) × (database.lock.locked ≡ false → left_by d (release_calls database) database ≡ database)

-- What a changelog-sync leaves.

abbrev pub inserted_then : (List Tracked → Result (List Tracked) Reason) → Result (List Tracked) Reason → Result (List Tracked) Reason
inserted_then more (Ok now) = more now
inserted_then more (Err reason) = Err reason

-- each row after those that are there, or the first reason
abbrev pub all_inserted : List Tracked → List Tracked → Result (List Tracked) Reason
all_inserted [] rows = Ok rows
all_inserted (row ∷ more) rows = inserted_then (all_inserted more) (rows_after (Inserted row) rows)

-- all rows, or none
abbrev pub with_rows : Contents → Result (List Tracked) Reason → Contents
with_rows c (Ok rows) = record c { rows = rows }
with_rows c (Err reason) = c

-- the first of these rows that is refused, as its changeset's first statement, of which nothing is kept
abbrev pub stop_then : Tracked → (List Tracked → Option Stop) → Result (List Tracked) Reason → Option Stop
stop_then row more (Ok now) = more now
stop_then row more (Err reason) = Some (Stopped (identity_of row) (record { statement = 1; kept = 0; reason = reason }))

abbrev pub insert_stop : List Tracked → List Tracked → Option Stop
insert_stop [] rows = None
insert_stop (row ∷ more) rows = stop_then row (insert_stop more) (rows_after (Inserted row) rows)

abbrev pub marked_by : Option Stop → List Tracked → List Happened
marked_by None rows = map (λ row. record { what = did.Marked; identity = identity_of row }) rows
marked_by (Some stop) rows = []

abbrev pub synced_by : List Tracked → Contents → Settled
synced_by rows c = record { contents = with_rows c (all_inserted rows c.rows); happened = marked_by (insert_stop rows c.rows) rows; warned = []; not_fresh = 0; stop = insert_stop rows c.rows }

-- what a changelog-sync leaves, and what is told of it: a row for each selected changeset without one, or none where one is refused
abbrev pub synced : {Key : Type 0} → ℕ → List (Set Key) → Contents → Settled
synced reading sets c = synced_by (rows_to_sync reading sets c.rows) c

-- the calls of a changelog-sync leave this, with a free lock
abbrev pub SyncLeaves : Type 0 → Type 0
SyncLeaves Key = (d : Dialect) (stamp : Stamp) (g : Changelog Key) (database : Database) → database.lock ≡ free
    → SameDatabase (left_by d (sync_calls d stamp g database) database) (at_rest database (synced stamp.reading g.sets (contents_of database)).contents)
