-- The writing calls of each command.
use Rattle.std.specs.List.{find, list_any}
use Rattle.std.specs.Prelude.{Bool, List, None, Option, Some, [], drop, false, if◌then◌else◌, int_lt, is_none, is_some, length, map, not, option_and_then, option_map, reverse, suc, true, ℕ, ℤ, ◌&&◌, ◌++◌, ◌+◌, ◌-◌, ◌∷◌}
use Rattle.lq_base.specs.Name.{is_text}
use Rattle.lq_base.specs.declared.command.Target.{Target}
use Rattle.lq_base.specs.declared.command.Target.TheVariants.{Count, Date, Tag}
use Rattle.lq_base.specs.declared.dialect.Dialect.{Dialect}
use Rattle.lq_base.specs.declared.identity.Identity.{Identity}
use Rattle.lq_base.specs.declared.run.Did.TheVariants as did
use Rattle.lq_base.specs.declared.tracking.Exec.{Exec}
use Rattle.lq_base.specs.declared.tracking.Exec.TheVariants as exec
use Rattle.lq_base.specs.declared.tracking.Tracked.{Tracked}
use Rattle.lq_model.specs.Catalogue.{is_empty}
use Rattle.lq_model.specs.declared.caller.Room.TheVariants.{Ordinary, Release}
use Rattle.lq_track.specs.Database.{Database, same_identity}
use Rattle.lq_track.specs.Log.{identity_of}
use Rattle.lq_turns.specs.Deed.{Contents, contents_of}
use Rattle.lq_turns.specs.Set.{Changelog, Meaning, Set, has_row, undoing}
use Rattle.lq_turns.specs.Settle.{Settled, choice, fill_turn, greatest, is_halt, mark_turn, nothing_done, own_choice, row_for, run_turn, settle, unless_stopped, what}
use Rattle.lq_turns.specs.Turn.{Ending, Finished, Refused, contents_in, ending, made, turn_calls}
use Rattle.lq_turns.specs.declared.call.Call.{Call}
use Rattle.lq_turns.specs.declared.call.Call.TheVariants.{Alone, Begin, Commit, Execute}
use Rattle.lq_turns.specs.declared.choice.Choice.{Choice}
use Rattle.lq_turns.specs.declared.choice.Choice.TheVariants.{Fills, Halts, Marks, Passes, Runs, Skips}
use Rattle.lq_turns.specs.declared.deed.Deed.TheVariants.{Locks, Rows}
use Rattle.lq_turns.specs.declared.deed.OnLock.{OnLock}
use Rattle.lq_turns.specs.declared.deed.OnLock.TheVariants.{Freed, LockMade, LockRowMade, LogMade, Taken}
use Rattle.lq_turns.specs.declared.deed.OnRows.TheVariants.{Cleared, Deleted, Inserted, Tagged}
use Rattle.lq_turns.specs.declared.stamp.Stamp.{Stamp}
use Rattle.lq_turns.specs.declared.stop.Stop.{Stop}
use Rattle.lq_turns.specs.declared.stop.Stop.TheVariants.{Refused as Stopped}
use Rattle.lq_turns.specs.declared.turn.Turn.{Turn}

-- The writing calls of an update, a changelog-sync, a tag, a clear-checksums and a release-locks that run alone.

abbrev pub if_missing : Bool → OnLock → List OnLock
if_missing true deed = []
if_missing false deed = deed ∷ []

-- makes the tracking tables and the lock's row, each where it is missing, and takes the lock
abbrev pub opening : Stamp → Database → List OnLock
opening stamp database = if_missing database.has_log LogMade ++ (if_missing database.has_lock LockMade ++ (if_missing database.has_lock_row LockRowMade ++ Taken stamp.reading stamp.who ∷ []))

abbrev pub closing : Call
closing = Alone (Locks Freed ∷ []) Release

-- the calls of a command that holds the lock for its turns
abbrev pub with_lock : Stamp → Database → List Call → List Call
with_lock stamp database calls = Alone (map Locks (opening stamp database)) Ordinary ∷ calls ++ closing ∷ []

abbrev pub calls_unless : Option Stop → List Call → List Call
calls_unless None calls = calls
calls_unless (Some stop) calls = []

module _ {Key : Type 0} where
  abbrev pub has_work : List (Set Key) → List Tracked → Bool
  has_work xs rows = list_any (λ x. is_some (what x rows)) xs

  -- the rows of the selected changesets without a row, each in the place after the one before
  abbrev pub rows_to_sync : ℕ → List (Set Key) → List Tracked → List Tracked
  rows_to_sync reading [] rows = []
  rows_to_sync reading (x ∷ xs) rows =
      if x.selected && not (has_row rows x.identity)
      then row_for reading (greatest rows + 1) exec.Executed x ∷ rows_to_sync reading xs (rows ++ row_for reading (greatest rows + 1) exec.Executed x ∷ [])
      else rows_to_sync reading xs rows

module _ {Key : Type 0} (d : Dialect) (m : Meaning Key) (stamp : Stamp) where
  -- the turn that a changeset has
  abbrev pub turn_by : Set Key → List Tracked → Choice → Option Turn
  turn_by x rows Fills = Some (fill_turn x)
  turn_by x rows (Marks by) = Some (mark_turn stamp.reading by x rows)
  turn_by x rows (Runs by why) = Some (run_turn d m stamp.reading by x rows)
  turn_by x rows Passes = None
  turn_by x rows Skips = None
  turn_by x rows (Halts why) = None

  abbrev pub calls_of_turn : Option Turn → Contents → List Call
  calls_of_turn None c = []
  calls_of_turn (Some turn) c = made d (turn_calls d stamp.who turn) c

  abbrev pub set_calls : Set Key → Contents → List Call
  set_calls x c = calls_of_turn (turn_by x c.rows (choice x c)) c

  -- changeset after changeset, each on what the one before left, up to the first that stops the command
  abbrev pub sets_calls : List (Set Key) → Contents → List Call
  sets_calls [] c = []
  sets_calls (x ∷ xs) c = set_calls x c ++ calls_unless (settle d m stamp.reading x c).stop (sets_calls xs (settle d m stamp.reading x c).contents)

  -- without a turn, and where the changelog's own condition halts, there is no call
  abbrev pub update_calls : Changelog Key → Database → List Call
  update_calls g database =
      if has_work g.sets database.rows && not (is_halt (own_choice g (contents_of database)))
      then with_lock stamp database (sets_calls g.sets (contents_of database))
      else []

-- these rows, all in one transaction
abbrev pub sync_of : Dialect → Stamp → List Tracked → Database → List Call
sync_of d stamp [] database = []
sync_of d stamp (row ∷ rows) database = with_lock stamp database (made d (Begin ∷ map (λ r. Execute (Rows (Inserted r))) (row ∷ rows) ++ Commit ∷ []) (contents_of database))

abbrev pub sync_calls : {Key : Type 0} → Dialect → Stamp → Changelog Key → Database → List Call
sync_calls d stamp g database = sync_of d stamp (rows_to_sync stamp.reading g.sets database.rows) database

abbrev pub last_row : List Tracked → Option Tracked
last_row [] = None
last_row (row ∷ []) = Some row
last_row (row ∷ other ∷ more) = last_row (other ∷ more)

abbrev pub tag_of : List ℕ → Option Tracked → List Call
tag_of tag None = []
tag_of tag (Some row) = Alone (Rows (Tagged (identity_of row) tag) ∷ []) Ordinary ∷ []

abbrev pub tag_calls : List ℕ → Database → List Call
tag_calls tag database = tag_of tag (last_row database.rows)

abbrev pub clearing : Call
clearing = Alone (Rows Cleared ∷ []) Ordinary

-- each row's sum is taken, where there is a row
abbrev pub clear_calls : Database → List Call
clear_calls database = if is_empty database.rows then [] else clearing ∷ []

abbrev pub release_calls : Database → List Call
release_calls database = if database.lock.locked then closing ∷ [] else []

-- What a rollback undoes, and its writing calls.

abbrev pub has_tag : List ℕ → Option (List ℕ) → Bool
has_tag tag None = false
has_tag tag (Some other) = is_text tag other

-- the place of the last row with the tag
abbrev pub tagged_place : List ℕ → List Tracked → Option ℕ
tagged_place tag [] = None
tagged_place tag (row ∷ rows) = elim (tagged_place tag rows) [ Some n ↦ Some (suc n) | None ↦ if has_tag tag row.tag then Some 1 else None ]

-- the rows before the first with a later date
abbrev pub places_until : ℤ → List Tracked → ℕ
places_until at [] = 0
places_until at (row ∷ rows) = if int_lt at row.date then 0 else suc (places_until at rows)

-- how many rows stay, where there is a row with the tag
abbrev pub rows_kept : Target → List Tracked → Option ℕ
rows_kept (Tag tag) rows = tagged_place tag rows
rows_kept (Count n) rows = Some (length rows - n)
rows_kept (Date at) rows = Some (places_until at rows)

-- the rows after those that stay, the last first
abbrev pub rows_undone : ℕ → List Tracked → List Tracked
rows_undone stay rows = reverse (drop stay rows)

abbrev pub is_mark_ran : Exec → Bool
is_mark_ran exec.Executed = false
is_mark_ran exec.Reran = false
is_mark_ran exec.MarkRan = true

-- the changeset that a row is of
abbrev pub set_of : {Key : Type 0} → List (Set Key) → Identity → Option (Set Key)
set_of xs of = find (λ x. x.here && same_identity of x.identity) xs

module _ {Key : Type 0} (d : Dialect) (m : Meaning Key) where
  abbrev pub undo_by : Identity → Set Key → Option Turn
  undo_by of x = option_map (λ statements. record { identity = of; statements = statements; in_transaction = x.in_transaction; is_undo = true; row = Deleted of }) (undoing d m x)

  -- a row that is undone: the row of a changeset that was marked goes alone
  abbrev pub undo_turn : List (Set Key) → Tracked → Option Turn
  undo_turn xs row =
      if is_mark_ran row.exec
      then Some (record { identity = identity_of row; statements = []; in_transaction = true; is_undo = true; row = Deleted (identity_of row) })
      else option_and_then (undo_by (identity_of row)) (set_of xs (identity_of row))

  abbrev pub undo_turns : List (Set Key) → List Tracked → Option (List Turn)
  undo_turns xs [] = Some []
  undo_turns xs (row ∷ rows) = option_and_then (λ turn. option_map (λ turns. turn ∷ turns) (undo_turns xs rows)) (undo_turn xs row)

  -- the first of these rows that nothing takes back
  abbrev pub not_reversible : List (Set Key) → List Tracked → Option Identity
  not_reversible xs rows = option_map identity_of (find (λ row. is_none (undo_turn xs row)) rows)

abbrev pub rolled_as : Turn → Ending → Settled
rolled_as turn (Finished c) = record (nothing_done c) { happened = record { what = did.RolledBack; identity = turn.identity } ∷ [] }
rolled_as turn (Refused c refusal) = record (nothing_done c) { stop = Some (Stopped turn.identity refusal) }

-- turn after turn, up to the first that is refused
abbrev pub all_rolled : Dialect → List Turn → Contents → Settled
all_rolled d [] c = nothing_done c
all_rolled d (turn ∷ turns) c = unless_stopped (rolled_as turn (ending d turn c)) (all_rolled d turns)

abbrev pub calls_if_finished : List Call → Ending → List Call
calls_if_finished calls (Finished c) = calls
calls_if_finished calls (Refused c refusal) = []

abbrev pub turns_made : Dialect → List ℕ → List Turn → Contents → List Call
turns_made d who [] c = []
turns_made d who (turn ∷ turns) c = made d (turn_calls d who turn) c ++ calls_if_finished (turns_made d who turns (contents_in (ending d turn c))) (ending d turn c)

abbrev pub rollback_of : Dialect → Stamp → List Turn → Database → List Call
rollback_of d stamp [] database = []
rollback_of d stamp (turn ∷ turns) database = with_lock stamp database (turns_made d stamp.who (turn ∷ turns) (contents_of database))
