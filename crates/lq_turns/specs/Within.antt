-- Updates in which every turn is a first one.
use Rattle.std.specs.List.{last_or}
use Rattle.std.specs.Prelude.{Bool, List, None, Ok, Option, Some, [], false, length, map, not, pos, suc, true, ℕ, ◌&&◌, ◌++◌, ◌==◌, ◌∷◌, ◌≡◌, ◌⊎◌}
use Rattle.lq_base.specs.Name.{is_text}
use Rattle.lq_base.specs.declared.dialect.Dialect.{Dialect}
use Rattle.lq_base.specs.declared.tracking.Tracked.{Tracked}
use Rattle.lq_model.specs.Sound.{IsSound}
use Rattle.lq_model.specs.Step.{run}
use Rattle.lq_model.specs.declared.caller.By.TheVariants.{User}
use Rattle.lq_model.specs.declared.statement.Statement.{Statement}
use Rattle.lq_track.specs.Database.{Database, has_twin_rows}
use Rattle.lq_track.specs.Lock.{free, taken}
use Rattle.lq_track.specs.Log.{identity_of}
use Rattle.lq_turns.specs.Deed.{Contents, all_done, contents_of, tagged}
use Rattle.lq_turns.specs.Laws.{AreRead, synced}
use Rattle.lq_turns.specs.Ran.{RanSince, Run}
use Rattle.lq_turns.specs.Script.{all_rolled, last_row, rollback_of, sync_calls, turn_by, update_calls}
use Rattle.lq_turns.specs.Session.{all_called, session_on}
use Rattle.lq_turns.specs.Set.{Changelog, Meaning, Set}
use Rattle.lq_turns.specs.Settle.{all_settled, choice, mark_turn, run_ending, run_turn, settle, what}
use Rattle.lq_turns.specs.Stops.{Journal, joined}
use Rattle.lq_turns.specs.Turn.{Ending, Finished, Refused, ending, mark_text}
use Rattle.lq_turns.specs.declared.choice.Choice.{Choice}
use Rattle.lq_turns.specs.declared.choice.Choice.TheVariants.{Marks, Runs}
use Rattle.lq_turns.specs.declared.choice.What.{What}
use Rattle.lq_turns.specs.declared.choice.What.TheVariants.{Again, Fill, New}
use Rattle.lq_turns.specs.declared.deed.Deed.{Deed}
use Rattle.lq_turns.specs.declared.deed.Deed.TheVariants.{Locks}
use Rattle.lq_turns.specs.declared.deed.OnLock.TheVariants.{Marked}
use Rattle.lq_turns.specs.declared.stamp.Stamp.{Stamp}
use Rattle.lq_turns.specs.declared.stop.Stop.{Stop}
use Rattle.lq_turns.specs.declared.turn.Turn.{Turn}

abbrev pub is_first : Option What → Bool
is_first None = true
is_first (Some New) = true
is_first (Some Again) = false
is_first (Some Fill) = false

-- finished, or refused with nothing kept
abbrev pub keeps_nothing : Ending → Bool
keeps_nothing (Finished c) = true
keeps_nothing (Refused c refusal) = refusal.kept == 0

abbrev pub if_finished : {A : Type 0} → A → Ending → List A
if_finished x (Finished c) = x ∷ []
if_finished x (Refused c refusal) = []

abbrev pub holds_unless : Option Stop → Bool → Bool
holds_unless None more = more
holds_unless (Some stop) more = true

abbrev pub runs_unless : {Key : Type 0} → Option Stop → List (Run Key) → List (Run Key)
runs_unless None more = more
runs_unless (Some stop) more = []

module _ {Key : Type 0} (d : Dialect) (m : Meaning Key) (stamp : Stamp) where
  abbrev pub keeps_nothing_by : Set Key → Contents → Choice → Bool
  keeps_nothing_by x c (Marks by) = keeps_nothing (ending d (mark_turn stamp.reading by x c.rows) c)
  keeps_nothing_by x c (Runs by why) = keeps_nothing (run_ending d m stamp.reading (run_turn d m stamp.reading by x c.rows) x c)
  keeps_nothing_by x c _ = true

  -- each turn is that of a changeset without a row, and what is refused keeps nothing
  abbrev pub are_first : List (Set Key) → Contents → Bool
  are_first [] c = true
  are_first (x ∷ xs) c = (is_first (what x c.rows) && keeps_nothing_by x c (choice x c)) && holds_unless (settle d m stamp.reading x c).stop (are_first xs (settle d m stamp.reading x c).contents)

  abbrev pub run_by : Set Key → Contents → Choice → List (Run Key)
  run_by x c (Marks by) = if_finished (record { set = x; reading = stamp.reading; is_marked = true }) (ending d (mark_turn stamp.reading by x c.rows) c)
  run_by x c (Runs by why) = if_finished (record { set = x; reading = stamp.reading; is_marked = false }) (run_ending d m stamp.reading (run_turn d m stamp.reading by x c.rows) x c)
  run_by x c _ = []

  -- those that ran or were marked
  abbrev pub runs_of : List (Set Key) → Contents → List (Run Key)
  runs_of [] c = []
  runs_of (x ∷ xs) c = run_by x c (choice x c) ++ runs_unless (settle d m stamp.reading x c).stop (runs_of xs (settle d m stamp.reading x c).contents)

-- what an update of first turns ran is what ran since the contents that it began with
abbrev pub UpdateRuns : {Key : Type 0} → Meaning Key → Type 0
UpdateRuns {Key} m = (d : Dialect) (stamp : Stamp) (xs : List (Set Key)) (c : Contents) → IsSound d c.users → has_twin_rows c.rows ≡ false → AreRead d m xs
    → are_first d m stamp xs c ≡ true → RanSince d m c (runs_of d m stamp xs c) (all_settled d m stamp.reading xs c).contents

-- what ran since a point, and then since the later one, ran since the first
abbrev pub RunsOn : {Key : Type 0} → Meaning Key → Type 0
RunsOn {Key} m = (d : Dialect) (before now later : Contents) (xs ys : List (Run Key)) → RanSince d m before xs now → RanSince d m now ys later → RanSince d m before (xs ++ ys) later

-- a tag on the last row is no matter, where that came since the point
abbrev pub TagKeeps : {Key : Type 0} → Meaning Key → Type 0
TagKeeps {Key} m = (d : Dialect) (tag : List ℕ) (before now : Contents) (x : Run Key) (xs : List (Run Key)) (row : Tracked) → RanSince d m before (x ∷ xs) now → last_row now.rows ≡ Some row
    → RanSince d m before (x ∷ xs) (record now { rows = map (tagged (identity_of row) tag) now.rows })

-- What a stop may leave where a turn is not one transaction: whole turns, and the first statements of the one that the mark names.

-- the last deed sets this mark
abbrev pub marks_last : List ℕ → Option Deed → Bool
marks_last text (Some (Locks (Marked by))) = is_text text by
marks_last text _ = false

-- The lock's mark names a statement of the turn. Those before it ran on these contents, and it did too exactly where the last deed is not its mark; the row is as it was.
pub record IsWithin (d : Dialect) (stamp : Stamp) (turn : Turn) (c : Contents) (last : Option Deed) (now : Database) : Type 0 where
  pub before : List Statement
  pub marked : Statement
  pub after : List Statement
  pub are : turn.statements ≡ before ++ marked ∷ after
  pub lock : now.lock ≡ taken (pos stamp.reading) (mark_text stamp.who turn (suc (length before)))
  pub users : ((marks_last (mark_text stamp.who turn (suc (length before))) last ≡ true) × (run User d before c.users ≡ Ok now.users))
      ⊎ ((marks_last (mark_text stamp.who turn (suc (length before))) last ≡ false) × (run User d (before ++ marked ∷ []) c.users ≡ Ok now.users))
  pub rows : now.rows ≡ c.rows

-- the lock is held without a mark, on these contents
pub record IsBetween (stamp : Stamp) (c : Contents) (now : Database) : Type 0 where
  pub contents : contents_of now ≡ c
  pub lock : now.lock ≡ taken (pos stamp.reading) stamp.who

-- whole turns of an update, and perhaps the first statements of the next
pub record UpdateStands {Key : Type 0} (d : Dialect) (m : Meaning Key) (stamp : Stamp) (sets : List (Set Key)) (c : Contents) (last : Option Deed) (now : Database) : Type 0 where
  pub turns : List (Set Key)
  pub rest : List (Set Key)
  pub are : sets ≡ turns ++ rest
  pub goes_on : (all_settled d m stamp.reading turns c).stop ≡ None
  pub stands : IsBetween stamp (all_settled d m stamp.reading turns c).contents now
      ⊎ ((x : Set Key) × (more : List (Set Key)) × (turn : Turn) × (rest ≡ x ∷ more)
      × (turn_by d m stamp x (all_settled d m stamp.reading turns c).contents.rows (choice x (all_settled d m stamp.reading turns c).contents) ≡ Some turn)
      × IsWithin d stamp turn (all_settled d m stamp.reading turns c).contents last now)

abbrev pub is_refused : Ending → Bool
is_refused (Finished c) = false
is_refused (Refused c refusal) = true

abbrev pub is_turn_refused : Dialect → Option Turn → Contents → Bool
is_turn_refused d None c = false
is_turn_refused d (Some turn) c = is_refused (ending d turn c)

module _ {Key : Type 0} (d : Dialect) (m : Meaning Key) (stamp : Stamp) where
  -- a statement of its turn is refused, and it is skipped, since its `failOnError` is false
  abbrev pub gives_way : Set Key → Contents → Bool
  gives_way x c = not x.fail_on_error && is_turn_refused d (turn_by d m stamp x c.rows (choice x c)) c

  abbrev pub none_gives_way : List (Set Key) → Contents → Bool
  none_gives_way [] c = true
  none_gives_way (x ∷ xs) c = not (gives_way x c) && holds_unless (settle d m stamp.reading x c).stop (none_gives_way xs (settle d m stamp.reading x c).contents)

-- Wherever an update in which none gives way is stopped with the lock held, its database is that of whole turns and, where the lock has a mark, of the first statements of the one changeset that it names.
abbrev pub UpdateStops : {Key : Type 0} → Meaning Key → Type 0
UpdateStops {Key} m = (d : Dialect) (stamp : Stamp) (g : Changelog Key) (database now : Database) (front rest : Journal)
    → IsSound d database.users → AreRead d m g.sets → database.lock ≡ free
    → none_gives_way d m stamp g.sets (contents_of database) ≡ true
    → (all_called d (update_calls d m stamp g database) (session_on database)).entries ≡ front ++ rest → all_done d (joined front) database ≡ Ok now → now.lock.locked ≡ true
    → UpdateStands d m stamp g.sets (contents_of database) (last_or None (joined front)) now

-- The lock is held, and the update stands so; or it is free, and nothing was done, or all.
abbrev pub UpdateFront : {Key : Type 0} → Dialect → Meaning Key → Stamp → List (Set Key) → Contents → Option Deed → Database → Type 0
UpdateFront d m stamp sets c last now =
    ((now.lock.locked ≡ true) × UpdateStands d m stamp sets c last now)
    ⊎ ((now.lock ≡ free) × ((contents_of now ≡ c) ⊎ (contents_of now ≡ (all_settled d m stamp.reading sets c).contents)))

-- so it is at each front of an update's entries
abbrev pub UpdateFronts : {Key : Type 0} → Meaning Key → Type 0
UpdateFronts {Key} m = (d : Dialect) (stamp : Stamp) (g : Changelog Key) (database now : Database) (front rest : Journal)
    → IsSound d database.users → AreRead d m g.sets → database.lock ≡ free
    → none_gives_way d m stamp g.sets (contents_of database) ≡ true
    → (all_called d (update_calls d m stamp g database) (session_on database)).entries ≡ front ++ rest → all_done d (joined front) database ≡ Ok now
    → UpdateFront d m stamp g.sets (contents_of database) (last_or None (joined front)) now

-- the same for the turns of a rollback
pub record RollbackStands (d : Dialect) (stamp : Stamp) (all : List Turn) (c : Contents) (last : Option Deed) (now : Database) : Type 0 where
  pub turns : List Turn
  pub rest : List Turn
  pub are : all ≡ turns ++ rest
  pub goes_on : (all_rolled d turns c).stop ≡ None
  pub stands : IsBetween stamp (all_rolled d turns c).contents now
      ⊎ ((turn : Turn) × (more : List Turn) × (rest ≡ turn ∷ more) × IsWithin d stamp turn (all_rolled d turns c).contents last now)

abbrev pub RollbackStops : Type 0
RollbackStops = (d : Dialect) (stamp : Stamp) (turns : List Turn) (database now : Database) (front rest : Journal) → database.lock ≡ free
    → (all_called d (rollback_of d stamp turns database) (session_on database)).entries ≡ front ++ rest → all_done d (joined front) database ≡ Ok now → now.lock.locked ≡ true
    → RollbackStands d stamp turns (contents_of database) (last_or None (joined front)) now

-- A changelog-sync is one turn: all its rows are there, or none.
abbrev pub SyncStops : Type 0 → Type 0
SyncStops Key = (d : Dialect) (stamp : Stamp) (g : Changelog Key) (database now : Database) (front rest : Journal) → database.lock ≡ free
    → (all_called d (sync_calls d stamp g database) (session_on database)).entries ≡ front ++ rest → all_done d (joined front) database ≡ Ok now → now.lock.locked ≡ true
    → IsBetween stamp (contents_of database) now ⊎ IsBetween stamp (synced stamp.reading g.sets (contents_of database)).contents now
