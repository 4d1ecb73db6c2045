-- That a clean catalogue stands for a database.
use Rattle.std.specs.List.{list_all}
use Rattle.std.specs.Prelude.{Bool, Err, List, Ok, Some, [], nat_lt, not, true, ℕ, ◌&&◌, ◌∷◌, ◌≡◌, ◌≤◌}
use Rattle.lq_base.specs.declared.dialect.Dialect.{Dialect}
use Rattle.lq_base.specs.declared.tracking.Tracked.{Tracked}
use Rattle.lq_beside.specs.Replays.{is_deleted}
use Rattle.lq_entries.specs.Load.{is_clean, is_clean_database}
use Rattle.lq_model.specs.Catalogue.{Catalogue}
use Rattle.lq_model.specs.Sound.{IsSound}
use Rattle.lq_model.specs.Step.{is_statement, step}
use Rattle.lq_model.specs.declared.caller.By.TheVariants.{User}
use Rattle.lq_model.specs.declared.statement.Statement.{Statement}
use Rattle.lq_store.specs.Journal.{is_apart}
use Rattle.lq_track.specs.Database.{Database, IsDatabase}
use Rattle.lq_track.specs.Log.{identity_of}
use Rattle.lq_turns.specs.Deed.{all_done, done}
use Rattle.lq_turns.specs.Laws.{AreRead}
use Rattle.lq_turns.specs.Schedule.{StandsFor}
use Rattle.lq_turns.specs.Script.{clear_calls, release_calls, rollback_of, sync_calls, tag_calls, update_calls}
use Rattle.lq_turns.specs.Session.{Session, called, left_by, session_on}
use Rattle.lq_turns.specs.Set.{Changelog, Meaning, has_row}
use Rattle.lq_turns.specs.Settle.{greatest}
use Rattle.lq_turns.specs.Stops.{IsLeft, Journal, joined}
use Rattle.lq_turns.specs.declared.call.Call.{Call}
use Rattle.lq_turns.specs.declared.call.Call.TheVariants.{Abort, Alone, Begin, Commit, Execute}
use Rattle.lq_turns.specs.declared.deed.Deed.{Deed}
use Rattle.lq_turns.specs.declared.deed.Deed.TheVariants.{Locks, Rows, Users}
use Rattle.lq_turns.specs.declared.deed.OnRows.{OnRows}
use Rattle.lq_turns.specs.declared.deed.OnRows.TheVariants.{Cleared, Deleted, Filled, Inserted, Renewed, Tagged}
use Rattle.lq_turns.specs.declared.stamp.Stamp.{Stamp}
use Rattle.lq_turns.specs.declared.turn.Turn.{Turn}

-- what a sound and clean catalogue stands for, whose rows differ
abbrev pub CleanStands : Type 0
CleanStands = (d : Dialect) (c : Catalogue) → IsSound d c → is_clean d c ≡ true → (database : Database) × StandsFor d c database × IsDatabase d database

-- That each row that calls put in is the first of its identity, and stands behind all others.

-- a row that is put in is the first of its identity; it, and one that is renewed, has a place behind all others
abbrev pub is_first : OnRows → List Tracked → Bool
is_first (Inserted row) rows = not (has_row rows (identity_of row)) && nat_lt (greatest rows) row.order
is_first (Renewed row) rows = nat_lt (greatest rows) row.order
is_first (Deleted of) rows = true
is_first (Filled of sum) rows = true
is_first (Tagged of tag) rows = true
is_first Cleared rows = true

-- of a deed, in a database
abbrev pub deed_is_first : Deed → Database → Bool
deed_is_first (Users s) database = true
deed_is_first (Rows w) database = is_first w database.rows
deed_is_first (Locks w) database = true

-- of deeds, each where those before it lead
abbrev pub deeds_are_first : Dialect → List Deed → Database → Bool
deeds_are_first d [] database = true
deeds_are_first d (deed ∷ deeds) database = deed_is_first deed database && elim (done d deed database) [ Ok now ↦ deeds_are_first d deeds now | Err reason ↦ true ]

-- of a call, in what the session sees
abbrev pub call_is_first : Dialect → Call → Session → Bool
call_is_first d (Alone deeds room) s = deeds_are_first d deeds s.seen
call_is_first d (Execute deed) s = deed_is_first deed s.seen
call_is_first d Begin s = true
call_is_first d Commit s = true
call_is_first d Abort s = true

-- of calls
abbrev pub calls_are_first : Dialect → List Call → Session → Bool
calls_are_first d [] s = true
calls_are_first d (call ∷ calls) s = call_is_first d call s && calls_are_first d calls (called d call s)

-- That the places in run order have 31 bits.

-- in each database that a sound catalogue stands for
abbrev pub PlacesAreSmall : Type 0
PlacesAreSmall = (d : Dialect) (c : Catalogue) (database : Database) → IsSound d c → StandsFor d c database → greatest database.rows ≤ 2147483647

-- That what a command leaves is clean, as what a load finds has to be.

-- a user's statement leaves the users' objects apart from the tracking tables
abbrev pub StatementsStayApart : Type 0
StatementsStayApart = (d : Dialect) (s : Statement) (users now : Catalogue) (n : ℕ) → is_statement d s ≡ true → IsSound d users → is_apart d users ≡ true
    → step User d s users ≡ Ok (now, n) → is_apart d now ≡ true

-- users' objects that stand apart, and rows that differ
abbrev pub IsClean : Dialect → Database → Type 0
IsClean d database = is_clean_database d (Some database) ≡ true

-- a catalogue that stands for a clean database is clean
abbrev pub CleanIsFound : Type 0
CleanIsFound = (d : Dialect) (c : Catalogue) (database : Database) → StandsFor d c database → IsClean d database → is_clean d c ≡ true

-- calls whose new rows are the first of their identities, and stand behind all others, leave a clean database where a catalogue stands for it
abbrev pub CallsStayClean : Type 0
CallsStayClean = (d : Dialect) (calls : List Call) (database : Database) (c : Catalogue) → IsClean d database → calls_are_first d calls (session_on database) ≡ true
    → StandsFor d c (left_by d calls database) → IsClean d (left_by d calls database)

-- and so does a stop of them
abbrev pub StopsStayClean : Type 0
StopsStayClean = (d : Dialect) (calls : List Call) (database now : Database) (written : Journal) (c : Catalogue) → IsClean d database → calls_are_first d calls (session_on database) ≡ true
    → IsLeft d calls database [] written → all_done d (joined written) database ≡ Ok now → StandsFor d c now → IsClean d now

-- the new rows of each command are such

abbrev pub UpdateIsFirst : {Key : Type 0} → Meaning Key → Type 0
UpdateIsFirst {Key} m = (d : Dialect) (stamp : Stamp) (g : Changelog Key) (database : Database) → IsSound d database.users → AreRead d m g.sets
    → calls_are_first d (update_calls d m stamp g database) (session_on database) ≡ true

abbrev pub SyncIsFirst : Type 0 → Type 0
SyncIsFirst Key = (d : Dialect) (stamp : Stamp) (g : Changelog Key) (database : Database) → calls_are_first d (sync_calls d stamp g database) (session_on database) ≡ true

abbrev pub RollbackIsFirst : Type 0
RollbackIsFirst = (d : Dialect) (stamp : Stamp) (turns : List Turn) (database : Database) → list_all (λ (turn : Turn). is_deleted turn.row) turns ≡ true
    → calls_are_first d (rollback_of d stamp turns database) (session_on database) ≡ true

abbrev pub TagIsFirst : Type 0
TagIsFirst = (d : Dialect) (tag : List ℕ) (database : Database) → calls_are_first d (tag_calls tag database) (session_on database) ≡ true

abbrev pub ClearIsFirst : Type 0
ClearIsFirst = (d : Dialect) (database : Database) → calls_are_first d (clear_calls database) (session_on database) ≡ true

abbrev pub ReleaseIsFirst : Type 0
ReleaseIsFirst = (d : Dialect) (database : Database) → calls_are_first d (release_calls database) (session_on database) ≡ true
