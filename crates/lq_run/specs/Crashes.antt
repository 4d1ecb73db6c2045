-- What a crash of the machine at any moment of a command leaves, in words of databases.
use Rattle.std.specs.Prelude.{IfSome, List, Ok, Some, [], false, map, true, ℕ, ◌++◌, ◌∷◌, ◌≡◌}
use Rattle.lq_base.specs.declared.dialect.Dialect.{Dialect}
use Rattle.lq_base.specs.declared.identity.Identity.{Identity}
use Rattle.lq_base.specs.declared.tracking.Tracked.{Tracked}
use Rattle.lq_beside.specs.Replays.{calls_fit}
use Rattle.lq_model.specs.Catalogue.{Catalogue, is_empty}
use Rattle.lq_model.specs.declared.caller.Room.TheVariants.{Ordinary}
use Rattle.lq_run.specs.Commands.{HasDatabase, OnAll, script}
use Rattle.lq_run.specs.Left.{ClosesHeld}
use Rattle.lq_run.specs.Stands.{entries_of}
use Rattle.lq_run.specs.Steps.{Standing, place}
use Rattle.lq_store.specs.Journal.{Crashes, Entry, State, database as run_to}
use Rattle.lq_track.specs.Database.{Database}
use Rattle.lq_track.specs.Log.{identity_of}
use Rattle.lq_turns.specs.Deed.{all_done}
use Rattle.lq_turns.specs.Schedule.{StandsFor}
use Rattle.lq_turns.specs.Script.{clear_calls, last_row, opening, release_calls, tag_calls}
use Rattle.lq_turns.specs.Session.{session_on}
use Rattle.lq_turns.specs.Set.{Meaning}
use Rattle.lq_turns.specs.Stops.{IsLeft, Journal, is_mark, joined}
use Rattle.lq_turns.specs.declared.call.Call.{Call}
use Rattle.lq_turns.specs.declared.call.Call.TheVariants.{Alone}
use Rattle.lq_turns.specs.declared.deed.Deed.TheVariants.{Locks}
use Rattle.lq_turns.specs.declared.stamp.Stamp.{Stamp}
pub use Rattle.lq_store.specs.Journal.{CrashesLeave, Since}

-- The entries that were there, and what a stop of these calls may leave; run again, they lead to a database.
pub record LeftInCommand (d : Dialect) (calls : List Call) (database : Database) (there left : List Entry) : Type 0 where
  pub written : Journal
  pub stops : IsLeft d calls database [] written
  pub closes : ClosesHeld d calls database written
  pub is : left ≡ there ++ entries_of d written
  pub now : Database
  pub led : all_done d (joined written) database ≡ Ok now
  -- where those that were there lead to a catalogue that stands for the database before
  pub replays : (c : Catalogue) → run_to d there ≡ Some c → StandsFor d c database → (e : Catalogue) × (run_to d left ≡ Some e) × StandsFor d e now

-- a store's entries are those that were there, and what a stop of these calls may leave; its dialect and its limit are as they were
pub record LeftBehind (d : Dialect) (calls : List Call) (database : Database) (x y : State) : Type 0 where
  pub dialect : y.dialect ≡ x.dialect
  pub limit : y.limit ≡ x.limit
  pub entries : IfSome x.entries (λ there. (left : List Entry) × (y.entries ≡ Some left) × LeftInCommand d calls database there left)

-- the call that takes a command's lock, on every database
abbrev pub CrashesOpened : Dialect → Stamp → State → Crashes → Crashes → Type 0
CrashesOpened d stamp x before now = (database : Database) → HasDatabase d x database → CrashesLeave x.entries (LeftInCommand d (Alone (map Locks (opening stamp database)) Ordinary ∷ []) database) before now

-- a tag's, on every database whose last row has the identity, and into which the tag goes
abbrev pub CrashesTagged : Dialect → Identity → List ℕ → State → Crashes → Crashes → Type 0
CrashesTagged d of tag x before now = (database : Database) (row : Tracked) → HasDatabase d x database → last_row database.rows ≡ Some row → identity_of row ≡ of
    → calls_fit d (tag_calls tag database) (session_on database) ≡ true → CrashesLeave x.entries (LeftInCommand d (tag_calls tag database) database) before now

-- a clear-checksums', on every database with rows
abbrev pub CrashesCleared : Dialect → State → Crashes → Crashes → Type 0
CrashesCleared d x before now = (database : Database) → HasDatabase d x database → is_empty database.rows ≡ false
    → calls_fit d (clear_calls database) (session_on database) ≡ true → CrashesLeave x.entries (LeftInCommand d (clear_calls database) database) before now

-- a release-locks', on every database whose lock is held
abbrev pub CrashesReleased : Dialect → State → Crashes → Crashes → Type 0
CrashesReleased d x before now = (database : Database) → HasDatabase d x database → database.lock.locked ≡ true
    → calls_fit d (release_calls database) (session_on database) ≡ true → CrashesLeave x.entries (LeftInCommand d (release_calls database) database) before now

-- a command's, on every database whose contents are known, and on which its calls fit, where its name has no mark of its own
abbrev pub CrashesAll : {Key Told : Type 0} → Dialect → Meaning Key → Stamp → Standing Key Told → State → Crashes → Crashes → Type 0
CrashesAll d m stamp r x before now = is_mark stamp.who ≡ false → OnAll d m stamp r x (λ database told. CrashesLeave x.entries (LeftInCommand d (script d m stamp (place r) database) database) before now)

-- And what each of them leaves behind in the end, however it ended.

-- of a call that takes a command's lock
abbrev pub BehindOpened : Dialect → Stamp → State → State → Type 0
BehindOpened d stamp x y = (database : Database) → HasDatabase d x database → LeftBehind d (Alone (map Locks (opening stamp database)) Ordinary ∷ []) database x y

-- of a tag
abbrev pub BehindTagged : Dialect → Identity → List ℕ → State → State → Type 0
BehindTagged d of tag x y = (database : Database) (row : Tracked) → HasDatabase d x database → last_row database.rows ≡ Some row → identity_of row ≡ of
    → calls_fit d (tag_calls tag database) (session_on database) ≡ true → LeftBehind d (tag_calls tag database) database x y

-- of a clear-checksums
abbrev pub BehindCleared : Dialect → State → State → Type 0
BehindCleared d x y = (database : Database) → HasDatabase d x database → is_empty database.rows ≡ false → calls_fit d (clear_calls database) (session_on database) ≡ true → LeftBehind d (clear_calls database) database x y

-- of a release-locks
abbrev pub BehindReleased : Dialect → State → State → Type 0
BehindReleased d x y = (database : Database) → HasDatabase d x database → database.lock.locked ≡ true → calls_fit d (release_calls database) (session_on database) ≡ true → LeftBehind d (release_calls database) database x y

-- of a command
abbrev pub BehindAll : {Key Told : Type 0} → Dialect → Meaning Key → Stamp → Standing Key Told → State → State → Type 0
BehindAll d m stamp r x y = is_mark stamp.who ≡ false → OnAll d m stamp r x (λ database told. LeftBehind d (script d m stamp (place r) database) database x y)
