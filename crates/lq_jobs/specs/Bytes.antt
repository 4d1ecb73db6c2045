-- The database that the bytes of a file hold.
use Rattle.std.specs.Option.{option_map}
use Rattle.std.specs.Prelude.{Err, IfSome, IsTrue, List, Ok, Option, Result, Some, [], false, length, true, ℕ, ◌++◌, ◌+◌, ◌<◌, ◌∷◌, ◌≡◌, ◌⊎◌}
use Rattle.lq_base.specs.declared.dialect.Dialect.{Dialect}
use Rattle.lq_cli.specs.declared.line.Job.{Job}
use Rattle.lq_cli.specs.declared.line.Job.TheVariants.{RollbackSql, UpdateSql}
use Rattle.lq_commands.specs.Works.{IsReady, is_finished}
use Rattle.lq_commands.specs.declared.given.Asked.{Asked}
use Rattle.lq_commands.specs.declared.given.Given.{Given}
use Rattle.lq_db.specs.Db.{IsDb, IsNew, engine_in, state}
use Rattle.lq_db.specs.declared.db.Db.{Db}
use Rattle.lq_engine.specs.State.{State}
use Rattle.lq_entries.specs.Load.{catalogue_of, is_clean}
use Rattle.lq_entries.specs.Log.{entries_in}
use Rattle.lq_generate.specs.Faults.{IsReadBack}
use Rattle.lq_generate.specs.Generated.{generated_text}
use Rattle.lq_journal.specs.declared.fault.LoadFault.{LoadFault}
use Rattle.lq_journal.specs.declared.fault.LoadFault.TheVariants as load
use Rattle.lq_model.specs.Catalogue.{Catalogue}
use Rattle.lq_model.specs.declared.caller.Room.{Room}
use Rattle.lq_model.specs.declared.caller.Room.TheVariants.{Ordinary}
use Rattle.lq_named.specs.Named.{HasNames}
use Rattle.lq_outside.specs.Crash.{Crashes as DiskCrashes}
use Rattle.lq_run.specs.Left.{ClosesHeld, IsAtMostFreed, IsNextIn, LeavesLock}
use Rattle.lq_run.specs.Stands.{HadRoom, entries_of}
use Rattle.lq_store.specs.Executor.{Held, holding, kept}
use Rattle.lq_store.specs.Journal.{Entry, State as StoreState, database as catalogue_by, end_of, is_full, size_of_all}
use Rattle.lq_tell.specs.declared.done.Done.{Done}
use Rattle.lq_tell.specs.declared.status.Status.{Status}
use Rattle.lq_tell.specs.declared.status.Status.TheVariants as status
use Rattle.lq_jobs.specs.declared.copying.Printing.{Printing}
use Rattle.lq_jobs.specs.declared.copying.Printing.TheVariants as printing
use Rattle.lq_track.specs.Database.{Database}
use Rattle.lq_turns.specs.Deed.{all_done}
use Rattle.lq_turns.specs.Schedule.{StandsFor}
use Rattle.lq_turns.specs.Session.{all_called, called, left_by, room_of, session_on}
use Rattle.lq_turns.specs.Stops.{IsLeft, Journal, joined}
use Rattle.lq_turns.specs.declared.call.Call.{Call}
use Rattle.lq_turns.specs.declared.deed.Deed.TheVariants.{Locks}
use Rattle.lq_turns.specs.declared.deed.OnLock.TheVariants.{Freed}
use Rattle.lq_turns.specs.declared.stamp.Stamp.{Stamp}

-- the most bytes of a journal
abbrev pub most_bytes : ℕ
most_bytes = 268435456

-- how many bytes of a journal are in use: those of its head with a gate, and of its entries
abbrev pub in_use : List Entry → ℕ
in_use entries = 17 + size_of_all entries

-- what a file tells is no damage, and the catalogue that it leads to stands for the database
pub record Opens (d : Dialect) (told : Option (List ℕ)) (database : Database) : Type 0 where
  pub bytes : List ℕ
  pub told_is : told ≡ Some bytes
  pub catalogue : Catalogue
  pub read : catalogue_of d most_bytes bytes ≡ Ok catalogue
  pub stands : StandsFor d catalogue database

-- for the database of a file
abbrev pub OnFile : Dialect → Option (List ℕ) → (Database → Type 0) → Type 0
OnFile d told holds = (database : Database) → Opens d told database → holds database

-- the entries of a file, run from the first, lead to a catalogue that stands for the database
pub record Holds (d : Dialect) (told : Option (List ℕ)) (database : Database) : Type 0 where
  pub entries : List Entry
  pub told_are : entries_in d most_bytes told ≡ Some entries
  pub catalogue : Catalogue
  pub leads : catalogue_by d entries ≡ Some catalogue
  pub stands : StandsFor d catalogue database

-- a file after calls: it holds their database, and has their entries behind those before
pub record Becomes (d : Dialect) (calls : List Call) (database : Database) (before after : Option (List ℕ)) : Type 0 where
  pub holds : Holds d after (left_by d calls database)
  pub entries : entries_in d most_bytes after ≡ option_map (λ entries. entries ++ entries_of d (all_called d calls (session_on database)).entries) (entries_in d most_bytes before)

-- a file that holds what a stop of these calls may leave: entries behind those before, and the database that they lead to
pub record IsLeftOn (d : Dialect) (calls : List Call) (database : Database) (before after : Option (List ℕ)) : Type 0 where
  pub written : Journal
  pub stops : IsLeft d calls database [] written
  pub closes : ClosesHeld d calls database written
  pub entries : entries_in d most_bytes after ≡ option_map (λ entries. entries ++ entries_of d written) (entries_in d most_bytes before)
  pub now : Database
  pub led : all_done d (joined written) database ≡ Ok now
  pub holds : Holds d after now

-- so it is after a command that came to its end, or ended otherwise
abbrev pub WorksOn : Dialect → List Call → Database → Option (List ℕ) → Result Done Status → Option (List ℕ) → Type 0
WorksOn d calls database before (Ok done) after = (is_finished done.status ≡ true → Becomes d calls database before after) × (is_finished done.status ≡ false → IsLeftOn d calls database before after)
WorksOn d calls database before (Err s) after = IsLeftOn d calls database before after

-- Behind what was written of these calls, the entries of the next call have no room in the file's journal; only what frees the lock may use all of it.
pub record IsFullOn (d : Dialect) (calls : List Call) (database : Database) (before : Option (List ℕ)) (used next : ℕ) : Type 0 where
  pub written : Journal
  pub more : Journal
  pub stops : IsLeft d calls database [] written
  pub comes : IsLeft d calls database [] (written ++ more)
  -- the calls that were made, and the next one
  pub made : List Call
  pub call : Call
  pub wrote : (all_called d made (session_on database)).entries ≡ written
  pub appends : (called d call (all_called d made (session_on database))).entries ≡ written ++ more
  pub next_call : IsNextIn d calls database made call
  pub used_is : IfSome (entries_in d most_bytes before) (λ there. used ≡ in_use there + size_of_all (entries_of d written))
  pub next_is : next ≡ size_of_all (entries_of d more)
  pub room : Room
  pub in_room : room ≡ room_of call
  pub which : (room ≡ Ordinary) ⊎ (more ≡ (Locks Freed ∷ []) ∷ [])
  pub full : is_full (end_of room most_bytes) used (entries_of d more) ≡ true

-- a status that says that the journal is full says how full it was
abbrev pub SaysFullOn : Dialect → List Call → Database → Option (List ℕ) → Status → Type 0
SaysFullOn d calls database before s = (used next : ℕ) → s ≡ status.Full used next → IsFullOn d calls database before used next

-- Where the file's journal had no room for the next call, the file holds what was written by then, and possibly the entry that frees the lock. The lock is let go; or what had no room is that entry; or nothing was written.
pub record RestsOn (d : Dialect) (calls : List Call) (database : Database) (before after : Option (List ℕ)) (used next : ℕ) : Type 0 where
  pub left : IsLeftOn d calls database before after
  pub full : IsFullOn d calls database before used next
  pub behind : IsAtMostFreed full.written left.written
  pub lock : LeavesLock left.now.lock full.more left.written

-- so it is where a status says that the journal is full
abbrev pub RestsFullOn : Dialect → List Call → Database → Option (List ℕ) → Status → Option (List ℕ) → Type 0
RestsFullOn d calls database before s after = (used next : ℕ) → s ≡ status.Full used next → RestsOn d calls database before after used next

-- each entry of these calls had room in the file's journal
abbrev pub HadRoomOn : Dialect → List Call → Database → Option (List ℕ) → Type 0
HadRoomOn d calls database before = IfSome (entries_in d most_bytes before) (λ there. HadRoom d most_bytes (in_use there) (all_called d calls (session_on database)).entries)

-- so each had whose calls came to their end, and a full journal is told as full as it was
abbrev pub TellsRoomOn : Dialect → List Call → Database → Option (List ℕ) → Status → Type 0
TellsRoomOn d calls database before s = (is_finished s ≡ true → HadRoomOn d calls database before) × SaysFullOn d calls database before s

-- these bytes have the entries of some that a crash might leave
abbrev pub WasLeft : Dialect → (List ℕ → Type 0) → List ℕ → Type 0
WasLeft d leaves bytes = (those : List ℕ) × leaves those × (entries_in d most_bytes (Some bytes) ≡ entries_in d most_bytes (Some those))

-- at each moment of it a crash of the machine leaves the entries that one before it might have left, or such bytes
abbrev pub CrashLeaves : Dialect → (List ℕ → Type 0) → DiskCrashes → DiskCrashes → Type 0
CrashLeaves d leaves before now = IsTrue before.is_honest → (bytes : List ℕ) → now.left_since before.moment bytes → WasLeft d before.leaves bytes ⊎ leaves bytes

-- what a stop of these calls may leave
abbrev pub CrashesOn : Dialect → List Call → Database → Option (List ℕ) → DiskCrashes → DiskCrashes → Type 0
CrashesOn d calls database told before now = CrashLeaves d (λ bytes. IsLeftOn d calls database told (Some bytes)) before now

-- damage is told with its place
abbrev pub TellsDamage : Dialect → Option (List ℕ) → Result Done Status → Type 0
TellsDamage d told (Err (status.Damaged at)) = IfSome told (λ bytes. catalogue_of d most_bytes bytes ≡ Err at)
TellsDamage d told _ = Unit {0}

-- what the file tells is damaged there
abbrev pub IsDamagedAt : Dialect → Option (List ℕ) → ℕ → Type 0
IsDamagedAt d told at = (bytes : List ℕ) × (told ≡ Some bytes) × (catalogue_of d most_bytes bytes ≡ Err at)

-- the status of a fault of loading
abbrev pub load_status : LoadFault → Status
load_status load.Disk = status.DiskFault
load_status (load.Damaged at) = status.Damaged at
load_status load.OutOfMemory = status.OutOfMemory

-- what a command works with once the clock is read
abbrev pub given_at : Asked → Stamp → Given
given_at asked stamp = record { changelog = asked.changelog; options = asked.options; stamp = stamp }

-- Commands whose statements are printed: they run on a copy of the file in memory.

abbrev pub job_of : Printing → Job
job_of printing.Update = UpdateSql
job_of (printing.Rollback target) = RollbackSql target.now

-- a fault of the disk in memory is want of memory
abbrev pub copy_status : Status → Status
copy_status status.DiskFault = status.OutOfMemory
copy_status s = s

-- what a command answers on a disk in memory
abbrev pub copied : Result Done Status → Result Done Status
copied (Ok done) = Ok done
copied (Err s) = Err (copy_status s)

-- there is no copy: the file is too long, or a fault was met
abbrev pub IsNoCopy : Option (List ℕ) → Status → Type 0
IsNoCopy told (status.Damaged at) = (at ≡ most_bytes) × IfSome told (λ bytes. most_bytes < length bytes)
IsNoCopy told status.DiskFault = Unit {0}
IsNoCopy told status.OutOfMemory = Unit {0}
IsNoCopy told s = ⊥

-- A database over the engine, as its objects are written as a changelog.

module _ {D P : Type 0} where
  -- what its engine holds
  abbrev pub held_in : Db D P State → Held
  held_in db = holding (engine_in db).dialect (engine_in db).now (engine_in db).past

  abbrev pub state_in : Option (List ℕ) → Db D P State → StoreState
  state_in told db = state told (held_in db) db

  -- it was loaded from what its disk tells
  pub record IsLoadedFrom (sql d : Dialect) (told : Option (List ℕ)) (disk : DiskCrashes) (db : Db D P State) : Type 0 where
    pub valid : IsDb sql told disk (held_in db) db
    pub ready : IsReady d (state_in told db)
    pub new : IsNew d most_bytes db
    pub clean : is_clean d (kept (held_in db)) ≡ true
    pub read : IfSome told (λ bytes. catalogue_of d most_bytes bytes ≡ Ok (kept (held_in db)))

-- each name of these objects is a name, and their changelog's text is read as the tree that it was made from
pub record IsWellWritten (d : Dialect) (author : List ℕ) (users : Catalogue) : Type 0 where
  pub names : HasNames users
  pub reads : IsReadBack d author users (generated_text d author users)
