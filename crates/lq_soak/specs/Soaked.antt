-- What a soak prints: its changelog, which is made of a number, runs on a database without anything, and is taken back.
use Rattle.std.specs.List.{list_all}
use Rattle.std.specs.Prelude.{Bool, Err, List, None, Ok, Option, Result, Some, [], false, if◌then◌else◌, is_some, length, min, option_map, suc, take, true, zero, ℕ, ◌++◌, ◌+◌, ◌∷◌, ◌≡◌, ◌⊎◌}
use Rattle.hex.specs.Hex.{encode_lower}
use Rattle.lq_base.specs.declared.command.Command.{Command}
use Rattle.lq_base.specs.declared.command.Command.TheVariants as command
use Rattle.lq_base.specs.declared.command.Target.TheVariants.{Count}
use Rattle.lq_base.specs.declared.dialect.Dialect.{Dialect}
use Rattle.lq_changelog.specs.Gathers.{changelog as changelog_in}
use Rattle.lq_cli.specs.declared.line.Job.{Job}
use Rattle.lq_cli.specs.declared.line.Job.TheVariants.{Soak}
use Rattle.lq_commands.specs.Outputs.{TellsText, back_in}
use Rattle.lq_commands.specs.Refusals.{refusal}
use Rattle.lq_commands.specs.Scripts.{script, updated_in}
use Rattle.lq_commands.specs.Works.{status_by, synced_in}
use Rattle.lq_commands.specs.declared.given.Given.{Given}
use Rattle.lq_entries.specs.Log.{entries_in}
use Rattle.lq_kinds.specs.declared.change_set.Changelog.{Changelog}
use Rattle.lq_model.specs.Catalogue.{Catalogue, no_objects, table_of}
use Rattle.lq_outside.specs.Forms.{IsPart, held_in}
use Rattle.lq_report.specs.Output.{soak_text}
use Rattle.lq_report.specs.declared.soak.Soaked.{Soaked}
use Rattle.lq_run.specs.Stands.{entries_of}
use Rattle.lq_sources.specs.Faults.{IsTold, Source}
use Rattle.lq_store.specs.Calls.{is_of_texts}
use Rattle.lq_store.specs.Journal.{Entry}
use Rattle.lq_tell.specs.SoakLog.{soak_changelog, soak_path, table_name}
use Rattle.lq_tell.specs.declared.done.Done.{Done}
use Rattle.lq_tell.specs.declared.status.Status.{Status}
use Rattle.lq_tell.specs.declared.status.Status.TheVariants as status
use Rattle.lq_jobs.specs.Bytes.{Becomes, Holds, in_use, most_bytes}
use Rattle.lq_jobs.specs.Kinds.{IsOfFiles}
use Rattle.lq_track.specs.Database.{Database}
use Rattle.lq_track.specs.Lock.{free}
use Rattle.lq_turns.specs.Session.{Session, all_called, left_by, session_on}
use Rattle.lq_turns.specs.declared.stamp.Stamp.{Stamp}
use Rattle.lq_turns.specs.declared.stop.Stop.{Stop}
use Rattle.md5.specs.Md5.{md5}

-- a database without anything
abbrev pub empty : Database
empty = record { users = no_objects; rows = []; lock = free; has_log = false; has_lock = false; has_lock_row = false }

-- the changelog that the made file holds
abbrev pub IsMade : Dialect → ℕ → ℕ → Changelog → Type 0
IsMade d number sets g = (source : Source) → IsTold (Some (held_in ((soak_path, soak_changelog number sets) ∷ []))) source → changelog_in source soak_path d [] ≡ Ok g

-- without contexts and labels
abbrev pub soak_given : Dialect → Changelog → Stamp → Given
soak_given d g stamp = record { changelog = g; options = record { dialect = d; contexts = []; labels = None }; stamp = stamp }

-- all changesets are taken back; a count has 32 bits
abbrev pub take_back : ℕ → Command
take_back sets = command.Rollback (Count (min sets 4294967295))

-- the calls of a command on a database
abbrev pub session_of : Command → Given → Database → Session
session_of c given database = all_called given.options.dialect (script c given database) (session_on database)

-- how many of the tables of so many changesets are there
abbrev pub tables_there : Catalogue → ℕ → ℕ
tables_there c zero = 0
tables_there c (suc n) = tables_there c n + (if is_some (table_of c (table_name (suc n))) then 1 else 0)

module _ (given : Given) where
  abbrev pub updated : Session
  updated = session_of command.Update given empty

  -- the journal's entries after the update
  abbrev pub update_entries : List Entry
  update_entries = entries_of given.options.dialect updated.entries

  module _ (sets : ℕ) where
    -- the rollback of what the update left
    abbrev pub taken_back : Session
    taken_back = session_of (take_back sets) given updated.committed

    abbrev pub all_entries : List Entry
    all_entries = update_entries ++ entries_of given.options.dialect taken_back.entries

    -- what is counted, with the bytes of a file that has the entries of the update
    abbrev pub counts : List ℕ → Soaked
    counts bytes = record {
      sets = sets;
      entries = length update_entries;
      bytes = in_use update_entries;
      sum = encode_lower (md5 (take (in_use update_entries) bytes));
      later = length all_entries;
      rows = length taken_back.committed.rows;
      tables = tables_there taken_back.committed.users sets;
    }

-- the text of a soak of so many changesets that are made of a number
pub record Soaks (d : Dialect) (number sets : ℕ) (stamp : Stamp) (text : List ℕ) : Type 0 where
  pub changelog : Changelog
  pub made : IsMade d number sets changelog
  pub bytes : List ℕ
  pub holds : entries_in d most_bytes (Some bytes) ≡ Some (update_entries (soak_given d changelog stamp))
  pub is : text ≡ soak_text (counts (soak_given d changelog stamp) sets bytes)

abbrev pub is_done : Status → Bool
is_done status.Done = true
is_done s = false

-- what stops the turns of a command that no check refuses
abbrev pub stop_in : Command → Given → Database → Option Stop
stop_in command.Update given database = (updated_in false given database).settled.stop
stop_in (command.Rollback target) given database = (back_in false given target database).settled.stop
stop_in command.Sync given database = (synced_in given database).stop
stop_in c given database = None

-- so a command ends: as its checks refuse it, or else as its turns stop it; or the journal is full
abbrev pub EndsIn : Option Status → Option Stop → Status → Type 0
EndsIn (Some refused) stop s = s ≡ refused
EndsIn None stop s = (s ≡ status_by stop) ⊎ ((used : ℕ) × (next : ℕ) × (s ≡ status.Full used next))

abbrev pub EndsOn : Command → Given → Database → Status → Type 0
EndsOn c given database s = EndsIn (refusal c given database) (stop_in c given database) s

-- its update, or the rollback of what that left, came to this end
pub record StopsSoak (d : Dialect) (number sets : ℕ) (stamp : Stamp) (s : Status) : Type 0 where
  pub changelog : Changelog
  pub made : IsMade d number sets changelog
  pub ends : EndsOn command.Update (soak_given d changelog stamp) empty s ⊎ EndsOn (take_back sets) (soak_given d changelog stamp) (updated (soak_given d changelog stamp)).committed s

-- a status has a cause, or there was no memory
abbrev pub LacksOr : Status → Type 0 → Type 0
LacksOr s cause = (s ≡ status.OutOfMemory) ⊎ cause

abbrev pub FailsSoak : Dialect → ℕ → ℕ → Stamp → Status → Type 0
FailsSoak d number sets stamp s = LacksOr s (StopsSoak d number sets stamp s)

-- it is done, with that output; or the files failed, or it was not
abbrev pub TellsSoak : Dialect → ℕ → ℕ → Stamp → Result Done Status → Type 0
TellsSoak d number sets stamp (Ok done) = (text : List ℕ) × TellsText text done × Soaks d number sets stamp text
TellsSoak d number sets stamp (Err s) = (is_done s ≡ false) × (IsOfFiles (Err s) ⊎ FailsSoak d number sets stamp s)

-- of a job that is a soak
abbrev pub TellsSoakOf : Job → Dialect → Stamp → Result Done Status → Type 0
TellsSoakOf job d stamp done = (number sets : ℕ) → job ≡ Soak number sets → TellsSoak d number sets stamp done

-- what it says: the output has the text of a soak that is done, or a front of it where the output failed; and any other status has its cause
pub record SaysSoak (d : Dialect) (number sets : ℕ) (stamp : Stamp) (s : Status) (before after : Option (List ℕ)) : Type 0 where
  pub whole : s ≡ status.Done → (text : List ℕ) × Soaks d number sets stamp text × (after ≡ option_map (λ out. out ++ text) before)
  pub part : s ≡ status.WriteFault → (text : List ℕ) × Soaks d number sets stamp text × IsPart text before after
  pub ends : (s ≡ status.Done) ⊎ (s ≡ status.WriteFault) ⊎ IsOfFiles (Err s) ⊎ FailsSoak d number sets stamp s

-- On the way there.

-- a command ends so on the database of a file
abbrev pub EndsOnEach : Given → Command → Option (List ℕ) → Status → Type 0
EndsOnEach given c told s = (database : Database) → Holds given.options.dialect told database → EndsOn c given database s

-- with the changelog that is made
pub record Ended (d : Dialect) (number sets : ℕ) (stamp : Stamp) (c : Command) (told : Option (List ℕ)) (s : Status) : Type 0 where
  pub changelog : Changelog
  pub made : IsMade d number sets changelog
  pub ends : EndsOnEach (soak_given d changelog stamp) c told s

-- so many rows, and so many of the tables of the changesets
pub record IsLeft (sets : ℕ) (database : Database) (rows tables : ℕ) : Type 0 where
  pub rows_are : rows ≡ length database.rows
  pub tables_are : tables ≡ tables_there database.users sets

-- a command was done on a file that holds a database, and this is left
pub record DidOn (given : Given) (c : Command) (sets : ℕ) (database : Database) (before after : Option (List ℕ)) (rows tables : ℕ) : Type 0 where
  pub becomes : Becomes given.options.dialect (script c given database) database before after
  pub left : IsLeft sets (left_by given.options.dialect (script c given database) database) rows tables

abbrev pub DidOnEach : Given → Command → ℕ → Option (List ℕ) → Option (List ℕ) → ℕ → ℕ → Type 0
DidOnEach given c sets before after rows tables = (database : Database) → Holds given.options.dialect before database → DidOn given c sets database before after rows tables

-- with the changelog that is made
pub record Did (d : Dialect) (number sets : ℕ) (stamp : Stamp) (c : Command) (before after : Option (List ℕ)) (rows tables : ℕ) : Type 0 where
  pub changelog : Changelog
  pub made : IsMade d number sets changelog
  pub does : DidOnEach (soak_given d changelog stamp) c sets before after rows tables

-- the journal of a file, where it has no state, has so many entries, and so many bytes of it are in use
abbrev pub IsMeasured : Dialect → Option (List ℕ) → ℕ → ℕ → Type 0
IsMeasured d told entries used = (there : List Entry) → entries_in d most_bytes told ≡ Some there → list_all is_of_texts there ≡ true → (entries ≡ length there) × (used ≡ in_use there)

-- the text of what was measured after the update and is left after the rollback
pub record TakenBack (d : Dialect) (number sets : ℕ) (stamp : Stamp) (told : Option (List ℕ)) (entries bytes : ℕ) (sum text : List ℕ) : Type 0 where
  pub last : Option (List ℕ)
  pub later : ℕ
  pub used : ℕ
  pub rows : ℕ
  pub tables : ℕ
  pub did : Did d number sets stamp (take_back sets) told last rows tables
  pub measured : IsMeasured d last later used
  pub is : text ≡ soak_text (record { sets = sets; entries = entries; bytes = bytes; sum = sum; later = later; rows = rows; tables = tables })
