-- What had room in a file's journal, told of a copy of it in memory.
use Rattle.std.proofs.Common.{refl, subst, sym, ◌∙◌}
use Rattle.std.specs.Prelude.{Err, IfOk, IfSome, List, Ok, Option, Result, Some, ℕ, ◌≡◌}
use Rattle.lq_base.specs.declared.dialect.Dialect.{Dialect}
use Rattle.lq_cli.specs.declared.line.Job.{Job}
use Rattle.lq_commands.specs.Works.{OnIts, TellsRoom}
use Rattle.lq_commands.specs.declared.given.Asked.{Asked}
use Rattle.lq_commands.specs.declared.given.Given.{Given}
use Rattle.lq_db.specs.Db.{IsDb, IsNew, state}
use Rattle.lq_entries.specs.Load.{catalogue_of}
use Rattle.lq_db.specs.declared.db.Db.{Db}
use Rattle.lq_outside.specs.Crash.{Crashes}
use Rattle.lq_store.specs.Executor.{Held, kept}
use Rattle.lq_store.specs.Journal.{State}
use Rattle.lq_tell.specs.declared.done.Done.{Done}
use Rattle.lq_tell.specs.declared.status.Status.{Status}
use Rattle.lq_track.specs.Database.{Database}
use Rattle.lq_turns.specs.declared.call.Call.{Call}
use Rattle.lq_turns.specs.declared.stamp.Stamp.{Stamp}
use Rattle.lq_jobs.proofs.Copied.{copy_opens}
use Rattle.lq_jobs.proofs.OnFiles.{room_on}
use Rattle.lq_jobs.proofs.Ready.{opened}
use Rattle.lq_jobs.specs.Bytes.{OnFile, Opens, TellsRoomOn, given_at, most_bytes}
use Rattle.lq_jobs.specs.Jobs.{job_calls}

-- of a store's journal, and of a file's
abbrev pub RoomOnIts : Dialect → (Database → List Call) → State → Result Done Status → Type 0
RoomOnIts d calls x r = IfOk r (λ done. OnIts d x (λ database. TellsRoom d (calls database) database x done.status))

abbrev pub RoomOnFile : Dialect → (Database → List Call) → Option (List ℕ) → Result Done Status → Type 0
RoomOnFile d calls told r = IfOk r (λ done. OnFile d told (λ database. TellsRoomOn d (calls database) database told done.status))

pub no_end : (s : Status) (ended : Done) → (let r : Result Done Status = Err s in r) ≡ Ok ended → ⊥
no_end s ended is = Prim.cc

-- what came to its end on the copy tells of it
pub ended_room : (d : Dialect) (calls : Database → List Call) (x : State) (r made : Result Done Status) → ((ended : Done) → r ≡ Ok ended → made ≡ Ok ended) → RoomOnIts d calls x made → RoomOnIts d calls x r
ended_room d calls x (Ok done) made is room = subst (RoomOnIts d calls x) (is done refl) room
ended_room d calls x (Err s) made is room = tt

-- by what was given, read with the clock
pub room_so : (job : Job) (asked : Asked) (stamp : Stamp) (given : Given) → given ≡ given_at asked stamp → (x : State) (r : Result Done Status) → RoomOnIts given.options.dialect (job_calls job given) x r → RoomOnIts asked.options.dialect (job_calls job (given_at asked stamp)) x r
room_so job asked stamp given given_so x r room = subst (λ (given : Given). RoomOnIts given.options.dialect (job_calls job given) x r) given_so room

-- the copy's journal is that of its store
module _ {D P E : Type 0} (d p : Dialect) (told : Option (List ℕ)) (crashes : Crashes) (h : Held) (db : Db D P E) (is : IsDb p told crashes h db) (new : IsNew d most_bytes db)
    (before : Option (List ℕ)) (same : told ≡ before) (read : IfSome before (λ bytes. catalogue_of d most_bytes bytes ≡ Ok (kept h))) (calls : Database → List Call) where
  at_database : (s : Status) (database : Database) → Opens d before database → OnIts d (state told h db) (λ database. TellsRoom d (calls database) database (state told h db) s) → TellsRoomOn d (calls database) database before s
  at_database s database opens room =
      let has = opened d p told crashes h db is new before database same read opens in
      subst (λ (file : Option (List ℕ)). TellsRoomOn d (calls database) database file s) same
      (room_on d p told crashes h db is new.limit_is opens.bytes (same ∙ opens.told_is) told crashes h db (record { journal_is = is.journal_is; lives = λ live. is }) database has (calls database) s (room database has))

  pub loaded_room : (r : Result Done Status) → RoomOnIts d calls (state told h db) r → RoomOnFile d calls before r
  loaded_room (Ok done) room = λ database opens. at_database done.status database opens room
  loaded_room (Err s) room = tt

-- and the file's
pub copy_room : (d : Dialect) (told copied : Option (List ℕ)) → IfSome told (λ bytes. copied ≡ Some bytes) → (calls : Database → List Call) (r : Result Done Status) → RoomOnFile d calls copied r → RoomOnFile d calls told r
copy_room d told copied copy calls (Ok done) room = λ database opens.
    let same : copied ≡ told = subst (λ (o : Option (List ℕ)). IfSome o (λ bytes. copied ≡ Some bytes)) opens.told_is copy ∙ sym opens.told_is in
    subst (λ (file : Option (List ℕ)). TellsRoomOn d (calls database) database file done.status) same (room database (copy_opens d told copied database copy opens))
copy_room d told copied copy calls (Err s) room = tt
