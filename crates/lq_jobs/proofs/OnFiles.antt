-- What a command does on a database that was loaded from a file.
use Rattle.std.proofs.Common.{ap, arith, inl, inr, refl, subst, sym, ◌∙◌}
use Rattle.std.specs.Prelude.{Bool, Err, IfOk, IfSome, List, None, Ok, Option, Result, Some, false, is_some, map, true, ℕ, ◌+◌, ◌≡◌, ◌≤◌}
use Rattle.lq_base.specs.declared.dialect.Dialect.{Dialect}
use Rattle.lq_cli.specs.declared.line.Job.{Job}
use Rattle.lq_cli.specs.declared.line.Job.TheVariants.{Generate}
use Rattle.lq_commands.specs.Outputs.{TellsJob}
use Rattle.lq_commands.specs.Refusals.{Answers, IsFault}
use Rattle.lq_commands.specs.Works.{CrashesIn, TellsRoom, Works, is_finished}
use Rattle.lq_commands.specs.declared.given.Given.{Given}
use Rattle.lq_db.specs.Db.{IsDb, IsValid, state}
use Rattle.lq_db.specs.Load.{IsDbFault}
use Rattle.lq_entries.specs.Load.{catalogue_of}
use Rattle.lq_entries.specs.Log.{crashes_in, entries_in, if_undamaged, unplaced}
use Rattle.lq_db.specs.declared.db.Db.{Db}
use Rattle.lq_frames.specs.Body.{journal_of}
use Rattle.lq_journal.specs.State.{dialect_of, limit_of, used_of}
use Rattle.lq_frames.specs.declared.entry.Entry.{Entry as Placed}
use Rattle.lq_journal.specs.declared.fault.LoadFault.{LoadFault}
use Rattle.lq_journal.specs.declared.fault.LoadFault.TheVariants as load
use Rattle.lq_model.specs.Catalogue.{Catalogue}
use Rattle.lq_outside.specs.Forms.{Rose}
use Rattle.lq_outside.specs.Crash.{Crashes, Settled}
use Rattle.lq_run.specs.Commands.{HasDatabase, Leaves}
use Rattle.lq_run.specs.Crashes.{CrashesLeave, LeftBehind, LeftInCommand, Since}
use Rattle.lq_run.specs.Left.{IsAtMostFreed, IsFullIn, LeavesLock, RestsIn, StopsIn}
use Rattle.lq_run.specs.Stands.{HadRoom, entries_of}
use Rattle.lq_store.specs.Executor.{Held, kept}
use Rattle.lq_store.specs.Journal.{Entry, database as catalogue_by, end_of, is_full, size_of_all, State}
use Rattle.lq_tell.specs.Texts.{status_done}
use Rattle.lq_tell.specs.declared.done.Done.{Done}
use Rattle.lq_tell.specs.declared.status.Status.{Status}
use Rattle.lq_tell.specs.declared.status.Status.TheVariants as status
use Rattle.lq_track.specs.Database.{Database}
use Rattle.lq_turns.specs.Session.{all_called, session_on}
use Rattle.lq_turns.specs.declared.call.Call.{Call}
use Rattle.lq_jobs.proofs.InPart.{own_calls}
use Rattle.lq_jobs.proofs.InUse.{used_in}
use Rattle.lq_jobs.proofs.LeftOnFile.{is_left_on, since_on}
use Rattle.lq_jobs.proofs.Ready.{becomes, holds_then}
use Rattle.lq_jobs.proofs.RefusedKinds.{answers_disk, answers_memory}
use Rattle.lq_jobs.proofs.Unchanged.{had_room, left_same, says_full}
use Rattle.lq_jobs.specs.Bytes.{Becomes, HadRoomOn, IsFullOn, IsLeftOn, OnFile, Opens, RestsFullOn, RestsOn, SaysFullOn, TellsDamage, TellsRoomOn, WorksOn, in_use, load_status, most_bytes}
use Rattle.lq_jobs.specs.Jobs.{DoesJob, MakesAgain, is_own, job_reads, job_refusal, job_script}
use Rattle.lq_jobs.specs.Kinds.{IsOfDatabase}
use Rattle.lq_jobs.specs.Worked.{CrashesSince}

not_finished : false ≡ true → ⊥
not_finished h = Prim.cc

some_there : (read : Result (List Placed) ℕ) → is_some (if_undamaged read) ≡ true → (there : List Entry) × (if_undamaged read ≡ Some there)
some_there (Ok entries) some = (map unplaced entries, refl)
some_there (Err place) some = absurd Prim.cc

pub by_end : {A : Type 0} (b : Bool) → (b ≡ true → A) → (b ≡ false → A) → A
by_end true whole part = whole refl
by_end false whole part = part refl

module _ {D P E : Type 0} (d p : Dialect) (told : Option (List ℕ)) (crashes : Crashes) (h : Held) (db : Db D P E) (is : IsDb p told crashes h db) (limit : limit_of db.journal ≡ most_bytes)
    (bytes : List ℕ) (told_is : told ≡ Some bytes) (now : Option (List ℕ)) (later : Crashes) (k : Held) (left : Db D P E) (valid : IsValid p now later k left)
    (database : Database) (has : HasDatabase d (state told h db) database) where
  abbrev x : State
  x = state told h db

  abbrev y : State
  y = state now k left

  dialect_is : dialect_of db.journal ≡ d
  dialect_is = is.journal_is ∙ has.dialect

  pub entries_were : entries_in (dialect_of db.journal) (limit_of db.journal) told ≡ entries_in d most_bytes told
  entries_were = ap (λ e. entries_in e (limit_of db.journal) told) dialect_is ∙ ap (λ n. entries_in d n told) limit

  undamaged : is_some (if_undamaged (journal_of (dialect_of db.journal) (limit_of db.journal) bytes)) ≡ true
  undamaged = subst (λ o. IfSome o (λ bytes. is_some (if_undamaged (journal_of (dialect_of db.journal) (limit_of db.journal) bytes)) ≡ true)) told_is is.whole.undamaged

  pub entries_told : (there : List Entry) × (entries_in (dialect_of db.journal) (limit_of db.journal) told ≡ Some there)
  entries_told =
      let there = some_there (journal_of (dialect_of db.journal) (limit_of db.journal) bytes) undamaged in
      (there.0, ap (entries_in (dialect_of db.journal) (limit_of db.journal)) told_is ∙ there.1)

  pub leads : (there : List Entry) → entries_in (dialect_of db.journal) (limit_of db.journal) told ≡ Some there → catalogue_by d there ≡ Some (kept h)
  leads there are = subst (λ e. catalogue_by e there ≡ Some (kept h)) has.dialect (subst (λ o. IfSome o (λ entries. catalogue_by db.dialect entries ≡ Some (kept h))) are is.is_held.is_journal)

  -- calls keep the journal's dialect and limit
  abbrev pub SameJournal : Type 0
  SameJournal = (dialect_of left.journal ≡ d) × (limit_of left.journal ≡ most_bytes)

  pub journal_stays : y.dialect ≡ d → y.limit ≡ x.limit → SameJournal
  journal_stays dialect same = (valid.journal_is ∙ dialect, same ∙ limit)

  journal_after : (calls : List Call) (r : Result Done Status) → Works d calls database x r y → SameJournal
  journal_after calls (Ok done) works = by_end (is_finished done.status) (λ finished. journal_stays (works.0 finished).database_is.dialect (works.0 finished).limit) (λ unfinished. journal_stays ((works.1 unfinished).dialect ∙ has.dialect) (works.1 unfinished).limit)
  journal_after calls (Err s) behind = journal_stays (behind.dialect ∙ has.dialect) behind.limit

  becomes_there : (calls : List Call) → Leaves d calls database x y → Becomes d calls database told now
  becomes_there calls leaves =
      let there = entries_told in
      becomes d p now later k left (valid.lives leaves.database_is.live) leaves.database_is.dialect (leaves.limit ∙ limit) calls database x leaves told there.0 entries_were (sym entries_were ∙ there.1)

  left_there : (calls : List Call) → LeftBehind d calls database x y → IsLeftOn d calls database told now
  left_there calls behind =
      let there = entries_told in
      let same = journal_stays (behind.dialect ∙ has.dialect) behind.limit in
      let it = subst (λ o. IfSome o (λ there. (more : List Entry) × (y.entries ≡ Some more) × LeftInCommand d calls database there more)) there.1 behind.entries in
      is_left_on d calls database told there.0 (sym entries_were ∙ there.1) (kept h) (leads there.0 there.1) has.committed now it.0
      (sym (ap (λ e. entries_in e (limit_of left.journal) now) same.0 ∙ ap (λ n. entries_in d n now) same.1) ∙ it.1) it.2

  pub works_there : (calls : List Call) (r : Result Done Status) → Works d calls database x r y → WorksOn d calls database told r now
  works_there calls (Ok done) works = (λ finished. becomes_there calls (works.0 finished), λ unfinished. left_there calls (works.1 unfinished))
  works_there calls (Err s) behind = left_there calls behind

  stops_there : (calls : List Call) (stops : StopsIn d calls database x y) → (it : IsLeftOn d calls database told now) × (it.written ≡ stops.written) × (it.now ≡ stops.now)
  stops_there calls stops =
      let there = entries_told in
      let it = holds_then d p now later k left (valid.lives stops.database_is.live) stops.database_is.dialect (stops.limit ∙ limit) stops.now x stops.written stops.database_is.committed stops.entries told there.0 entries_were (sym entries_were ∙ there.1) in
      (record { written = stops.written; stops = stops.left; closes = stops.closes; entries = it.1; now = stops.now; led = stops.led; holds = it.0 }, refl, refl)

  -- what holds of the limit of the database's journal and of how much of it is in use holds of the file's
  pub on_journal : (holds : ℕ → ℕ → Type 0) → holds x.limit x.used → IfSome (entries_in d most_bytes told) (λ there. holds most_bytes (in_use there))
  on_journal holds it =
      let there = entries_told in
      let begins : used_of db.journal ≡ in_use there.0 = used_in p told crashes h db is bytes told_is there.0 there.1 in
      subst (λ o. IfSome o (λ there. holds most_bytes (in_use there))) (sym (sym entries_were ∙ there.1)) (subst (λ n. holds n (in_use there.0)) limit (subst (λ n. holds x.limit n) begins it))

  -- where the journal of the database was full the file's was
  full_on : (calls : List Call) (used next : ℕ) (full : IsFullIn d calls database x used next) → (it : IsFullOn d calls database told used next) × (it.written ≡ full.written) × (it.more ≡ full.more)
  full_on calls used next full =
      let there = entries_told in
      let begins : used_of db.journal ≡ in_use there.0 = used_in p told crashes h db is bytes told_is there.0 there.1 in (
        record {
          written = full.written;
          more = full.more;
          stops = full.stops;
          comes = full.comes;
          made = full.made;
          call = full.call;
          wrote = full.wrote;
          appends = full.appends;
          next_call = full.next_call;
          used_is = subst (λ o. IfSome o (λ there. used ≡ in_use there + size_of_all (entries_of d full.written))) (sym (sym entries_were ∙ there.1)) (full.used_is ∙ ap (λ n. n + size_of_all (entries_of d full.written)) begins);
          next_is = full.next_is;
          room = full.room;
          in_room = full.in_room;
          which = full.which;
          full = subst (λ n. is_full (end_of full.room n) used (entries_of d full.more) ≡ true) limit full.full;
        },
        refl,
        refl,
      )

  -- and the file holds what the database does, its lock left so
  rests_on : (calls : List Call) (used next : ℕ) → RestsIn d calls database x y used next → RestsOn d calls database told now used next
  rests_on calls used next it =
      let stops = stops_there calls it.stops in
      let full = full_on calls used next it.full in
      record {
        left = stops.0;
        full = full.0;
        behind = subst (λ w. IsAtMostFreed w stops.0.written) (sym full.1) (subst (IsAtMostFreed it.full.written) (sym stops.1) it.behind);
        lock = subst (λ m. LeavesLock stops.0.now.lock m stops.0.written) (sym full.2) (subst (LeavesLock stops.0.now.lock it.full.more) (sym stops.1) (subst (λ (e : Database). LeavesLock e.lock it.full.more it.stops.written) (sym stops.2) it.lock));
      }

  -- and where it had room the file's had
  pub room_on : (calls : List Call) (s : Status) → TellsRoom d calls database x s → TellsRoomOn d calls database told s
  room_on calls s room = (
    λ finished. on_journal (λ n used. HadRoom d n used (all_called d calls (session_on database)).entries) (room.0 finished),
    λ used next same. (full_on calls used next (room.1 used next same)).0,
  )

  pub room_there : (calls : List Call) (r : Result Done Status) → Works d calls database x r y → IfOk r (λ (ended : Done). TellsRoomOn d calls database told ended.status)
  room_there calls (Ok done) works = room_on calls done.status (λ finished. (works.0 finished).room, λ used next is. (works.2 used next is).full)
  room_there calls (Err s) behind = tt

  pub rests_there : (calls : List Call) (r : Result Done Status) → Works d calls database x r y → IfOk r (λ (ended : Done). RestsFullOn d calls database told ended.status now)
  rests_there calls (Ok done) works = λ used next is. rests_on calls used next (works.2 used next is)
  rests_there calls (Err s) behind = tt

  -- what a command does on the database it does on the file
  pub does_there : (job : Job) → is_own job ≡ true → (given : Given) (r : Result Done Status) → given.options.dialect ≡ d → Answers (job_refusal job given database) r → (is_some (job_refusal job given database) ≡ true → now ≡ told) → (job_reads job ≡ true → now ≡ told)
      → Works d (job_script job given database) database x r y → TellsJob job given database r → MakesAgain job given database r → DoesJob job given database told r now
  does_there job own given r dialect answers kept reads works tells again =
      let calls = job_script job given database in
      let room = subst (λ e. IfOk r (λ (ended : Done). TellsRoomOn e calls database told ended.status)) (sym dialect) (room_there calls r works) in
      record {
        answers = answers;
        refused = kept;
        reads = reads;
        works = subst (λ e. WorksOn e calls database told r now) (sym dialect) (works_there calls r works);
        tells = tells;
        again = again;
        room = subst (λ calls. IfOk r (λ (ended : Done). is_finished ended.status ≡ true → HadRoomOn given.options.dialect calls database told)) (sym (own_calls job own given database)) (had_room given.options.dialect calls database told r room);
        full = subst (λ calls. IfOk r (λ (ended : Done). SaysFullOn given.options.dialect calls database told ended.status)) (sym (own_calls job own given database)) (says_full given.options.dialect calls database told r room);
        rests = λ is_its. subst (λ e. IfOk r (λ (ended : Done). RestsFullOn e calls database told ended.status now)) (sym dialect) (rests_there calls r works);
      }

  -- and what a crash may leave of the journal it may leave of the file
  pub moments_on : (Left : List Entry → List Entry → Type 0) → SameJournal → CrashesLeave x.entries Left (crashes_in (dialect_of db.journal) (limit_of db.journal) crashes) (crashes_in (dialect_of left.journal) (limit_of left.journal) later)
      → Since (Left entries_told.0) (crashes_in d most_bytes crashes) (crashes_in d most_bytes later)
  moments_on Left same moments =
      let there = entries_told in
      subst (λ n. Since (Left there.0) (crashes_in d most_bytes crashes) (crashes_in d n later)) same.1
      (subst (λ e. Since (Left there.0) (crashes_in d most_bytes crashes) (crashes_in e (limit_of left.journal) later)) same.0
      (subst (λ n. Since (Left there.0) (crashes_in d n crashes) (crashes_in (dialect_of left.journal) (limit_of left.journal) later)) limit
      (subst (λ e. Since (Left there.0) (crashes_in e (limit_of db.journal) crashes) (crashes_in (dialect_of left.journal) (limit_of left.journal) later)) dialect_is
      (subst (λ o. IfSome o (λ there. Since (Left there) (crashes_in (dialect_of db.journal) (limit_of db.journal) crashes) (crashes_in (dialect_of left.journal) (limit_of left.journal) later))) there.1 moments))))

  pub moments_there : (calls : List Call) (r : Result Done Status) → Works d calls database x r y → CrashesIn d calls database x (crashes_in (dialect_of db.journal) (limit_of db.journal) crashes) (crashes_in (dialect_of left.journal) (limit_of left.journal) later)
      → CrashesSince d calls database told crashes later
  moments_there calls r works moments =
      let there = entries_told in
      since_on d calls database told there.0 (sym entries_were ∙ there.1) (kept h) (leads there.0 there.1) has.committed crashes later (moments_on (LeftInCommand d calls database) (journal_after calls r works) moments)

-- a command that comes to its end settles what it left; a refusal left what was there
module _ {D P E : Type 0} (d p : Dialect) (calls : List Call) (database : Database) (x : State) (told : Option (List ℕ)) (crashes : Crashes) (h : Held) (db : Db D P E) (valid : IsValid p told crashes h db) where
  fault_unfinished : (s : Status) → IsFault s → is_finished s ≡ true → ⊥
  fault_unfinished s (inl is) finished = not_finished (sym (ap is_finished is) ∙ finished)
  fault_unfinished s (inr is) finished = not_finished (sym (ap is_finished is) ∙ finished)

  is_refused : (o : Option Status) (s : Status) → Answers o (Err s) → is_finished s ≡ true → is_some o ≡ true
  is_refused None s fault finished = absurd (fault_unfinished s fault finished)
  is_refused (Some refused) s answers finished = refl

  pub settled_after : (o : Option Status) (r : Result Done Status) → Answers o r → (is_some o ≡ true → Settled told crashes) → Works d calls database x r (state told h db) → is_finished (status_done r) ≡ true → Settled told crashes
  settled_after o (Ok done) answers kept works finished = (valid.lives (works.0 finished).database_is.live).whole.settled
  settled_after o (Err s) answers kept works finished = kept (is_refused o s answers finished)

-- a fault generates nothing
none_again : (job : Job) (given : Given) (database : Database) (s : Status) → MakesAgain job given database (Err s)
none_again (Generate author) given database s = λ signed. tt
none_again _ given database s = tt

-- one that met no memory has done nothing
pub does_nothing : (job : Job) (given : Given) (database : Database) (told now : Option (List ℕ)) (s : Status) → s ≡ status.OutOfMemory → Opens given.options.dialect told database → now ≡ told → DoesJob job given database told (Err s) now
does_nothing job given database told now s memory opens same =
    subst (λ s. DoesJob job given database told (Err s) now) (sym memory)
    (record { answers = answers_memory (job_refusal job given database); refused = λ some. same; reads = λ only. same; works = left_same given.options.dialect (job_script job given database) database told now opens same; tells = tt; again = none_again job given database status.OutOfMemory; room = tt; full = tt; rests = λ own. tt })

pub memory_kind : (s : Status) → s ≡ status.OutOfMemory → IsOfDatabase (Err s)
memory_kind s memory = subst (λ s. IsOfDatabase (Err s)) (sym memory) refl

pub memory_tells : (d : Dialect) (told : Option (List ℕ)) (s : Status) → s ≡ status.OutOfMemory → TellsDamage d told (Err s)
memory_tells d told s memory = subst (λ s. TellsDamage d told (Err s)) (sym memory) tt

pub err_is : (s t : Status) → (let r : Result Done Status = Err s in r) ≡ Err t → s ≡ t
err_is s t same = Prim.cc

pub load_unfinished : (fault : LoadFault) → is_finished (load_status fault) ≡ true → ⊥
load_unfinished load.Disk finished = not_finished finished
load_unfinished (load.Damaged place) finished = not_finished finished
load_unfinished load.OutOfMemory finished = not_finished finished

pub memory_unfinished : (s : Status) → s ≡ status.OutOfMemory → is_finished s ≡ true → ⊥
memory_unfinished s memory finished = not_finished (sym (ap is_finished memory) ∙ finished)

memory_is_no_disk : status.OutOfMemory ≡ status.DiskFault → ⊥
memory_is_no_disk same = Prim.cc

pub memory_no_disk : (s : Status) → s ≡ status.OutOfMemory → (let r : Result Done Status = Err s in r) ≡ Err status.DiskFault → ⊥
memory_no_disk s memory disk = memory_is_no_disk (sym memory ∙ err_is s status.DiskFault disk)

-- a count that rose over what is later rose over all
pub rose_later : (a b c : ℕ) → a ≤ b → Rose b c → Rose a c
rose_later a b c later rose = omega arith

ok_no_err : (r : Result Catalogue ℕ) (c : Catalogue) (n : ℕ) → r ≡ Ok c → r ≡ Err n → ⊥
ok_no_err r c n ok err = Prim.cc

-- a file that opens is not damaged
opens_whole : (d : Dialect) (told : Option (List ℕ)) (database : Database) (n : ℕ) → Opens d told database → IfSome told (λ bytes. catalogue_of d most_bytes bytes ≡ Err n) → ⊥
opens_whole d told database n opens damaged =
    ok_no_err (catalogue_of d most_bytes opens.bytes) opens.catalogue n opens.read (subst (λ o. IfSome o (λ bytes. catalogue_of d most_bytes bytes ≡ Err n)) opens.told_is damaged)

module _ (d : Dialect) (told : Option (List ℕ)) (before now : ℕ) where
  pub fault_answers : (fault : LoadFault) (o : Option Status) (database : Database) → IsDbFault d most_bytes told before now fault → Opens d told database → Answers o (Err (load_status fault))
  fault_answers load.Disk o database is opens = answers_disk o
  fault_answers (load.Damaged place) o database is opens = absurd (opens_whole d told database place opens is)
  fault_answers load.OutOfMemory o database is opens = answers_memory o

  pub fault_tells : (fault : LoadFault) → IsDbFault d most_bytes told before now fault → TellsDamage d told (Err (load_status fault))
  fault_tells load.Disk is = tt
  fault_tells (load.Damaged place) is = is
  fault_tells load.OutOfMemory is = tt

  fault_rose : (fault : LoadFault) → IsDbFault d most_bytes told before now fault → load_status fault ≡ status.DiskFault → Rose before now
  fault_rose load.Disk is disk = is
  fault_rose (load.Damaged place) is disk = absurd Prim.cc
  fault_rose load.OutOfMemory is disk = absurd Prim.cc

  pub fault_rises : (fault : LoadFault) (s : Status) → s ≡ load_status fault → IsDbFault d most_bytes told before now fault → (let r : Result Done Status = Err s in r) ≡ Err status.DiskFault → Rose before now
  fault_rises fault s same is disk = fault_rose fault is (sym same ∙ err_is s status.DiskFault disk)

pub fault_kind : (fault : LoadFault) → IsOfDatabase (Err (load_status fault))
fault_kind load.Disk = refl
fault_kind (load.Damaged place) = refl
fault_kind load.OutOfMemory = refl

-- a file that could not be loaded is as it was
pub refused_does : (told now : Option (List ℕ)) (before later : ℕ) (fault : LoadFault) (s : Status) → s ≡ load_status fault → (job : Job) (given : Given) → IsDbFault given.options.dialect most_bytes told before later fault → now ≡ told
    → OnFile given.options.dialect told (λ database. DoesJob job given database told (Err s) now)
refused_does told now before later fault s is_status job given is same database opens =
    subst (λ s. DoesJob job given database told (Err s) now) (sym is_status)
    (record {
      answers = fault_answers given.options.dialect told before later fault (job_refusal job given database) database is opens;
      refused = λ some. same;
      reads = λ only. same;
      works = left_same given.options.dialect (job_script job given database) database told now opens same;
      tells = tt;
      again = none_again job given database (load_status fault);
      room = tt;
      full = tt;
      rests = λ own. tt;
    })
