-- What snapshot did on a database that was loaded, and on the disk that it was loaded from.
use Rattle.std.proofs.Common.{ap, arith, inl, inr, refl, subst, sym, ◌∙◌}
use Rattle.std.proofs.lemmas.List.{append-nil}
use Rattle.std.specs.Option.{option_map, option_map_or}
use Rattle.std.specs.Prelude.{Bool, Err, IfErr, IfOk, IfSome, List, MatchBool, None, Ok, Option, Result, Some, [], cond, false, is_some, suc, true, unwrap_or, zero, ℕ, ◌++◌, ◌∷◌, ◌≡◌, ◌≤◌, ◌⊎◌}
use Rattle.lq_base.specs.declared.dialect.Dialect.{Dialect}
use Rattle.lq_cli.specs.declared.line.Job.TheVariants.{Snapshot, UndoUnrecorded}
use Rattle.lq_codec.specs.Tables.{bytes_of}
use Rattle.lq_codec.specs.State.{state_of}
use Rattle.lq_commands.proofs.PlainRefusals.{IsPlain, held_plain}
use Rattle.lq_commands.specs.Outputs.{TellsText}
use Rattle.lq_commands.specs.Refusals.{Answers, IsFault, Passes, ends, fault_status, held}
use Rattle.lq_commands.specs.Jobs.{is_diskless}
use Rattle.lq_commands.specs.Works.{IsReady, OnIts, is_finished}
use Rattle.lq_commands.specs.declared.given.Given.{Given}
use Rattle.lq_db.specs.Db.{HasState, IsDb, IsNew, IsValid, crashes as crashes_of, disk_in, is_unwritten, snapshot_entries, state}
use Rattle.lq_db.specs.Load.{IsDbFault}
use Rattle.lq_db.specs.declared.db.Db.{Db}
use Rattle.lq_entries.specs.Load.{catalogue_of}
use Rattle.lq_entries.specs.Log.{entries_in}
use Rattle.lq_journal.specs.State.{limit_of}
use Rattle.lq_journal.specs.declared.fault.LoadFault.{LoadFault}
use Rattle.lq_model.specs.declared.caller.Room.TheVariants.{Ordinary}
use Rattle.lq_model.specs.declared.fault.StoreFault.{StoreFault}
use Rattle.lq_model.specs.declared.fault.StoreFault.TheVariants as fault
use Rattle.lq_outside.specs.Crash.{Crashes as DiskCrashes, IsSound, LeavesOnly, Settled}
use Rattle.lq_report.specs.Output.{snapshot_text}
use Rattle.lq_run.specs.Commands.{HasDatabase}
use Rattle.lq_store.specs.Calls.{IsFull, MaySnapshot, ends_in_texts, stated}
use Rattle.lq_store.specs.Journal.{Crashes, Leaves as LeavesStore, LeavesFront, Since, Entry, IsFrontOf, end_of, is_full, State, with_entries}
use Rattle.lq_store.specs.Executor.{Held, kept}
use Rattle.lq_store.specs.Journal.Entry.{Stated}
use Rattle.lq_tell.specs.Texts.{status_done}
use Rattle.lq_tell.specs.declared.done.Done.{Done}
use Rattle.lq_tell.specs.declared.status.Status.{Status}
use Rattle.lq_tell.specs.declared.status.Status.TheVariants as status
use Rattle.lq_track.specs.Database.{Database}
use Rattle.lq_jobs.proofs.InPart.{no_goal}
use Rattle.lq_jobs.proofs.InUse.{used_in}
use Rattle.lq_jobs.proofs.LeftOnFile.{after_since, none_since, read_since, since_by}
use Rattle.lq_jobs.proofs.OnFiles.{SameJournal, entries_told, entries_were, fault_answers, journal_stays, leads, load_unfinished, memory_unfinished, moments_on}
use Rattle.lq_jobs.proofs.Ready.{opened}
use Rattle.lq_jobs.proofs.RefusedKinds.{answers_memory}
use Rattle.lq_jobs.specs.Bytes.{Holds, OnFile, Opens, in_use, load_status, most_bytes, job_of}
use Rattle.lq_jobs.specs.Kinds.{IsOfDatabase}
use Rattle.lq_jobs.specs.Worked.{DoesSnapshot, HasNoRoom, HasSameEntries, HasSnapped, HasStated, HasWritten, IsSnapped, TellsSnapshot, is_due, LeavesSince, SnappedOn, UsedDisk, WorkedOn}
use Rattle.lq_jobs.specs.declared.copying.Printing.{Printing}
use Rattle.lq_jobs.specs.declared.copying.Printing.TheVariants as print

false_true : false ≡ true → ⊥
false_true h = Prim.cc

snapshot_no_undo : Snapshot ≡ UndoUnrecorded → ⊥
snapshot_no_undo h = Prim.cc

-- what is printed is another job
pub prints_no_snapshot : {A : Type 0} (printing : Printing) → job_of printing ≡ Snapshot → A
prints_no_snapshot print.Update is = absurd Prim.cc
prints_no_snapshot (print.Rollback target) is = absurd Prim.cc

-- where nothing was done
nothing_snapped : (d : Dialect) (told : Option (List ℕ)) (database : Database) (after : Option (List ℕ)) (s : Status) → after ≡ told → Answers (held database) (Err s) → DoesSnapshot d database told (Err s) after
nothing_snapped d told database after s same answers = record { answers = answers; refused = λ some. same; leaves = inl (ap (entries_in d most_bytes) same); tells = tt }

-- a front of one entry is it, or nothing

not_empty : {A : Type 0} {x : A} {xs : List A} → [] ≡ x ∷ xs → ⊥
not_empty h = Prim.cc

same_first : {A : Type 0} {x y : A} {xs ys : List A} → x ∷ xs ≡ y ∷ ys → x ≡ y
same_first h = Prim.cc

same_rest : {A : Type 0} {x y : A} {xs ys : List A} → x ∷ xs ≡ y ∷ ys → xs ≡ ys
same_rest h = Prim.cc

no_more : (front rest : List Entry) → [] ≡ front ++ rest → front ≡ []
no_more [] rest is = refl
no_more (entry ∷ front) rest is = absurd (not_empty is)

one_or_none : (entry : Entry) (front : List Entry) → IsFrontOf (entry ∷ []) front → (front ≡ []) ⊎ (front ≡ entry ∷ [])
one_or_none entry [] is = inl refl
one_or_none entry (first ∷ front) is = inr (ap (λ (e : Entry). e ∷ front) (sym (same_first is.1)) ∙ ap (λ (es : List Entry). entry ∷ es) (no_more front is.0 (same_rest is.1)))

abbrev some : List Entry → Option (List Entry)
some entries = Some entries

nothing_behind : (o : Option (List Entry)) → option_map (λ (entries : List Entry). entries ++ []) o ≡ o
nothing_behind None = refl
nothing_behind (Some entries) = ap some (append-nil entries)

module _ {D : Type 0} (told : D → Option (List ℕ)) (faults : D → ℕ) (crashes : D → DiskCrashes) where
  -- no other clause of a job tells of it
  pub snapshot_worked : (d : Dialect) (given : Given) → given.options.dialect ≡ d → (before : D) (r : Result Done Status) (after : D) → UsedDisk told faults crashes Snapshot d before r after → IsOfDatabase r → SnappedOn told faults crashes d before r after
      → WorkedOn told faults crashes Snapshot given before r after
  snapshot_worked d given same before r after used kind snapped = record {
    used = subst (λ (e : Dialect). UsedDisk told faults crashes Snapshot e before r after) (sym same) used;
    kind = kind;
    has_part = no_goal Snapshot r refl;
    does = λ on. absurd (false_true on);
    any_moment = λ on. absurd (false_true on);
    undone = λ is. absurd (snapshot_no_undo is);
    snapped = λ is. subst (λ (e : Dialect). SnappedOn told faults crashes e before r after) (sym same) snapped;
  }

  module _ (d : Dialect) (disk : D) where
    -- there was no memory for it
    pub memory_snapped : (s : Status) → s ≡ status.OutOfMemory → SnappedOn told faults crashes d disk (Err s) disk
    memory_snapped s memory = record {
      does = λ database opens. nothing_snapped d (told disk) database (told disk) s refl (subst (λ s. Answers (held database) (Err s)) (sym memory) (answers_memory (held database)));
      any_moment = λ database opens. none_since d (λ bytes. IsSnapped d database (told disk) (Some bytes)) (crashes disk);
      safe = λ finished. absurd (memory_unfinished s memory finished);
    }

    module _ (sound : IsSound (told disk) (crashes disk)) (after : D) (same : told after ≡ told disk) (read : LeavesOnly (crashes disk) (crashes after) (crashes disk).leaves) where
      -- what was done on the disk as it was read is done on the disk
      pub snapped_after : (r : Result Done Status) (last : D) → SnappedOn told faults crashes d after r last → SnappedOn told faults crashes d disk r last
      snapped_after r last did = record {
        does = subst (λ (t : Option (List ℕ)). OnFile d t (λ database. DoesSnapshot d database t r (told last))) same did.does;
        any_moment = λ database opens.
            after_since d (λ bytes. IsSnapped d database (told disk) (Some bytes)) (told disk) (crashes disk) sound (crashes after) (crashes last) read
            (subst (λ (t : Option (List ℕ)). OnFile d t (λ database. LeavesSince d (λ bytes. IsSnapped d database t (Some bytes)) (crashes after) (crashes last))) same did.any_moment database opens);
        safe = did.safe;
      }

      -- it could not be loaded
      pub fault_snapped : (f : LoadFault) (s : Status) → s ≡ load_status f → IsDbFault d most_bytes (told disk) (faults disk) (faults after) f → SnappedOn told faults crashes d disk (Err s) after
      fault_snapped f s is_status is = record {
        does = λ database opens.
            nothing_snapped d (told disk) database (told after) s same
            (subst (λ s. Answers (held database) (Err s)) (sym is_status) (fault_answers d (told disk) (faults disk) (faults after) f (held database) database is opens));
        any_moment = λ database opens. read_since d (λ bytes. IsSnapped d database (told disk) (Some bytes)) (told disk) (crashes disk) sound (crashes after) read;
        safe = λ finished. absurd (load_unfinished f (subst (λ s. is_finished s ≡ true) is_status finished));
      }

-- what a snapshot of a store answered, as it is told
pub record TellsWrote (wrote : Result ℕ StoreFault) (done : Result Done Status) : Type 0 where
  pub text : IfOk wrote (λ size. IfOk done (TellsText (snapshot_text size)))
  pub fault : IfErr wrote (λ f. IfOk done (λ (ended : Done). ended.status ≡ fault_status f))
  pub ends : IfOk done (λ (ended : Done). ends ended.status ≡ true)
  pub fails : IfErr done IsFault

no_end : (s x : Status) → s ≡ x → ends x ≡ false → ends s ≡ true → ⊥
no_end s x is none ended = false_true (sym none ∙ sym (ap ends is) ∙ ended)

disk_memory : status.DiskFault ≡ status.OutOfMemory → ⊥
disk_memory h = Prim.cc

err_same : {a b : Status} → (let r : Result Done Status = Err a in r) ≡ Err b → a ≡ b
err_same h = Prim.cc

if_some_so : (o : Option (List Entry)) (P Q : List Entry → Type 0) → ((entries : List Entry) → P entries → Q entries) → IfSome o P → IfSome o Q
if_some_so None P Q so is = tt
if_some_so (Some entries) P Q so is = so entries is

-- a check that passes, and one that does not

passes_free : (o : Option Status) → Passes {A = Unit {0}} o (Ok tt) → o ≡ None
passes_free None passes = refl
passes_free (Some refused) passes = absurd passes

passes_answers : (o : Option Status) (s : Status) → Passes {A = Unit {0}} o (Err s) → Answers o (Err s)
passes_answers None s memory = inr memory
passes_answers (Some refused) s (inl same) = inl same
passes_answers (Some refused) s (inr memory) = inr (inr memory)

-- no check is of the disk
plain_no_disk : (o : Option Status) (s : Status) → IsPlain o → Passes {A = Unit {0}} o (Err s) → s ≡ status.DiskFault → ⊥
plain_no_disk None s plain memory is = absurd (disk_memory (sym is ∙ memory))
plain_no_disk (Some refused) s plain (inl same) is = false_true (ap is_diskless (sym is ∙ same) ∙ plain)
plain_no_disk (Some refused) s plain (inr memory) is = disk_memory (sym is ∙ memory)

pub no_disk_refusal : (x : State) (d : Dialect) → IsReady d x → (s : Status) → OnIts d x (λ database. Passes {A = Unit {0}} (held database) (Err s)) → (let r : Result Done Status = Err s in r) ≡ Err status.DiskFault → ⊥
no_disk_refusal x d ready s passes is = plain_no_disk (held ready.database) s (held_plain ready.database) (passes ready.database ready.has) (err_same is)

pub same_count : (n : ℕ) → n ≤ n
same_count n = omega arith

answers_free : (o : Option Status) (done : Result Done Status) → o ≡ None → IfOk done (λ (ended : Done). ends ended.status ≡ true) → IfErr done IsFault → Answers o done
answers_free o done free ended fails = subst (λ o. Answers o done) (sym free) (by done ended fails) where
  by : (r : Result Done Status) → IfOk r (λ (ended : Done). ends ended.status ≡ true) → IfErr r IsFault → Answers None r
  by (Ok ended) is fails = is
  by (Err s) is fails = fails

not_some : (o : Option Status) → o ≡ None → is_some o ≡ true → ⊥
not_some o none some = false_true (sym (ap is_some none) ∙ some)

-- the entries that were there, and a front of others behind them
abbrev HasFront : List Entry → List Entry → List Entry → Type 0
HasFront written there left = (front : List Entry) × IsFrontOf written front × (left ≡ there ++ front)

since_front : (written there : List Entry) (a b : Crashes) → LeavesStore there written a b → Since (HasFront written there) a b
since_front written there a b leaves = record {
  honest = leaves.honest;
  later = leaves.later;
  each = λ honest t left le is. elim (leaves.earlier honest t left le is) [
    | inl was ↦ inl was
    | inr front ↦ inr (there ++ front.0, front.2, (front.0, front.1, refl))
  ];
}

module _ {D : Type 0} (told : D → Option (List ℕ)) (faults : D → ℕ) (crashes : D → DiskCrashes) where
  -- on a database that was loaded, whose lock is held, or which there was no memory to look at
  module _ {P E : Type 0} (d p : Dialect) (h : Held) (db : Db D P E) (is : IsDb p (told (disk_in db)) (crashes (disk_in db)) h db) (new : IsNew d most_bytes db) (read : IfSome (told (disk_in db)) (λ bytes. catalogue_of d most_bytes bytes ≡ Ok (kept h)))
      (s : Status) (passes : OnIts d (state (told (disk_in db)) h db) (λ database. Passes {A = Unit {0}} (held database) (Err s))) where
    pub refused_answers : OnIts d (state (told (disk_in db)) h db) (λ database. Answers (held database) (Err s))
    refused_answers database has = passes_answers (held database) s (passes database has)

    pub refused_snapped : SnappedOn told faults crashes d (disk_in db) (Err s) (disk_in db)
    refused_snapped = record {
      does = λ database opens. nothing_snapped d (told (disk_in db)) database (told (disk_in db)) s refl (refused_answers database (opened d p (told (disk_in db)) (crashes (disk_in db)) h db is new (told (disk_in db)) database refl read opens));
      any_moment = λ database opens. none_since d (λ bytes. IsSnapped d database (told (disk_in db)) (Some bytes)) (crashes (disk_in db));
      safe = λ finished. is.whole.settled;
    }

  -- and one in which it was done
  module _ {P E : Type 0} (d p : Dialect) (h k : Held) (db left : Db D P E) (is : IsDb p (told (disk_in db)) (crashes (disk_in db)) h db) (valid : IsValid p (told (disk_in left)) (crashes (disk_in left)) k left) (new : IsNew d most_bytes db)
      (read : IfSome (told (disk_in db)) (λ bytes. catalogue_of d most_bytes bytes ≡ Ok (kept h))) where
    abbrev x : State
    x = state (told (disk_in db)) h db

    abbrev y : State
    y = state (told (disk_in left)) k left

    abbrev before : Option (List ℕ)
    before = told (disk_in db)

    abbrev after : Option (List ℕ)
    after = told (disk_in left)

    -- on the file of the database
    module _ (database : Database) (opens : Opens d before database) where
      has : HasDatabase d x database
      has = opened d p before (crashes (disk_in db)) h db is new before database refl read opens

      abbrev there : (there : List Entry) × (x.entries ≡ Some there)
      there = entries_told d p before (crashes (disk_in db)) h db is new.limit_is opens.bytes opens.told_is after (crashes (disk_in left)) k left valid database has

      were : x.entries ≡ entries_in d most_bytes before
      were = entries_were d p before (crashes (disk_in db)) h db is new.limit_is opens.bytes opens.told_is after (crashes (disk_in left)) k left valid database has

      abbrev holds : Holds d before database
      holds = record {
        entries = there.0;
        told_are = sym were ∙ there.1;
        catalogue = kept h;
        leads = leads d p before (crashes (disk_in db)) h db is new.limit_is opens.bytes opens.told_is after (crashes (disk_in left)) k left valid database has there.0 there.1;
        stands = has.committed;
      }

      -- the journal's dialect and limit are what they were
      stays : y.dialect ≡ x.dialect → y.limit ≡ x.limit → SameJournal d p before (crashes (disk_in db)) h db is new.limit_is opens.bytes opens.told_is after (crashes (disk_in left)) k left valid database has
      stays dialect limit = journal_stays d p before (crashes (disk_in db)) h db is new.limit_is opens.bytes opens.told_is after (crashes (disk_in left)) k left valid database has (dialect ∙ has.dialect) limit

      now_are : y.dialect ≡ x.dialect → y.limit ≡ x.limit → entries_in d most_bytes after ≡ y.entries
      now_are dialect limit =
          let same = stays dialect limit in
          sym (ap (λ e. entries_in e (limit_of left.journal) after) same.0 ∙ ap (λ n. entries_in d n after) same.1)

      same_entries : y ≡ x → HasSameEntries d before after
      same_entries same = now_are (ap (λ (z : State). z.dialect) same) (ap (λ (z : State). z.limit) same) ∙ ap (λ (z : State). z.entries) same ∙ were

      -- a state is due on the file where one is due in the store
      due_so : (b : Bool) → IfSome x.entries (λ there. ends_in_texts there ≡ b) → is_due d before ≡ b
      due_so b so = ap (λ (o : Option (List Entry)). option_map_or ends_in_texts o false) (sym were ∙ there.1) ∙ subst (λ o. IfSome o (λ there. ends_in_texts there ≡ b)) there.1 so

      -- a state is the catalogue that is committed

      abbrev stated_by : HasState x → (bytes : Option (List ℕ)) → entries_in d most_bytes bytes ≡ Some (there.0 ++ stated (kept h)) → HasStated d database before bytes
      stated_by made bytes are = record { holds = holds; is_state = subst (λ e. state_of e (bytes_of (kept h)) ≡ Some (kept h)) new.dialect_is made.reads; entries = are }

      by_front : HasState x → (bytes : Option (List ℕ)) (front : List Entry) → IsFrontOf (stated (kept h)) front → entries_in d most_bytes bytes ≡ Some (there.0 ++ front) → IsSnapped d database before bytes
      by_front made bytes front is_front are = elim (one_or_none (Stated (bytes_of (kept h))) front is_front) [
        | inl none ↦ inl (are ∙ ap (λ (es : List Entry). some (there.0 ++ es)) none ∙ nothing_behind (Some there.0) ∙ sym there.1 ∙ were)
        | inr whole ↦ inr (due_so true made.due, stated_by made bytes (are ∙ ap (λ (es : List Entry). some (there.0 ++ es)) whole))
      ]

      abbrev written_at : HasState x → y ≡ with_entries (stated (kept h)) x → HasStated d database before after
      written_at made same =
          stated_by made after (now_are (ap (λ (z : State). z.dialect) same) (ap (λ (z : State). z.limit) same) ∙ ap (λ (z : State). z.entries) same ∙ ap (option_map (λ (entries : List Entry). entries ++ stated (kept h))) there.1)

      leaves : (wrote : Result ℕ StoreFault) → MaySnapshot x wrote y → (is_unwritten wrote ≡ false → HasState x) → IsSnapped d database before after
      leaves (Ok zero) does made = inl (same_entries does.1)
      leaves (Ok (suc n)) does made = inr (due_so true does.0, written_at (made refl) does.1.1.1)
      leaves (Err fault.Disk) does made =
          by_front (made refl) after does.front does.is_front (now_are does.dialect_is does.limit_is ∙ does.entries_are ∙ ap (option_map (λ (entries : List Entry). entries ++ does.front)) there.1)
      leaves (Err (fault.Full used next)) does made = inl (same_entries does.1)
      leaves (Err fault.OutOfMemory) does made = inl (same_entries does)
      leaves (Err (fault.Refused reason)) does made = absurd does
      leaves (Err fault.NotSql) does made = absurd does
      leaves (Err (fault.Busy session)) does made = absurd does

      -- how much is in use on the file

      in_use_there : x.used ≡ in_use there.0
      in_use_there = used_in p before (crashes (disk_in db)) h db is opens.bytes opens.told_is there.0 there.1

      room_there : is_full (end_of Ordinary x.limit) x.used (stated (kept h)) ≡ false → is_full (end_of Ordinary most_bytes) (in_use there.0) (stated (kept h)) ≡ false
      room_there room = subst (λ n. is_full (end_of Ordinary most_bytes) n (stated (kept h)) ≡ false) in_use_there (subst (λ n. is_full (end_of Ordinary n) x.used (stated (kept h)) ≡ false) new.limit_is room)

      no_room : (used next : ℕ) → IsFull Ordinary (stated (kept h)) x used next → HasNoRoom d database before used next
      no_room used next full = record {
        holds = holds;
        used_is = full.1.0 ∙ in_use_there;
        next_is = full.1.1;
        full = subst (λ n. is_full (end_of Ordinary n) used (stated (kept h)) ≡ true) new.limit_is (subst (λ n. is_full (end_of Ordinary x.limit) n (stated (kept h)) ≡ true) (sym full.1.0) full.0);
      }

      -- what it answers, and what it tells of it

      snapped : (size : ℕ) → MaySnapshot x (Ok size) y → (is_unwritten (Ok size) ≡ false → HasState x) → (is_unwritten (Ok size) ≡ true → left ≡ db) → HasSnapped d database before after size
      snapped zero does made same = subst (λ b. MatchBool b (HasWritten d database before after zero) ((after ≡ before) × (zero ≡ 0))) (sym (due_so false does.0)) (ap (λ (db : Db D P E). told (disk_in db)) (same refl), refl)
      snapped (suc n) does made same =
          subst (λ b. MatchBool b (HasWritten d database before after (suc n)) ((after ≡ before) × (suc n ≡ 0))) (sym (due_so true does.0))
          (record { written = written_at (made refl) does.1.1.1; size_is = does.1.0; room = room_there does.1.1.0 })

      tells_fault : (f : StoreFault) (ended : Done) → ended.status ≡ fault_status f → ends ended.status ≡ true → MaySnapshot x (Err f) y → TellsSnapshot d database before after ended
      tells_fault (fault.Full used next) ended is finished does = inr (used, next, is, no_room used next does.0, same_entries does.1)
      tells_fault fault.Disk ended is finished does = absurd (no_end ended.status status.DiskFault is refl finished)
      tells_fault fault.OutOfMemory ended is finished does = absurd (no_end ended.status status.OutOfMemory is refl finished)
      tells_fault (fault.Refused reason) ended is finished does = absurd does
      tells_fault fault.NotSql ended is finished does = absurd does
      tells_fault (fault.Busy session) ended is finished does = absurd does

      tells : (wrote : Result ℕ StoreFault) (done : Result Done Status) → MaySnapshot x wrote y → (is_unwritten wrote ≡ false → HasState x) → (is_unwritten wrote ≡ true → left ≡ db) → TellsWrote wrote done → IfOk done (TellsSnapshot d database before after)
      tells wrote (Err s) does made same so = tt
      tells (Ok size) (Ok ended) does made same so = inl (size, snapped size does made same, so.text)
      tells (Err f) (Ok ended) does made same so = tells_fault f ended so.fault so.ends does

      -- and a crash at any moment of it

      is_state_due : HasState x → snapshot_entries x ≡ stated (kept h)
      is_state_due made =
          ap (λ (o : Option (List Entry)). cond (unwrap_or (option_map ends_in_texts o) false) (stated (kept h)) []) there.1
          ∙ ap (λ (b : Bool). cond b (stated (kept h)) []) (subst (λ o. IfSome o (λ there. ends_in_texts there ≡ true)) there.1 made.due)

      moments : y.dialect ≡ x.dialect → y.limit ≡ x.limit → HasState x → LeavesFront x.entries (snapshot_entries x) (crashes_of (crashes (disk_in db)) db) (crashes_of (crashes (disk_in left)) left)
          → LeavesSince d (λ bytes. IsSnapped d database before (Some bytes)) (crashes (disk_in db)) (crashes (disk_in left))
      moments dialect limit made crash =
          since_by d (λ bytes. IsSnapped d database before (Some bytes)) (HasFront (stated (kept h)) there.0) (λ bytes entries are it. by_front made (Some bytes) it.0 it.1 (are ∙ ap some it.2)) (crashes (disk_in db)) (crashes (disk_in left))
          (moments_on d p before (crashes (disk_in db)) h db is new.limit_is opens.bytes opens.told_is after (crashes (disk_in left)) k left valid database has (HasFront (stated (kept h))) (stays dialect limit)
          (if_some_so x.entries (λ there. LeavesStore there (stated (kept h)) (crashes_of (crashes (disk_in db)) db) (crashes_of (crashes (disk_in left)) left)) (λ there. Since (HasFront (stated (kept h)) there) (crashes_of (crashes (disk_in db)) db) (crashes_of (crashes (disk_in left)) left))
          (λ there it. since_front (stated (kept h)) there (crashes_of (crashes (disk_in db)) db) (crashes_of (crashes (disk_in left)) left) it)
          (subst (λ written. LeavesFront x.entries written (crashes_of (crashes (disk_in db)) db) (crashes_of (crashes (disk_in left)) left)) (is_state_due made) crash)))

    -- its answer says whether it wrote

    same_dialect : (wrote : Result ℕ StoreFault) → MaySnapshot x wrote y → y.dialect ≡ x.dialect
    same_dialect (Ok zero) does = ap (λ (z : State). z.dialect) does.1
    same_dialect (Ok (suc n)) does = ap (λ (z : State). z.dialect) does.1.1.1
    same_dialect (Err fault.Disk) does = does.dialect_is
    same_dialect (Err (fault.Full used next)) does = ap (λ (z : State). z.dialect) does.1
    same_dialect (Err fault.OutOfMemory) does = ap (λ (z : State). z.dialect) does
    same_dialect (Err (fault.Refused reason)) does = absurd does
    same_dialect (Err fault.NotSql) does = absurd does
    same_dialect (Err (fault.Busy session)) does = absurd does

    same_limit : (wrote : Result ℕ StoreFault) → MaySnapshot x wrote y → y.limit ≡ x.limit
    same_limit (Ok zero) does = ap (λ (z : State). z.limit) does.1
    same_limit (Ok (suc n)) does = ap (λ (z : State). z.limit) does.1.1.1
    same_limit (Err fault.Disk) does = does.limit_is
    same_limit (Err (fault.Full used next)) does = ap (λ (z : State). z.limit) does.1
    same_limit (Err fault.OutOfMemory) does = ap (λ (z : State). z.limit) does
    same_limit (Err (fault.Refused reason)) does = absurd does
    same_limit (Err fault.NotSql) does = absurd does
    same_limit (Err (fault.Busy session)) does = absurd does

    still_live : (size : ℕ) → MaySnapshot x (Ok size) y → y.live ≡ true
    still_live zero does = ap (λ (z : State). z.live) does.1 ∙ new.live
    still_live (suc n) does = ap (λ (z : State). z.live) does.1.1.1 ∙ new.live

    -- where it came to its end all is on the disk
    settled : (wrote : Result ℕ StoreFault) (done : Result Done Status) → MaySnapshot x wrote y → TellsWrote wrote done → is_finished (status_done done) ≡ true → Settled after (crashes (disk_in left))
    settled (Ok size) done does so finished = (valid.lives (still_live size does)).whole.settled
    settled (Err f) (Ok ended) does so finished = absurd (unfinished f (sym (ap is_finished so.fault) ∙ finished)) where
      unfinished : (f : StoreFault) → is_finished (fault_status f) ≡ true → ⊥
      unfinished fault.Disk is = false_true is
      unfinished (fault.Full used next) is = false_true is
      unfinished (fault.Refused reason) is = false_true is
      unfinished fault.NotSql is = false_true is
      unfinished (fault.Busy session) is = false_true is
      unfinished fault.OutOfMemory is = false_true is
    settled (Err f) (Err s) does so finished = absurd (no_fault s so.fails finished) where
      no_fault : (s : Status) → IsFault s → is_finished s ≡ true → ⊥
      no_fault s (inl disk) is = false_true (sym (ap is_finished disk) ∙ is)
      no_fault s (inr memory) is = false_true (sym (ap is_finished memory) ∙ is)

    -- no check refused it
    module _ (wrote : Result ℕ StoreFault) (done : Result Done Status) (free : OnIts d x (λ database. Passes {A = Unit {0}} (held database) (Ok tt))) (does : MaySnapshot x wrote y) (made : is_unwritten wrote ≡ false → HasState x) (same : is_unwritten wrote ≡ true → left ≡ db) (so : TellsWrote wrote done) where
      pub free_answers : OnIts d x (λ database. Answers (held database) done)
      free_answers database has = answers_free (held database) done (passes_free (held database) (free database has)) so.ends so.fails

      pub loaded_snapped : LeavesFront x.entries (snapshot_entries x) (crashes_of (crashes (disk_in db)) db) (crashes_of (crashes (disk_in left)) left) → SnappedOn told faults crashes d (disk_in db) done (disk_in left)
      loaded_snapped crash = record {
        does = λ database opens.
            let none = passes_free (held database) (free database (has database opens)) in
            record {
              answers = free_answers database (has database opens);
              refused = λ some. absurd (not_some (held database) none some);
              leaves = leaves database opens wrote does made;
              tells = tells database opens wrote done does made same so;
            };
        any_moment = λ database opens. by database opens (is_unwritten wrote) refl;
        safe = settled wrote done does so;
      } where
        by : (database : Database) → Opens d before database → (b : Bool) → is_unwritten wrote ≡ b → LeavesSince d (λ bytes. IsSnapped d database before (Some bytes)) (crashes (disk_in db)) (crashes (disk_in left))
        by database opens true unwritten =
            subst (λ (it : Db D P E). LeavesSince d (λ bytes. IsSnapped d database before (Some bytes)) (crashes (disk_in db)) (crashes (disk_in it))) (sym (same unwritten)) (none_since d (λ bytes. IsSnapped d database before (Some bytes)) (crashes (disk_in db)))
        by database opens false written = moments database opens (same_dialect wrote does) (same_limit wrote does) (made written) crash
