-- What undo-unrecorded did on a database that was loaded, and on the disk that it was loaded from.
use Rattle.std.proofs.Common.{ap, arith, refl, subst, sym, ◌∙◌}
use Rattle.std.specs.Option.{option_map, option_or}
use Rattle.std.specs.Prelude.{Bool, Err, IfOk, IfSome, List, None, Ok, Option, Result, Some, [], false, if◌then◌else◌, option_and_then, true, ℕ, ◌∷◌, ◌≡◌, ◌≤◌}
use Rattle.lq_base.specs.declared.dialect.Dialect.{Dialect}
use Rattle.lq_base.specs.declared.identity.Identity.{Identity}
use Rattle.lq_base.specs.declared.tracking.Tracked.{Tracked}
use Rattle.lq_cli.specs.declared.line.Job.TheVariants.{Snapshot, UndoUnrecorded}
use Rattle.lq_commands.proofs.PlainRefusals.{IsNotFull, IsPlain}
use Rattle.lq_commands.specs.Jobs.{is_diskless}
use Rattle.lq_commands.specs.Refusals.{Answers}
use Rattle.lq_commands.specs.Works.{CrashesIn, IsKept, IsReady, OnIts, Works, is_finished}
use Rattle.lq_commands.specs.declared.given.Given.{Given}
use Rattle.lq_db.specs.Db.{IsDb, IsNew, IsValid, crashes as crashes_of, disk_in, state, last_text}
use Rattle.lq_db.specs.Load.{IsDbFault}
use Rattle.lq_db.specs.declared.db.Db.{Db}
use Rattle.lq_entries.specs.Load.{catalogue_of}
use Rattle.lq_expr.specs.declared.options.Options.{Options}
use Rattle.lq_journal.specs.declared.fault.LoadFault.{LoadFault}
use Rattle.lq_journal.specs.declared.fault.LoadFault.TheVariants as load
use Rattle.lq_any.specs.declared.any_change.AnyChange.{AnyChange}
use Rattle.lq_kinds.specs.declared.change_set.Changelog.{Changelog}
use Rattle.lq_mending.specs.Undoes.{can_undo, if_faults, invalid, is_of_calls, refusal, refusal_at, set_marked, sets_in, undo_script, unless_undone, unrecorded}
use Rattle.lq_mending.specs.declared.outcome.RepairFault.{RepairFault}
use Rattle.lq_mending.specs.declared.outcome.RepairFault.TheVariants as fault
use Rattle.lq_outside.specs.Forms.{Rose}
use Rattle.lq_outside.specs.Crash.{Crashes as DiskCrashes, IsSound, LeavesOnly, Settled}
use Rattle.lq_report.specs.Mark.{Marked}
use Rattle.lq_run.specs.Commands.{HasDatabase}
use Rattle.lq_store.specs.Executor.{Held, kept}
use Rattle.lq_store.specs.Journal.{Entry, State}
use Rattle.lq_tell.specs.declared.done.Done.{Done}
use Rattle.lq_tell.specs.declared.status.Status.{Status}
use Rattle.lq_tell.specs.declared.status.Status.TheVariants as status
use Rattle.lq_track.specs.Database.{Database}
use Rattle.lq_turns.specs.Faults.{faults}
use Rattle.lq_turns.specs.Set.{Set}
use Rattle.lq_turns.specs.declared.fault.Fault.{Fault}
use Rattle.lq_undoing.specs.Undid.{TellsUndone, status_of, undo_refusal}
use Rattle.lq_unrecorded.specs.Part.{part_mark}
use Rattle.lq_jobs.proofs.InPart.{no_goal}
use Rattle.lq_jobs.proofs.LeftOnFile.{since_after, since_none, since_read}
use Rattle.lq_jobs.proofs.OnFiles.{entries_told, entries_were, fault_answers, fault_kind, load_unfinished, memory_unfinished, moments_there, rests_there, room_there, settled_after, works_there}
use Rattle.lq_jobs.proofs.OnReady.{ready_kind, ready_tells}
use Rattle.lq_jobs.proofs.Ready.{opened}
use Rattle.lq_jobs.proofs.RefusedKinds.{answers_memory}
use Rattle.lq_jobs.proofs.Unchanged.{had_room, left_same, says_full}
use Rattle.lq_jobs.specs.Bytes.{OnFile, Opens, TellsDamage, load_status, most_bytes, job_of}
use Rattle.lq_jobs.specs.Kinds.{IsOfDatabase}
use Rattle.lq_jobs.specs.Undone.{DoesUndo, last_on, undo_calls}
use Rattle.lq_jobs.specs.Worked.{CrashesSince, UndoneOn, UsedDisk, WorkedOn}
use Rattle.lq_jobs.specs.declared.copying.Printing.{Printing}
use Rattle.lq_jobs.specs.declared.copying.Printing.TheVariants as print

false_true : false ≡ true → ⊥
false_true h = Prim.cc

-- a snapshot is another job
undo_no_snapshot : UndoUnrecorded ≡ Snapshot → ⊥
undo_no_snapshot h = Prim.cc

-- and so is what is printed
pub prints_no_undo : {A : Type 0} (printing : Printing) → job_of printing ≡ UndoUnrecorded → A
prints_no_undo print.Update is = absurd Prim.cc
prints_no_undo (print.Rollback target) is = absurd Prim.cc

-- it is refused by a check

abbrev IsChecked : Option RepairFault → Type 0
IsChecked o = IfSome o (λ e. is_of_calls e ≡ false)

by_faults : (found : List Fault) → IsChecked (if_faults found)
by_faults [] = tt
by_faults (first ∷ more) = refl

by_way : (b : Bool) (of : Identity) → IsChecked (if b then None else Some (fault.NotReversible of))
by_way true of = tt
by_way false of = refl

by_set : (o : Options) (mark : Marked) (found : Option (Set AnyChange)) → IsChecked (unless_undone o mark found)
by_set o mark None = refl
by_set o mark (Some x) = by_way (can_undo o x mark.2) x.identity

by_both : (a b : Option RepairFault) → IsChecked a → IsChecked b → IsChecked (option_or a b)
by_both None b first second = second
by_both (Some e) b first second = first

by_mark : (o : Options) (g : Changelog) (rows : List Tracked) (mark : Option Marked) → IsChecked (refusal_at o g rows mark)
by_mark o g rows None = refl
by_mark o g rows (Some mark) = by_both (invalid o g rows) (unless_undone o mark (set_marked o g rows mark)) (by_faults (faults (sets_in o g) rows)) (by_set o mark (set_marked o g rows mark))

-- such a refusal is of the database, is no end of a run, and tells of no full journal

check_plain : (e : RepairFault) → is_of_calls e ≡ false → is_diskless (status_of e) ≡ true
check_plain fault.NothingToUndo is = refl
check_plain (fault.Invalid found) is = refl
check_plain (fault.NotReversible of) is = refl
check_plain (fault.Refused of why) is = absurd (false_true (sym is))
check_plain fault.Disk is = absurd (false_true (sym is))
check_plain (fault.Full used next) is = absurd (false_true (sym is))
check_plain fault.OutOfMemory is = refl

check_unfinished : (e : RepairFault) → is_of_calls e ≡ false → is_finished (status_of e) ≡ false
check_unfinished fault.NothingToUndo is = refl
check_unfinished (fault.Invalid found) is = refl
check_unfinished (fault.NotReversible of) is = refl
check_unfinished (fault.Refused of why) is = absurd (false_true (sym is))
check_unfinished fault.Disk is = refl
check_unfinished (fault.Full used next) is = refl
check_unfinished fault.OutOfMemory is = refl

check_not_full : (e : RepairFault) → is_of_calls e ≡ false → IsNotFull (status_of e)
check_not_full fault.NothingToUndo is = λ used next full. Prim.cc
check_not_full (fault.Invalid found) is = λ used next full. Prim.cc
check_not_full (fault.NotReversible of) is = λ used next full. Prim.cc
check_not_full (fault.Refused of why) is = absurd (false_true (sym is))
check_not_full fault.Disk is = absurd (false_true (sym is))
check_not_full (fault.Full used next) is = absurd (false_true (sym is))
check_not_full fault.OutOfMemory is = λ used next full. Prim.cc

checked_so : (holds : Status → Type 0) → ((e : RepairFault) → is_of_calls e ≡ false → holds (status_of e)) → (o : Option RepairFault) → IsChecked o → IfSome (option_map status_of o) holds
checked_so holds each None is = tt
checked_so holds each (Some e) is = each e is

module _ (o : Options) (g : Changelog) (database : Database) where
  checked : IsChecked (refusal o g database.lock database.rows)
  checked = by_mark o g database.rows (part_mark database.lock)

  pub undo_plain : IsPlain (undo_refusal o g database)
  undo_plain = checked_so (λ s. is_diskless s ≡ true) check_plain (refusal o g database.lock database.rows) checked

  pub undo_unfinished : IfSome (undo_refusal o g database) (λ s. is_finished s ≡ false)
  undo_unfinished = checked_so (λ s. is_finished s ≡ false) check_unfinished (refusal o g database.lock database.rows) checked

  pub undo_not_full : IfSome (undo_refusal o g database) IsNotFull
  undo_not_full = checked_so IsNotFull check_not_full (refusal o g database.lock database.rows) checked

-- where nothing was done
pub nothing_undone : (o : Options) (g : Changelog) (told : Option (List ℕ)) (database : Database) (after : Option (List ℕ)) (s : Status) → Opens o.dialect told database → after ≡ told
    → Answers (undo_refusal o g database) (Err s) → DoesUndo o g told database (Err s) after
nothing_undone o g told database after s opens same answers = record {
  answers = answers;
  refused = λ some. same;
  works = left_same o.dialect (undo_calls o g told database) database told after opens same;
  tells = tt;
  room = tt;
  full = tt;
  rests = tt;
}

module _ {D : Type 0} (told : D → Option (List ℕ)) (faults : D → ℕ) (crashes : D → DiskCrashes) where
  -- no other clause of a job tells of it
  pub undo_worked : (given : Given) (before : D) (r : Result Done Status) (after : D) → UsedDisk told faults crashes UndoUnrecorded given.options.dialect before r after → IsOfDatabase r → UndoneOn told faults crashes given.options given.changelog before r after
      → WorkedOn told faults crashes UndoUnrecorded given before r after
  undo_worked given before r after used kind undone = record {
    used = used;
    kind = kind;
    has_part = no_goal UndoUnrecorded r refl;
    does = λ on. absurd (false_true on);
    any_moment = λ on. absurd (false_true on);
    undone = λ is. undone;
    snapped = λ is. absurd (undo_no_snapshot is);
  }

  -- on a database that was loaded
  module _ {P E : Type 0} (p : Dialect) (h k : Held) (db left : Db D P E) (is : IsDb p (told (disk_in db)) (crashes (disk_in db)) h db) (valid : IsValid p (told (disk_in left)) (crashes (disk_in left)) k left)
      (o : Options) (g : Changelog) (new : IsNew o.dialect most_bytes db) (ready : IsReady o.dialect (state (told (disk_in db)) h db))
      (read : IfSome (told (disk_in db)) (λ bytes. catalogue_of o.dialect most_bytes bytes ≡ Ok (kept h))) where
    abbrev d : Dialect
    d = o.dialect

    abbrev x : State
    x = state (told (disk_in db)) h db

    abbrev y : State
    y = state (told (disk_in left)) k left

    abbrev file : Option (List ℕ)
    file = told (disk_in db)

    settled_kept : left ≡ db → Settled (told (disk_in left)) (crashes (disk_in left))
    settled_kept same = subst (λ (db : Db D P E). Settled (told (disk_in db)) (crashes (disk_in db))) (sym same) is.whole.settled

    -- the last text of the database is that of the file
    last_is : (last : Option (List ℕ)) → IfSome x.entries (λ there. last ≡ last_text there) → (database : Database) (opens : Opens d file database) → HasDatabase d x database → last ≡ last_on d file
    last_is last is_last database opens has =
        let there = entries_told d p file (crashes (disk_in db)) h db is new.limit_is opens.bytes opens.told_is (told (disk_in left)) (crashes (disk_in left)) k left valid database has in
        let were = entries_were d p file (crashes (disk_in db)) h db is new.limit_is opens.bytes opens.told_is (told (disk_in left)) (crashes (disk_in left)) k left valid database has in
        subst (λ (entries : Option (List Entry)). IfSome entries (λ there. last ≡ last_text there)) there.1 is_last ∙ sym (ap (option_and_then last_text) (sym were ∙ there.1))

    pub loaded_undone : (last : Option (List ℕ)) → IfSome x.entries (λ there. last ≡ last_text there) → (r : Result Done Status) → OnIts d x (λ database. Answers (undo_refusal o g database) r) → OnIts d x (λ database. IsKept (undo_refusal o g database) db left)
        → OnIts d x (λ database. Works d (undo_script o g last database) database x r y) → OnIts d x (λ database. CrashesIn d (undo_script o g last database) database x (crashes_of (crashes (disk_in db)) db) (crashes_of (crashes (disk_in left)) left))
        → OnIts d x (λ database. IfOk r (TellsUndone o database (unrecorded o g last database.lock database.rows))) → UndoneOn told faults crashes o g (disk_in db) r (disk_in left)
    loaded_undone last so r answers refused works moments tells = record {
      does = λ database opens.
          let has = opened d p file (crashes (disk_in db)) h db is new file database refl read opens in
          let same = last_is last so database opens has in
          let worked = subst (λ t. Works d (undo_script o g t database) database x r y) same (works database has) in
          let room = room_there d p file (crashes (disk_in db)) h db is new.limit_is opens.bytes opens.told_is (told (disk_in left)) (crashes (disk_in left)) k left valid database has (undo_calls o g file database) r worked in
          record {
            answers = answers database has;
            refused = λ some. ap (λ (db : Db D P E). told (disk_in db)) (refused database has some);
            works = works_there d p file (crashes (disk_in db)) h db is new.limit_is opens.bytes opens.told_is (told (disk_in left)) (crashes (disk_in left)) k left valid database has (undo_calls o g file database) r worked;
            tells = subst (λ t. IfOk r (TellsUndone o database (unrecorded o g t database.lock database.rows))) same (tells database has);
            room = had_room d (undo_calls o g file database) database file r room;
            full = says_full d (undo_calls o g file database) database file r room;
            rests = rests_there d p file (crashes (disk_in db)) h db is new.limit_is opens.bytes opens.told_is (told (disk_in left)) (crashes (disk_in left)) k left valid database has (undo_calls o g file database) r worked;
          };
      any_moment = λ database opens.
          let has = opened d p file (crashes (disk_in db)) h db is new file database refl read opens in
          let same = last_is last so database opens has in
          moments_there d p file (crashes (disk_in db)) h db is new.limit_is opens.bytes opens.told_is (told (disk_in left)) (crashes (disk_in left)) k left valid database has (undo_calls o g file database) r
          (subst (λ t. Works d (undo_script o g t database) database x r y) same (works database has))
          (subst (λ t. CrashesIn d (undo_script o g t database) database x (crashes_of (crashes (disk_in db)) db) (crashes_of (crashes (disk_in left)) left)) same (moments database has));
      safe = settled_after d p (undo_script o g last ready.database) ready.database x (told (disk_in left)) (crashes (disk_in left)) k left valid (undo_refusal o g ready.database) r (answers ready.database ready.has)
          (λ some. settled_kept (refused ready.database ready.has some)) (works ready.database ready.has);
    }

    pub loaded_tells : (r : Result Done Status) → OnIts d x (λ database. Answers (undo_refusal o g database) r) → TellsDamage d file r
    loaded_tells r answers = ready_tells d d refl x ready (undo_refusal o g) (undo_plain o g) r answers file

    pub loaded_kind : (r : Result Done Status) → OnIts d x (λ database. Answers (undo_refusal o g database) r) → IsOfDatabase r
    loaded_kind r answers = ready_kind d d refl x ready (undo_refusal o g) (undo_plain o g) r answers

  module _ (o : Options) (g : Changelog) (disk : D) where
    -- there was no memory for it
    pub memory_undone : (s : Status) → s ≡ status.OutOfMemory → UndoneOn told faults crashes o g disk (Err s) disk
    memory_undone s memory = record {
      does = λ database opens. nothing_undone o g (told disk) database (told disk) s opens refl (subst (λ s. Answers (undo_refusal o g database) (Err s)) (sym memory) (answers_memory (undo_refusal o g database)));
      any_moment = λ database opens. since_none o.dialect (undo_calls o g (told disk) database) database (told disk) (crashes disk);
      safe = λ finished. absurd (memory_unfinished s memory finished);
    }

    module _ (sound : IsSound (told disk) (crashes disk)) (after : D) (same : told after ≡ told disk) (read : LeavesOnly (crashes disk) (crashes after) (crashes disk).leaves) where
      -- what was done on the disk as it was read is done on the disk
      pub undone_after : (r : Result Done Status) (last : D) → UndoneOn told faults crashes o g after r last → UndoneOn told faults crashes o g disk r last
      undone_after r last did = record {
        does = subst (λ (t : Option (List ℕ)). OnFile o.dialect t (λ database. DoesUndo o g t database r (told last))) same did.does;
        any_moment = λ database opens.
            since_after o.dialect (undo_calls o g (told disk) database) database (told disk) (crashes disk) sound (crashes after) (crashes last) read
            (subst (λ (t : Option (List ℕ)). OnFile o.dialect t (λ database. CrashesSince o.dialect (undo_calls o g t database) database t (crashes after) (crashes last))) same did.any_moment database opens);
        safe = did.safe;
      }

      -- it could not be loaded
      module _ (f : LoadFault) (s : Status) (is_status : s ≡ load_status f) (is : IsDbFault o.dialect most_bytes (told disk) (faults disk) (faults after) f) where
        pub fault_undone : UndoneOn told faults crashes o g disk (Err s) after
        fault_undone = record {
          does = λ database opens.
              nothing_undone o g (told disk) database (told after) s opens same
              (subst (λ s. Answers (undo_refusal o g database) (Err s)) (sym is_status) (fault_answers o.dialect (told disk) (faults disk) (faults after) f (undo_refusal o g database) database is opens));
          any_moment = λ database opens. since_read o.dialect (undo_calls o g (told disk) database) database (told disk) (crashes disk) sound (crashes after) read;
          safe = λ finished. absurd (load_unfinished f (subst (λ s. is_finished s ≡ true) is_status finished));
        }

        pub fault_kind_is : IsOfDatabase (Err s)
        fault_kind_is = subst (λ s. IsOfDatabase (Err s)) (sym is_status) (fault_kind f)
