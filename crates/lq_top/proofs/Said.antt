-- What a run says, and that what can be taken back is.
use Rattle.std.proofs.Common.{ap, inl, inr, refl, subst, sym, ◌∙◌}
use Rattle.std.proofs.Math.Seq.{drop-append_seam}
use Rattle.std.proofs.lemmas.List.{append-nil}
use Rattle.std.specs.List.{find}
use Rattle.std.specs.Option.{option_map, option_or}
use Rattle.std.specs.Prelude.{Bool, Err, IfOk, List, None, Ok, Option, Result, Some, [], cond, drop, false, if◌then◌else◌, is_none, length, option_and_then, reverse, true, ℕ, ◌++◌, ◌∷◌, ◌≡◌, ◌⊎◌}
use Rattle.lq_base.specs.declared.command.Command.TheVariants as command
use Rattle.lq_base.specs.declared.command.Target.{Target}
use Rattle.lq_base.specs.declared.dialect.Dialect.{Dialect}
use Rattle.lq_base.specs.declared.tracking.Tracked.{Tracked}
use Rattle.lq_cli.specs.declared.line.Job.{Job}
use Rattle.lq_cli.specs.declared.line.Job.TheVariants.{Drill, History, RollbackSql, Run, Soak, UpdateCount, UpdateSql, UpdateTestingRollback, UpdateTo, Generate, ClearSums, UndoUnrecorded, Snapshot}
use Rattle.lq_commands.proofs.Planned.{kept}
use Rattle.lq_commands.specs.Rehearsal.{generate_text, counted_in, TellsRun, Told, after_update, rehearsed, told_unless, unrehearsed, updates}
use Rattle.lq_commands.specs.Works.{TellsSync, synced_in, TellsRollback, TellsUpdate, status_by, update_told, is_finished}
use Rattle.lq_commands.specs.Outputs.{TellsJob, TellsText, at_once_text, back_in, released_text}
use Rattle.lq_commands.specs.Refusals.{Answers, ends, held, if_halts, if_not, if_some, invalid, no_way_back, own_halt, refusal, unreachable_by, unready, untagged}
use Rattle.lq_commands.specs.Scripts.{log_in, nothing_told, rolled_to, sets_in, update_script, updated_in}
use Rattle.lq_commands.specs.declared.given.Given.{Given}
use Rattle.lq_generate.specs.Faults.{fault_at}
use Rattle.lq_kinds.specs.ChangeSets.{is_label}
use Rattle.lq_any.specs.declared.any_change.AnyChange.{AnyChange}
use Rattle.lq_outside.specs.Forms.{IsPart}
use Rattle.lq_report.specs.Output.{cleared_text, history_text, sync_text, tagged_text, validated_text}
use Rattle.lq_seen.specs.Telling.{Account, of_turns}
use Rattle.lq_seen.specs.View.{any_meaning}
use Rattle.lq_tell.specs.Texts.{EndsAs, IsSilent, has_output, out_text, status_done, text_or_none}
use Rattle.lq_tell.specs.declared.done.Done.{Done}
use Rattle.lq_tell.specs.declared.status.Status.{Status}
use Rattle.lq_tell.specs.declared.status.Status.TheVariants as status
use Rattle.lq_track.specs.Database.{Database, has_twin_rows}
use Rattle.lq_track.specs.Log.{identity_of}
use Rattle.lq_turns.proofs.Made.{with_users}
use Rattle.lq_turns.proofs.Undone.{Undone, all_back}
use Rattle.lq_turns.specs.Deed.{Contents, contents_of}
use Rattle.lq_turns.specs.Faults.{faults}
use Rattle.lq_turns.specs.Laws.{AreKnown}
use Rattle.lq_turns.specs.Ran.{RanSince, Run as RunOf, are_reversible}
use Rattle.lq_turns.specs.Script.{all_rolled, not_reversible, rolled_as, rows_kept, rows_undone, undo_turn, undo_turns}
use Rattle.lq_turns.specs.Session.{left_by}
use Rattle.lq_turns.specs.Set.{Set}
use Rattle.lq_turns.specs.Settle.{Settled, all_settled, by_own, own_choice, unless_stopped}
use Rattle.lq_turns.specs.Turn.{Ending}
use Rattle.lq_turns.specs.declared.choice.Choice.{Choice}
use Rattle.lq_turns.specs.declared.choice.Choice.TheVariants as choice
use Rattle.lq_turns.specs.declared.stamp.Stamp.{Stamp}
use Rattle.lq_turns.specs.declared.stop.Stop.{Stop}
use Rattle.lq_turns.specs.declared.turn.Turn.{Turn}
use Rattle.laws_generate.specs.Again.{TextComesAgain}
use Rattle.lq_jobs.proofs.RefusedKinds.{answers_ends}
use Rattle.lq_drills.proofs.ShortTag.{IsSigned, signed_line}
use Rattle.lq_jobs.proofs.Written.{Does, IsWritten, failed_unfinished, false_true, halted_is, none_some, only_run, own_only, quiet_generate, quiet_held, quiet_invalid, quiet_not, quiet_or, quiet_unready, quiet_untagged, quiet_way, refused_for, some_same, was_over}
use Rattle.lq_jobs.specs.Asks.{Asks, Files}
use Rattle.lq_jobs.specs.Bytes.{OnFile}
use Rattle.lq_jobs.specs.Headline.{GoesBack, IsTaken, is_taken}
use Rattle.lq_jobs.specs.Jobs.{DoesJob, DoesLine, MakesAgain, is_on_file, job_refusal}
use Rattle.lq_jobs.specs.Run.{EndsBy, Runs, given_by, is_end}
use Rattle.lq_jobs.specs.Says.{ComesAgain, Said, SaidInPart, Says, SaysJob, SaysRehearsal, SaysRollback, SaysUpdate, unless_refused}

some_none : {s : Status} → (let o : Option Status = Some s in o) ≡ None → ⊥
some_none h = Prim.cc

-- statuses

-- what came to the end of its run has an output
pub ran_output : (s : Status) → ends s ≡ true → is_finished s ≡ true → has_output s ≡ true
ran_output status.Done ran is = is
ran_output status.Usage ran is = is
ran_output status.ReadFault ran is = is
ran_output (status.Changelog fault) ran is = is
ran_output (status.Invalid faults) ran is = is
ran_output (status.Locked lock) ran is = is
ran_output (status.Halted place why) ran is = ran
ran_output (status.Refused identity statement kept reason) ran is = is
ran_output status.NoTarget ran is = is
ran_output (status.NotReversible identity) ran is = is
ran_output status.NothingToUndo ran is = is
ran_output (status.NotWritable at) ran is = is
ran_output status.DiskFault ran is = is
ran_output (status.Damaged at) ran is = is
ran_output (status.Full used next) ran is = is
ran_output status.WriteFault ran is = is
ran_output status.OutOfMemory ran is = is
ran_output (status.Busy session) ran is = is

-- what came to its end has one, or writes nothing
speaks_or_not : (s : Status) → is_finished s ≡ true → (has_output s ≡ true) ⊎ IsSilent s
speaks_or_not status.Done is = inl refl
speaks_or_not status.Usage is = inr refl
speaks_or_not status.ReadFault is = inr refl
speaks_or_not (status.Changelog fault) is = inr refl
speaks_or_not (status.Invalid faults) is = inr refl
speaks_or_not (status.Locked lock) is = inr refl
speaks_or_not (status.Halted None why) is = inr refl
speaks_or_not (status.Halted (Some of) why) is = inl refl
speaks_or_not (status.Refused identity statement kept reason) is = inl refl
speaks_or_not status.NoTarget is = inr refl
speaks_or_not (status.NotReversible identity) is = inr refl
speaks_or_not status.NothingToUndo is = inr refl
speaks_or_not (status.NotWritable at) is = inr refl
speaks_or_not status.DiskFault is = inr refl
speaks_or_not (status.Damaged at) is = inr refl
speaks_or_not (status.Full used next) is = inr refl
speaks_or_not status.WriteFault is = absurd (false_true is)
speaks_or_not status.OutOfMemory is = inr refl
speaks_or_not (status.Busy session) is = inr refl

-- where it came to its end and its text was written it ended so
pub ended_so : (x s : Status) → EndsAs x s → is_finished s ≡ true → s ≡ x
ended_so x s (inl is) finished = is
ended_so x s (inr (inl is)) finished = absurd (false_true (sym (ap is_finished is) ∙ finished))
ended_so x s (inr (inr is)) finished = absurd (false_true (sym (ap is_finished is) ∙ finished))

pub nothing_more : (o : Option (List ℕ)) → option_map (λ (out : List ℕ). out ++ []) o ≡ o
nothing_more None = refl
nothing_more (Some out) = ap some (append-nil out) where
  some : List ℕ → Option (List ℕ)
  some text = Some text

-- no check refused it
abbrev pub CameOfRun : Result Done Status → Type 0
CameOfRun done = IfOk done (λ (it : Done). ends it.status ≡ true)

-- so the output got what it told
wrote : (done : Result Done Status) (s : Status) (before after : Option (List ℕ)) → EndsAs (status_done done) s → (has_output s ≡ true → after ≡ option_map (λ (out : List ℕ). out ++ out_text done) before) → (IsSilent s → after ≡ before)
    → CameOfRun done → is_finished s ≡ true → after ≡ option_map (λ (out : List ℕ). out ++ out_text done) before
wrote (Ok it) s before after ended whole silent ran finished = whole (ran_output s (ap ends (ended_so it.status s ended finished) ∙ ran) finished)
wrote (Err x) s before after ended whole silent ran finished = elim (speaks_or_not s finished) [ inl has ↦ whole has | inr none ↦ silent none ∙ sym (nothing_more before) ]

pub answers_ran : (o : Option Status) (done : Result Done Status) → Answers o done → CameOfRun done
answers_ran o (Ok done) answers = answers_ends o done answers
answers_ran o (Err x) answers = tt

pub ok_refusal : (o : Option Status) (done : Done) → Answers o (Ok done) → o ≡ None
ok_refusal None done answers = refl
ok_refusal (Some refused) done answers = absurd answers

or_none : (a b : Option Status) → option_or a b ≡ None → b ≡ None
or_none None b is = is
or_none (Some x) b is = absurd (some_none is)

-- an update that the changelog's own precondition halts

halted_status : (by : Choice) (x : Status) → if_halts by ≡ Some x → (c : Contents) (t : Settled) → x ≡ status_by (by_own by c t).stop
halted_status (choice.Halts why) x is c t = sym (some_same is)
halted_status choice.Passes x is c t = absurd (none_some is)
halted_status choice.Fills x is c t = absurd (none_some is)
halted_status choice.Skips x is c t = absurd (none_some is)
halted_status (choice.Marks what) x is c t = absurd (none_some is)
halted_status (choice.Runs what why) x is c t = absurd (none_some is)

own_status : (prints : Bool) (given : Given) (database : Database) (x : Status) → own_halt given database ≡ Some x → x ≡ status_by (updated_in prints given database).settled.stop
own_status prints given database x is =
    let c = contents_of database in
    halted_status (own_choice (log_in given) c) x is c (all_settled given.options.dialect any_meaning given.stamp.reading (sets_in given) c)

-- an update, a rollback and a changelog-sync

module _ (given : Given) (database : Database) (s : Status) (before after : Option (List ℕ)) where
  -- what is written of one that did its work
  abbrev Wrote : Done → Type 0
  Wrote done = after ≡ option_map (λ (out : List ℕ). out ++ text_or_none done.out) before

  abbrev behind : List ℕ → Option (List ℕ)
  behind text = option_map (λ (out : List ℕ). out ++ text) before

  update_said : (prints : Bool) (done : Done) → own_halt given database ≡ None → s ≡ done.status → TellsUpdate prints (updated_in prints given database) done → Wrote done → SaysUpdate prints given database s before after
  update_said prints done goes is tells whole = record {
    status = is ∙ tells.status;
    output = whole ∙ ap behind (ap text_or_none tells.out ∙ sym (ap (λ (o : Option Status). unless_refused o (update_told prints (updated_in prints given database))) goes));
  }

  update_halted : (prints : Bool) (x : Status) → own_halt given database ≡ Some x → s ≡ x → after ≡ option_map (λ (out : List ℕ). out ++ []) before → SaysUpdate prints given database s before after
  update_halted prints x halts is whole = record {
    status = is ∙ own_status prints given database x halts;
    output = whole ∙ sym (ap (λ (o : Option Status). behind (unless_refused o (update_told prints (updated_in prints given database)))) halts);
  }

  rehearsal_said : (done : Done) → own_halt given database ≡ None → s ≡ done.status → TellsRun (rehearsed given database) done → Wrote done → SaysRehearsal given database s before after
  rehearsal_said done goes is tells whole = record {
    status = is ∙ tells.status;
    output = whole ∙ ap behind (ap text_or_none tells.out ∙ sym (ap (λ (o : Option Status). unless_refused o (rehearsed given database).text) goes));
  }

  abbrev told_by : Option Stop → Told
  told_by o = told_unless o ((updates given).told database) ((after_update given (length database.rows)).told (left_by given.options.dialect (update_script given database) database))

  rehearsal_halted : (x : Status) → own_halt given database ≡ Some x → s ≡ x → after ≡ option_map (λ (out : List ℕ). out ++ []) before → SaysRehearsal given database s before after
  rehearsal_halted x halts is whole =
      let stop = only_run given database x halts in
      record {
        status = is ∙ own_status false given database x halts ∙ ap status_by (sym (ap (λ (o : Option Stop). (told_by o).stop) stop.1));
        output = whole ∙ sym (ap (λ (o : Option Status). behind (unless_refused o (rehearsed given database).text)) halts);
      }

  rollback_said : (prints : Bool) (target : Target) (done : Done) → s ≡ done.status → TellsRollback prints (back_in prints given target database) done → Wrote done → SaysRollback prints given target database s before after
  rollback_said prints target done is tells whole = record { status = is ∙ tells.status; output = whole ∙ ap behind (ap text_or_none tells.out) }

  sync_said : (done : Done) → s ≡ done.status → TellsSync (synced_in given database) done → Wrote done → Says (synced_in given database).stop (sync_text (synced_in given database).happened) s before after
  sync_said done is tells whole = record { status = is ∙ tells.status; output = whole ∙ ap behind (ap text_or_none tells.out) }

  -- a command that makes one call at most
  text_said : (text : List ℕ) (done : Done) → s ≡ done.status → TellsText text done → Wrote done → Says None text s before after
  text_said text done is tells whole = record { status = is ∙ tells.status; output = whole ∙ ap behind (ap text_or_none tells.out) }

-- each job

says_ok : (job : Job) (given : Given) (database : Database) (s : Status) (before after : Option (List ℕ)) (done : Done) → job_refusal job given database ≡ None → TellsJob job given database (Ok done) → s ≡ done.status
    → is_finished done.status ≡ true → after ≡ option_map (λ (out : List ℕ). out ++ text_or_none done.out) before → SaysJob job given database s before after
says_ok (Run command.Validate) given database s before after done none tells is finished whole = text_said given database s before after validated_text done is (tells.0 finished) whole
says_ok (Run command.Status) given database s before after done none tells is finished whole = text_said given database s before after (at_once_text command.Status given database) done is (tells.0 finished) whole
says_ok (Run command.Update) given database s before after done none tells is finished whole =
    update_said given database s before after false done (or_none (unready given database) (own_halt given database) none) is (tells.0 finished) whole
says_ok (Run (command.Tag name)) given database s before after done none tells is finished whole = text_said given database s before after (tagged_text name) done is (tells.0 finished) whole
says_ok (Run (command.Rollback target)) given database s before after done none tells is finished whole = rollback_said given database s before after false target done is (tells.0 finished) whole
says_ok (Run command.Sync) given database s before after done none tells is finished whole = sync_said given database s before after done is (tells.0 finished) whole
says_ok (Run command.Release) given database s before after done none tells is finished whole = text_said given database s before after (released_text database.lock) done is (tells.0 finished) whole
says_ok (UpdateCount count) given database s before after done none tells is finished whole =
    let part = counted_in count given database.rows in
    update_said part database s before after false done (or_none (unready part database) (own_halt part database) none) is (tells.0 finished) whole
says_ok (UpdateTo tag) given database s before after done none tells is finished whole =
    update_said given database s before after false done (or_none (unready given database) (own_halt given database) none) is (tells.0 finished) whole
says_ok UpdateTestingRollback given database s before after done none tells is finished whole =
    let goes = or_none (unrehearsed given database.rows) (own_halt given database) (or_none (unready given database) (option_or (unrehearsed given database.rows) (own_halt given database)) none) in
    rehearsal_said given database s before after done goes is (tells.0 finished) whole
says_ok ClearSums given database s before after done none tells is finished whole = text_said given database s before after (cleared_text (length database.rows)) done is (tells.0 finished) whole
says_ok History given database s before after done none tells is finished whole = text_said given database s before after (history_text database.rows) done is (tells.0 finished) whole
says_ok (Generate author) given database s before after done none tells is finished whole = text_said given database s before after (generate_text author given database) done is (tells.0 finished) whole
says_ok UpdateSql given database s before after done none tells is finished whole =
    update_said given database s before after true done (or_none (invalid given database.rows) (own_halt given database) none) is (tells.0 finished) whole
says_ok (RollbackSql target) given database s before after done none tells is finished whole = rollback_said given database s before after true target done is (tells.0 finished) whole
says_ok (Drill path) given database s before after done none tells is finished whole = tt
says_ok (Soak number sets) given database s before after done none tells is finished whole = tt
says_ok UndoUnrecorded given database s before after done none tells is finished whole = tt
says_ok Snapshot given database s before after done none tells is finished whole = tt

says_err : (job : Job) (given : Given) (database : Database) (s : Status) (before after : Option (List ℕ)) (x : Status) → job_refusal job given database ≡ Some x → is_finished x ≡ true → s ≡ x
    → after ≡ option_map (λ (out : List ℕ). out ++ []) before → SaysJob job given database s before after
says_err (Run command.Validate) given database s before after x refused finished is whole = absurd (quiet_not x _ (quiet_invalid given database.rows) refused finished)
says_err (Run command.Status) given database s before after x refused finished is whole = absurd (quiet_not x _ (quiet_invalid given database.rows) refused finished)
says_err (Run command.Update) given database s before after x refused finished is whole =
    update_halted given database s before after false x (halted_is (unready given database) (own_halt given database) x (quiet_unready given database) refused finished) is whole
says_err (Run (command.Tag name)) given database s before after x refused finished is whole =
    absurd (quiet_not x _ (quiet_or (held database) (untagged database.rows) (quiet_held database) (quiet_untagged database.rows)) refused finished)
says_err (Run (command.Rollback target)) given database s before after x refused finished is whole =
    absurd (quiet_not x _ (quiet_or (unready given database) (unreachable_by given (rows_kept target database.rows) database.rows) (quiet_unready given database) (quiet_way given (rows_kept target database.rows) database.rows)) refused finished)
says_err (Run command.Sync) given database s before after x refused finished is whole = absurd (quiet_not x _ (quiet_unready given database) refused finished)
says_err (Run command.Release) given database s before after x refused finished is whole = absurd (none_some refused)
says_err (UpdateCount count) given database s before after x refused finished is whole =
    let part = counted_in count given database.rows in
    update_halted part database s before after false x (halted_is (unready part database) (own_halt part database) x (quiet_unready part database) refused finished) is whole
says_err (UpdateTo tag) given database s before after x refused finished is whole =
    update_halted given database s before after false x (halted_is (unready given database) (own_halt given database) x (quiet_unready given database) refused finished) is whole
says_err UpdateTestingRollback given database s before after x refused finished is whole =
    rehearsal_halted given database s before after x (own_only given database x refused finished) is whole
says_err ClearSums given database s before after x refused finished is whole = absurd (quiet_not x (held database) (quiet_held database) refused finished)
says_err History given database s before after x refused finished is whole = absurd (none_some refused)
says_err (Generate author) given database s before after x refused finished is whole = absurd (quiet_not x _ (quiet_generate (fault_at given.options.dialect author database.users)) refused finished)
says_err UpdateSql given database s before after x refused finished is whole =
    update_halted given database s before after true x (halted_is (invalid given database.rows) (own_halt given database) x (quiet_invalid given database.rows) refused finished) is whole
says_err (RollbackSql target) given database s before after x refused finished is whole =
    absurd (quiet_not x _ (quiet_or (invalid given database.rows) (unreachable_by given (rows_kept target database.rows) database.rows) (quiet_invalid given database.rows) (quiet_way given (rows_kept target database.rows) database.rows)) refused finished)
says_err (Drill path) given database s before after x refused finished is whole = tt
says_err (Soak number sets) given database s before after x refused finished is whole = tt
says_err UndoUnrecorded given database s before after x refused finished is whole = tt
says_err Snapshot given database s before after x refused finished is whole = tt

says_by : (job : Job) (given : Given) (database : Database) (file left : Option (List ℕ)) (done : Result Done Status) (s : Status) (before after : Option (List ℕ)) → EndsAs (status_done done) s → DoesJob job given database file done left
    → is_finished s ≡ true → after ≡ option_map (λ (out : List ℕ). out ++ out_text done) before → SaysJob job given database s before after
says_by job given database file left (Ok done) s before after ended does finished whole =
    let is = ended_so done.status s ended finished in
    says_ok job given database s before after done (ok_refusal (job_refusal job given database) done does.answers) does.tells is (sym (ap is_finished is) ∙ finished) whole
says_by job given database file left (Err x) s before after ended does finished whole =
    let is = ended_so x s ended finished in
    let over = sym (ap is_finished is) ∙ finished in
    says_err job given database s before after x (refused_for (job_refusal job given database) x does.answers over) over is whole

says_does : (job : Job) (given : Given) (database : Database) (file left : Option (List ℕ)) (done : Result Done Status) (s : Status) (before after : Option (List ℕ)) → EndsAs (status_done done) s → Does job given database file done left
    → is_finished s ≡ true → (CameOfRun done → is_finished s ≡ true → after ≡ option_map (λ (out : List ℕ). out ++ out_text done) before) → SaysJob job given database s before after
says_does job given database file left done s before after ended (inl (failed, same)) finished whole = absurd (failed_unfinished done failed (sym (ap is_finished (ended_so (status_done done) s ended finished)) ∙ finished))
says_does job given database file left done s before after ended (inr (read, does)) finished whole = says_by job given database file left done s before after ended does finished (whole (answers_ran (job_refusal job given database) done does.answers) finished)

says_line : (job : Job) (given : Given) (file left : Option (List ℕ)) (done : Result Done Status) (s : Status) (before after : Option (List ℕ)) → EndsAs (status_done done) s → DoesLine job given file done left
    → (CameOfRun done → is_finished s ≡ true → after ≡ option_map (λ (out : List ℕ). out ++ out_text done) before) → OnFile given.options.dialect file (λ database. is_finished s ≡ true → SaysJob job given database s before after)
says_line (Run c) given file left done s before after ended does whole = λ database opens finished.
    says_does (Run c) given database file left done s before after ended (does refl database opens) finished whole
says_line (UpdateCount count) given file left done s before after ended does whole = λ database opens finished.
    says_does (UpdateCount count) given database file left done s before after ended (does refl database opens) finished whole
says_line (UpdateTo tag) given file left done s before after ended does whole = λ database opens finished.
    says_does (UpdateTo tag) given database file left done s before after ended (does refl database opens) finished whole
says_line UpdateTestingRollback given file left done s before after ended does whole = λ database opens finished.
    says_does UpdateTestingRollback given database file left done s before after ended (does refl database opens) finished whole
says_line ClearSums given file left done s before after ended does whole = λ database opens finished.
    says_does ClearSums given database file left done s before after ended (does refl database opens) finished whole
says_line History given file left done s before after ended does whole = λ database opens finished.
    says_does History given database file left done s before after ended (does refl database opens) finished whole
says_line (Generate author) given file left done s before after ended does whole = λ database opens finished.
    says_does (Generate author) given database file left done s before after ended (does refl database opens) finished whole
says_line UpdateSql given file left done s before after ended does whole = λ database opens finished.
    says_does UpdateSql given database file left done s before after ended (does refl database opens) finished whole
says_line (RollbackSql target) given file left done s before after ended does whole = λ database opens finished.
    says_does (RollbackSql target) given database file left done s before after ended (does refl database opens) finished whole
says_line (Drill path) given file left done s before after ended does whole = λ database opens finished. tt
says_line (Soak number sets) given file left done s before after ended does whole = λ database opens finished. tt
says_line UndoUnrecorded given file left done s before after ended does whole = λ database opens finished. tt
says_line Snapshot given file left done s before after ended does whole = λ database opens finished. tt

pub has_said : {words : List (List ℕ)} {files : Files} (asks : Asks words files) (stamp : Stamp) (file left : Option (List ℕ)) (done : Result Done Status) (s : Status) (before after : Option (List ℕ)) → IsWritten done s
    → DoesLine asks.line.job (given_by asks stamp) file done left → (has_output s ≡ true → after ≡ option_map (λ (out : List ℕ). out ++ out_text done) before) → (IsSilent s → after ≡ before) → Said asks stamp file s before after
has_said asks stamp file left done s before after by does whole silent =
    says_line asks.line.job (given_by asks stamp) file left done s before after by.ended does (wrote done s before after by.ended whole silent)

-- the same of the text that the output would have got
pub said_in_part : {words : List (List ℕ)} {files : Files} (asks : Asks words files) (stamp : Stamp) (file left : Option (List ℕ)) (done : Result Done Status) (before after : Option (List ℕ)) → DoesLine asks.line.job (given_by asks stamp) file done left
    → is_finished (status_done done) ≡ true → IsPart (out_text done) before after → SaidInPart asks stamp file before after
said_in_part asks stamp file left done before after does finished part = record {
  wanted = status_done done;
  finished = finished;
  text = out_text done;
  said = says_line asks.line.job (given_by asks stamp) file left done (status_done done) before (option_map (λ (out : List ℕ). out ++ out_text done) before) (inl refl) does (λ ran finished. refl);
  part = part;
}

-- what was generated makes the objects again

module _ (author : List ℕ) (given : Given) (database : Database) (signed : is_label author ≡ true) where
  abbrev Again : Type 0
  Again = TextComesAgain given.options.dialect database.users (generate_text author given database)

  again_by : (done : Result Done Status) → Answers (job_refusal (Generate author) given database) done → MakesAgain (Generate author) given database done → is_finished (status_done done) ≡ true → Again
  again_by (Ok ended) answers again finished = again signed
  again_by (Err s) answers again finished =
      let refused = job_refusal (Generate author) given database in
      absurd (quiet_not s refused (quiet_generate (fault_at given.options.dialect author database.users)) (refused_for refused s answers finished) finished)

  again_does : (file left : Option (List ℕ)) (done : Result Done Status) → Does (Generate author) given database file done left → is_finished (status_done done) ≡ true → Again
  again_does file left done (inl (failed, same)) finished = absurd (failed_unfinished done failed finished)
  again_does file left done (inr (read, does)) finished = again_by done does.answers does.again finished

pub comes_again : {words : List (List ℕ)} {files : Files} (asks : Asks words files) (stamp : Stamp) (file left : Option (List ℕ)) (done : Result Done Status) (s : Status) → IsWritten done s
    → DoesLine asks.line.job (given_by asks stamp) file done left → ComesAgain asks stamp file s
comes_again {words} asks stamp file left done s by does = λ author is database opens over.
    again_does author (given_by asks stamp) database (subst IsSigned is (signed_line words asks.line asks.is_line)) file left done
    (subst (λ job. DoesLine job (given_by asks stamp) file done left) is does refl database opens) (was_over done s by over)

-- turns that all finish do not stop

unstopped : (d : Dialect) (turns : List Turn) (c e : Contents) → Undone d turns c e → (all_rolled d turns c).stop ≡ None
unstopped d [] c e undone = refl
unstopped d (turn ∷ turns) c e undone = ap (λ (q : Ending). (unless_stopped (rolled_as turn q) (all_rolled d turns)).stop) undone.1 ∙ unstopped d turns undone.0 e undone.2

-- no row is without a way back where all have their turns

none_turns : {ts : List Turn} → (let o : Option (List Turn) = None in o) ≡ Some ts → ⊥
none_turns h = Prim.cc

module _ (d : Dialect) (xs : List (Set AnyChange)) where
  abbrev is_lost : Tracked → Bool
  is_lost row = is_none (undo_turn d any_meaning xs row)

  none_by : (row : Tracked) (rows : List Tracked) (turns : List Turn) (o : Option Turn) (q : Option (List Turn)) → undo_turn d any_meaning xs row ≡ o
      → option_and_then (λ (turn : Turn). option_map (λ (ts : List Turn). turn ∷ ts) q) o ≡ Some turns → ((ts : List Turn) → q ≡ Some ts → find is_lost rows ≡ None) → find is_lost (row ∷ rows) ≡ None
  none_by row rows turns None q is all rest = absurd (none_turns all)
  none_by row rows turns (Some turn) None is all rest = absurd (none_turns all)
  none_by row rows turns (Some turn) (Some ts) is all rest = ap (λ (o : Option Turn). cond (is_none o) (Some row) (find is_lost rows)) is ∙ rest ts refl

  none_lost : (rows : List Tracked) (turns : List Turn) → undo_turns d any_meaning xs rows ≡ Some turns → find is_lost rows ≡ None
  none_lost [] turns all = refl
  none_lost (row ∷ rows) turns all = none_by row rows turns (undo_turn d any_meaning xs row) (undo_turns d any_meaning xs rows) refl all (λ ts is. none_lost rows ts is)

  reversible : (rows : List Tracked) (turns : List Turn) → undo_turns d any_meaning xs rows ≡ Some turns → not_reversible d any_meaning xs rows ≡ None
  reversible rows turns all = ap (option_map identity_of) (none_lost rows turns all)

-- the turns that take back what ran
back_turns : (d : Dialect) (xs : List (Set AnyChange)) (point : Contents) (ran : List (RunOf AnyChange)) (database : Database) → RanSince d any_meaning point ran (contents_of database) → are_reversible d any_meaning ran point.users ≡ true
    → AreKnown d any_meaning xs ran → (turns : List Turn) × (undo_turns d any_meaning xs (rows_undone (length point.rows) database.rows) ≡ Some turns) × Undone d turns (contents_of database) point
back_turns d xs point ran database since can known =
    let back = all_back any_meaning kept d xs ran since.added point.rows point.users database.users since.are_theirs known since.sound can since.users (sym (ap has_twin_rows since.rows) ∙ since.differ) in
    let undone = ap reverse (ap (drop (length point.rows)) since.rows ∙ drop-append_seam point.rows since.added) in (
      back.0,
      ap (undo_turns d any_meaning xs) undone ∙ back.1,
      subst (λ r. Undone d back.0 (with_users database.users r) point) (sym since.rows) back.2,
    )

module _ (given : Given) (target : Target) (database : Database) (n : ℕ) (turns : List Turn) (stays : rows_kept target database.rows ≡ Some n)
    (all : undo_turns given.options.dialect any_meaning (sets_in given) (rows_undone n database.rows) ≡ Some turns) where
  abbrev taken_by : Option (List Turn) → Account
  taken_by o = elim o [ Some ts ↦ of_turns false given.options.dialect ts (contents_of database) | None ↦ nothing_told (contents_of database) ]

  -- nothing stops them
  stops_not : (point : Contents) → Undone given.options.dialect turns (contents_of database) point → (back_in false given target database).settled.stop ≡ None
  stops_not point undone =
      ap (λ (o : Option ℕ). (rolled_to false given o database).settled.stop) stays
      ∙ (ap (λ (o : Option (List Turn)). (taken_by o).settled.stop) all
      ∙ unstopped given.options.dialect turns (contents_of database) point undone)

  -- nothing refuses them
  refuses_not : database.lock.locked ≡ false → faults (sets_in given) database.rows ≡ [] → refusal (command.Rollback target) given database ≡ None
  refuses_not unlocked sound =
      ap (λ (o : Option Status). option_or o (no_way_back given target database.rows))
      (ap (λ (o : Option Status). option_or o (invalid given database.rows)) (ap (λ (locked : Bool). if locked then Some (status.Locked database.lock) else None) unlocked) ∙ ap if_some sound)
      ∙ (ap (λ (o : Option ℕ). unreachable_by given o database.rows) stays
      ∙ ap if_not (reversible given.options.dialect (sets_in given) (rows_undone n database.rows) turns all))

not_done : (s : Status) → is_taken s ≡ false → s ≡ status.Done → ⊥
not_done s fails is = false_true (sym fails ∙ ap is_taken is)

taken_end : (s : Status) → is_end s ≡ true → (is_finished s ≡ true → s ≡ status.Done) → is_taken s ≡ true
taken_end status.Done end done = refl
taken_end status.Usage end done = end
taken_end status.ReadFault end done = end
taken_end (status.Changelog fault) end done = end
taken_end (status.Invalid faults) end done = end
taken_end (status.Locked lock) end done = end
taken_end (status.Halted place why) end done = absurd (not_done (status.Halted place why) refl (done refl))
taken_end (status.Refused identity statement kept reason) end done = absurd (not_done (status.Refused identity statement kept reason) refl (done refl))
taken_end status.NoTarget end done = end
taken_end (status.NotReversible identity) end done = end
taken_end status.NothingToUndo end done = end
taken_end (status.NotWritable at) end done = end
taken_end status.DiskFault end done = end
taken_end (status.Damaged at) end done = end
taken_end (status.Full used next) end done = refl
taken_end status.WriteFault end done = refl
taken_end status.OutOfMemory end done = end
taken_end (status.Busy session) end done = end

pub is_taken_by : (s : Status) → EndsBy None s → (is_finished s ≡ true → s ≡ status.Done) → IsTaken s
is_taken_by s (inl end) done = inl (taken_end s end done)
is_taken_by s (inr out) done = inr out

back_status : (given : Given) (target : Target) (database : Database) (s : Status) (before after : Option (List ℕ)) → SaysJob (Run (command.Rollback target)) given database s before after
    → s ≡ status_by (back_in false given target database).settled.stop
back_status given target database s before after says = says.status

pub succeeds : {words : List (List ℕ)} {files : Files} {file : Option (List ℕ)} (back : GoesBack words files file) (stamp : Stamp) (s : Status) (left before after : Option (List ℕ)) → Runs back.asks stamp file s left
    → Said back.asks stamp file s before after → IsTaken s
succeeds back stamp s left before after runs said =
    let given = given_by back.asks stamp in
    let d = given.options.dialect in
    let n = length back.before.rows in
    let made = back_turns d (sets_in given) back.before back.ran back.database back.since back.reversible back.known in
    let ran = runs (ap is_on_file back.is_rollback) back.database back.opens in
    is_taken_by s
    (subst (λ (o : Option Status). EndsBy o s) (refuses_not given back.target back.database n made.0 back.stays made.1 back.unlocked back.faultless)
    (subst (λ (job : Job). EndsBy (job_refusal job given back.database) s) back.is_rollback ran.ends))
    (λ finished.
    back_status given back.target back.database s before after (subst (λ (job : Job). SaysJob job given back.database s before after) back.is_rollback (said back.database back.opens finished))
    ∙ ap status_by (stops_not given back.target back.database n made.0 back.stays made.1 back.before made.2))
