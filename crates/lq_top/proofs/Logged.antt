-- Which warnings stand in the log of a command that came to its end, or met a full journal.
use Rattle.std.proofs.Common.{ap, inl, inr, refl, subst, sym, ◌∙◌}
use Rattle.std.specs.List.{flat_map}
use Rattle.std.specs.Option.{option_map}
use Rattle.std.specs.Prelude.{Bool, Err, List, Ok, Option, Result, Some, [], false, if◌then◌else◌, length, true, ℕ, ◌++◌, ◌≡◌, ◌⊎◌}
use Rattle.lq_base.specs.declared.command.Command.TheVariants as command
use Rattle.lq_base.specs.declared.command.Target.{Target}
use Rattle.lq_base.specs.declared.identity.Identity.{Identity}
use Rattle.lq_base.specs.declared.run.Why.{Why}
use Rattle.lq_cli.specs.Line.{line_of}
use Rattle.lq_cli.specs.Job.{goal_of}
use Rattle.lq_cli.specs.declared.line.Job.{Job}
use Rattle.lq_cli.specs.declared.line.Job.TheVariants.{Drill, History, RollbackSql, Run, Soak, UpdateCount, UpdateSql, UpdateTestingRollback, UpdateTo, Generate, ClearSums, UndoUnrecorded, Snapshot}
use Rattle.lq_commands.proofs.Warned.{back_quiet}
use Rattle.lq_commands.specs.Rehearsal.{generate_text, counted_in, after_update, told_unless, updates}
use Rattle.lq_commands.specs.Works.{TellsSync, synced_in, TellsRollback, TellsUpdate, WarnsUpTo, is_finished}
use Rattle.lq_commands.specs.Outputs.{TellsJob, TellsText, at_once_text, back_in, released_text}
use Rattle.lq_commands.specs.Refusals.{if_halts, invalid, own_halt, unready}
use Rattle.lq_commands.specs.Scripts.{log_in, sets_in, update_script, updated_in}
use Rattle.lq_commands.specs.declared.given.Given.{Given}
use Rattle.lq_outside.specs.Forms.{IsPart}
use Rattle.lq_report.specs.Output.{cleared_text, history_text, tagged_text, validated_text}
use Rattle.lq_seen.specs.View.{any_meaning}
use Rattle.lq_tell.specs.Lines.{status_lines, warning_line, warning_lines, log_text, stands_alone, warnings_of}
use Rattle.lq_tell.specs.Texts.{status_done}
use Rattle.lq_tell.specs.declared.done.Done.{Done}
use Rattle.lq_tell.specs.declared.status.Status.{Status}
use Rattle.lq_tell.specs.declared.status.Status.TheVariants as status
use Rattle.lq_track.specs.Database.{Database}
use Rattle.lq_turns.specs.Deed.{Contents, contents_of}
use Rattle.lq_turns.specs.Session.{left_by}
use Rattle.lq_turns.specs.Settle.{Settled, all_settled, by_own, own_choice}
use Rattle.lq_turns.specs.declared.choice.Choice.{Choice}
use Rattle.lq_turns.specs.declared.choice.Choice.TheVariants as choice
use Rattle.lq_turns.specs.declared.stamp.Stamp.{Stamp}
use Rattle.lq_turns.specs.declared.stop.Stop.{Stop}
use Rattle.lq_jobs.proofs.Written.{Does, IsWritten, failed_unfinished, false_true, halted_is, lines_same, none_some, only_run, own_only, quiet_invalid, quiet_unready, refused_for, was_over}
use Rattle.lq_jobs.specs.Asks.{Asks, Files, asked_tag}
use Rattle.lq_jobs.specs.Bytes.{OnFile}
use Rattle.lq_jobs.specs.Jobs.{DoesJob, DoesLine, is_on_file, job_refusal}
use Rattle.lq_jobs.specs.Run.{given_by, is_over}
use Rattle.lq_jobs.specs.Says.{WarnedBefore, Warns, WarnsAtFull, WarnsAtFullInPart, WarnsInPart, job_warned, job_warnings}

-- warnings stand before the lines of each status of a command that came to its end
beside_over : (s : Status) → is_over s ≡ true → stands_alone s ≡ false
beside_over status.Done over = refl
beside_over status.Usage over = absurd (false_true over)
beside_over status.ReadFault over = absurd (false_true over)
beside_over (status.Changelog fault) over = refl
beside_over (status.Invalid faults) over = refl
beside_over (status.Locked lock) over = refl
beside_over (status.Halted place why) over = refl
beside_over (status.Refused identity statement kept reason) over = refl
beside_over status.NoTarget over = refl
beside_over (status.NotReversible identity) over = refl
beside_over status.NothingToUndo over = refl
beside_over (status.NotWritable at) over = refl
beside_over status.DiskFault over = absurd (false_true over)
beside_over (status.Damaged at) over = refl
beside_over (status.Full used next) over = refl
beside_over status.WriteFault over = refl
beside_over status.OutOfMemory over = absurd (false_true over)
beside_over (status.Busy session) over = refl

-- an update that the changelog's own precondition halts has none

halted_quiet : (by : Choice) (x : Status) → if_halts by ≡ Some x → (c : Contents) (t : Settled) → (by_own by c t).warned ≡ []
halted_quiet (choice.Halts why) x is c t = refl
halted_quiet choice.Passes x is c t = absurd (none_some is)
halted_quiet choice.Fills x is c t = absurd (none_some is)
halted_quiet choice.Skips x is c t = absurd (none_some is)
halted_quiet (choice.Marks what) x is c t = absurd (none_some is)
halted_quiet (choice.Runs what why) x is c t = absurd (none_some is)

own_quiet : (prints : Bool) (given : Given) (database : Database) (x : Status) → own_halt given database ≡ Some x → [] ≡ flat_map warning_line (updated_in prints given database).settled.warned
own_quiet prints given database x is =
    let c = contents_of database in
    sym (ap (flat_map warning_line) (halted_quiet (own_choice (log_in given) c) x is c (all_settled given.options.dialect any_meaning given.stamp.reading (sets_in given) c)))

-- of each kind of job

module _ (given : Given) (database : Database) (done : Done) where
  abbrev lines : List ℕ
  lines = warning_lines done.own done.warned

  update_warned : (prints : Bool) → TellsUpdate prints (updated_in prints given database) done → lines ≡ flat_map warning_line (updated_in prints given database).settled.warned
  update_warned prints tells = tells.warned

  rollback_warned : (prints : Bool) (target : Target) → TellsRollback prints (back_in prints given target database) done → lines ≡ []
  rollback_warned prints target tells = tells.warned ∙ ap (flat_map warning_line) (back_quiet prints given database target)

  sync_warned : TellsSync (synced_in given database) done → lines ≡ []
  sync_warned tells = tells.warned

  text_warned : (text : List ℕ) → TellsText text done → lines ≡ []
  text_warned text tells = tells.warned

ok_warned : (job : Job) (given : Given) (database : Database) (done : Done) → is_on_file job ≡ true → TellsJob job given database (Ok done) → is_finished done.status ≡ true → warning_lines done.own done.warned ≡ job_warnings job given database
ok_warned (Run command.Validate) given database done on tells finished = text_warned given database done validated_text (tells.0 finished)
ok_warned (Run command.Status) given database done on tells finished = text_warned given database done (at_once_text command.Status given database) (tells.0 finished)
ok_warned (Run command.Update) given database done on tells finished = update_warned given database done false (tells.0 finished)
ok_warned (Run (command.Tag name)) given database done on tells finished = text_warned given database done (tagged_text name) (tells.0 finished)
ok_warned (Run (command.Rollback target)) given database done on tells finished = rollback_warned given database done false target (tells.0 finished)
ok_warned (Run command.Sync) given database done on tells finished = sync_warned given database done (tells.0 finished)
ok_warned (Run command.Release) given database done on tells finished = text_warned given database done (released_text database.lock) (tells.0 finished)
ok_warned (UpdateCount count) given database done on tells finished = update_warned (counted_in count given database.rows) database done false (tells.0 finished)
ok_warned (UpdateTo tag) given database done on tells finished = update_warned given database done false (tells.0 finished)
ok_warned UpdateTestingRollback given database done on tells finished = (tells.0 finished).warned
ok_warned ClearSums given database done on tells finished = text_warned given database done (cleared_text (length database.rows)) (tells.0 finished)
ok_warned History given database done on tells finished = text_warned given database done (history_text database.rows) (tells.0 finished)
ok_warned (Generate author) given database done on tells finished = text_warned given database done (generate_text author given database) (tells.0 finished)
ok_warned UpdateSql given database done on tells finished = update_warned given database done true (tells.0 finished)
ok_warned (RollbackSql target) given database done on tells finished = rollback_warned given database done true target (tells.0 finished)
ok_warned (Drill path) given database done on tells finished = absurd (false_true on)
ok_warned (Soak number sets) given database done on tells finished = absurd (false_true on)
ok_warned UndoUnrecorded given database done on tells finished = absurd (false_true on)
ok_warned Snapshot given database done on tells finished = absurd (false_true on)

err_warned : (job : Job) (given : Given) (database : Database) (x : Status) → job_refusal job given database ≡ Some x → is_finished x ≡ true → [] ≡ job_warnings job given database
err_warned (Run command.Validate) given database x refused finished = refl
err_warned (Run command.Status) given database x refused finished = refl
err_warned (Run command.Update) given database x refused finished =
    own_quiet false given database x (halted_is (unready given database) (own_halt given database) x (quiet_unready given database) refused finished)
err_warned (Run (command.Tag name)) given database x refused finished = refl
err_warned (Run (command.Rollback target)) given database x refused finished = refl
err_warned (Run command.Sync) given database x refused finished = refl
err_warned (Run command.Release) given database x refused finished = refl
err_warned (UpdateCount count) given database x refused finished =
    let part = counted_in count given database.rows in
    own_quiet false part database x (halted_is (unready part database) (own_halt part database) x (quiet_unready part database) refused finished)
err_warned (UpdateTo tag) given database x refused finished =
    own_quiet false given database x (halted_is (unready given database) (own_halt given database) x (quiet_unready given database) refused finished)
err_warned UpdateTestingRollback given database x refused finished =
    let halts = own_only given database x refused finished in
    let stop = only_run given database x halts in
    let more = (after_update given (length database.rows)).told (left_by given.options.dialect (update_script given database) database) in
    own_quiet false given database x halts ∙ sym (ap (λ (o : Option Stop). flat_map warning_line (told_unless o ((updates given).told database) more).warned) stop.1)
err_warned ClearSums given database x refused finished = refl
err_warned History given database x refused finished = refl
err_warned (Generate author) given database x refused finished = refl
err_warned UpdateSql given database x refused finished =
    own_quiet true given database x (halted_is (invalid given database.rows) (own_halt given database) x (quiet_invalid given database.rows) refused finished)
err_warned (RollbackSql target) given database x refused finished = refl
err_warned (Drill path) given database x refused finished = refl
err_warned (Soak number sets) given database x refused finished = refl
err_warned UndoUnrecorded given database x refused finished = refl
err_warned Snapshot given database x refused finished = refl

one_warned : (job : Job) (given : Given) (database : Database) (file left : Option (List ℕ)) (done : Result Done Status) → is_on_file job ≡ true → DoesJob job given database file done left → is_finished (status_done done) ≡ true
    → warnings_of done ≡ job_warnings job given database
one_warned job given database file left (Ok done) on does finished = ok_warned job given database done on does.tells finished
one_warned job given database file left (Err x) on does finished = err_warned job given database x (refused_for (job_refusal job given database) x does.answers finished) finished

does_warned : (job : Job) (given : Given) (database : Database) (file left : Option (List ℕ)) (done : Result Done Status) → is_on_file job ≡ true → Does job given database file done left → is_finished (status_done done) ≡ true
    → warnings_of done ≡ job_warnings job given database
does_warned job given database file left done on (inl (failed, same)) finished = absurd (failed_unfinished done failed finished)
does_warned job given database file left done on (inr (read, does)) finished = one_warned job given database file left done on does finished

tag_is : {X : Type 0} (t u a : Option (List ℕ)) → u ≡ a → (t ≡ u) ⊎ X → (t ≡ a) ⊎ X
tag_is t u a same (inl is) = inl (is ∙ same)
tag_is t u a same (inr x) = inr x

-- what it is to write to the log
log_is : {words : List (List ℕ)} {files : Files} (asks : Asks words files) (stamp : Stamp) (file left : Option (List ℕ)) (done : Result Done Status) (s : Status) (tag : Option (List ℕ)) → IsWritten done s
    → DoesLine asks.line.job (given_by asks stamp) file done left → (tag ≡ asked_tag (line_of words)) ⊎ (done ≡ Err status.OutOfMemory) → is_on_file asks.line.job ≡ true
    → OnFile asks.line.options.dialect file (λ database. is_over s ≡ true → log_text tag done s ≡ job_warnings asks.line.job (given_by asks stamp) database ++ status_lines (goal_of asks.line.job) s)
log_is {words} asks stamp file left done s tag by does tagged on = λ database opens over.
    let job = asks.line.job in
    let given = given_by asks stamp in
    let warned : warnings_of done ≡ job_warnings job given database = does_warned job given database file left done on (does on database opens) (was_over done s by over) in
    ap (λ (alone : Bool). (if alone then [] else warnings_of done) ++ status_lines tag s) (beside_over s over)
    ∙ (ap (λ (lines : List ℕ). lines ++ status_lines tag s) warned
    ∙ ap (λ (lines : List ℕ). job_warnings job given database ++ lines) (lines_same tag (goal_of job) done s by.ended (tag_is tag (asked_tag (line_of words)) (goal_of job) (ap asked_tag asks.is_line) tagged)))

pub has_warned : {words : List (List ℕ)} {files : Files} (asks : Asks words files) (stamp : Stamp) (file left : Option (List ℕ)) (done : Result Done Status) (s : Status) (tag before after : Option (List ℕ)) → IsWritten done s
    → DoesLine asks.line.job (given_by asks stamp) file done left → (tag ≡ asked_tag (line_of words)) ⊎ (done ≡ Err status.OutOfMemory) → after ≡ option_map (λ (log : List ℕ). log ++ log_text tag done s) before
    → Warns asks stamp file s before after
has_warned asks stamp file left done s tag before after by does tagged is = λ on database opens over.
    is ∙ ap (λ (lines : List ℕ). option_map (λ (log : List ℕ). log ++ lines) before) (log_is asks stamp file left done s tag by does tagged on database opens over)

-- a log that failed got a front of it
pub has_warned_in_part : {words : List (List ℕ)} {files : Files} (asks : Asks words files) (stamp : Stamp) (file left : Option (List ℕ)) (done : Result Done Status) (s : Status) (tag before after : Option (List ℕ)) → IsWritten done s
    → DoesLine asks.line.job (given_by asks stamp) file done left → (tag ≡ asked_tag (line_of words)) ⊎ (done ≡ Err status.OutOfMemory) → IsPart (log_text tag done s) before after
    → WarnsInPart asks stamp file s before after
has_warned_in_part asks stamp file left done s tag before after by does tagged part = λ on database opens over.
    subst (λ (lines : List ℕ). IsPart lines before after) (log_is asks stamp file left done s tag by does tagged on database opens over) part

-- at a full journal

abbrev UpTo : List (Option Identity × Why) → Result Done Status → Type 0
UpTo ws done = (front : List (Option Identity × Why)) × (rest : List (Option Identity × Why)) × (front ++ rest ≡ ws) × (warnings_of done ≡ flat_map warning_line front)

-- what failed warns of nothing
err_up_to : (ws : List (Option Identity × Why)) (done : Result Done Status) (x : Status) → done ≡ Err x → UpTo ws done
err_up_to ws done x is = subst (λ (r : Result Done Status). UpTo ws r) (sym is) ([], ws, refl, refl)

ok_up_to : (ws : List (Option Identity × Why)) (done : Done) → WarnsUpTo ws done → UpTo ws (Ok done)
ok_up_to ws done it = (it.front, it.rest, it.is, it.lines)

told_up_to : (job : Job) (given : Given) (database : Database) (done : Done) → is_on_file job ≡ true → TellsJob job given database (Ok done) → WarnsUpTo (job_warned job given database) done
told_up_to (Run command.Validate) given database done on tells = tells.1
told_up_to (Run command.Status) given database done on tells = tells.1
told_up_to (Run command.Update) given database done on tells = tells.1
told_up_to (Run (command.Tag name)) given database done on tells = tells.1
told_up_to (Run (command.Rollback target)) given database done on tells = subst (λ (ws : List (Option Identity × Why)). WarnsUpTo ws done) (back_quiet false given database target) tells.1
told_up_to (Run command.Sync) given database done on tells = tells.1
told_up_to (Run command.Release) given database done on tells = tells.1
told_up_to (UpdateCount count) given database done on tells = tells.1
told_up_to (UpdateTo tag) given database done on tells = tells.1
told_up_to UpdateTestingRollback given database done on tells = tells.1
told_up_to ClearSums given database done on tells = tells.1
told_up_to History given database done on tells = tells.1
told_up_to (Generate author) given database done on tells = tells.1
told_up_to UpdateSql given database done on tells = tells.1
told_up_to (RollbackSql target) given database done on tells = subst (λ (ws : List (Option Identity × Why)). WarnsUpTo ws done) (back_quiet true given database target) tells.1
told_up_to (Drill path) given database done on tells = absurd (false_true on)
told_up_to (Soak number sets) given database done on tells = absurd (false_true on)
told_up_to UndoUnrecorded given database done on tells = absurd (false_true on)
told_up_to Snapshot given database done on tells = absurd (false_true on)

does_up_to : (job : Job) (given : Given) (database : Database) (file left : Option (List ℕ)) (done : Result Done Status) → is_on_file job ≡ true → Does job given database file done left → UpTo (job_warned job given database) done
does_up_to job given database file left done on (inl (inl is, same)) = err_up_to (job_warned job given database) done status.ReadFault is
does_up_to job given database file left done on (inl (inr is, same)) = err_up_to (job_warned job given database) done status.OutOfMemory is
does_up_to job given database file left (Ok done) on (inr (read, does)) = ok_up_to (job_warned job given database) done (told_up_to job given database done on does.tells)
does_up_to job given database file left (Err x) on (inr (read, does)) = err_up_to (job_warned job given database) (Err x) x refl

-- what it is to write to the log then
full_log : {words : List (List ℕ)} {files : Files} (asks : Asks words files) (stamp : Stamp) (file left : Option (List ℕ)) (done : Result Done Status) (s : Status) (tag : Option (List ℕ)) (log : List ℕ → Type 0) → IsWritten done s
    → DoesLine asks.line.job (given_by asks stamp) file done left → (tag ≡ asked_tag (line_of words)) ⊎ (done ≡ Err status.OutOfMemory) → is_on_file asks.line.job ≡ true → log (log_text tag done s)
    → OnFile asks.line.options.dialect file (λ database. (used next : ℕ) → s ≡ status.Full used next → WarnedBefore asks.line.job (given_by asks stamp) database (λ lines. log (lines ++ status_lines (goal_of asks.line.job) s)))
full_log {words} asks stamp file left done s tag log by does tagged on holds = λ database opens used next is.
    let job = asks.line.job in
    let it = does_up_to job (given_by asks stamp) database file left done on (does on database opens) in
    record {
      front = it.0;
      rest = it.1;
      is = it.2;
      lines = subst log
          (ap (λ (alone : Bool). (if alone then [] else warnings_of done) ++ status_lines tag s) (ap stands_alone is)
          ∙ (ap (λ (lines : List ℕ). lines ++ status_lines tag s) it.3
          ∙ ap (λ (lines : List ℕ). flat_map warning_line it.0 ++ lines) (lines_same tag (goal_of job) done s by.ended (tag_is tag (asked_tag (line_of words)) (goal_of job) (ap asked_tag asks.is_line) tagged))))
          holds;
    }

pub has_warned_at_full : {words : List (List ℕ)} {files : Files} (asks : Asks words files) (stamp : Stamp) (file left : Option (List ℕ)) (done : Result Done Status) (s : Status) (tag before after : Option (List ℕ)) → IsWritten done s
    → DoesLine asks.line.job (given_by asks stamp) file done left → (tag ≡ asked_tag (line_of words)) ⊎ (done ≡ Err status.OutOfMemory) → after ≡ option_map (λ (log : List ℕ). log ++ log_text tag done s) before
    → WarnsAtFull asks stamp file s before after
has_warned_at_full asks stamp file left done s tag before after by does tagged is = λ on. full_log asks stamp file left done s tag (λ (lines : List ℕ). after ≡ option_map (λ (log : List ℕ). log ++ lines) before) by does tagged on is

pub has_warned_at_full_in_part : {words : List (List ℕ)} {files : Files} (asks : Asks words files) (stamp : Stamp) (file left : Option (List ℕ)) (done : Result Done Status) (s : Status) (tag before after : Option (List ℕ)) → IsWritten done s
    → DoesLine asks.line.job (given_by asks stamp) file done left → (tag ≡ asked_tag (line_of words)) ⊎ (done ≡ Err status.OutOfMemory) → IsPart (log_text tag done s) before after
    → WarnsAtFullInPart asks stamp file s before after
has_warned_at_full_in_part asks stamp file left done s tag before after by does tagged part = λ on. full_log asks stamp file left done s tag (λ (lines : List ℕ). IsPart lines before after) by does tagged on part
