-- What a run of the program says, and what it warns of.
use Rattle.std.specs.List.{flat_map}
use Rattle.std.specs.Prelude.{Bool, List, None, Option, Some, [], false, length, option_map, true, ℕ, ◌++◌, ◌≡◌}
use Rattle.laws_generate.specs.Again.{TextComesAgain}
use Rattle.lq_base.specs.declared.command.Command.TheVariants as command
use Rattle.lq_base.specs.declared.command.Target.{Target}
use Rattle.lq_base.specs.declared.identity.Identity.{Identity}
use Rattle.lq_base.specs.declared.run.Why.{Why}
use Rattle.lq_cli.specs.Job.{goal_of}
use Rattle.lq_cli.specs.declared.line.Job.{Job}
use Rattle.lq_cli.specs.declared.line.Job.TheVariants.{ClearSums, Generate, History, RollbackSql, Run, UpdateCount, UpdateSql, UpdateTestingRollback, UpdateTo}
use Rattle.lq_commands.specs.Outputs.{at_once_text, back_in}
use Rattle.lq_commands.specs.Refusals.{own_halt}
use Rattle.lq_commands.specs.Rehearsal.{counted_in, generate_text, rehearsed}
use Rattle.lq_commands.specs.Scripts.{updated_in}
use Rattle.lq_commands.specs.Works.{is_finished, rollback_told, status_by, synced_in, update_told}
use Rattle.lq_commands.specs.declared.given.Given.{Given}
use Rattle.lq_outside.specs.Forms.{IsPart}
use Rattle.lq_report.specs.Output.{cleared_text, history_text, sync_text}
use Rattle.lq_tell.specs.Lines.{status_lines, warning_line}
use Rattle.lq_tell.specs.declared.status.Status.{Status}
use Rattle.lq_tell.specs.declared.status.Status.TheVariants as status
use Rattle.lq_jobs.specs.Asks.{Asks, Files}
use Rattle.lq_jobs.specs.Bytes.{OnFile}
use Rattle.lq_jobs.specs.Jobs.{is_on_file}
use Rattle.lq_jobs.specs.Run.{given_by, is_over}
use Rattle.lq_track.specs.Database.{Database}
use Rattle.lq_turns.specs.declared.stamp.Stamp.{Stamp}
use Rattle.lq_turns.specs.declared.stop.Stop.{Stop}

-- the status is by what stopped its turns, and this text was written behind what stood in the output
pub record Says (stop : Option Stop) (text : List ℕ) (s : Status) (before after : Option (List ℕ)) : Type 0 where
  pub status : s ≡ status_by stop
  pub output : after ≡ option_map (λ out. out ++ text) before

-- what is refused before its turns writes nothing
abbrev pub unless_refused : Option Status → List ℕ → List ℕ
unless_refused None text = text
unless_refused (Some refused) text = []

-- the text of an update is missing where the changelog's own precondition halts it
abbrev pub SaysUpdate : Bool → Given → Database → Status → Option (List ℕ) → Option (List ℕ) → Type 0
SaysUpdate prints given database s before after =
    Says (updated_in prints given database).settled.stop (unless_refused (own_halt given database) (update_told prints (updated_in prints given database))) s before after

abbrev pub SaysRollback : Bool → Given → Target → Database → Status → Option (List ℕ) → Option (List ℕ) → Type 0
SaysRollback prints given target database s before after = Says (back_in prints given target database).settled.stop (rollback_told prints (back_in prints given target database)) s before after

-- a rehearsal says what each of its runs says
abbrev pub SaysRehearsal : Given → Database → Status → Option (List ℕ) → Option (List ℕ) → Type 0
SaysRehearsal given database s before after = Says (rehearsed given database).stop (unless_refused (own_halt given database) (rehearsed given database).text) s before after

-- of each changeset what was done, or the statements that ran, where those are to be printed; an update by part says so of that part
abbrev pub SaysJob : Job → Given → Database → Status → Option (List ℕ) → Option (List ℕ) → Type 0
SaysJob (Run command.Update) given database s before after = SaysUpdate false given database s before after
SaysJob (Run (command.Rollback target)) given database s before after = SaysRollback false given target database s before after
SaysJob (Run command.Sync) given database s before after = Says (synced_in given database).stop (sync_text (synced_in given database).happened) s before after
SaysJob (Run c) given database s before after = Says None (at_once_text c given database) s before after
SaysJob (UpdateCount count) given database s before after = SaysUpdate false (counted_in count given database.rows) database s before after
SaysJob (UpdateTo tag) given database s before after = SaysUpdate false given database s before after
SaysJob UpdateTestingRollback given database s before after = SaysRehearsal given database s before after
SaysJob ClearSums given database s before after = Says None (cleared_text (length database.rows)) s before after
SaysJob History given database s before after = Says None (history_text database.rows) s before after
SaysJob (Generate author) given database s before after = Says None (generate_text author given database) s before after
SaysJob UpdateSql given database s before after = SaysUpdate true given database s before after
SaysJob (RollbackSql target) given database s before after = SaysRollback true given target database s before after
SaysJob _ given database s before after = Unit {0}

-- on each file that holds a database, where the command came to its end and its text was written
abbrev pub Said : {words : List (List ℕ)} {files : Files} → Asks words files → Stamp → Option (List ℕ) → Status → Option (List ℕ) → Option (List ℕ) → Type 0
Said asks stamp told s before after = OnFile asks.line.options.dialect told (λ database. is_finished s ≡ true → SaysJob asks.line.job (given_by asks stamp) database s before after)

-- and what a generate-changelog said makes the users' objects again, as a JSON file and without properties
abbrev pub ComesAgain : {words : List (List ℕ)} {files : Files} → Asks words files → Stamp → Option (List ℕ) → Status → Type 0
ComesAgain asks stamp told s = (author : List ℕ) → asks.line.job ≡ Generate author → OnFile asks.line.options.dialect told
    (λ database. is_over s ≡ true → TextComesAgain asks.line.options.dialect database.users (generate_text author (given_by asks stamp) database))

-- The output failed: it got a front of the text with which the command would have come to its end, with this status.
pub record SaidInPart {words : List (List ℕ)} {files : Files} (asks : Asks words files) (stamp : Stamp) (told before after : Option (List ℕ)) : Type 0 where
  pub wanted : Status
  pub finished : is_finished wanted ≡ true
  pub text : List ℕ
  pub said : Said asks stamp told wanted before (option_map (λ (out : List ℕ). out ++ text) before)
  pub part : IsPart text before after

-- what a job warns of: an update, and the runs of a rehearsal, of what their turns do in order, the changelog's own first; another of nothing
abbrev pub job_warned : Job → Given → Database → List (Option Identity × Why)
job_warned (Run command.Update) given database = (updated_in false given database).settled.warned
job_warned (UpdateCount count) given database = (updated_in false (counted_in count given database.rows) database).settled.warned
job_warned (UpdateTo tag) given database = (updated_in false given database).settled.warned
job_warned UpdateTestingRollback given database = (rehearsed given database).warned
job_warned UpdateSql given database = (updated_in true given database).settled.warned
job_warned _ given database = []

-- the lines of its warnings
abbrev pub job_warnings : Job → Given → Database → List ℕ
job_warnings job given database = flat_map warning_line (job_warned job given database)

-- on each file that holds a database, where the command came to its end: the log got these lines, and behind them those of the status
abbrev pub Warns : {words : List (List ℕ)} {files : Files} → Asks words files → Stamp → Option (List ℕ) → Status → Option (List ℕ) → Option (List ℕ) → Type 0
Warns asks stamp told s before after = is_on_file asks.line.job ≡ true → OnFile asks.line.options.dialect told
    (λ database. is_over s ≡ true → after ≡ option_map (λ log. log ++ (job_warnings asks.line.job (given_by asks stamp) database ++ status_lines (goal_of asks.line.job) s)) before)

-- a log that failed got a front of them
abbrev pub WarnsInPart : {words : List (List ℕ)} {files : Files} → Asks words files → Stamp → Option (List ℕ) → Status → Option (List ℕ) → Option (List ℕ) → Type 0
WarnsInPart asks stamp told s before after = is_on_file asks.line.job ≡ true → OnFile asks.line.options.dialect told
    (λ database. is_over s ≡ true → IsPart (job_warnings asks.line.job (given_by asks stamp) database ++ status_lines (goal_of asks.line.job) s) before after)

-- at a full journal the log got the lines of a front of a job's warnings, and behind them those of the status
pub record WarnedBefore (job : Job) (given : Given) (database : Database) (log : List ℕ → Type 0) : Type 0 where
  pub front : List (Option Identity × Why)
  pub rest : List (Option Identity × Why)
  pub is : front ++ rest ≡ job_warned job given database
  pub lines : log (flat_map warning_line front)

abbrev pub WarnsAtFull : {words : List (List ℕ)} {files : Files} → Asks words files → Stamp → Option (List ℕ) → Status → Option (List ℕ) → Option (List ℕ) → Type 0
WarnsAtFull asks stamp told s before after = is_on_file asks.line.job ≡ true → OnFile asks.line.options.dialect told
    (λ database. (used next : ℕ) → s ≡ status.Full used next → WarnedBefore asks.line.job (given_by asks stamp) database (λ lines. after ≡ option_map (λ log. log ++ (lines ++ status_lines (goal_of asks.line.job) s)) before))

-- a log that failed got a front of them
abbrev pub WarnsAtFullInPart : {words : List (List ℕ)} {files : Files} → Asks words files → Stamp → Option (List ℕ) → Status → Option (List ℕ) → Option (List ℕ) → Type 0
WarnsAtFullInPart asks stamp told s before after = is_on_file asks.line.job ≡ true → OnFile asks.line.options.dialect told
    (λ database. (used next : ℕ) → s ≡ status.Full used next → WarnedBefore asks.line.job (given_by asks stamp) database (λ lines. IsPart (lines ++ status_lines (goal_of asks.line.job) s) before after))
