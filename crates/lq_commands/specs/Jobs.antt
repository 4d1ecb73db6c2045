-- What a job does on the database of a store.
use Rattle.std.specs.Prelude.{Bool, List, None, Option, Result, Some, [], false, not, true, ℕ, ◌&&◌, ◌≡◌}
use Rattle.lq_base.specs.declared.command.Command.{Command}
use Rattle.lq_base.specs.declared.command.Command.TheVariants as command
use Rattle.lq_cli.specs.declared.line.Job.{Job}
use Rattle.lq_cli.specs.declared.line.Job.TheVariants.{ClearSums, Generate, History, RollbackSql, Run, UpdateCount, UpdateSql, UpdateTestingRollback, UpdateTo}
use Rattle.lq_commands.specs.Outputs.{TellsJob}
use Rattle.lq_commands.specs.Refusals.{Answers, held, print_rollback, print_update, refusal}
use Rattle.lq_commands.specs.Rehearsal.{counted_in, generate_refusal, rehearsal_refusal, rehearsal_script}
use Rattle.lq_commands.specs.Scripts.{script, tag_in}
use Rattle.lq_commands.specs.Works.{CrashesIn, IsKept, OnIts, Works, only_reads}
use Rattle.lq_commands.specs.declared.given.Given.{Given}
use Rattle.lq_store.specs.Journal.{Crashes, State}
use Rattle.lq_tell.specs.declared.done.Done.{Done}
use Rattle.lq_tell.specs.declared.status.Status.{Status}
use Rattle.lq_tell.specs.declared.status.Status.TheVariants as status
use Rattle.lq_track.specs.Database.{Database}
use Rattle.lq_turns.specs.Script.{clear_calls}
use Rattle.lq_turns.specs.declared.call.Call.{Call}

-- it works on the database itself: what is printed runs on a copy, and a drill and a soak are no such jobs
abbrev pub is_own : Job → Bool
is_own (Run c) = true
is_own (UpdateCount count) = true
is_own (UpdateTo tag) = true
is_own ClearSums = true
is_own History = true
is_own UpdateTestingRollback = true
is_own (Generate author) = true
is_own _ = false

-- a changelog is generated from what the engine keeps
abbrev pub is_generated : Job → Bool
is_generated (Generate author) = true
is_generated _ = false

-- it needs no more than a store has
abbrev pub is_on_store : Job → Bool
is_on_store job = is_own job && not (is_generated job)

-- it is one run: a rehearsal is three
abbrev pub is_single : Job → Bool
is_single UpdateTestingRollback = false
is_single job = is_on_store job

-- The command that it is, and what that works with on a database: an update by part is the update of that part. One up to a tag is given that part.
abbrev pub command_by : Job → Given → Database → Option (Command × Given)
command_by (Run c) given database = Some (c, given)
command_by (UpdateCount count) given database = Some (command.Update, counted_in count given database.rows)
command_by (UpdateTo tag) given database = Some (command.Update, given)
command_by _ given database = None

abbrev pub calls_of : Option (Command × Given) → Database → List Call
calls_of (Some run) database = script run.0 run.1 database
calls_of None database = []

abbrev pub refusal_of : Option (Command × Given) → Database → Option Status
refusal_of (Some run) database = refusal run.0 run.1 database
refusal_of None database = None

-- what is printed is written nowhere
abbrev pub job_script : Job → Given → Database → List Call
job_script UpdateTestingRollback given database = rehearsal_script given database
job_script ClearSums given database = clear_calls database
job_script job given database = calls_of (command_by job given database) database

abbrev pub job_refusal : Job → Given → Database → Option Status
job_refusal UpdateSql given database = print_update given database
job_refusal (RollbackSql target) given database = print_rollback given target database
job_refusal UpdateTestingRollback given database = rehearsal_refusal given database
job_refusal (Generate author) given database = generate_refusal author given database
job_refusal ClearSums given database = held database
job_refusal job given database = refusal_of (command_by job given database) database

-- it appends nothing, however it ends
abbrev pub job_reads : Job → Bool
job_reads (Run c) = only_reads c
job_reads UpdateSql = true
job_reads (RollbackSql target) = true
job_reads History = true
job_reads (Generate author) = true
job_reads _ = false

-- the tag that it gives to a row
abbrev pub job_tag : Job → Option (List ℕ)
job_tag (Run c) = tag_in c
job_tag _ = None

-- on a store, by its state and by what a crash leaves of it
module _ {S : Type 0} (state : S → State) (crashes : S → Crashes) where
  -- it is refused, and nothing is written, or it makes its calls, to their end or to a stop, and tells of them
  pub record DidJob (job : Job) (given : Given) (before : S) (done : Result Done Status) (after : S) : Type 0 where
    pub answers : OnIts given.options.dialect (state before) (λ database. Answers (job_refusal job given database) done)
    pub refused : OnIts given.options.dialect (state before) (λ database. IsKept (job_refusal job given database) before after)
    pub reads : job_reads job ≡ true → after ≡ before
    pub works : OnIts given.options.dialect (state before) (λ database. Works given.options.dialect (job_script job given database) database (state before) done (state after))
    pub any_moment : OnIts given.options.dialect (state before) (λ database. CrashesIn given.options.dialect (job_script job given database) database (state before) (crashes before) (crashes after))
    pub tells : OnIts given.options.dialect (state before) (λ database. TellsJob job given database done)

-- Which statuses come of a database.

-- not of the words, of the files or of the output
abbrev pub is_of_database : Status → Bool
is_of_database status.Usage = false
is_of_database status.ReadFault = false
is_of_database (status.Changelog fault) = false
is_of_database status.WriteFault = false
is_of_database s = true

-- nor of a disk: a database in memory has none
abbrev pub is_diskless : Status → Bool
is_diskless status.DiskFault = false
is_diskless (status.Damaged at) = false
is_diskless s = is_of_database s
