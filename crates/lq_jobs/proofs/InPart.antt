-- Jobs by the commands that they are, and those that run a part of their changelog.
use Rattle.std.proofs.Common.{ap, refl, subst, ◌∙◌}
use Rattle.std.specs.Option.{option_map, option_or}
use Rattle.std.specs.Prelude.{Bool, Err, IfSome, List, None, Ok, Option, Result, Some, [], false, if◌then◌else◌, true, ℕ, ◌&&◌, ◌∷◌, ◌≡◌}
use Rattle.std.proofs.Common.{inl, inr}
use Rattle.std.proofs.lemmas.List.Elements.{All-take}
use Rattle.lq_base.specs.declared.command.Command.{Command}
use Rattle.lq_base.specs.declared.command.Command.TheVariants as command
use Rattle.lq_base.specs.declared.tracking.Lock.{Lock}
use Rattle.lq_base.specs.declared.tracking.Tracked.{Tracked}
use Rattle.lq_cli.specs.declared.line.Job.{Job}
use Rattle.lq_cli.specs.declared.line.Job.TheVariants.{Drill, History, RollbackSql, Run, Soak, UpdateCount, UpdateSql, UpdateTestingRollback, UpdateTo, Generate, ClearSums, UndoUnrecorded, Snapshot}
use Rattle.lq_commands.proofs.PlainRefusals.{IsPlain, refusal_plain, rehearsal_plain, held_plain}
use Rattle.lq_commands.specs.Rehearsal.{counted_in, part_for}
use Rattle.lq_commands.specs.Refusals.{Answers, IsFault, held, if_halts, if_some, invalid, own_halt, unready}
use Rattle.lq_commands.specs.Scripts.{log_in, sets_in}
use Rattle.lq_commands.specs.declared.given.Given.{Given}
use Rattle.lq_changelog.specs.Gathers.{HasShortTexts}
use Rattle.lq_generate.specs.Faults.{fault_at}
use Rattle.lq_kinds.specs.ReadFor.{AreFor, is_read_for}
use Rattle.lq_kinds.specs.declared.change_set.Changelog.{Changelog}
use Rattle.lq_model.proofs.Lists.{and_left}
use Rattle.lq_portion.proofs.Parts.{all_first}
use Rattle.lq_portion.specs.Portion.{up_to}
use Rattle.lq_tell.specs.declared.done.Done.{Done}
use Rattle.lq_tell.specs.declared.status.Status.{Status}
use Rattle.lq_tell.specs.declared.status.Status.TheVariants as status
use Rattle.lq_track.specs.Database.{Database}
use Rattle.lq_turns.specs.Deed.{contents_of}
use Rattle.lq_turns.specs.Faults.{faults}
use Rattle.lq_turns.specs.Settle.{own_choice}
use Rattle.lq_turns.specs.declared.choice.Choice.{Choice}
use Rattle.lq_turns.specs.declared.choice.Choice.TheVariants as choice
use Rattle.lq_turns.specs.declared.fault.Fault.{Fault}
use Rattle.lq_jobs.specs.Jobs.{IsLoaded, MakesAgain, command_by, goes_on, is_apart, is_no_target, is_on_file, is_on_store, is_own, job_calls, job_refusal, job_script, misses}
use Rattle.lq_jobs.specs.Run.{RunsJob}
use Rattle.lq_jobs.specs.Says.{SaysJob}
use Rattle.lq_jobs.specs.Worked.{has_missed}

false_true : false ≡ true → ⊥
false_true h = Prim.cc

some_same : {run other : Command × Given} → (let o : Option (Command × Given) = Some run in o) ≡ Some other → run ≡ other
some_same h = Prim.cc

none_some : {run : Command × Given} → (let o : Option (Command × Given) = None in o) ≡ Some run → ⊥
none_some h = Prim.cc

-- a job on the database of the file

pub own_beside : (job : Job) → is_own job ≡ true → is_apart job ≡ false
own_beside (Run c) own = refl
own_beside UpdateSql own = refl
own_beside (UpdateCount count) own = refl
own_beside (UpdateTo tag) own = refl
own_beside (RollbackSql target) own = refl
own_beside UpdateTestingRollback own = refl
own_beside ClearSums own = refl
own_beside History own = refl
own_beside (Generate author) own = refl
own_beside (Drill path) own = refl
own_beside (Soak number sets) own = absurd (false_true own)
own_beside UndoUnrecorded own = refl
own_beside Snapshot own = refl

pub own_calls : (job : Job) → is_own job ≡ true → (given : Given) (database : Database) → job_calls job given database ≡ job_script job given database
own_calls (Run c) own given database = refl
own_calls UpdateSql own given database = absurd (false_true own)
own_calls (UpdateCount count) own given database = refl
own_calls (UpdateTo tag) own given database = refl
own_calls (RollbackSql target) own given database = absurd (false_true own)
own_calls UpdateTestingRollback own given database = refl
own_calls ClearSums own given database = refl
own_calls History own given database = refl
own_calls (Generate author) own given database = refl
own_calls (Drill path) own given database = refl
own_calls (Soak number sets) own given database = refl
own_calls UndoUnrecorded own given database = refl
own_calls Snapshot own given database = refl

generate_plain : (o : Option (List ℕ)) → IsPlain (option_map status.NotWritable o)
generate_plain None = tt
generate_plain (Some at) = refl

-- a job of a store
pub store_own : (job : Job) → is_on_store job ≡ true → is_own job ≡ true
store_own job on = and_left (is_own job) _ on

-- which generates nothing
pub store_again : (job : Job) → is_on_store job ≡ true → (given : Given) (database : Database) (done : Result Done Status) → MakesAgain job given database done
store_again (Generate author) on given database done = absurd (false_true on)
store_again _ on given database done = tt

pub own_plain : (job : Job) → is_own job ≡ true → (given : Given) (database : Database) → IsPlain (job_refusal job given database)
own_plain (Run c) own given database = refusal_plain given c database
own_plain UpdateSql own given database = absurd (false_true own)
own_plain (UpdateCount count) own given database = refusal_plain (counted_in count given database.rows) command.Update database
own_plain (UpdateTo tag) own given database = refusal_plain given command.Update database
own_plain (RollbackSql target) own given database = absurd (false_true own)
own_plain UpdateTestingRollback own given database = rehearsal_plain given database
own_plain ClearSums own given database = held_plain database
own_plain History own given database = tt
own_plain (Generate author) own given database = generate_plain (fault_at given.options.dialect author database.users)
own_plain (Drill path) own given database = tt
own_plain (Soak number sets) own given database = tt
own_plain UndoUnrecorded own given database = tt
own_plain Snapshot own given database = tt

-- it had its part

no_goal_status : (s : Status) (on : Bool) → on ≡ false → (is_no_target s && on) ≡ false
no_goal_status s on is = ap (λ (b : Bool). is_no_target s && b) is ∙ never (is_no_target s) where
  never : (b : Bool) → (b && false) ≡ false
  never true = refl
  never false = refl

pub no_goal : (job : Job) (done : Result Done Status) → goes_on job ≡ false → has_missed job done ≡ false
no_goal job (Ok done) is = refl
no_goal job (Err s) is = no_goal_status s (goes_on job) is

not_missed : (s : Status) (on : Bool) → is_no_target s ≡ false → (is_no_target s && on) ≡ false
not_missed s on is = ap (λ (b : Bool). b && on) is

abbrev Aims : Option Status → Type 0
Aims o = IfSome o (λ s. is_no_target s ≡ false)

aims_or : (a b : Option Status) → Aims a → Aims b → Aims (option_or a b)
aims_or None b first second = second
aims_or (Some refused) b first second = first

aims_lock : (b : Bool) (lock : Lock) → Aims (if b then Some (status.Locked lock) else None)
aims_lock true lock = refl
aims_lock false lock = tt

aims_faults : (xs : List Fault) → Aims (if_some xs)
aims_faults [] = tt
aims_faults (x ∷ xs) = refl

aims_halt : (c : Choice) → Aims (if_halts c)
aims_halt (choice.Halts why) = refl
aims_halt choice.Passes = tt
aims_halt choice.Fills = tt
aims_halt choice.Skips = tt
aims_halt (choice.Marks what) = tt
aims_halt (choice.Runs what why) = tt

-- an update is not refused for a tag
update_aims : (given : Given) (database : Database) → Aims (option_or (unready given database) (own_halt given database))
update_aims given database =
    aims_or (unready given database) (own_halt given database)
    (aims_or (held database) (invalid given database.rows) (aims_lock database.lock.locked database.lock) (aims_faults (faults (sets_in given) database.rows)))
    (aims_halt (own_choice (log_in given) (contents_of database)))

fault_aims : (s : Status) → IsFault s → is_no_target s ≡ false
fault_aims s (inl is) = ap is_no_target is
fault_aims s (inr is) = ap is_no_target is

aims_so : (o : Option Status) → Aims o → (s : Status) → Answers o (Err s) → is_no_target s ≡ false
aims_so None aims s fault = fault_aims s fault
aims_so (Some refused) aims s (inl is) = ap is_no_target is ∙ aims
aims_so (Some refused) aims s (inr fault) = fault_aims s fault

pub has_aim : (job : Job) → is_own job ≡ true → (given : Given) (database : Database) (done : Result Done Status) → Answers (job_refusal job given database) done → has_missed job done ≡ false
has_aim (Run c) own given database done answers = no_goal (Run c) done refl
has_aim UpdateSql own given database done answers = no_goal UpdateSql done refl
has_aim (UpdateCount count) own given database done answers = no_goal (UpdateCount count) done refl
has_aim (UpdateTo tag) own given database (Ok done) answers = refl
has_aim (UpdateTo tag) own given database (Err s) answers = not_missed s true (aims_so (job_refusal (UpdateTo tag) given database) (update_aims given database) s answers)
has_aim (RollbackSql target) own given database done answers = no_goal (RollbackSql target) done refl
has_aim UpdateTestingRollback own given database done answers = no_goal UpdateTestingRollback done refl
has_aim ClearSums own given database done answers = no_goal ClearSums done refl
has_aim History own given database done answers = no_goal History done refl
has_aim (Generate author) own given database done answers = no_goal (Generate author) done refl
has_aim (Drill path) own given database done answers = no_goal (Drill path) done refl
has_aim (Soak number sets) own given database done answers = no_goal (Soak number sets) done refl
has_aim UndoUnrecorded own given database done answers = no_goal UndoUnrecorded done refl
has_aim Snapshot own given database done answers = no_goal Snapshot done refl

pub memory_aim : (job : Job) (s : Status) → s ≡ status.OutOfMemory → misses job s ≡ false
memory_aim job s memory = ap (misses job) memory

-- one that runs no part is no update up to a tag that no changeset sets

abbrev PartOf : Type 0
PartOf = Option Changelog

none_part : {g : Changelog} → (let o : PartOf = Some g in o) ≡ None → ⊥
none_part h = Prim.cc

pub in_vain_goes_on : (job : Job) (g : Changelog) → part_for job g ≡ None → goes_on job ≡ true
in_vain_goes_on (Run c) g none = absurd (none_part none)
in_vain_goes_on UpdateSql g none = absurd (none_part none)
in_vain_goes_on (UpdateCount count) g none = absurd (none_part none)
in_vain_goes_on (UpdateTo tag) g none = refl
in_vain_goes_on (RollbackSql target) g none = absurd (none_part none)
in_vain_goes_on UpdateTestingRollback g none = absurd (none_part none)
in_vain_goes_on ClearSums g none = absurd (none_part none)
in_vain_goes_on History g none = absurd (none_part none)
in_vain_goes_on (Generate author) g none = absurd (none_part none)
in_vain_goes_on (Drill path) g none = absurd (none_part none)
in_vain_goes_on (Soak number sets) g none = absurd (none_part none)
in_vain_goes_on UndoUnrecorded g none = absurd (none_part none)
in_vain_goes_on Snapshot g none = absurd (none_part none)

pub in_vain_beside : (job : Job) (g : Changelog) → part_for job g ≡ None → is_apart job ≡ false
in_vain_beside (Run c) g none = refl
in_vain_beside UpdateSql g none = refl
in_vain_beside (UpdateCount count) g none = refl
in_vain_beside (UpdateTo tag) g none = refl
in_vain_beside (RollbackSql target) g none = refl
in_vain_beside UpdateTestingRollback g none = refl
in_vain_beside ClearSums g none = refl
in_vain_beside History g none = refl
in_vain_beside (Generate author) g none = refl
in_vain_beside (Drill path) g none = refl
in_vain_beside (Soak number sets) g none = absurd (none_part none)
in_vain_beside UndoUnrecorded g none = refl
in_vain_beside Snapshot g none = refl

-- the first changesets were read for the dialect that all were

pub counted_read : (count : ℕ) (given : Given) (rows : List Tracked) → AreFor given.options.dialect given.changelog → AreFor given.options.dialect (counted_in count given rows).changelog
counted_read count given rows read = all_first (is_read_for given.options.dialect) (up_to count (sets_in given) rows) given.changelog.sets read

counted_loaded : (count : ℕ) (given : Given) (rows : List Tracked) → IsLoaded given.options.dialect given.changelog → IsLoaded given.options.dialect (counted_in count given rows).changelog
counted_loaded count given rows loaded = record {
  read = counted_read count given rows loaded.read;
  short = All-take HasShortTexts (up_to count (sets_in given) rows) given.changelog.sets loaded.short;
}

-- a job does what the command does that it is

module _ (given : Given) (database : Database) (run : Command × Given) where
  pub same_dialect : (job : Job) → command_by job given database ≡ Some run → given.options.dialect ≡ run.1.options.dialect
  same_dialect (Run c) is = ap (λ (r : Command × Given). r.1.options.dialect) (some_same is)
  same_dialect UpdateSql is = absurd (none_some is)
  same_dialect (UpdateCount count) is = ap (λ (r : Command × Given). r.1.options.dialect) (some_same is)
  same_dialect (UpdateTo tag) is = ap (λ (r : Command × Given). r.1.options.dialect) (some_same is)
  same_dialect (RollbackSql target) is = absurd (none_some is)
  same_dialect UpdateTestingRollback is = absurd (none_some is)
  same_dialect ClearSums is = absurd (none_some is)
  same_dialect History is = absurd (none_some is)
  same_dialect (Generate author) is = absurd (none_some is)
  same_dialect (Drill path) is = absurd (none_some is)
  same_dialect (Soak number sets) is = absurd (none_some is)
  same_dialect UndoUnrecorded is = absurd (none_some is)
  same_dialect Snapshot is = absurd (none_some is)

  pub command_on_file : (job : Job) → command_by job given database ≡ Some run → is_on_file job ≡ true
  command_on_file (Run c) is = refl
  command_on_file UpdateSql is = refl
  command_on_file (UpdateCount count) is = refl
  command_on_file (UpdateTo tag) is = refl
  command_on_file (RollbackSql target) is = refl
  command_on_file UpdateTestingRollback is = refl
  command_on_file ClearSums is = refl
  command_on_file History is = refl
  command_on_file (Generate author) is = refl
  command_on_file (Drill path) is = absurd (none_some is)
  command_on_file (Soak number sets) is = absurd (none_some is)
  command_on_file UndoUnrecorded is = absurd (none_some is)
  command_on_file Snapshot is = absurd (none_some is)

  pub runs_command : (job : Job) → command_by job given database ≡ Some run → (before : Option (List ℕ)) (s : Status) (after : Option (List ℕ)) → RunsJob job given database before s after → RunsJob (Run run.0) run.1 database before s after
  runs_command (Run c) is before s after ran = subst (λ (r : Command × Given). RunsJob (Run r.0) r.1 database before s after) (some_same is) ran
  runs_command UpdateSql is before s after ran = absurd (none_some is)
  runs_command (UpdateCount count) is before s after ran =
      subst (λ (r : Command × Given). RunsJob (Run r.0) r.1 database before s after) (some_same is)
      (record { ends = ran.ends; refused = ran.refused; reads = λ only. absurd (false_true only); works = ran.works; left = ran.left; opens = ran.opens; opens_cut = ran.opens_cut; room = ran.room; full = ran.full; rests = ran.rests })
  runs_command (UpdateTo tag) is before s after ran =
      subst (λ (r : Command × Given). RunsJob (Run r.0) r.1 database before s after) (some_same is)
      (record { ends = ran.ends; refused = ran.refused; reads = λ only. absurd (false_true only); works = ran.works; left = ran.left; opens = ran.opens; opens_cut = ran.opens_cut; room = ran.room; full = ran.full; rests = ran.rests })
  runs_command (RollbackSql target) is before s after ran = absurd (none_some is)
  runs_command UpdateTestingRollback is before s after ran = absurd (none_some is)
  runs_command ClearSums is before s after ran = absurd (none_some is)
  runs_command History is before s after ran = absurd (none_some is)
  runs_command (Generate author) is before s after ran = absurd (none_some is)
  runs_command (Drill path) is before s after ran = absurd (none_some is)
  runs_command (Soak number sets) is before s after ran = absurd (none_some is)
  runs_command UndoUnrecorded is before s after ran = absurd (none_some is)
  runs_command Snapshot is before s after ran = absurd (none_some is)

  pub says_command : (job : Job) → command_by job given database ≡ Some run → (s : Status) (before after : Option (List ℕ)) → SaysJob job given database s before after → SaysJob (Run run.0) run.1 database s before after
  says_command (Run c) is s before after said = subst (λ (r : Command × Given). SaysJob (Run r.0) r.1 database s before after) (some_same is) said
  says_command UpdateSql is s before after said = absurd (none_some is)
  says_command (UpdateCount count) is s before after said = subst (λ (r : Command × Given). SaysJob (Run r.0) r.1 database s before after) (some_same is) said
  says_command (UpdateTo tag) is s before after said = subst (λ (r : Command × Given). SaysJob (Run r.0) r.1 database s before after) (some_same is) said
  says_command (RollbackSql target) is s before after said = absurd (none_some is)
  says_command UpdateTestingRollback is s before after said = absurd (none_some is)
  says_command ClearSums is s before after said = absurd (none_some is)
  says_command History is s before after said = absurd (none_some is)
  says_command (Generate author) is s before after said = absurd (none_some is)
  says_command (Drill path) is s before after said = absurd (none_some is)
  says_command (Soak number sets) is s before after said = absurd (none_some is)
  says_command UndoUnrecorded is s before after said = absurd (none_some is)
  says_command Snapshot is s before after said = absurd (none_some is)

  -- whose changelog was loaded
  pub loaded_command : (job : Job) → command_by job given database ≡ Some run → IsLoaded given.options.dialect given.changelog → IsLoaded run.1.options.dialect run.1.changelog
  loaded_command (Run c) is loaded = subst (λ (r : Command × Given). IsLoaded r.1.options.dialect r.1.changelog) (some_same is) loaded
  loaded_command UpdateSql is loaded = absurd (none_some is)
  loaded_command (UpdateCount count) is loaded = subst (λ (r : Command × Given). IsLoaded r.1.options.dialect r.1.changelog) (some_same is) (counted_loaded count given database.rows loaded)
  loaded_command (UpdateTo tag) is loaded = subst (λ (r : Command × Given). IsLoaded r.1.options.dialect r.1.changelog) (some_same is) loaded
  loaded_command (RollbackSql target) is loaded = absurd (none_some is)
  loaded_command UpdateTestingRollback is loaded = absurd (none_some is)
  loaded_command ClearSums is loaded = absurd (none_some is)
  loaded_command History is loaded = absurd (none_some is)
  loaded_command (Generate author) is loaded = absurd (none_some is)
  loaded_command (Drill path) is loaded = absurd (none_some is)
  loaded_command (Soak number sets) is loaded = absurd (none_some is)
  loaded_command UndoUnrecorded is loaded = absurd (none_some is)
  loaded_command Snapshot is loaded = absurd (none_some is)
