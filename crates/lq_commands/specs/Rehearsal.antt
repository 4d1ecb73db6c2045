-- A changelog that makes the users' objects: its text, and what stands in its way.
use Rattle.std.specs.List.{flat_map}
use Rattle.std.specs.Option.{option_map, option_or}
use Rattle.std.specs.Prelude.{List, None, Option, Some, false, length, ℕ, ◌++◌, ◌-◌, ◌≡◌}
use Rattle.lq_base.specs.declared.command.Target.TheVariants.{Count}
use Rattle.lq_base.specs.declared.dialect.Dialect.{Dialect}
use Rattle.lq_base.specs.declared.identity.Identity.{Identity}
use Rattle.lq_base.specs.declared.run.Why.{Why}
use Rattle.lq_base.specs.declared.tracking.Tracked.{Tracked}
use Rattle.lq_back.specs.Bound.{first_bound}
use Rattle.lq_cli.specs.declared.line.Job.{Job}
use Rattle.lq_cli.specs.declared.line.Job.TheVariants.{UpdateTo}
use Rattle.lq_commands.specs.Refusals.{if_not, own_halt, unready}
use Rattle.lq_commands.specs.Scripts.{rollback_script, rolled_to, sets_in, sets_script, settled_in, update_script, updated_in}
use Rattle.lq_commands.specs.Works.{IfFinished, WarnsUpTo, rollback_told, status_by, update_told}
use Rattle.lq_commands.specs.declared.given.Given.{Given}
use Rattle.lq_generate.specs.Faults.{fault_at}
use Rattle.lq_generate.specs.Generated.{generated_text}
use Rattle.lq_kinds.specs.declared.change_set.Changelog.{Changelog}
use Rattle.lq_portion.specs.Portion.{counted, up_to_tag}
use Rattle.lq_seen.specs.Telling.{Account}
use Rattle.lq_tell.specs.Lines.{warning_line, warning_lines}
use Rattle.lq_tell.specs.declared.done.Done.{Done}
use Rattle.lq_tell.specs.declared.status.Status.{Status}
use Rattle.lq_tell.specs.declared.status.Status.TheVariants.{NotWritable}
use Rattle.lq_track.specs.Database.{Database}
use Rattle.lq_turns.specs.Script.{calls_unless, rows_kept}
use Rattle.lq_turns.specs.Session.{left_by}
use Rattle.lq_turns.specs.declared.call.Call.{Call}
use Rattle.lq_turns.specs.declared.stop.Stop.{Stop}

-- the first of the users' objects that a changelog cannot say, or its size; no lock is looked at
abbrev pub generate_refusal : List ℕ → Given → Database → Option Status
generate_refusal author given database = option_map NotWritable (fault_at given.options.dialect author database.users)

-- by this author, the changelog of the users' objects
abbrev pub generate_text : List ℕ → Given → Database → List ℕ
generate_text author given database = generated_text given.options.dialect author database.users

-- The part of a changelog that a job runs.

-- of the changelog that its files give, where there is one: an update up to a tag that no changeset sets has none
abbrev pub part_for : Job → Changelog → Option Changelog
part_for (UpdateTo tag) g = up_to_tag tag g
part_for _ g = Some g

-- what an update of so many works with on these rows
abbrev pub counted_in : ℕ → Given → List Tracked → Given
counted_in count given rows = record given { changelog = counted count given.options given.changelog rows }

-- A rehearsal: an update, the rollback of the rows that came, and the update again, each on the database that the one before left, up to the first that stops.

-- What is told of runs: what stopped the last of them, their texts, and their warnings.
pub record Told : Type 0 where
  pub stop : Option Stop
  pub text : List ℕ
  pub warned : List (Option Identity × Why)

-- One run: the calls that it makes on a database, and what is told of it.
pub record Run : Type 0 where
  pub calls : Database → List Call
  pub told : Database → Told

-- after a run that stopped there is no other
abbrev pub told_unless : Option Stop → Told → Told → Told
told_unless None first more = record { stop = more.stop; text = first.text ++ more.text; warned = first.warned ++ more.warned }
told_unless (Some stop) first more = first

-- a run, and then another on the database that it left
abbrev pub then_run : Dialect → Run → Run → Run
then_run d first more = record {
  calls = λ database. first.calls database ++ calls_unless (first.told database).stop (more.calls (left_by d (first.calls database) database));
  told = λ database. told_unless (first.told database).stop (first.told database) (more.told (left_by d (first.calls database) database));
}

abbrev pub told_of : Account → List ℕ → Told
told_of account text = record { stop = account.settled.stop; text = text; warned = account.settled.warned }

-- so many rows came behind those that were there
abbrev pub came : ℕ → Database → ℕ
came stay database = length database.rows - stay

module _ (given : Given) where
  -- an update, and one whose changelog's own condition is not tested
  abbrev pub updates : Run
  updates = record {
    calls = update_script given;
    told = λ database. told_of (updated_in false given database) (update_told false (updated_in false given database));
  }

  abbrev pub updates_again : Run
  updates_again = record {
    calls = sets_script given;
    told = λ database. told_of (settled_in false given database) (update_told false (settled_in false given database));
  }

  -- the rollback of the rows that came behind so many
  abbrev pub taken_in : ℕ → Database → Account
  taken_in stay database = rolled_to false given (rows_kept (Count (came stay database)) database.rows) database

  abbrev pub takes_back : ℕ → Run
  takes_back stay = record {
    calls = λ database. rollback_script given (Count (came stay database)) database;
    told = λ database. told_of (taken_in stay database) (rollback_told false (taken_in stay database));
  }

  abbrev pub after_update : ℕ → Run
  after_update stay = then_run given.options.dialect (takes_back stay) updates_again

  abbrev pub rehearsal : Database → Run
  rehearsal database = then_run given.options.dialect updates (after_update (length database.rows))

  abbrev pub rehearsal_script : Database → List Call
  rehearsal_script database = (rehearsal database).calls database

  -- what it tells
  abbrev pub rehearsed : Database → Told
  rehearsed database = (rehearsal database).told database

-- What it is refused for before its first run: after the lock and the rows, and before the changelog's own condition, for the first changeset that would run again, or that is new and has nothing that takes it back.
module _ (given : Given) where
  abbrev pub bound_by : List Tracked → Option Identity
  bound_by rows = first_bound given.options.dialect (sets_in given) rows

  abbrev pub unrehearsed : List Tracked → Option Status
  unrehearsed rows = if_not (bound_by rows)

  abbrev pub rehearsal_refusal : Database → Option Status
  rehearsal_refusal database = option_or (unready given database) (option_or (unrehearsed database.rows) (own_halt given database))

-- its status, its output and the lines of its warnings are those of what is told
pub record TellsRun (told : Told) (done : Done) : Type 0 where
  pub status : done.status ≡ status_by told.stop
  pub out : done.out ≡ Some told.text
  pub warned : warning_lines done.own done.warned ≡ flat_map warning_line told.warned

abbrev pub EndsRun : Told → Done → Type 0
EndsRun told done = IfFinished done (TellsRun told done) × WarnsUpTo told.warned done
