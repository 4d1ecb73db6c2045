-- What may be found or not, one after another.
use Rattle.std.specs.Prelude.{List, None, Option, Some, [], option_and_then, option_map, ℕ, ◌∷◌}
use Rattle.clap.specs.Walk.{Row}
use Rattle.lq_base.specs.Moment.{moment_of}
use Rattle.lq_base.specs.declared.command.Command.TheVariants as command
use Rattle.lq_base.specs.declared.command.Target.{Target}
use Rattle.lq_base.specs.declared.command.Target.TheVariants as target
use Rattle.lq_cli.specs.Options.{contexts_of, definitions, given_in, labels_of, number_from, properties_of, tag_of, url_of, value}
use Rattle.lq_cli.specs.Table.{author, changelog_file, context_filter, count, date, form_of, label_filter, number, runs, sets, tag, url, verb_of}
use Rattle.lq_cli.specs.declared.line.Job.{Job}
use Rattle.lq_cli.specs.declared.line.Job.TheVariants.{ClearSums, Drill, Generate, History, RollbackSql, Run, Snapshot, Soak, UndoUnrecorded, UpdateCount, UpdateSql, UpdateTestingRollback, UpdateTo}
use Rattle.lq_cli.specs.declared.line.Line.{Line}
use Rattle.lq_cli.specs.declared.verb.Verb.{Verb}
use Rattle.lq_cli.specs.declared.verb.Verb.TheVariants as verb

infixl 10 ◌>>=◌
abbrev pub ◌>>=◌ : {A B : Type 0} → Option A → (A → Option B) → Option B
found >>= next = option_and_then next found

-- What the words of a command line ask for.

-- back to a tag, by a count or back to a date
unfoldable pub to_tag : List ℕ → Option Target
to_tag text = option_map target.Tag (tag_of text)

unfoldable pub by_count : List ℕ → Option Target
by_count text = option_map target.Count (number_from 0 4294967295 text)

unfoldable pub to_date : List ℕ → Option Target
to_date text = option_map target.Date (moment_of text)

-- exactly one of the three
abbrev pub only_one : Option (List ℕ) → Option (List ℕ) → Option (List ℕ) → Option Target
only_one (Some text) None None = to_tag text
only_one None (Some text) None = by_count text
only_one None None (Some text) = to_date text
only_one _ _ _ = None

unfoldable pub only_target : List Row → Option Target
only_target given = only_one (value given tag) (value given count) (value given date)

abbrev pub rollback : Option Target → Option Job
rollback target = option_map (λ back. Run (command.Rollback back)) target

-- an update of so many changesets, and one up to a tag
unfoldable pub counting : List Row → Option Job
counting given = option_map UpdateCount (value given count >>= number_from 0 4294967295)

unfoldable pub going : List Row → Option Job
going given = option_map UpdateTo (value given tag >>= tag_of)

unfoldable pub tagging : List Row → Option Job
tagging given = option_map (λ t. Run (command.Tag t)) (value given tag >>= tag_of)

-- an author has the form of a tag
unfoldable pub generating : List Row → Option Job
generating given = option_map Generate (value given author >>= tag_of)

unfoldable pub drilling : List Row → Option Job
drilling given = option_map Drill (value given runs)

unfoldable pub soak : List Row → Option Job
soak given = do
  n ← value given number >>= number_from 0 18446744073709551615
  m ← value given sets >>= number_from 1 10000
  Some (Soak n m)

-- what a command is to do
unfoldable pub job_of : Verb → List Row → Option Job
job_of verb.Validate given = Some (Run command.Validate)
job_of verb.Status given = Some (Run command.Status)
job_of verb.Update given = Some (Run command.Update)
job_of verb.UpdateSql given = Some UpdateSql
job_of verb.UpdateCount given = counting given
job_of verb.UpdateToTag given = going given
job_of verb.UpdateTestingRollback given = Some UpdateTestingRollback
job_of verb.ChangelogSync given = Some (Run command.Sync)
job_of verb.Rollback given = rollback (value given tag >>= to_tag)
job_of verb.RollbackCount given = rollback (value given count >>= by_count)
job_of verb.RollbackToDate given = rollback (value given date >>= to_date)
job_of verb.RollbackSql given = option_map RollbackSql (only_target given)
job_of verb.Tag given = tagging given
job_of verb.ClearChecksums given = Some ClearSums
job_of verb.ReleaseLocks given = Some (Run command.Release)
job_of verb.UndoUnrecorded given = Some UndoUnrecorded
job_of verb.Snapshot given = Some Snapshot
job_of verb.History given = Some History
job_of verb.GenerateChangelog given = generating given
job_of verb.Drill given = drilling given
job_of verb.Soak given = soak given

-- the line of a command with these options
unfoldable pub line_with : Verb → List Row → Option Line
line_with verb given = do
  place ← value given url >>= url_of
  job ← job_of verb given
  contexts ← contexts_of (value given context_filter)
  labels ← labels_of (value given label_filter)
  properties ← properties_of (definitions given)
  Some (record {
    job = job;
    path = place.1;
    options = record { dialect = place.0; contexts = contexts; labels = labels };
    root = value given changelog_file;
    given = properties;
  })

-- the line of a command with these words after its name
unfoldable pub line_after : Verb → List (List ℕ) → Option Line
line_after verb words = given_in (form_of verb) words >>= line_with verb

-- the first word is a command's name, and the others are its options
unfoldable pub line_of : List (List ℕ) → Option Line
line_of [] = None
line_of (name ∷ words) = verb_of name >>= (λ verb. line_after verb words)
