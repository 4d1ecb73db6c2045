-- What a job tells that came to its end: its status and its output.
use Rattle.std.specs.Prelude.{Bool, IfOk, List, Result, Some, [], codes, false, if◌then◌else◌, length, true, ℕ, ◌++◌, ◌≡◌}
use Rattle.lq_base.specs.declared.command.Command.{Command}
use Rattle.lq_base.specs.declared.command.Command.TheVariants as command
use Rattle.lq_base.specs.declared.command.Target.{Target}
use Rattle.lq_base.specs.declared.tracking.Lock.{Lock}
use Rattle.lq_cli.specs.declared.line.Job.{Job}
use Rattle.lq_cli.specs.declared.line.Job.TheVariants.{ClearSums, Generate, History, RollbackSql, Run, UpdateCount, UpdateSql, UpdateTestingRollback, UpdateTo}
use Rattle.lq_commands.specs.Rehearsal.{EndsRun, counted_in, generate_text, rehearsed}
use Rattle.lq_commands.specs.Scripts.{rolled_to, sets_in, updated_in}
use Rattle.lq_commands.specs.Works.{EndsRollback, EndsSync, EndsUpdate, IfFinished, WarnsUpTo, synced_in}
use Rattle.lq_commands.specs.declared.given.Given.{Given}
use Rattle.lq_report.specs.Output.{cleared_text, history_text, status_text, tagged_text, unrecorded_line, validated_text}
use Rattle.lq_seen.specs.Telling.{Account}
use Rattle.lq_tell.specs.Lines.{warning_lines}
use Rattle.lq_tell.specs.declared.done.Done.{Done}
use Rattle.lq_tell.specs.declared.status.Status.{Status}
use Rattle.lq_tell.specs.declared.status.Status.TheVariants as status
use Rattle.lq_track.specs.Database.{Database}
use Rattle.lq_turns.specs.Printed.{pending}
use Rattle.lq_turns.specs.Script.{rows_kept}
use Rattle.lq_words.specs.Words.{held_text}

-- what a rollback to a target does, and what is printed of it
abbrev pub back_in : Bool → Given → Target → Database → Account
back_in prints given target database = rolled_to prints given (rows_kept target database.rows) database

-- it is done, with this output, and warns of nothing
pub record TellsText (text : List ℕ) (done : Done) : Type 0 where
  pub status : done.status ≡ status.Done
  pub out : done.out ≡ Some text
  pub warned : warning_lines done.own done.warned ≡ []

abbrev pub EndsText : List ℕ → Done → Type 0
EndsText text done = IfFinished done (TellsText text done) × WarnsUpTo [] done

-- of a release-locks: the lock that was held, with its mark where it has one
abbrev pub released_text : Lock → List ℕ
released_text lock = if lock.locked then codes "lock released: held by " ++ held_text lock ++ codes "\n" ++ unrecorded_line lock else codes "lock free\n"

-- the output of a command that makes one call at most
abbrev pub at_once_text : Command → Given → Database → List ℕ
at_once_text command.Validate given database = validated_text
at_once_text command.Status given database = status_text (pending (sets_in given) database.rows)
at_once_text (command.Tag name) given database = tagged_text name
at_once_text command.Release given database = released_text database.lock
at_once_text _ given database = []

-- what it tells where it came to its end, and of what it warns: an update and a rollback of their turns, a changelog-sync of its rows; an update by part tells of that part
abbrev pub TellsEnd : Job → Given → Database → Done → Type 0
TellsEnd (Run command.Update) given database done = EndsUpdate false (updated_in false given database) done
TellsEnd (Run (command.Rollback target)) given database done = EndsRollback false (back_in false given target database) done
TellsEnd (Run command.Sync) given database done = EndsSync (synced_in given database) done
TellsEnd (Run c) given database done = EndsText (at_once_text c given database) done
TellsEnd (UpdateCount count) given database done = EndsUpdate false (updated_in false (counted_in count given database.rows) database) done
TellsEnd (UpdateTo tag) given database done = EndsUpdate false (updated_in false given database) done
TellsEnd UpdateTestingRollback given database done = EndsRun (rehearsed given database) done
TellsEnd ClearSums given database done = EndsText (cleared_text (length database.rows)) done
TellsEnd History given database done = EndsText (history_text database.rows) done
TellsEnd (Generate author) given database done = EndsText (generate_text author given database) done
TellsEnd UpdateSql given database done = EndsUpdate true (updated_in true given database) done
TellsEnd (RollbackSql target) given database done = EndsRollback true (back_in true given target database) done
TellsEnd _ given database done = Unit {0}

abbrev pub TellsJob : Job → Given → Database → Result Done Status → Type 0
TellsJob job given database done = IfOk done (TellsEnd job given database)
