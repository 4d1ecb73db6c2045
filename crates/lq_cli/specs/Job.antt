-- The answer of a reading, or want of memory.
use Rattle.std.specs.Prelude.{Err, List, None, Ok, Option, Result, Some, ℕ, ◌≡◌}
use Rattle.lq_base.specs.declared.command.Command.{Command}
use Rattle.lq_base.specs.declared.command.Command.TheVariants as command
use Rattle.lq_base.specs.declared.command.Target.{Target}
use Rattle.lq_base.specs.declared.command.Target.TheVariants as target
use Rattle.lq_cli.specs.declared.fault.WordsFault.{WordsFault}
use Rattle.lq_cli.specs.declared.fault.WordsFault.TheVariants.{OutOfMemory, Usage}
use Rattle.lq_cli.specs.declared.line.Job.{Job}
use Rattle.lq_cli.specs.declared.line.Job.TheVariants.{RollbackSql, Run, UpdateTo}

abbrev pub Gives : {A : Type 0} → Option A → Result A WordsFault → Type 0
Gives meant (Ok a) = meant ≡ Some a
Gives meant (Err Usage) = meant ≡ None
Gives meant (Err OutOfMemory) = Unit {0}

-- what a reading of another crate gives, without its fault
abbrev pub found : {A E : Type 0} → Result A E → Option A
found (Ok a) = Some a
found (Err e) = None

-- What a job names.

-- the command that runs on the database, where the job is one
abbrev pub command_of : Job → Option Command
command_of (Run c) = Some c
command_of _ = None

abbrev pub target_tag : Target → Option (List ℕ)
target_tag (target.Tag tag) = Some tag
target_tag (target.Count n) = None
target_tag (target.Date at) = None

-- the tag that a rollback goes back to, or that an update goes on to
abbrev pub goal_of : Job → Option (List ℕ)
goal_of (Run (command.Rollback target)) = target_tag target
goal_of (RollbackSql target) = target_tag target
goal_of (UpdateTo tag) = Some tag
goal_of _ = None
