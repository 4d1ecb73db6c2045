-- What a command line is given: by its files, or without any.
use Rattle.std.specs.Prelude.{Err, List, None, Ok, Option, Some, [], if◌then◌else◌, length, nat_lt, ℕ, ◌∷◌}
use Rattle.lq_base.specs.declared.command.Command.{Command}
use Rattle.lq_base.specs.declared.command.Command.TheVariants as command
use Rattle.lq_base.specs.declared.dialect.Dialect.{Dialect}
use Rattle.lq_base.specs.declared.run.OnFail.TheVariants.{Halt}
use Rattle.lq_changelog.specs.Gathers.{changelog}
use Rattle.lq_cli.specs.declared.line.Job.{Job}
use Rattle.lq_cli.specs.declared.line.Job.TheVariants.{Run}
use Rattle.lq_cli.specs.declared.line.Line.{Line}
use Rattle.lq_commands.specs.declared.given.Asked.{Asked}
use Rattle.lq_cond.specs.declared.cond.Cond.TheVariants.{And}
use Rattle.lq_expr.specs.declared.options.Options.{Options}
use Rattle.lq_kinds.specs.declared.change_set.Changelog.{Changelog}
use Rattle.lq_lines.specs.File.{lines_of}
use Rattle.lq_lines.specs.declared.lines.Lines.{Lines}
use Rattle.lq_sources.specs.Faults.{Loaded, Source, map_ok, ◌>>=◌}
use Rattle.lq_sources.specs.declared.fault.LoadFault.{LoadFault}
use Rattle.lq_sources.specs.declared.fault.LoadFault.TheVariants as load
use Rattle.lq_sources.specs.declared.fault.LoadFault.TheVariants.{NoFile, TooLong}
use Rattle.lq_tell.specs.declared.status.Status.{Status}
use Rattle.lq_tell.specs.declared.status.Status.TheVariants as status
use Rattle.lq_jobs.specs.declared.entrants.Drilling.{Drilling}
use Rattle.lq_jobs.specs.declared.entrants.Entrant.{Entrant}

-- what files hold, where they tell it
abbrev pub Files : Type 0
Files = Option (List ℕ → Option (List ℕ))

-- the changelog of a command that reads none
abbrev pub no_changelog : Changelog
no_changelog = record { cond = And []; on_fail = Halt; on_error = Halt; sets = [] }

-- what the files give below a root, with properties that are given: a changelog, or a fault
abbrev pub loaded : Source → Dialect → List (List ℕ × List ℕ) → Option (List ℕ) → Loaded Changelog
loaded source d given None = Ok no_changelog
loaded source d given (Some root) = changelog source root d given

abbrev pub asked_by : Options → Changelog → Asked
asked_by options g = record { changelog = g; options = options }

-- the status of a fault of the files
abbrev pub file_status : LoadFault → Status
file_status load.Read = status.ReadFault
file_status load.OutOfMemory = status.OutOfMemory
file_status fault = status.Changelog fault

-- What the file of a drill asks for: commands, and the order in which they take their steps.

-- the command of a line; the lines of a drill's file ask for nothing else
abbrev pub command_in : Job → Command
command_in (Run c) = c
command_in _ = command.Validate

-- all lines are for the database of the drill
abbrev pub options_on : Dialect → Options → Options
options_on d options = record options { dialect = d }

abbrev pub entrant_by : Dialect → Line → Changelog → Entrant
entrant_by d line g = record { command = command_in line.job; asked = asked_by (options_on d line.options) g }

abbrev pub entrant_of : Source → Dialect → Line → Loaded Entrant
entrant_of source d line = map_ok (entrant_by d line) (loaded source d line.given line.root)

-- those of all lines in order, or the first fault of their files
abbrev pub entrants_of : Source → Dialect → List Line → Loaded (List Entrant)
entrants_of source d [] = Ok []
entrants_of source d (line ∷ lines) = entrant_of source d line >>= (λ entrant. map_ok (λ more. entrant ∷ more) (entrants_of source d lines))

-- the file of the drill, which has at most 16 MiB
abbrev pub runs_in : List ℕ → Option (List ℕ) → Loaded (List ℕ)
runs_in path None = Err (NoFile path)
runs_in path (Some bytes) = if nat_lt 16777216 (length bytes) then Err (TooLong path) else Ok bytes

abbrev pub drilling_by : List ℕ → List Entrant → Option Drilling
drilling_by steps entrants = Some (record { entrants = entrants; steps = steps })

-- a file without the form gives no drill
abbrev pub drill_in : Source → Dialect → Option Lines → Loaded (Option Drilling)
drill_in source d None = Ok None
drill_in source d (Some lines) = map_ok (drilling_by lines.steps) (entrants_of source d lines.lines)

-- what the file at the path of runs gives, on the database of this dialect and path: a drill, no drill, or a fault of the files
abbrev pub drill_of : Source → Dialect → List ℕ → List ℕ → Loaded (Option Drilling)
drill_of source d path runs = runs_in runs (source.content runs) >>= (λ bytes. drill_in source d (lines_of d path bytes))
