-- What the words and the files of a command ask for.
use Rattle.std.specs.Prelude.{Bool, Err, List, None, Ok, Option, Some, false, true, ℕ, ◌≡◌}
use Rattle.lq_cli.specs.Job.{goal_of}
use Rattle.lq_cli.specs.Line.{line_of}
use Rattle.lq_cli.specs.declared.line.Job.{Job}
use Rattle.lq_cli.specs.declared.line.Job.TheVariants.{Drill}
use Rattle.lq_cli.specs.declared.line.Line.{Line}
use Rattle.lq_commands.specs.Rehearsal.{part_for}
use Rattle.lq_kinds.specs.declared.change_set.Changelog.{Changelog}
use Rattle.lq_sources.specs.Faults.{IsTold, Loaded, Source, map_ok}
use Rattle.lq_sources.specs.declared.fault.LoadFault.{LoadFault}
use Rattle.lq_jobs.specs.Drills.{drill_of}
pub use Rattle.lq_jobs.specs.Drills.{Files, asked_by, file_status, loaded, no_changelog}

-- the job is a drill
abbrev pub is_drill : Job → Bool
is_drill (Drill runs) = true
is_drill _ = false

abbrev pub asks_drill : Option Line → Bool
asks_drill (Some line) = is_drill line.job
asks_drill None = false

-- A drill has no changelog of its own; a fault of its files is its fault.
abbrev pub given_for : Job → Source → Line → Loaded Changelog
given_for (Drill runs) source line = map_ok (λ drill. no_changelog) (drill_of source line.options.dialect line.path runs)
given_for _ source line = loaded source line.options.dialect line.given line.root

-- what the files give a line: a changelog, or a fault
abbrev pub given_to : Source → Line → Loaded Changelog
given_to source line = given_for line.job source line

-- the words are this line, and of the changelog that the files give it its job runs this part
pub record Asks (words : List (List ℕ)) (files : Files) : Type 0 where
  pub line : Line
  pub is_line : line_of words ≡ Some line
  pub source : Source
  pub told : IsTold files source
  pub whole : Changelog
  pub gives : given_to source line ≡ Ok whole
  pub changelog : Changelog
  pub is_part : part_for line.job whole ≡ Some changelog

-- the files give a changelog of which the line's job has no part to run: no changeset sets its tag
abbrev pub HasNoPart : Files → Line → Type 0
HasNoPart files line = (source : Source) → IsTold files source → (whole : Changelog) → given_to source line ≡ Ok whole → part_for line.job whole ≡ None

-- the words are this line, and the files give it such a changelog
pub record AsksInVain (words : List (List ℕ)) (files : Files) : Type 0 where
  pub line : Line
  pub is_line : line_of words ≡ Some line
  pub source : Source
  pub told : IsTold files source
  pub whole : Changelog
  pub gives : given_to source line ≡ Ok whole
  pub no_part : part_for line.job whole ≡ None

-- the tag to which the words go; no words of a command, no tag
abbrev pub asked_tag : Option Line → Option (List ℕ)
asked_tag (Some line) = goal_of line.job
asked_tag None = None

-- the words are no command line, or those of a drill whose file has no such form
abbrev pub IsUsage : List (List ℕ) → Files → Type 0
IsUsage words files = (line : Line) → line_of words ≡ Some line → (runs : List ℕ) × (line.job ≡ Drill runs) × ((source : Source) → IsTold files source → drill_of source line.options.dialect line.path runs ≡ Ok None)

-- the words are those of a drill, and its file has no such form
pub record HasNoForm (words : List (List ℕ)) (files : Files) : Type 0 where
  pub line : Line
  pub is_line : line_of words ≡ Some line
  pub runs : List ℕ
  pub is_drill : line.job ≡ Drill runs
  pub source : Source
  pub told : IsTold files source
  pub gives : drill_of source line.options.dialect line.path runs ≡ Ok None

-- the files give no changelog, for this fault
abbrev pub IsFaultOf : List (List ℕ) → Files → LoadFault → Type 0
IsFaultOf words files fault = (line : Line) → line_of words ≡ Some line → (source : Source) → IsTold files source → given_to source line ≡ Err fault

-- the files give a fault in place of a changelog
pub record HasFault (words : List (List ℕ)) (files : Files) (fault : LoadFault) : Type 0 where
  pub line : Line
  pub is_line : line_of words ≡ Some line
  pub source : Source
  pub told : IsTold files source
  pub gives : given_to source line ≡ Err fault
