-- How often a command reads its clock.
use Rattle.std.specs.Option.{option_map}
use Rattle.std.specs.Prelude.{Bool, Err, IfSome, List, Ok, Option, Result, Some, false, length, slice_get, suc, true, zero, ℕ, ◌≡◌, ◌≤◌, ◌⊎◌}
use Rattle.lq_commands.specs.Jobs.{is_of_database}
use Rattle.lq_commands.specs.Refusals.{ends}
use Rattle.lq_commands.specs.Stamp.{ReadOnce}
use Rattle.lq_outside.specs.Forms.{after_first}
use Rattle.lq_sources.specs.declared.fault.LoadFault.{LoadFault}
use Rattle.lq_tell.specs.declared.done.Done.{Done}
use Rattle.lq_tell.specs.declared.status.Status.{Status}
use Rattle.lq_tell.specs.declared.status.Status.TheVariants as status
use Rattle.lq_jobs.specs.Asks.{file_status}

-- all answers are still to come, or it was read once
abbrev pub ReadAtMostOnce : Option (List ℕ) → Option (List ℕ) → ℕ → Type 0
ReadAtMostOnce before after reading = (after ≡ before) ⊎ ReadOnce before after reading

-- the answers to come behind so many others
abbrev pub after_some : ℕ → List ℕ → List ℕ
after_some zero answers = answers
after_some (suc n) answers = after_first (after_some n answers)

-- these readings were the answers to come, in turn, and the others are still to come
pub record ReadInTurn (before after : Option (List ℕ)) (readings : List ℕ) : Type 0 where
  pub each : IfSome before (λ answers. (place reading : ℕ) → slice_get readings place ≡ Some reading → slice_get (after_some place answers) 0 ≡ Some reading)
  pub rest : after ≡ option_map (after_some (length readings)) before

-- it was read no more than so often
abbrev pub ReadUpTo : ℕ → Option (List ℕ) → Option (List ℕ) → Type 0
ReadUpTo most before after = (readings : List ℕ) × (length readings ≤ most) × ReadInTurn before after readings

-- Which statuses come of the words, of the files and of drills.

-- so a drill ends that did not come to its end
abbrev pub is_of_drill : Status → Bool
is_of_drill status.DiskFault = true
is_of_drill (status.Damaged at) = true
is_of_drill (status.Full used next) = true
is_of_drill status.OutOfMemory = true
is_of_drill s = false

abbrev pub is_of_line : Status → Bool
is_of_line status.Usage = false
is_of_line status.WriteFault = false
is_of_line s = true

abbrev pub is_unwritten : Status → Bool
is_unwritten status.WriteFault = false
is_unwritten s = true

-- what a command did ended in its run, or its refusal passes a test
abbrev pub Refuses : (Status → Bool) → Result Done Status → Type 0
Refuses passes (Ok done) = ends done.status ≡ true
Refuses passes (Err s) = passes s ≡ true

abbrev pub IsOfDatabase : Result Done Status → Type 0
IsOfDatabase = Refuses is_of_database

abbrev pub IsOfLine : Result Done Status → Type 0
IsOfLine = Refuses is_of_line

abbrev pub IsOfWords : Result Done Status → Type 0
IsOfWords = Refuses is_unwritten

-- a fault of the files
abbrev pub IsOfFiles : Result Done Status → Type 0
IsOfFiles (Ok done) = ⊥
IsOfFiles (Err status.ReadFault) = Unit {0}
IsOfFiles (Err (status.Changelog fault)) = Unit {0}
IsOfFiles (Err s) = ⊥

-- so a command answers whose files give no changelog
abbrev pub IsNotLoaded : LoadFault → Result Done Status → Type 0
IsNotLoaded fault done = (done ≡ Err (file_status fault)) ⊎ (done ≡ Err status.ReadFault) ⊎ (done ≡ Err status.OutOfMemory)
