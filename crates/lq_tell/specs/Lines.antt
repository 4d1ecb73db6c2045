-- The lines of the log for how a command ended.
use Rattle.std.specs.List.{flat_map}
use Rattle.std.specs.Prelude.{Bool, Err, List, None, Ok, Option, Result, Some, [], codes, false, if◌then◌else◌, true, ℕ, ◌++◌}
use Rattle.lq_base.specs.Name.{identity_text}
use Rattle.lq_base.specs.declared.identity.Identity.{Identity}
use Rattle.lq_base.specs.declared.run.Why.{Why}
use Rattle.lq_faultlog.specs.Lines.{load_fault_line}
use Rattle.lq_report.specs.Output.{busy_line, changed_line, damaged_line, fixed_line, full_line, locked_lines, log_line, no_tag_line, not_reversible_line, not_writable_line, refused_line, twice_line}
use Rattle.lq_report.specs.declared.fixed.FixedLine.TheVariants as fixed
use Rattle.lq_tell.specs.declared.done.Done.{Done}
use Rattle.lq_tell.specs.declared.status.Status.{Status}
use Rattle.lq_tell.specs.declared.status.Status.TheVariants as status
use Rattle.lq_turns.specs.declared.fault.Fault.{Fault}
use Rattle.lq_turns.specs.declared.fault.Fault.TheVariants as fault
use Rattle.lq_words.specs.Words.{why_text}

-- where a precondition stands: at a changeset, or at the head of the changelog
abbrev pub place_name : Option Identity → List ℕ
place_name (Some identity) = identity_text identity
place_name None = codes "the changelog"

-- a run that halted at a precondition, and one that went on
unfoldable pub halted_at : Option Identity → Why → List ℕ
halted_at place why = log_line (codes "halted at " ++ place_name place ++ codes ": " ++ why_text why)

unfoldable pub warned_at : Option Identity → Why → List ℕ
warned_at place why = log_line (codes "warning: " ++ place_name place ++ codes ": " ++ why_text why)

-- a changelog that does not go with the rows
abbrev pub fault_line : Fault → List ℕ
fault_line (fault.Twice identity) = twice_line identity
fault_line (fault.Changed identity was is) = changed_line identity was is

-- no row has the tag of a rollback; without one, there is no row to tag
abbrev pub no_target_line : Option (List ℕ) → List ℕ
no_target_line (Some tag) = no_tag_line tag
no_target_line None = fixed_line fixed.NothingToTag

-- the lines of a status; the tag is that of a rollback to a tag
abbrev pub status_lines : Option (List ℕ) → Status → List ℕ
status_lines tag status.Done = []
status_lines tag status.Usage = fixed_line fixed.Usage
status_lines tag status.ReadFault = fixed_line fixed.ReadFault
status_lines tag (status.Changelog fault) = load_fault_line fault
status_lines tag (status.Invalid faults) = flat_map fault_line faults
status_lines tag (status.Locked lock) = locked_lines lock
status_lines tag (status.Halted place why) = halted_at place why
status_lines tag (status.Refused identity statement kept reason) = refused_line identity statement kept reason
status_lines tag status.NoTarget = no_target_line tag
status_lines tag (status.NotReversible identity) = not_reversible_line identity
status_lines tag status.NothingToUndo = fixed_line fixed.NothingToUndo
status_lines tag (status.NotWritable at) = not_writable_line at
status_lines tag status.DiskFault = fixed_line fixed.DiskFault
status_lines tag (status.Damaged at) = damaged_line at
status_lines tag (status.Full used next) = full_line used next
status_lines tag status.WriteFault = fixed_line fixed.WriteFault
status_lines tag status.OutOfMemory = fixed_line fixed.OutOfMemory
status_lines tag (status.Busy session) = busy_line session

-- preconditions that only warn: the changelog's own, and then those of changesets
abbrev pub own_line : Option Why → List ℕ
own_line (Some why) = warned_at None why
own_line None = []

abbrev pub warning_line : Option Identity × Why → List ℕ
warning_line warned = warned_at warned.0 warned.1

abbrev pub warning_lines : Option Why → List (Option Identity × Why) → List ℕ
warning_lines own warned = own_line own ++ flat_map warning_line warned

-- The log of a command.

-- its line needs no memory, and no warnings stand before it
abbrev pub stands_alone : Status → Bool
stands_alone status.Usage = true
stands_alone status.ReadFault = true
stands_alone status.DiskFault = true
stands_alone status.OutOfMemory = true
stands_alone s = false

-- the line of a status that stands alone
abbrev pub lone_line : Status → List ℕ
lone_line status.Usage = fixed_line fixed.Usage
lone_line status.ReadFault = fixed_line fixed.ReadFault
lone_line status.DiskFault = fixed_line fixed.DiskFault
lone_line status.OutOfMemory = fixed_line fixed.OutOfMemory
lone_line s = []

-- the warnings of what a command did
abbrev pub warnings_of : Result Done Status → List ℕ
warnings_of (Ok done) = warning_lines done.own done.warned
warnings_of (Err s) = []

-- the log of a command that ended with a status: the warnings and then the status's lines
abbrev pub log_text : Option (List ℕ) → Result Done Status → Status → List ℕ
log_text tag done s = (if stands_alone s then [] else warnings_of done) ++ status_lines tag s
