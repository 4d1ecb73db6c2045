-- What a status tells.
use Rattle.std.specs.Prelude.{Bool, Err, List, None, Ok, Option, Result, Some, [], false, is_some, true, ℕ, ◌≡◌, ◌⊎◌}
use Rattle.lq_tell.specs.Lines.{stands_alone, status_lines, warnings_of}
use Rattle.lq_tell.specs.declared.done.Done.{Done}
use Rattle.lq_tell.specs.declared.status.Status.{Status}
use Rattle.lq_tell.specs.declared.status.Status.TheVariants as status
use Rattle.lq_tell.specs.declared.told.Told.{Told}

-- the exit status
abbrev pub code_of : Status → ℕ
code_of status.Done = 0
code_of status.Usage = 2
code_of status.ReadFault = 3
code_of (status.Changelog fault) = 4
code_of (status.Invalid faults) = 5
code_of (status.Locked lock) = 6
code_of (status.Halted identity why) = 7
code_of (status.Refused identity statement kept reason) = 8
code_of status.NoTarget = 9
code_of (status.NotReversible identity) = 10
code_of status.DiskFault = 11
code_of (status.Damaged at) = 12
code_of (status.Full used next) = 13
code_of status.WriteFault = 14
code_of status.OutOfMemory = 15
code_of (status.Busy session) = 16
code_of status.NothingToUndo = 18
code_of (status.NotWritable at) = 19

-- How a command ends, and when it writes a text to its output.

-- the work was done, or a changeset halted it or was refused in the run; the changelog's own precondition halts before it
abbrev pub has_output : Status → Bool
has_output status.Done = true
has_output status.Usage = false
has_output status.ReadFault = false
has_output (status.Changelog fault) = false
has_output (status.Invalid faults) = false
has_output (status.Locked lock) = false
has_output (status.Halted of why) = is_some of
has_output (status.Refused identity statement kept reason) = true
has_output status.NoTarget = false
has_output (status.NotReversible identity) = false
has_output status.NothingToUndo = false
has_output (status.NotWritable at) = false
has_output status.DiskFault = false
has_output (status.Damaged at) = false
has_output (status.Full used next) = false
has_output status.WriteFault = false
has_output status.OutOfMemory = false
has_output (status.Busy session) = false

-- there is a text for the output only with such a status
abbrev pub ComesOnlyWith : {T : Type 0} → Option T → Status → Type 0
ComesOnlyWith out s = has_output s ≡ false → out ≡ None

-- nothing is written to the output
abbrev pub IsSilent : Status → Type 0
IsSilent status.WriteFault = ⊥
IsSilent s = has_output s ≡ false

-- the text that is there, or none
abbrev pub text_or_none : Option (List ℕ) → List ℕ
text_or_none (Some text) = text
text_or_none None = []

-- the status of what a command did, and its text for the output
abbrev pub status_done : Result Done Status → Status
status_done (Ok done) = done.status
status_done (Err s) = s

abbrev pub out_of : Result Done Status → Option (List ℕ)
out_of (Ok done) = done.out
out_of (Err s) = None

abbrev pub out_text : Result Done Status → List ℕ
out_text done = text_or_none (out_of done)

-- it ends so, or there was no memory for its texts, or its output could not be written
abbrev pub EndsAs : Status → Status → Type 0
EndsAs ended s = (s ≡ ended) ⊎ (s ≡ status.OutOfMemory) ⊎ (s ≡ status.WriteFault)

-- The texts of a command, before they are written.

-- all texts of a command, where its status does not stand alone
pub record HasTexts (tag : Option (List ℕ)) (done : Result Done Status) (told : Told) : Type 0 where
  pub beside : stands_alone told.status ≡ false
  pub status : told.status ≡ status_done done
  pub out : told.out ≡ out_of done
  pub warnings : told.warnings ≡ warnings_of done
  pub lines : told.lines ≡ status_lines tag told.status

-- a status that stands alone: that of the command, or that there was no memory for its texts
pub record IsAlone (done : Result Done Status) (s : Status) : Type 0 where
  pub alone : stands_alone s ≡ true
  pub status : (s ≡ status_done done) ⊎ (s ≡ status.OutOfMemory)

abbrev pub IsTold : Option (List ℕ) → Result Done Status → Result Told Status → Type 0
IsTold tag done (Ok told) = HasTexts tag done told
IsTold tag done (Err s) = IsAlone done s
