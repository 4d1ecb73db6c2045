-- The log's text, from the texts that were made.
use Rattle.std.proofs.Common.{◌≡◌, ◌∙◌, ℕ, List, ◌++◌, Bool, true, false, Option, Result, refl, sym, ap}
use Rattle.lq_report.specs.Output.{fixed_line}
use Rattle.lq_report.specs.declared.fixed.FixedLine.TheVariants as fixed
use Rattle.lq_tell.specs.Lines.{lone_line, log_text, stands_alone}
use Rattle.lq_tell.specs.Texts.{has_output, HasTexts, IsAlone}
use Rattle.lq_tell.specs.declared.done.Done.{Done}
use Rattle.lq_tell.specs.declared.status.Status.{Status}
use Rattle.lq_tell.specs.declared.status.Status.TheVariants as status
use Rattle.lq_tell.specs.declared.told.Told.{Told}

-- warnings and lines of a status that is told
pub told_log : (tag : Option (List ℕ)) (done : Result Done Status) (told : Told) → HasTexts tag done told → told.warnings ++ told.lines ≡ log_text tag done told.status
told_log tag done told texts = rw (texts.beside, texts.warnings, texts.lines) refl

-- warnings, and the line for an output that failed
pub fault_log : (tag : Option (List ℕ)) (done : Result Done Status) (told : Told) → HasTexts tag done told → told.warnings ++ fixed_line fixed.WriteFault ≡ log_text tag done status.WriteFault
fault_log tag done told texts = ap (λ warnings. warnings ++ fixed_line fixed.WriteFault) texts.warnings

-- the line of a status that stands alone
pub alone_log : (tag : Option (List ℕ)) (done : Result Done Status) (s : Status) → stands_alone s ≡ true → lone_line s ≡ log_text tag done s
alone_log tag done status.Usage alone = refl
alone_log tag done status.ReadFault alone = refl
alone_log tag done status.DiskFault alone = refl
alone_log tag done status.OutOfMemory alone = refl
alone_log tag done status.Done alone = absurd (cc)
alone_log tag done (status.Changelog fault) alone = absurd (cc)
alone_log tag done (status.Invalid faults) alone = absurd (cc)
alone_log tag done (status.Locked lock) alone = absurd (cc)
alone_log tag done (status.Halted place why) alone = absurd (cc)
alone_log tag done (status.Refused identity statement kept reason) alone = absurd (cc)
alone_log tag done status.NoTarget alone = absurd (cc)
alone_log tag done (status.NotReversible identity) alone = absurd (cc)
alone_log tag done status.NothingToUndo alone = absurd (cc)
alone_log tag done (status.NotWritable at) alone = absurd (cc)
alone_log tag done (status.Damaged at) alone = absurd (cc)
alone_log tag done (status.Full used next) alone = absurd (cc)
alone_log tag done status.WriteFault alone = absurd (cc)
alone_log tag done (status.Busy session) alone = absurd (cc)

-- a status that stands alone has no output
pub alone_silent : (s : Status) → stands_alone s ≡ true → has_output s ≡ false
alone_silent status.Usage alone = refl
alone_silent status.ReadFault alone = refl
alone_silent status.DiskFault alone = refl
alone_silent status.OutOfMemory alone = refl
alone_silent status.Done alone = absurd (cc)
alone_silent (status.Changelog fault) alone = refl
alone_silent (status.Invalid faults) alone = refl
alone_silent (status.Locked lock) alone = refl
alone_silent (status.Halted place why) alone = absurd (cc)
alone_silent (status.Refused identity statement kept reason) alone = absurd (cc)
alone_silent status.NoTarget alone = refl
alone_silent (status.NotReversible identity) alone = refl
alone_silent status.NothingToUndo alone = refl
alone_silent (status.NotWritable at) alone = refl
alone_silent (status.Damaged at) alone = refl
alone_silent (status.Full used next) alone = refl
alone_silent status.WriteFault alone = refl
alone_silent (status.Busy session) alone = refl
