-- The lines of the log. Each begins with `liquibase: ` and ends with a line feed.
use Rattle.std.specs.Fmt.{decimal}
use Rattle.std.specs.List.{flat_map}
use Rattle.std.specs.Option.{option_map_or}
use Rattle.std.specs.Prelude.{Bool, List, None, Option, Some, [], codes, count_by, if◌then◌else◌, length, ℕ, ◌&&◌, ◌++◌, ◌+◌, ◌==◌, ◌∷◌}
use denote.Ref.{Bor}
use Rattle.lq_base.specs.Moment.{moment_text}
use Rattle.lq_base.specs.Name.{dialect_text, exec_text, identity_text, reason_text}
use Rattle.lq_base.specs.declared.dialect.Dialect.{Dialect}
use Rattle.lq_base.specs.declared.identity.Identity.{Identity}
use Rattle.lq_base.specs.declared.reason.Reason.{Reason}
use Rattle.lq_base.specs.declared.run.Did.{Did}
use Rattle.lq_base.specs.declared.run.Did.TheVariants.{Marked, Ran, RanAgain, RolledBack, Skipped}
use Rattle.lq_base.specs.declared.run.Happened.{Happened}
use Rattle.lq_base.specs.declared.run.Printed.{Printed}
use Rattle.lq_base.specs.declared.run.Why.{Why}
use Rattle.lq_base.specs.declared.tracking.Lock.{Lock}
use Rattle.lq_base.specs.declared.tracking.Tracked.{Tracked}
use Rattle.lq_report.specs.Mark.{lock_mark, mark_text}
use Rattle.lq_report.specs.declared.drill.Drilled.{Drilled}
use Rattle.lq_report.specs.declared.fixed.FixedLine.{FixedLine}
use Rattle.lq_report.specs.declared.fixed.FixedLine.TheVariants as fixed
use Rattle.lq_report.specs.declared.soak.Soaked.{Soaked}
use Rattle.lq_words.specs.Words.{command_word, did_text, held_text, is_did, place_text, plain, why_text}

-- words of the tool's own, and numbers
abbrev pub said : List ℕ → List ℕ
said text = codes "liquibase: " ++ text ++ codes "\n"

-- a text with others in it, which begin no line of their own: each control character is `_`
abbrev pub log_line : List ℕ → List ℕ
log_line text = said (plain text)

-- the lines without parts
unfoldable pub fixed_line : FixedLine → List ℕ
fixed_line fixed.Usage = said (codes "usage: liquibase COMMAND --url=DIALECT:FILE [options]")
fixed_line fixed.ReadFault = said (codes "cannot read the files")
fixed_line fixed.TooMany = said (codes "changelog fault: too many changesets or files")
fixed_line fixed.NothingToTag = said (codes "no changeset to tag")
fixed_line fixed.NothingToUndo = said (codes "nothing to undo")
fixed_line fixed.DiskFault = said (codes "database fault")
fixed_line fixed.WriteFault = said (codes "cannot write the output")
fixed_line fixed.OutOfMemory = said (codes "out of memory")

-- what a run says
unfoldable pub warning_line : Option (Bor Identity) → Why → List ℕ
warning_line place why = log_line (codes "warning: " ++ place_text place ++ codes ": " ++ why_text why)

unfoldable pub halted_line : Option (Bor Identity) → Why → List ℕ
halted_line place why = log_line (codes "halted at " ++ place_text place ++ codes ": " ++ why_text why)

unfoldable pub refused_line : Identity → ℕ → ℕ → Reason → List ℕ
refused_line identity statement kept reason =
    log_line (codes "refused at " ++ identity_text identity ++ codes ", statement " ++ decimal statement ++ codes ", " ++ decimal kept ++ codes " kept: " ++ reason_text reason)

unfoldable pub no_tag_line : List ℕ → List ℕ
no_tag_line tag = log_line (codes "no changeset has the tag " ++ tag)

-- it has neither id nor author
abbrev pub has_file_alone : Identity → Bool
has_file_alone identity = (length identity.id == 0) && (length identity.author == 0)

-- a changeset; a mark that names none is its text alone
abbrev pub undoable_text : Identity → List ℕ
undoable_text identity = if has_file_alone identity then identity.file else identity_text identity

unfoldable pub not_reversible_line : Identity → List ℕ
not_reversible_line identity = log_line (codes "no rollback for " ++ undoable_text identity)

unfoldable pub not_writable_line : List ℕ → List ℕ
not_writable_line at = log_line (codes "cannot write " ++ at)

unfoldable pub damaged_line : ℕ → List ℕ
damaged_line at = said (codes "database damaged at " ++ decimal at)

unfoldable pub full_line : ℕ → ℕ → List ℕ
full_line used next = said (codes "database full: " ++ decimal used ++ codes " and " ++ decimal next ++ codes " bytes")

unfoldable pub busy_line : ℕ → List ℕ
busy_line session = said (codes "busy: session " ++ decimal session)

-- a held lock, with its mark where it has one
unfoldable pub unrecorded_log_line : Lock → List ℕ
unrecorded_log_line lock = option_map_or (λ mark. log_line (codes "unrecorded: " ++ mark_text mark)) (lock_mark lock) []

abbrev pub held_line : Lock → List ℕ
held_line lock = log_line (codes "locked by " ++ held_text lock)

unfoldable pub locked_lines : Lock → List ℕ
locked_lines lock = held_line lock ++ unrecorded_log_line lock

-- validation faults: two changesets of one identity, and a changeset whose row has another checksum
unfoldable pub twice_line : Identity → List ℕ
twice_line identity = log_line (codes "duplicate changeset " ++ identity_text identity)

unfoldable pub changed_line : Identity → List ℕ → List ℕ → List ℕ
changed_line identity was is = log_line (codes "checksum of " ++ identity_text identity ++ codes " was " ++ was ++ codes ", is " ++ is)

-- changelog faults: no such file, what is wrong with a file, a line of it, and a place in its tree
unfoldable pub no_file_line : List ℕ → List ℕ
no_file_line path = log_line (codes "changelog fault: no file " ++ path)

unfoldable pub file_fault_line : List ℕ → List ℕ → List ℕ
file_fault_line path what = log_line (codes "changelog fault: " ++ path ++ codes ": " ++ what)

unfoldable pub line_fault_line : List ℕ → ℕ → List ℕ
line_fault_line path line = log_line (codes "changelog fault: " ++ path ++ codes ": line " ++ decimal line)

unfoldable pub key_fault_line : List ℕ → List ℕ → List ℕ → List ℕ
key_fault_line path place rule = log_line (codes "changelog fault: " ++ path ++ codes ": " ++ place ++ codes ": " ++ rule)

unfoldable pub dialect_fault_line : List ℕ → List ℕ → Dialect → List ℕ
dialect_fault_line path place d = log_line (codes "changelog fault: " ++ path ++ codes ": " ++ place ++ codes ": not for " ++ dialect_text d)

-- What commands write to their output. Each line ends with a line feed.

-- `ran IDENTITY`, and the like for what else was done
unfoldable pub happened_line : Happened → List ℕ
happened_line happened = did_text happened.what ++ codes " " ++ identity_text happened.identity ++ codes "\n"

-- how many changesets that was done with
abbrev pub count_of : Did → List Happened → ℕ
count_of did all = count_by (λ happened. is_did did happened.what) all

-- update: the lines, and then their counts and how many changes were not fresh
unfoldable pub update_text : List Happened → ℕ → List ℕ
update_text all not_fresh =
    flat_map happened_line all
    ++ codes "update: " ++ decimal (count_of Ran all) ++ codes " ran, " ++ decimal (count_of RanAgain all) ++ codes " ran again, "
    ++ decimal (count_of Marked all) ++ codes " marked, " ++ decimal (count_of Skipped all) ++ codes " skipped, " ++ decimal not_fresh ++ codes " not fresh\n"

-- the three rollbacks
unfoldable pub rollback_text : List Happened → List ℕ
rollback_text all = flat_map happened_line all ++ codes "rollback: " ++ decimal (count_of RolledBack all) ++ codes " rolled back\n"

-- changelog-sync
unfoldable pub sync_text : List Happened → List ℕ
sync_text all = flat_map happened_line all ++ codes "changelog-sync: " ++ decimal (count_of Marked all) ++ codes " marked\n"

-- status: how many changesets are pending, and then each
unfoldable pub pending_line : Identity → List ℕ
pending_line identity = identity_text identity ++ codes "\n"

unfoldable pub status_text : List Identity → List ℕ
status_text pending = codes "pending: " ++ decimal (length pending) ++ codes "\n" ++ flat_map pending_line pending

-- history: for each row in run order its place, its moment, how it came to be and its changeset, and its tag where it has one
abbrev pub tracked_identity : Tracked → Identity
tracked_identity row = record { file = row.filename; id = row.id; author = row.author }

abbrev pub tag_behind : Option (List ℕ) → List ℕ
tag_behind (Some tag) = codes " tag " ++ tag
tag_behind None = []

unfoldable pub history_line : Tracked → List ℕ
history_line row =
    decimal row.order ++ codes " " ++ moment_text row.date ++ codes " " ++ exec_text row.exec ++ codes " "
    ++ identity_text (tracked_identity row) ++ tag_behind row.tag ++ codes "\n"

abbrev pub history_text : List Tracked → List ℕ
history_text rows = flat_map history_line rows

-- tag, and validate
abbrev pub tagged_text : List ℕ → List ℕ
tagged_text tag = codes "tagged " ++ tag ++ codes "\n"

abbrev pub validated_text : List ℕ
validated_text = codes "no validation faults\n"

-- clear-checksums: how many rows there are
abbrev pub cleared_text : ℕ → List ℕ
cleared_text count = codes "checksums cleared: " ++ decimal count ++ codes "\n"

-- snapshot: how long the state's entry is, or that none was needed
abbrev pub written_text : ℕ → List ℕ
written_text size = codes "snapshot written: " ++ decimal size ++ codes " bytes\n"

abbrev pub snapshot_text : ℕ → List ℕ
snapshot_text size = if size == 0 then codes "snapshot not needed\n" else written_text size

-- undo-unrecorded: the changeset, and how many of its statements were taken back
unfoldable pub undone_text : Identity → ℕ → List ℕ
undone_text identity count = codes "undone " ++ identity_text identity ++ codes ", " ++ decimal count ++ codes " statements\n"

-- update-sql and rollback-sql: for each changeset a heading, and then each statement's text and `;`
abbrev pub heading : Bool → List ℕ
heading undo = if undo then codes "-- Rollback " else codes "-- Changeset "

unfoldable pub statement_line : List ℕ → List ℕ
statement_line text = text ++ codes ";\n"

unfoldable pub printed_text : Bool → Printed → List ℕ
printed_text undo printed = heading undo ++ identity_text printed.identity ++ codes "\n" ++ flat_map statement_line printed.texts

unfoldable pub sql_text : Bool → List Printed → List ℕ
sql_text undo all = flat_map (printed_text undo) all

-- release-locks: the lock was free, or it was released, with its mark where it has one
unfoldable pub unrecorded_line : Lock → List ℕ
unrecorded_line lock = option_map_or (λ mark. codes "unrecorded: " ++ mark_text mark ++ codes "\n") (lock_mark lock) []

abbrev pub release_text : Option (Bor Lock) → List ℕ
release_text None = codes "lock free\n"
release_text (Some lock) = codes "lock released: held by " ++ held_text lock.now ++ codes "\n" ++ unrecorded_line lock.now

-- soak: after the update, and after the rollback
unfoldable pub soak_text : Soaked → List ℕ
soak_text of =
    codes "soak: " ++ decimal of.sets ++ codes " changesets, " ++ decimal of.entries ++ codes " entries, " ++ decimal of.bytes ++ codes " bytes, md5 " ++ of.sum ++ codes "\n"
    ++ codes "soak: " ++ decimal of.later ++ codes " entries, " ++ decimal of.rows ++ codes " rows, " ++ decimal of.tables ++ codes " tables\n"

-- drill: for each command line, counted from 1, the status that its command ended with, or that it did not end
abbrev pub ending_text : Option ℕ → List ℕ
ending_text (Some status) = codes ": status " ++ decimal status ++ codes "\n"
ending_text None = codes ": unfinished\n"

unfoldable pub drilled_line : ℕ → Drilled → List ℕ
drilled_line number drilled = decimal number ++ codes " " ++ command_word drilled.command ++ ending_text drilled.status

abbrev pub drilled_from : ℕ → List Drilled → List ℕ
drilled_from number [] = []
drilled_from number (drilled ∷ more) = drilled_line number drilled ++ drilled_from (number + 1) more

unfoldable pub drill_text : List Drilled → List ℕ
drill_text all = drilled_from 1 all
