-- What the status of a run says, from what its command did and how its texts were written.
use Rattle.std.proofs.Common.{ap, inl, inr, refl, subst, sym, ◌∙◌}
use Rattle.std.proofs.lemmas.List.{append-nil}
use Rattle.std.specs.Option.{option_map, option_or}
use Rattle.std.specs.Prelude.{Bool, Err, IfSome, List, None, Ok, Option, Result, Some, [], false, if◌then◌else◌, is_some, length, not, true, ℕ, ◌&&◌, ◌++◌, ◌∷◌, ◌≡◌, ◌⊎◌}
use Rattle.lq_base.specs.declared.command.Command.{Command}
use Rattle.lq_base.specs.declared.command.Command.TheVariants as command
use Rattle.lq_base.specs.declared.dialect.Dialect.{Dialect}
use Rattle.lq_base.specs.declared.identity.Identity.{Identity}
use Rattle.lq_base.specs.declared.run.Why.{Why}
use Rattle.lq_base.specs.declared.tracking.Lock.{Lock}
use Rattle.lq_base.specs.declared.tracking.Tracked.{Tracked}
use Rattle.lq_cli.specs.declared.line.Job.{Job}
use Rattle.lq_cli.specs.declared.line.Job.TheVariants.{Drill, History, RollbackSql, Run, Soak, UpdateCount, UpdateSql, UpdateTestingRollback, UpdateTo, Generate, ClearSums, UndoUnrecorded, Snapshot}
use Rattle.lq_commands.proofs.PlainRefusals.{IsNotFull, refusal_not_full, rehearsal_not_full, held_not_full}
use Rattle.lq_commands.specs.Rehearsal.{counted_in, after_update, bound_by, rehearsal_refusal, unrehearsed, updates as update_run}
use Rattle.lq_commands.specs.Refusals.{Answers, IsFault, ends, held, if_halts, if_not, if_some, invalid, own_halt, unreachable_by, unready, untagged}
use Rattle.lq_commands.specs.Scripts.{log_in, script, sets_in, update_script}
use Rattle.lq_commands.specs.Works.{is_finished}
use Rattle.lq_commands.specs.declared.given.Given.{Given}
use Rattle.lq_generate.specs.Faults.{fault_at}
use Rattle.lq_sources.specs.declared.fault.LoadFault.{LoadFault}
use Rattle.lq_sources.specs.declared.fault.LoadFault.TheVariants as load
use Rattle.lq_seen.specs.View.{any_meaning}
use Rattle.lq_tell.specs.Lines.{status_lines, warning_lines, log_text, stands_alone, warnings_of}
use Rattle.lq_model.specs.Sound.{IsSound}
use Rattle.lq_outside.specs.Forms.{IsPart}
use Rattle.lq_tell.specs.Texts.{EndsAs, has_output, out_of, status_done}
use Rattle.lq_tell.specs.declared.done.Done.{Done}
use Rattle.lq_tell.specs.declared.status.Status.{Status}
use Rattle.lq_tell.specs.declared.status.Status.TheVariants as status
use Rattle.lq_track.specs.Database.{Database}
use Rattle.lq_track.specs.Lock.{free}
use Rattle.lq_turns.specs.Deed.{Contents, contents_of}
use Rattle.lq_turns.specs.Faults.{faults}
use Rattle.lq_turns.specs.Script.{not_reversible, rows_kept, rows_undone, calls_unless, has_work}
use Rattle.lq_turns.specs.Session.{left_by as left_after}
use Rattle.lq_turns.specs.Settle.{Settled, all_settled, by_own, is_halt, own_choice}
use Rattle.lq_turns.specs.declared.call.Call.{Call}
use Rattle.lq_turns.specs.declared.choice.Choice.{Choice}
use Rattle.lq_turns.specs.declared.choice.Choice.TheVariants as choice
use Rattle.lq_turns.specs.declared.fault.Fault.{Fault}
use Rattle.lq_turns.specs.declared.stamp.Stamp.{Stamp}
use Rattle.lq_turns.specs.declared.stop.Stop.{Stop}
use Rattle.lq_turns.specs.declared.stop.Stop.TheVariants.{Halted}
use Rattle.lq_jobs.proofs.InPart.{command_on_file, loaded_command, runs_command, same_dialect}
use Rattle.lq_jobs.proofs.Kept.{restores, syncs, updates}
use Rattle.lq_jobs.proofs.OnFiles.{by_end}
use Rattle.lq_jobs.proofs.OpensAgain.{opens_after, opens_left, opens_same}
use Rattle.lq_jobs.proofs.Unchanged.{becomes_left, becomes_same, left_same}
use Rattle.lq_jobs.specs.Asks.{Asks, Files, file_status}
use Rattle.lq_jobs.specs.Bytes.{Becomes, HadRoomOn, IsLeftOn, OnFile, Opens, RestsFullOn, SaysFullOn, TellsDamage}
use Rattle.lq_jobs.specs.Headline.{GoesBack, GoneBack, HasSynced, HasUpdated}
use Rattle.lq_jobs.specs.Jobs.{DoesJob, DoesLine, IsLoaded, goes_on, is_no_target, is_on_file, is_own, job_calls, job_refusal, job_script, misses}
use Rattle.lq_jobs.specs.Kinds.{IsNotLoaded, IsOfFiles, IsOfWords, is_unwritten}
use Rattle.lq_jobs.specs.Run.{EndsBy, EndsInVain, EndsUnread, IsDamage, IsLogged, IsLoggedInPart, IsOutside, IsUnread, MayWarn, Runs, RunsJob, given_by, is_end, is_over}
use Rattle.lq_jobs.specs.Worked.{InVain, has_missed}

pub false_true : false ≡ true → ⊥
false_true h = Prim.cc

true_false : true ≡ false → ⊥
true_false h = Prim.cc

pub none_some : {s : Status} → (let o : Option Status = None in o) ≡ Some s → ⊥
none_some h = Prim.cc

read_full : {used next : ℕ} → status.ReadFault ≡ status.Full used next → ⊥
read_full h = Prim.cc

disk_full : {used next : ℕ} → status.DiskFault ≡ status.Full used next → ⊥
disk_full h = Prim.cc

pub memory_full : {used next : ℕ} → status.OutOfMemory ≡ status.Full used next → ⊥
memory_full h = Prim.cc

pub write_full : {used next : ℕ} → status.WriteFault ≡ status.Full used next → ⊥
write_full h = Prim.cc

pub some_same : {a b : Status} → (let o : Option Status = Some a in o) ≡ Some b → a ≡ b
some_same h = Prim.cc

either : {A B C : Type 0} → (A → C) → (B → C) → A ⊎ B → C
either f g (inl a) = f a
either f g (inr b) = g b

abbrev failing : Status → Result Done Status
failing s = Err s

-- statuses

over_finished : (s : Status) → is_unwritten s ≡ true → is_over s ≡ true → is_finished s ≡ true
over_finished status.Done un over = over
over_finished status.Usage un over = over
over_finished status.ReadFault un over = over
over_finished (status.Changelog fault) un over = over
over_finished (status.Invalid faults) un over = over
over_finished (status.Locked lock) un over = over
over_finished (status.Halted place why) un over = over
over_finished (status.Refused identity statement kept reason) un over = over
over_finished status.NoTarget un over = over
over_finished (status.NotReversible identity) un over = over
over_finished status.NothingToUndo un over = over
over_finished (status.NotWritable at) un over = over
over_finished status.DiskFault un over = over
over_finished (status.Damaged at) un over = over
over_finished (status.Full used next) un over = over
over_finished status.WriteFault un over = absurd (false_true un)
over_finished status.OutOfMemory un over = over
over_finished (status.Busy session) un over = over

output_finished : (s : Status) → has_output s ≡ true → is_finished s ≡ true
output_finished status.Done has = has
output_finished status.Usage has = has
output_finished status.ReadFault has = has
output_finished (status.Changelog fault) has = has
output_finished (status.Invalid faults) has = has
output_finished (status.Locked lock) has = has
output_finished (status.Halted place why) has = refl
output_finished (status.Refused identity statement kept reason) has = has
output_finished status.NoTarget has = has
output_finished (status.NotReversible identity) has = has
output_finished status.NothingToUndo has = has
output_finished (status.NotWritable at) has = has
output_finished status.DiskFault has = has
output_finished (status.Damaged at) has = has
output_finished (status.Full used next) has = has
output_finished status.WriteFault has = has
output_finished status.OutOfMemory has = has
output_finished (status.Busy session) has = has

ends_so : (s : Status) → ends s ≡ true → is_end s ≡ true
ends_so status.Done is = is
ends_so status.Usage is = is
ends_so status.ReadFault is = is
ends_so (status.Changelog fault) is = is
ends_so (status.Invalid faults) is = is
ends_so (status.Locked lock) is = is
ends_so (status.Halted place why) is = refl
ends_so (status.Refused identity statement kept reason) is = is
ends_so status.NoTarget is = is
ends_so (status.NotReversible identity) is = is
ends_so status.NothingToUndo is = is
ends_so (status.NotWritable at) is = is
ends_so status.DiskFault is = is
ends_so (status.Damaged at) is = is
ends_so (status.Full used next) is = is
ends_so status.WriteFault is = refl
ends_so status.OutOfMemory is = is
ends_so (status.Busy session) is = is

ends_unwritten : (s : Status) → ends s ≡ true → is_unwritten s ≡ true
ends_unwritten status.Done is = refl
ends_unwritten status.Usage is = refl
ends_unwritten status.ReadFault is = refl
ends_unwritten (status.Changelog fault) is = refl
ends_unwritten (status.Invalid faults) is = refl
ends_unwritten (status.Locked lock) is = refl
ends_unwritten (status.Halted place why) is = refl
ends_unwritten (status.Refused identity statement kept reason) is = refl
ends_unwritten status.NoTarget is = refl
ends_unwritten (status.NotReversible identity) is = refl
ends_unwritten status.NothingToUndo is = refl
ends_unwritten (status.NotWritable at) is = refl
ends_unwritten status.DiskFault is = refl
ends_unwritten (status.Damaged at) is = refl
ends_unwritten (status.Full used next) is = refl
ends_unwritten status.WriteFault is = is
ends_unwritten status.OutOfMemory is = refl
ends_unwritten (status.Busy session) is = refl

-- which is the command's own, and has one cause
abbrev is_caused : Status → Bool
is_caused status.Usage = true
is_caused status.ReadFault = true
is_caused (status.Changelog fault) = true
is_caused status.DiskFault = true
is_caused (status.Damaged at) = true
is_caused status.NoTarget = true
is_caused s = false

caused_not_ends : (s : Status) → is_caused s ≡ true → ends s ≡ true → ⊥
caused_not_ends status.Done caused is = false_true caused
caused_not_ends status.Usage caused is = false_true is
caused_not_ends status.ReadFault caused is = false_true is
caused_not_ends (status.Changelog fault) caused is = false_true is
caused_not_ends (status.Invalid faults) caused is = false_true is
caused_not_ends (status.Locked lock) caused is = false_true is
caused_not_ends (status.Halted place why) caused is = false_true caused
caused_not_ends (status.Refused identity statement kept reason) caused is = false_true caused
caused_not_ends status.NoTarget caused is = false_true is
caused_not_ends (status.NotReversible identity) caused is = false_true is
caused_not_ends status.NothingToUndo caused is = false_true is
caused_not_ends (status.NotWritable at) caused is = false_true is
caused_not_ends status.DiskFault caused is = false_true is
caused_not_ends (status.Damaged at) caused is = false_true is
caused_not_ends (status.Full used next) caused is = false_true caused
caused_not_ends status.WriteFault caused is = false_true is
caused_not_ends status.OutOfMemory caused is = false_true is
caused_not_ends (status.Busy session) caused is = false_true is

file_unwritten : (f : LoadFault) → is_unwritten (file_status f) ≡ true
file_unwritten load.Read = refl
file_unwritten (load.NoFile text) = refl
file_unwritten (load.Xml text) = refl
file_unwritten (load.Fault path what) = refl
file_unwritten (load.TooDeep text) = refl
file_unwritten load.TooMany = refl
file_unwritten (load.TooLong text) = refl
file_unwritten load.OutOfMemory = refl

unwritten : (done : Result Done Status) → IsOfWords done → is_unwritten (status_done done) ≡ true
unwritten (Ok done) kind = ends_unwritten done.status kind
unwritten (Err s) kind = kind

not_write : (s : Status) → is_unwritten s ≡ true → s ≡ status.WriteFault → ⊥
not_write s is fault = false_true (sym (ap is_unwritten fault) ∙ is)

-- how its texts were written
pub record IsWritten (done : Result Done Status) (s : Status) : Type 0 where
  pub kind : IsOfWords done
  pub ended : EndsAs (status_done done) s
  pub cut : s ≡ status.WriteFault → (status_done done ≡ status.WriteFault) ⊎ (has_output (status_done done) ≡ true)
  pub had : s ≡ status.WriteFault → (status_done done ≡ status.WriteFault) ⊎ (is_some (out_of done) ≡ true)

finished_by : (x : Status) → is_unwritten x ≡ true → (x ≡ status.WriteFault) ⊎ (has_output x ≡ true) → is_finished x ≡ true
finished_by x un (inl is) = absurd (not_write x un is)
finished_by x un (inr has) = output_finished x has

over_by : (x s : Status) → is_unwritten x ≡ true → EndsAs x s → (s ≡ status.WriteFault → (x ≡ status.WriteFault) ⊎ (has_output x ≡ true)) → is_over s ≡ true → is_finished x ≡ true
over_by x s un (inl is) cut over = over_finished x un (sym (ap is_over is) ∙ over)
over_by x s un (inr (inl is)) cut over = absurd (false_true (sym (ap is_over is) ∙ over))
over_by x s un (inr (inr is)) cut over = finished_by x un (cut is)

pub was_over : (done : Result Done Status) (s : Status) → IsWritten done s → is_over s ≡ true → is_finished (status_done done) ≡ true
was_over done s by over = over_by (status_done done) s (unwritten done by.kind) by.ended by.cut over

-- a command that failed has no text, so that its output did not fail
no_text : (x : Status) → is_unwritten x ≡ true → (x ≡ status.WriteFault) ⊎ (false ≡ true) → ⊥
no_text x un (inl is) = not_write x un is
no_text x un (inr had) = false_true had

err_by : (x s : Status) → is_unwritten x ≡ true → EndsAs x s → (s ≡ status.WriteFault → (x ≡ status.WriteFault) ⊎ (false ≡ true)) → (s ≡ x) ⊎ (s ≡ status.OutOfMemory)
err_by x s un (inl is) had = inl is
err_by x s un (inr (inl is)) had = inr is
err_by x s un (inr (inr is)) had = absurd (no_text x un (had is))

err_ends : (x s : Status) → IsWritten (Err x) s → (s ≡ x) ⊎ (s ≡ status.OutOfMemory)
err_ends x s by = err_by x s by.kind by.ended by.had

pub failed_ends : (done : Result Done Status) (x s : Status) → IsWritten done s → done ≡ Err x → (s ≡ x) ⊎ (s ≡ status.OutOfMemory)
failed_ends done x s by is = err_ends x s (subst (λ r. IsWritten r s) is by)

-- a status that has one cause

caused_by : (done : Result Done Status) (x : Status) → IsOfWords done → is_caused x ≡ true → status_done done ≡ x → done ≡ Err x
caused_by (Ok done) x kind caused is = absurd (caused_not_ends x caused (sym (ap ends is) ∙ kind))
caused_by (Err y) x kind caused is = ap failing is

cause_by : (done : Result Done Status) (s x : Status) → IsOfWords done → is_caused x ≡ true → s ≡ x → EndsAs (status_done done) s → done ≡ Err x
cause_by done s x kind caused is (inl same) = caused_by done x kind caused (sym same ∙ is)
cause_by done s x kind caused is (inr (inl memory)) = absurd (false_true (ap is_caused (sym memory ∙ is) ∙ caused))
cause_by done s x kind caused is (inr (inr write)) = absurd (false_true (ap is_caused (sym write ∙ is) ∙ caused))

pub cause : (done : Result Done Status) (s x : Status) → IsWritten done s → is_caused x ≡ true → s ≡ x → done ≡ Err x
cause done s x by caused is = cause_by done s x by.kind caused is by.ended

pub written_fault : {A : Type 0} (done : Result Done Status) → IsOfWords done → (status_done done ≡ status.WriteFault) ⊎ A → A
written_fault done kind (inl is) = absurd (not_write (status_done done) (unwritten done kind) is)
written_fault done kind (inr a) = a

pub tells_damage : (d : Dialect) (told : Option (List ℕ)) (done : Result Done Status) (s : Status) → IsWritten done s → TellsDamage d told done → IsDamage d told s
tells_damage d told done status.Done by damaged = tt
tells_damage d told done status.Usage by damaged = tt
tells_damage d told done status.ReadFault by damaged = tt
tells_damage d told done (status.Changelog fault) by damaged = tt
tells_damage d told done (status.Invalid faults) by damaged = tt
tells_damage d told done (status.Locked lock) by damaged = tt
tells_damage d told done (status.Halted place why) by damaged = tt
tells_damage d told done (status.Refused identity statement kept reason) by damaged = tt
tells_damage d told done status.NoTarget by damaged = tt
tells_damage d told done (status.NotReversible identity) by damaged = tt
tells_damage d told done status.NothingToUndo by damaged = tt
tells_damage d told done (status.NotWritable at) by damaged = tt
tells_damage d told done status.DiskFault by damaged = tt
tells_damage d told done (status.Damaged at) by damaged = subst (TellsDamage d told) (cause done (status.Damaged at) (status.Damaged at) by refl refl) damaged
tells_damage d told done (status.Full used next) by damaged = tt
tells_damage d told done status.WriteFault by damaged = tt
tells_damage d told done status.OutOfMemory by damaged = tt
tells_damage d told done (status.Busy session) by damaged = tt

-- a fault of the files
pub no_files_left : {A : Type 0} (done : Result Done Status) (s : Status) → IsWritten done s → IsUnread s → (done ≡ Err status.Usage → A) → (IsOfFiles done → A) → A
no_files_left done status.Done by unread usage files = absurd unread
no_files_left done status.Usage by unread usage files = usage (cause done status.Usage status.Usage by refl refl)
no_files_left done status.ReadFault by unread usage files = files (subst IsOfFiles (sym (cause done status.ReadFault status.ReadFault by refl refl)) tt)
no_files_left done (status.Changelog fault) by unread usage files = files (subst IsOfFiles (sym (cause done (status.Changelog fault) (status.Changelog fault) by refl refl)) tt)
no_files_left done (status.Invalid faults) by unread usage files = absurd unread
no_files_left done (status.Locked lock) by unread usage files = absurd unread
no_files_left done (status.Halted place why) by unread usage files = absurd unread
no_files_left done (status.Refused identity statement kept reason) by unread usage files = absurd unread
no_files_left done status.NoTarget by unread usage files = absurd unread
no_files_left done (status.NotReversible identity) by unread usage files = absurd unread
no_files_left done status.NothingToUndo by unread usage files = absurd unread
no_files_left done (status.NotWritable at) by unread usage files = absurd unread
no_files_left done status.DiskFault by unread usage files = absurd unread
no_files_left done (status.Damaged at) by unread usage files = absurd unread
no_files_left done (status.Full used next) by unread usage files = absurd unread
no_files_left done status.WriteFault by unread usage files = absurd unread
no_files_left done status.OutOfMemory by unread usage files = absurd unread
no_files_left done (status.Busy session) by unread usage files = absurd unread

pub ends_unread : (fault : LoadFault) (done : Result Done Status) (s : Status) → IsWritten done s → IsNotLoaded fault done → EndsUnread fault s
ends_unread fault done s by (inl is) = either (λ same. inl same) (λ memory. inr (inr memory)) (failed_ends done (file_status fault) s by is)
ends_unread fault done s by (inr (inl is)) = either (λ same. inr (inl same)) (λ memory. inr (inr memory)) (failed_ends done status.ReadFault s by is)
ends_unread fault done s by (inr (inr is)) = either (λ same. inr (inr same)) (λ memory. inr (inr memory)) (failed_ends done status.OutOfMemory s by is)

-- one that had no part of its changelog to run

is_target : (s : Status) → is_no_target s ≡ true → s ≡ status.NoTarget
is_target status.NoTarget is = refl
is_target status.Done is = absurd (false_true is)
is_target status.Usage is = absurd (false_true is)
is_target status.ReadFault is = absurd (false_true is)
is_target (status.Changelog fault) is = absurd (false_true is)
is_target (status.Invalid faults) is = absurd (false_true is)
is_target (status.Locked lock) is = absurd (false_true is)
is_target (status.Halted place why) is = absurd (false_true is)
is_target (status.Refused identity statement kept reason) is = absurd (false_true is)
is_target (status.NotReversible identity) is = absurd (false_true is)
is_target status.NothingToUndo is = absurd (false_true is)
is_target (status.NotWritable at) is = absurd (false_true is)
is_target status.DiskFault is = absurd (false_true is)
is_target (status.Damaged at) is = absurd (false_true is)
is_target (status.Full used next) is = absurd (false_true is)
is_target status.WriteFault is = absurd (false_true is)
is_target status.OutOfMemory is = absurd (false_true is)
is_target (status.Busy session) is = absurd (false_true is)

first_of : (a b : Bool) → (a && b) ≡ true → a ≡ true
first_of true b both = refl
first_of false b both = both

pub had_missed : (job : Job) (done : Result Done Status) (s : Status) → IsWritten done s → misses job s ≡ true → has_missed job done ≡ true
had_missed job done s by missed =
    let is = is_target s (first_of (is_no_target s) (goes_on job) missed) in
    ap (has_missed job) (cause done s status.NoTarget by refl is) ∙ (ap (misses job) (sym is) ∙ missed)

pub ends_in_vain : {D : Type 0} (done : Result Done Status) (s : Status) → IsWritten done s → (before after : D) → InVain done before after → EndsInVain s before after
ends_in_vain done s by before after (inl is, same) = (either (λ target. inl target) (λ memory. inr (inr memory)) (failed_ends done status.NoTarget s by is), same)
ends_in_vain done s by before after (inr (inl is), same) = (either (λ read. inr (inl read)) (λ memory. inr (inr memory)) (failed_ends done status.ReadFault s by is), same)
ends_in_vain done s by before after (inr (inr is), same) = (either (λ memory. inr (inr memory)) (λ memory. inr (inr memory)) (failed_ends done status.OutOfMemory s by is), same)

pub no_words : (done : Result Done Status) (s : Status) → IsWritten done s → (done ≡ Err status.Usage) ⊎ (done ≡ Err status.OutOfMemory) → (s ≡ status.Usage) ⊎ (s ≡ status.OutOfMemory)
no_words done s by (inl is) = failed_ends done status.Usage s by is
no_words done s by (inr is) = either (λ same. inr same) (λ memory. inr memory) (failed_ends done status.OutOfMemory s by is)

-- how a run ends

pub outside_ends : (r : Option Status) (s : Status) → IsOutside s → EndsBy r s
outside_ends None s out = inr out
outside_ends (Some refused) s out = inr out

fault_outside : (x s : Status) → s ≡ x → IsFault x → IsOutside s
fault_outside x s is (inl disk) = inr (inl (is ∙ disk))
fault_outside x s is (inr memory) = inr (inr (is ∙ memory))

of_fault : (x s : Status) → IsFault x → (s ≡ x) ⊎ (s ≡ status.OutOfMemory) → IsOutside s
of_fault x s fault (inl is) = fault_outside x s is fault
of_fault x s fault (inr memory) = inr (inr memory)

by_refused : (refused x s : Status) → (x ≡ refused) ⊎ IsFault x → (s ≡ x) ⊎ (s ≡ status.OutOfMemory) → (s ≡ refused) ⊎ IsOutside s
by_refused refused x s (inl same) (inl is) = inl (is ∙ same)
by_refused refused x s (inr fault) (inl is) = inr (fault_outside x s is fault)
by_refused refused x s (inl same) (inr memory) = inr (inr (inr memory))
by_refused refused x s (inr fault) (inr memory) = inr (inr (inr memory))

ok_ends : (x s : Status) → ends x ≡ true → EndsAs x s → (is_end s ≡ true) ⊎ IsOutside s
ok_ends x s is (inl same) = inl (ap is_end same ∙ ends_so x is)
ok_ends x s is (inr (inl memory)) = inr (inr (inr memory))
ok_ends x s is (inr (inr write)) = inl (ap is_end write)

pub ends_by : (r : Option Status) (done : Result Done Status) (s : Status) → IsWritten done s → Answers r done → EndsBy r s
ends_by None (Ok done) s by answers = ok_ends done.status s answers by.ended
ends_by None (Err x) s by answers = inr (of_fault x s answers (err_ends x s by))
ends_by (Some refused) (Ok done) s by answers = absurd answers
ends_by (Some refused) (Err x) s by answers = by_refused refused x s answers (err_ends x s by)

-- what it is refused for, but where the changelog's own condition halts, is no end

abbrev pub Quiet : Option Status → Type 0
Quiet o = IfSome o (λ s. is_finished s ≡ false)

pub quiet_not : (s : Status) (o : Option Status) → Quiet o → o ≡ Some s → is_finished s ≡ true → ⊥
quiet_not s o quiet is finished = true_false (sym finished ∙ subst Quiet is quiet)

pub quiet_or : (a b : Option Status) → Quiet a → Quiet b → Quiet (option_or a b)
quiet_or None b first second = second
quiet_or (Some refused) b first second = first

quiet_lock : (b : Bool) (lock : Lock) → Quiet (if b then Some (status.Locked lock) else None)
quiet_lock true lock = refl
quiet_lock false lock = tt

pub quiet_held : (database : Database) → Quiet (held database)
quiet_held database = quiet_lock database.lock.locked database.lock

quiet_some : (xs : List Fault) → Quiet (if_some xs)
quiet_some [] = tt
quiet_some (x ∷ xs) = refl

pub quiet_invalid : (given : Given) (rows : List Tracked) → Quiet (invalid given rows)
quiet_invalid given rows = quiet_some (faults (sets_in given) rows)

pub quiet_unready : (given : Given) (database : Database) → Quiet (unready given database)
quiet_unready given database = quiet_or (held database) (invalid given database.rows) (quiet_held database) (quiet_invalid given database.rows)

pub quiet_untagged : (rows : List Tracked) → Quiet (untagged rows)
quiet_untagged [] = refl
quiet_untagged (row ∷ rows) = tt

pub quiet_generate : (o : Option (List ℕ)) → Quiet (option_map status.NotWritable o)
quiet_generate None = tt
quiet_generate (Some at) = refl

quiet_if_not : (o : Option Identity) → Quiet (if_not o)
quiet_if_not None = tt
quiet_if_not (Some of) = refl

pub quiet_way : (given : Given) (o : Option ℕ) (rows : List Tracked) → Quiet (unreachable_by given o rows)
quiet_way given None rows = refl
quiet_way given (Some stay) rows = quiet_if_not (not_reversible given.options.dialect any_meaning (sets_in given) (rows_undone stay rows))

-- what is refused in such a way is refused by the changelog's own precondition

pub halted_is : (o h : Option Status) (x : Status) → Quiet o → option_or o h ≡ Some x → is_finished x ≡ true → h ≡ Some x
halted_is None h x quiet is finished = is
halted_is (Some refused) h x quiet is finished = absurd (quiet_not x (Some refused) quiet is finished)

-- so is a rehearsal
pub own_only : (given : Given) (database : Database) (x : Status) → rehearsal_refusal given database ≡ Some x → is_finished x ≡ true → own_halt given database ≡ Some x
own_only given database x is finished =
    halted_is (unrehearsed given database.rows) (own_halt given database) x (quiet_if_not (bound_by given database.rows))
    (halted_is (unready given database) (option_or (unrehearsed given database.rows) (own_halt given database)) x (quiet_unready given database) is finished) finished

halted_stop : (by : Choice) (x : Status) → if_halts by ≡ Some x → (c : Contents) (t : Settled) → (stop : Stop) × ((by_own by c t).stop ≡ Some stop)
halted_stop (choice.Halts why) x is c t = (Halted None why, refl)
halted_stop choice.Passes x is c t = absurd (none_some is)
halted_stop choice.Fills x is c t = absurd (none_some is)
halted_stop choice.Skips x is c t = absurd (none_some is)
halted_stop (choice.Marks what) x is c t = absurd (none_some is)
halted_stop (choice.Runs what why) x is c t = absurd (none_some is)

-- then its update is its last run
pub only_run : (given : Given) (database : Database) (x : Status) → own_halt given database ≡ Some x → (stop : Stop) × (((update_run given).told database).stop ≡ Some stop)
only_run given database x is =
    let c = contents_of database in
    halted_stop (own_choice (log_in given) c) x is c (all_settled given.options.dialect any_meaning given.stamp.reading (sets_in given) c)

own_halts : (o : Option Status) (c : Choice) (s : Status) → Quiet o → option_or o (if_halts c) ≡ Some s → is_finished s ≡ true → is_halt c ≡ true
own_halts (Some refused) c s quiet is finished = absurd (quiet_not s (Some refused) quiet is finished)
own_halts None (choice.Halts why) s quiet is finished = refl
own_halts None choice.Passes s quiet is finished = absurd (none_some is)
own_halts None choice.Fills s quiet is finished = absurd (none_some is)
own_halts None choice.Skips s quiet is finished = absurd (none_some is)
own_halts None (choice.Marks what) s quiet is finished = absurd (none_some is)
own_halts None (choice.Runs what why) s quiet is finished = absurd (none_some is)

no_turns : (b h : Bool) (calls : List Call) → h ≡ true → (if b && not h then calls else []) ≡ []
no_turns true true calls is = refl
no_turns true false calls is = absurd (false_true is)
no_turns false h calls is = refl

no_script : (c : Command) (given : Given) (database : Database) (s : Status) → job_refusal (Run c) given database ≡ Some s → is_finished s ≡ true → job_script (Run c) given database ≡ []
no_script command.Validate given database s is finished = refl
no_script command.Status given database s is finished = refl
no_script command.Update given database s is finished =
    no_turns (has_work (sets_in given) database.rows) (is_halt (own_choice (log_in given) (contents_of database))) _
    (own_halts (unready given database) (own_choice (log_in given) (contents_of database)) s (quiet_unready given database) is finished)
no_script (command.Tag name) given database s is finished =
    absurd (quiet_not s _ (quiet_or (held database) (untagged database.rows) (quiet_held database) (quiet_untagged database.rows)) is finished)
no_script (command.Rollback target) given database s is finished =
    absurd (quiet_not s _ (quiet_or (unready given database) (unreachable_by given (rows_kept target database.rows) database.rows) (quiet_unready given database) (quiet_way given (rows_kept target database.rows) database.rows)) is finished)
no_script command.Sync given database s is finished = absurd (quiet_not s _ (quiet_unready given database) is finished)
no_script command.Release given database s is finished = absurd (none_some is)

no_job_script : (job : Job) (given : Given) (database : Database) (s : Status) → job_refusal job given database ≡ Some s → is_finished s ≡ true → job_script job given database ≡ []
no_job_script (Run c) given database s is finished = no_script c given database s is finished
no_job_script (UpdateCount count) given database s is finished = no_script command.Update (counted_in count given database.rows) database s is finished
no_job_script (UpdateTo tag) given database s is finished = no_script command.Update given database s is finished
no_job_script UpdateTestingRollback given database s is finished =
    let halts = own_only given database s is finished in
    let stop = only_run given database s halts in
    let d = given.options.dialect in
    let more = (after_update given (length database.rows)).calls (left_after d (update_script given database) database) in
    ap (λ (o : Option Stop). update_script given database ++ calls_unless o more) stop.1 ∙ append-nil (update_script given database)
    ∙ no_turns (has_work (sets_in given) database.rows) (is_halt (own_choice (log_in given) (contents_of database))) _ (own_halts None (own_choice (log_in given) (contents_of database)) s tt halts finished)
no_job_script ClearSums given database s is finished = absurd (quiet_not s (held database) (quiet_held database) is finished)
no_job_script History given database s is finished = refl
no_job_script (Generate author) given database s is finished = refl
no_job_script UpdateSql given database s is finished = refl
no_job_script (RollbackSql target) given database s is finished = refl
no_job_script (Drill path) given database s is finished = refl
no_job_script (Soak number sets) given database s is finished = refl
no_job_script UndoUnrecorded given database s is finished = refl
no_job_script Snapshot given database s is finished = refl

-- what it leaves

fault_finished : (x : Status) → IsFault x → is_finished x ≡ true → ⊥
fault_finished x (inl is) finished = false_true (sym (ap is_finished is) ∙ finished)
fault_finished x (inr is) finished = false_true (sym (ap is_finished is) ∙ finished)

pub refused_for : (r : Option Status) (x : Status) → Answers r (Err x) → is_finished x ≡ true → r ≡ Some x
refused_for None x fault finished = absurd (fault_finished x fault finished)
refused_for (Some refused) x (inl is) finished = ap Some (sym is)
refused_for (Some refused) x (inr fault) finished = absurd (fault_finished x fault finished)

becomes_by : (job : Job) (given : Given) (database : Database) (before : Option (List ℕ)) (done : Result Done Status) (after : Option (List ℕ)) → Opens given.options.dialect before database
    → DoesJob job given database before done after → is_finished (status_done done) ≡ true → Becomes given.options.dialect (job_script job given database) database before after
becomes_by job given database before (Ok done) after opens does finished = does.works.0 finished
becomes_by job given database before (Err x) after opens does finished =
    let cause_is = refused_for (job_refusal job given database) x does.answers finished in
    subst (λ calls. Becomes given.options.dialect calls database before after) (sym (no_job_script job given database x cause_is finished))
    (becomes_same given.options.dialect database before after opens (does.refused (ap is_some cause_is)))

-- which is what a stop may leave, however it ended
left_by : (job : Job) (given : Given) (database : Database) (before : Option (List ℕ)) (done : Result Done Status) (after : Option (List ℕ)) → DoesJob job given database before done after
    → IsLeftOn given.options.dialect (job_script job given database) database before after
left_by job given database before (Ok done) after does =
    by_end (is_finished done.status) (λ finished. becomes_left given.options.dialect (job_script job given database) database before after (does.works.0 finished)) does.works.1
left_by job given database before (Err x) after does = does.works

abbrev pub Failed : Result Done Status → Type 0
Failed done = (done ≡ Err status.ReadFault) ⊎ (done ≡ Err status.OutOfMemory)

pub failed_unfinished : (done : Result Done Status) → Failed done → is_finished (status_done done) ≡ true → ⊥
failed_unfinished done (inl is) finished = false_true (sym (ap (λ r. is_finished (status_done r)) is) ∙ finished)
failed_unfinished done (inr is) finished = false_true (sym (ap (λ r. is_finished (status_done r)) is) ∙ finished)

pub failed_outside : (done : Result Done Status) (s : Status) → IsWritten done s → Failed done → IsOutside s
failed_outside done s by (inl is) = either (λ same. inl same) (λ memory. inr (inr memory)) (failed_ends done status.ReadFault s by is)
failed_outside done s by (inr is) = either (λ same. inr (inr same)) (λ memory. inr (inr memory)) (failed_ends done status.OutOfMemory s by is)

pub outside_not_full : (s : Status) → IsOutside s → IsNotFull s
outside_not_full s (inl read) used next is = read_full (sym read ∙ is)
outside_not_full s (inr (inl disk)) used next is = disk_full (sym disk ∙ is)
outside_not_full s (inr (inr memory)) used next is = memory_full (sym memory ∙ is)

fault_not_full : (s : Status) → IsFault s → IsNotFull s
fault_not_full s (inl disk) used next is = disk_full (sym disk ∙ is)
fault_not_full s (inr memory) used next is = memory_full (sym memory ∙ is)

pub err_not_full : (o : Option Status) (s : Status) → IfSome o IsNotFull → Answers o (Err s) → IsNotFull s
err_not_full None s never fault = fault_not_full s fault
err_not_full (Some refused) s never (inl same) = λ used next is. never used next (sym same ∙ is)
err_not_full (Some refused) s never (inr fault) = fault_not_full s fault

generate_not_full : (o : Option (List ℕ)) → IfSome (option_map status.NotWritable o) IsNotFull
generate_not_full None = tt
generate_not_full (Some at) = λ used next is. Prim.cc

-- what is printed is refused as its command is where the lock is free
job_not_full : (job : Job) (given : Given) (database : Database) → IfSome (job_refusal job given database) IsNotFull
job_not_full (Run c) given database = refusal_not_full given c database
job_not_full (UpdateCount count) given database = refusal_not_full (counted_in count given database.rows) command.Update database
job_not_full (UpdateTo tag) given database = refusal_not_full given command.Update database
job_not_full UpdateTestingRollback given database = rehearsal_not_full given database
job_not_full ClearSums given database = held_not_full database
job_not_full History given database = tt
job_not_full (Generate author) given database = generate_not_full (fault_at given.options.dialect author database.users)
job_not_full UpdateSql given database = refusal_not_full given command.Update (record database { lock = free })
job_not_full (RollbackSql target) given database = refusal_not_full given (command.Rollback target) (record database { lock = free })
job_not_full (Drill path) given database = tt
job_not_full (Soak number sets) given database = tt
job_not_full UndoUnrecorded given database = tt
job_not_full Snapshot given database = tt

-- how full a full journal was is told by the status of the run
full_by : (job : Job) (given : Given) (database : Database) (before : Option (List ℕ)) (done : Result Done Status) (after : Option (List ℕ)) (s : Status) → EndsAs (status_done done) s → DoesJob job given database before done after
    → SaysFullOn given.options.dialect (job_calls job given database) database before s
full_by job given database before (Ok ended) after s (inl same) does = λ used next is. does.full used next (sym same ∙ is)
full_by job given database before (Err x) after s (inl same) does = λ used next is. absurd (err_not_full (job_refusal job given database) x (job_not_full job given database) does.answers used next (sym same ∙ is))
full_by job given database before done after s (inr (inl memory)) does = λ used next is. absurd (memory_full (sym memory ∙ is))
full_by job given database before done after s (inr (inr write)) does = λ used next is. absurd (write_full (sym write ∙ is))

-- and so it leaves the file
rests_by : (job : Job) (given : Given) (database : Database) (before : Option (List ℕ)) (done : Result Done Status) (after : Option (List ℕ)) (s : Status) → EndsAs (status_done done) s → DoesJob job given database before done after
    → is_own job ≡ true → RestsFullOn given.options.dialect (job_script job given database) database before s after
rests_by job given database before (Ok ended) after s (inl same) does own = λ used next is. does.rests own used next (sym same ∙ is)
rests_by job given database before (Err x) after s (inl same) does own = λ used next is. absurd (err_not_full (job_refusal job given database) x (job_not_full job given database) does.answers used next (sym same ∙ is))
rests_by job given database before done after s (inr (inl memory)) does own = λ used next is. absurd (memory_full (sym memory ∙ is))
rests_by job given database before done after s (inr (inr write)) does own = λ used next is. absurd (write_full (sym write ∙ is))

-- what no check refused had room for each entry where it came to its end
room_by : (job : Job) (given : Given) (database : Database) (before : Option (List ℕ)) (done : Result Done Status) (after : Option (List ℕ)) → DoesJob job given database before done after → job_refusal job given database ≡ None
    → is_finished (status_done done) ≡ true → HadRoomOn given.options.dialect (job_calls job given database) database before
room_by job given database before (Ok ended) after does passes finished = does.room finished
room_by job given database before (Err x) after does passes finished = absurd (none_some (sym passes ∙ refused_for (job_refusal job given database) x does.answers finished))

abbrev pub Does : Job → Given → Database → Option (List ℕ) → Result Done Status → Option (List ℕ) → Type 0
Does job given database before done after = (Failed done × (after ≡ before)) ⊎ (IsLoaded given.options.dialect given.changelog × DoesJob job given database before done after)

module _ (job : Job) (given : Given) (before : Option (List ℕ)) (done : Result Done Status) (after : Option (List ℕ)) (s : Status) (by : IsWritten done s) where
  runs_by : (database : Database) → Opens given.options.dialect before database → Does job given database before done after → RunsJob job given database before s after
  runs_by database opens (inl (failed, same)) = record {
    ends = outside_ends (job_refusal job given database) s (failed_outside done s by failed);
    refused = λ some. same;
    reads = λ only. same;
    works = λ over. absurd (failed_unfinished done failed (was_over done s by over));
    left = λ stopped. left_same given.options.dialect (job_script job given database) database before after opens same;
    opens = λ over. absurd (failed_unfinished done failed (was_over done s by over));
    opens_cut = λ stopped cut. opens_same given.options.dialect before after database cut.now opens same cut.holds;
    room = λ passes over. absurd (failed_unfinished done failed (was_over done s by over));
    full = λ used next is. absurd (outside_not_full s (failed_outside done s by failed) used next is);
    rests = λ own used next is. absurd (outside_not_full s (failed_outside done s by failed) used next is);
  }
  runs_by database opens (inr (loaded, does)) = record {
    ends = ends_by (job_refusal job given database) done s by does.answers;
    refused = does.refused;
    reads = does.reads;
    works = λ over. becomes_by job given database before done after opens does (was_over done s by over);
    left = λ stopped. left_by job given database before done after does;
    opens = λ over. opens_after given database before opens loaded.read job after (becomes_by job given database before done after opens does (was_over done s by over));
    opens_cut = λ stopped cut. opens_left given database before opens loaded.read job after cut;
    room = λ passes over. room_by job given database before done after does passes (was_over done s by over);
    full = full_by job given database before done after s by.ended does;
    rests = rests_by job given database before done after s by.ended does;
  }

  pub runs : DoesLine job given before done after → is_on_file job ≡ true → OnFile given.options.dialect before (λ database. RunsJob job given database before s after)
  runs does on database opens = runs_by database opens (does on database opens)

  pub over_does : (database : Database) → Opens given.options.dialect before database → Does job given database before done after → is_over s ≡ true
      → IsLoaded given.options.dialect given.changelog × Becomes given.options.dialect (job_script job given database) database before after
  over_does database opens (inl (failed, same)) over = absurd (failed_unfinished done failed (was_over done s by over))
  over_does database opens (inr (loaded, does)) over = (loaded, becomes_by job given database before done after opens does (was_over done s by over))

  over_command : (c : Command) → job ≡ Run c → DoesLine job given before done after → (database : Database) → Opens given.options.dialect before database → is_over s ≡ true
      → IsLoaded given.options.dialect given.changelog × Becomes given.options.dialect (script c given database) database before after
  over_command c is does database opens over =
      subst (λ j. IsLoaded given.options.dialect given.changelog × Becomes given.options.dialect (job_script j given database) database before after) is
      (over_does database opens (does (ap is_on_file is) database opens) over)

-- the headline

module _ {words : List (List ℕ)} {files : Files} (stamp : Stamp) (before : Option (List ℕ)) (done : Result Done Status) (after : Option (List ℕ)) (s : Status) (by : IsWritten done s) where
  abbrev DoesAsks : Asks words files → Type 0
  DoesAsks asks = DoesLine asks.line.job (given_by asks stamp) before done after

  pub has_run : (asks : Asks words files) → DoesAsks asks → Runs asks stamp before s after
  has_run asks does = runs asks.line.job (given_by asks stamp) before done after s by does

  pub has_updated : (asks : Asks words files) → DoesAsks asks → HasUpdated asks stamp before s after
  has_updated asks does database opens part is over =
      let job = asks.line.job in
      let given = given_by asks stamp in
      let run : Command × Given = (command.Update, part) in
      let its = does (command_on_file given database run job is) database opens in
      let ran = runs_command given database run job is before s after (runs_by job given before done after s by database opens its) in
      let read = (loaded_command given database run job is (over_does job given before done after s by database opens its over).0).read in
      let sound = subst (λ (d : Dialect). IsSound d database.users) (same_dialect given database run job is) opens.stands.sound in
      updates part database before after sound read (ran.works over)

  pub has_synced : (asks : Asks words files) → DoesAsks asks → HasSynced asks stamp before s after
  has_synced asks does is database opens over =
      let made = over_command asks.line.job (given_by asks stamp) before done after s by command.Sync is does database opens over in
      syncs (given_by asks stamp) database before after made.1

  pub gone_back : (back : GoesBack words files before) → DoesAsks back.asks → GoneBack back s after
  gone_back back does over =
      let made = over_command back.asks.line.job (given_by back.asks stamp) before done after s by (command.Rollback back.target) back.is_rollback does back.database back.opens over in
      restores (given_by back.asks stamp) back.database before after back.target back.before back.ran back.since back.reversible back.known back.stays made.1

-- the log

ended_in_run : (x s : Status) → ends x ≡ true → EndsAs x s → stands_alone s ≡ false → is_end s ≡ true
ended_in_run x s end (inl is) beside = ap is_end is ∙ ends_so x end
ended_in_run x s end (inr (inl memory)) beside = absurd (true_false (sym (ap stands_alone memory) ∙ beside))
ended_in_run x s end (inr (inr write)) beside = ap is_end write

log_parts : (done : Result Done Status) (s : Status) → IsWritten done s → (alone : Bool) → stands_alone s ≡ alone
    → (own : Option Why) × (warned : List (Option Identity × Why)) × MayWarn s (warning_lines own warned) × ((if alone then [] else warnings_of done) ≡ warning_lines own warned)
log_parts done s by true is = (None, [], (λ before. refl), refl)
log_parts (Ok done) s by false is = (done.own, done.warned, (λ before. absurd (false_true (sym before ∙ ended_in_run done.status s by.kind by.ended is))), refl)
log_parts (Err x) s by false is = (None, [], (λ before. refl), refl)

lines_by : (tag asked : Option (List ℕ)) (s : Status) → EndsAs status.OutOfMemory s → status_lines tag s ≡ status_lines asked s
lines_by tag asked s (inl is) = ap (status_lines tag) is ∙ sym (ap (status_lines asked) is)
lines_by tag asked s (inr (inl is)) = ap (status_lines tag) is ∙ sym (ap (status_lines asked) is)
lines_by tag asked s (inr (inr is)) = ap (status_lines tag) is ∙ sym (ap (status_lines asked) is)

pub lines_same : (tag asked : Option (List ℕ)) (done : Result Done Status) (s : Status) → EndsAs (status_done done) s → (tag ≡ asked) ⊎ (done ≡ Err status.OutOfMemory) → status_lines tag s ≡ status_lines asked s
lines_same tag asked done s ended (inl is) = ap (λ t. status_lines t s) is
lines_same tag asked done s ended (inr is) = lines_by tag asked s (subst (λ r. EndsAs (status_done r) s) is ended)

pub is_logged : (tag asked : Option (List ℕ)) (done : Result Done Status) (s : Status) (before after : Option (List ℕ)) → IsWritten done s → (tag ≡ asked) ⊎ (done ≡ Err status.OutOfMemory)
    → after ≡ option_map (λ (log : List ℕ). log ++ log_text tag done s) before → IsLogged asked s before after
is_logged tag asked done s before after by tagged is =
    let it = log_parts done s by (stands_alone s) refl in (
      it.0,
      it.1,
      it.2,
      is ∙ ap (λ (lines : List ℕ). option_map (λ (log : List ℕ). log ++ lines) before)
          (ap (λ (warned : List ℕ). warned ++ status_lines tag s) it.3 ∙ ap (λ (lines : List ℕ). warning_lines it.0 it.1 ++ lines) (lines_same tag asked done s by.ended tagged)),
    )

pub is_logged_part : (tag asked : Option (List ℕ)) (done : Result Done Status) (s : Status) (before after : Option (List ℕ)) → IsWritten done s → (tag ≡ asked) ⊎ (done ≡ Err status.OutOfMemory)
    → IsPart (log_text tag done s) before after → IsLoggedInPart asked s before after
is_logged_part tag asked done s before after by tagged part =
    let it = log_parts done s by (stands_alone s) refl in (
      it.0,
      it.1,
      it.2,
      subst (λ (lines : List ℕ). IsPart lines before after) (ap (λ (warned : List ℕ). warned ++ status_lines tag s) it.3 ∙ ap (λ (lines : List ℕ). warning_lines it.0 it.1 ++ lines) (lines_same tag asked done s by.ended tagged)) part,
    )

-- the tag as it was passed on
pub tag_so : {X : Type 0} (t u a : Option (List ℕ)) → t ≡ u → (u ≡ a) ⊎ X → (t ≡ a) ⊎ X
tag_so t u a same (inl is) = inl (same ∙ is)
tag_so t u a same (inr x) = inr x
