-- What undo-unrecorded does on a store, in words of its statuses.
use Rattle.std.specs.Option.{option_map}
use Rattle.std.specs.Prelude.{IfOk, List, None, Option, Result, Some, ℕ, ◌≡◌}
use Rattle.lq_base.specs.declared.identity.Identity.{Identity}
use Rattle.lq_commands.specs.Outputs.{TellsText}
use Rattle.lq_commands.specs.Refusals.{Answers}
use Rattle.lq_commands.specs.Works.{CrashesIn, IfFinished, IsKept, IsQuiet, OnIts, Works}
use Rattle.lq_expr.specs.declared.options.Options.{Options}
use Rattle.lq_kinds.specs.declared.change_set.Changelog.{Changelog}
use Rattle.lq_mending.specs.Comes.{back_refused}
use Rattle.lq_mending.specs.Undoes.{Standing, first_of, refusal, undo_script, unrecorded}
use Rattle.lq_mending.specs.declared.outcome.RepairFault.{RepairFault}
use Rattle.lq_mending.specs.declared.outcome.RepairFault.TheVariants as fault
use Rattle.lq_report.specs.Output.{undone_text}
use Rattle.lq_store.specs.Journal.{Crashes, State}
use Rattle.lq_tell.specs.declared.done.Done.{Done}
use Rattle.lq_tell.specs.declared.status.Status.{Status}
use Rattle.lq_tell.specs.declared.status.Status.TheVariants as status
use Rattle.lq_track.specs.Database.{Database}
use Rattle.lq_turns.specs.declared.stop.Refusal.{Refusal}

-- the status of a fault
abbrev pub status_of : RepairFault → Status
status_of fault.NothingToUndo = status.NothingToUndo
status_of (fault.Invalid found) = status.Invalid found
status_of (fault.NotReversible of) = status.NotReversible of
status_of (fault.Refused of why) = status.Refused of why.statement why.kept why.reason
status_of fault.Disk = status.DiskFault
status_of (fault.Full used next) = status.Full used next
status_of fault.OutOfMemory = status.OutOfMemory

-- what it is refused for: the first check that fails
abbrev pub undo_refusal : Options → Changelog → Database → Option Status
undo_refusal o g database = option_map status_of (refusal o g database.lock database.rows)

-- it ended with this status, without a text
pub record EndsWith (s : Status) (done : Done) : Type 0 where
  pub status : done.status ≡ s
  pub out : done.out ≡ None
  pub quiet : IsQuiet done

-- it tells the changeset and how many statements that part had; or, without a text, which of them was not taken back
abbrev pub TellsPart : Identity → ℕ → Option Refusal → Done → Type 0
TellsPart of many None done = TellsText (undone_text of many) done
TellsPart of many (Some why) done = EndsWith (status_of (fault.Refused of why)) done

abbrev pub TellsUndone : Options → Database → Option Standing → Done → Type 0
TellsUndone o database None done = Unit {0}
TellsUndone o database (Some part) done = IfFinished done (TellsPart part.0.identity part.1 (back_refused o.dialect (first_of o part) database.users) done)

-- on a store, by its state and by what a crash leaves of it
module _ {S : Type 0} (state : S → State) (crashes : S → Crashes) where
  -- it is refused, and nothing is written, or it makes its calls, to their end or to a stop, and tells of them
  pub record Undid (o : Options) (g : Changelog) (last : Option (List ℕ)) (before : S) (done : Result Done Status) (after : S) : Type 0 where
    pub answers : OnIts o.dialect (state before) (λ database. Answers (undo_refusal o g database) done)
    pub refused : OnIts o.dialect (state before) (λ database. IsKept (undo_refusal o g database) before after)
    pub works : OnIts o.dialect (state before) (λ database. Works o.dialect (undo_script o g last database) database (state before) done (state after))
    pub any_moment : OnIts o.dialect (state before) (λ database. CrashesIn o.dialect (undo_script o g last database) database (state before) (crashes before) (crashes after))
    pub tells : OnIts o.dialect (state before) (λ database. IfOk done (TellsUndone o database (unrecorded o g last database.lock database.rows)))
