-- A refusal is of the database, and of no disk.
use Rattle.std.proofs.Common.{ap, refl, sym, ◌∙◌}
use Rattle.std.specs.Option.{option_or}
use Rattle.std.specs.Prelude.{Bool, IfSome, List, None, Option, Some, [], false, if◌then◌else◌, true, ℕ, ◌∷◌, ◌≡◌}
use Rattle.lq_base.specs.declared.command.Command.{Command}
use Rattle.lq_base.specs.declared.command.Command.TheVariants as command
use Rattle.lq_base.specs.declared.command.Target.{Target}
use Rattle.lq_base.specs.declared.identity.Identity.{Identity}
use Rattle.lq_base.specs.declared.tracking.Tracked.{Tracked}
use Rattle.lq_tell.specs.declared.status.Status.{Status}
use Rattle.lq_tell.specs.declared.status.Status.TheVariants as status
use Rattle.lq_track.specs.Database.{Database}
use Rattle.lq_turns.specs.Deed.{contents_of}
use Rattle.lq_turns.specs.Faults.{faults}
use Rattle.lq_turns.specs.Script.{not_reversible, rows_kept, rows_undone}
use Rattle.lq_turns.specs.Settle.{own_choice}
use Rattle.lq_turns.specs.declared.choice.Choice.{Choice}
use Rattle.lq_turns.specs.declared.choice.Choice.TheVariants as choice
use Rattle.lq_turns.specs.declared.fault.Fault.{Fault}
use Rattle.lq_seen.specs.View.{any_meaning}
use Rattle.lq_commands.specs.Jobs.{is_diskless}
use Rattle.lq_commands.specs.Refusals.{held, if_halts, if_not, if_some, invalid, no_way_back, own_halt, print_rollback, print_update, refusal, unreachable_by, unready, untagged}
use Rattle.lq_commands.specs.Rehearsal.{bound_by, rehearsal_refusal, unrehearsed}
use Rattle.lq_commands.specs.Scripts.{log_in, sets_in}
use Rattle.lq_commands.specs.declared.given.Given.{Given}

-- what a refusal is told by
abbrev pub IsPlain : Option Status → Type 0
IsPlain o = IfSome o (λ s. is_diskless s ≡ true)

-- and it is not that the journal is full
abbrev pub IsNotFull : Status → Type 0
IsNotFull s = (used next : ℕ) → s ≡ status.Full used next → ⊥

-- the statuses of checks
abbrev is_refusal : Status → Bool
is_refusal (status.Invalid faults) = true
is_refusal (status.Locked lock) = true
is_refusal (status.Halted place why) = true
is_refusal status.NoTarget = true
is_refusal (status.NotReversible of) = true
is_refusal s = false

abbrev Refuses : Option Status → Type 0
Refuses o = IfSome o (λ s. is_refusal s ≡ true)

or_refuses : (o p : Option Status) → Refuses o → Refuses p → Refuses (option_or o p)
or_refuses (Some s) p first other = first
or_refuses None p first other = other

if_refuses : (b : Bool) (o : Option Status) → Refuses o → Refuses (if b then o else None)
if_refuses true o first = first
if_refuses false o first = tt

held_refuses : (database : Database) → Refuses (held database)
held_refuses database = if_refuses database.lock.locked (Some (status.Locked database.lock)) refl

some_refuses : (faults : List Fault) → Refuses (if_some faults)
some_refuses [] = tt
some_refuses (fault ∷ faults) = refl

halts_refuses : (choice : Choice) → Refuses (if_halts choice)
halts_refuses choice.Passes = tt
halts_refuses choice.Fills = tt
halts_refuses choice.Skips = tt
halts_refuses (choice.Marks what) = tt
halts_refuses (choice.Runs what why) = tt
halts_refuses (choice.Halts why) = refl

not_refuses : (o : Option Identity) → Refuses (if_not o)
not_refuses (Some of) = refl
not_refuses None = tt

untagged_refuses : (rows : List Tracked) → Refuses (untagged rows)
untagged_refuses [] = refl
untagged_refuses (row ∷ rows) = tt

false_true : false ≡ true → ⊥
false_true h = Prim.cc

is_plain : (s : Status) → is_refusal s ≡ true → is_diskless s ≡ true
is_plain status.Done is = absurd (false_true is)
is_plain status.Usage is = absurd (false_true is)
is_plain status.ReadFault is = absurd (false_true is)
is_plain (status.Changelog fault) is = absurd (false_true is)
is_plain (status.Invalid faults) is = refl
is_plain (status.Locked lock) is = refl
is_plain (status.Halted place why) is = refl
is_plain (status.Refused identity statement kept reason) is = absurd (false_true is)
is_plain status.NoTarget is = refl
is_plain (status.NotReversible of) is = refl
is_plain status.NothingToUndo is = absurd (false_true is)
is_plain (status.NotWritable at) is = absurd (false_true is)
is_plain status.DiskFault is = absurd (false_true is)
is_plain (status.Damaged at) is = absurd (false_true is)
is_plain (status.Full used next) is = absurd (false_true is)
is_plain status.WriteFault is = absurd (false_true is)
is_plain status.OutOfMemory is = absurd (false_true is)
is_plain (status.Busy session) is = absurd (false_true is)

so_plain : (o : Option Status) → Refuses o → IsPlain o
so_plain None refuses = tt
so_plain (Some s) refuses = is_plain s refuses

so_not_full : (o : Option Status) → Refuses o → IfSome o IsNotFull
so_not_full None refuses = tt
so_not_full (Some s) refuses = λ used next is. false_true (sym (ap is_refusal is) ∙ refuses)

pub held_plain : (database : Database) → IsPlain (held database)
held_plain database = so_plain (held database) (held_refuses database)

pub held_not_full : (database : Database) → IfSome (held database) IsNotFull
held_not_full database = so_not_full (held database) (held_refuses database)

module _ (given : Given) where
  by_refuses : (stay : Option ℕ) (rows : List Tracked) → Refuses (unreachable_by given stay rows)
  by_refuses None rows = refl
  by_refuses (Some stay) rows = not_refuses (not_reversible given.options.dialect any_meaning (sets_in given) (rows_undone stay rows))

  back_refuses : (target : Target) (rows : List Tracked) → Refuses (no_way_back given target rows)
  back_refuses target rows = by_refuses (rows_kept target rows) rows

  invalid_refuses : (rows : List Tracked) → Refuses (invalid given rows)
  invalid_refuses rows = some_refuses (faults (sets_in given) rows)

  own_refuses : (database : Database) → Refuses (own_halt given database)
  own_refuses database = halts_refuses (own_choice (log_in given) (contents_of database))

  unready_refuses : (database : Database) → Refuses (unready given database)
  unready_refuses database = or_refuses (held database) (invalid given database.rows) (held_refuses database) (invalid_refuses database.rows)

  refusal_refuses : (c : Command) (database : Database) → Refuses (refusal c given database)
  refusal_refuses command.Validate database = invalid_refuses database.rows
  refusal_refuses command.Status database = invalid_refuses database.rows
  refusal_refuses command.Update database = or_refuses (unready given database) (own_halt given database) (unready_refuses database) (own_refuses database)
  refusal_refuses (command.Tag name) database = or_refuses (held database) (untagged database.rows) (held_refuses database) (untagged_refuses database.rows)
  refusal_refuses (command.Rollback target) database = or_refuses (unready given database) (no_way_back given target database.rows) (unready_refuses database) (back_refuses target database.rows)
  refusal_refuses command.Sync database = unready_refuses database
  refusal_refuses command.Release database = tt

  print_update_refuses : (database : Database) → Refuses (print_update given database)
  print_update_refuses database = or_refuses (invalid given database.rows) (own_halt given database) (invalid_refuses database.rows) (own_refuses database)

  print_rollback_refuses : (target : Target) (database : Database) → Refuses (print_rollback given target database)
  print_rollback_refuses target database = or_refuses (invalid given database.rows) (no_way_back given target database.rows) (invalid_refuses database.rows) (back_refuses target database.rows)

  rehearsal_refuses : (database : Database) → Refuses (rehearsal_refusal given database)
  rehearsal_refuses database =
      or_refuses (unready given database) (option_or (unrehearsed given database.rows) (own_halt given database)) (unready_refuses database)
      (or_refuses (unrehearsed given database.rows) (own_halt given database) (not_refuses (bound_by given database.rows)) (own_refuses database))

  pub rehearsal_plain : (database : Database) → IsPlain (rehearsal_refusal given database)
  rehearsal_plain database = so_plain (rehearsal_refusal given database) (rehearsal_refuses database)

  pub rehearsal_not_full : (database : Database) → IfSome (rehearsal_refusal given database) IsNotFull
  rehearsal_not_full database = so_not_full (rehearsal_refusal given database) (rehearsal_refuses database)

  -- so they are plain, and not of a full journal

  pub refusal_plain : (c : Command) (database : Database) → IsPlain (refusal c given database)
  refusal_plain c database = so_plain (refusal c given database) (refusal_refuses c database)

  pub refusal_not_full : (c : Command) (database : Database) → IfSome (refusal c given database) IsNotFull
  refusal_not_full c database = so_not_full (refusal c given database) (refusal_refuses c database)

  pub print_update_plain : (database : Database) → IsPlain (print_update given database)
  print_update_plain database = so_plain (print_update given database) (print_update_refuses database)

  pub print_rollback_plain : (target : Target) (database : Database) → IsPlain (print_rollback given target database)
  print_rollback_plain target database = so_plain (print_rollback given target database) (print_rollback_refuses target database)
