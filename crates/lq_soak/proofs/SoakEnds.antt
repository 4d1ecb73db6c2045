-- A soak that fails does not end as one that is done.
use Rattle.std.proofs.Common.{inl, inr, refl, subst, sym, ◌∙◌}
use Rattle.std.specs.Option.{option_or}
use Rattle.std.specs.Prelude.{Err, IfSome, None, Option, Some, false, true, ◌≡◌}
use Rattle.lq_base.specs.declared.command.Command.{Command}
use Rattle.lq_base.specs.declared.command.Command.TheVariants as command
use Rattle.lq_commands.specs.Refusals.{Answers, IsFault, held, if_halts, own_halt, no_way_back, refusal, unready, untagged}
use Rattle.lq_commands.specs.Scripts.{log_in}
use Rattle.lq_commands.specs.Works.{is_finished}
use Rattle.lq_commands.specs.declared.given.Given.{Given}
use Rattle.lq_tell.specs.declared.status.Status.{Status}
use Rattle.lq_tell.specs.declared.status.Status.TheVariants as status
use Rattle.lq_track.specs.Database.{Database}
use Rattle.lq_turns.specs.Deed.{contents_of}
use Rattle.lq_turns.specs.Script.{rows_kept}
use Rattle.lq_turns.specs.Settle.{own_choice}
use Rattle.lq_turns.specs.declared.choice.Choice.{Choice}
use Rattle.lq_turns.specs.declared.choice.Choice.TheVariants as choice
use Rattle.lq_jobs.proofs.Written.{Quiet, quiet_held, quiet_invalid, quiet_or, quiet_unready, quiet_untagged, quiet_way}
use Rattle.lq_jobs.specs.Bytes.{copy_status}
use Rattle.lq_soak.specs.Soaked.{is_done}

true_false : true ≡ false → ⊥
true_false h = Prim.cc

abbrev Undone : Option Status → Type 0
Undone o = IfSome o (λ s. is_done s ≡ false)

-- what is not done
pub undone_by : (s : Status) → (s ≡ status.Done → ⊥) → is_done s ≡ false
undone_by status.Done not = absurd (not refl)
undone_by s not = refl

unfinished : (s : Status) → is_finished s ≡ false → is_done s ≡ false
unfinished status.Done is = absurd (true_false is)
unfinished s is = refl

quiet_undone : (o : Option Status) → Quiet o → Undone o
quiet_undone None quiet = tt
quiet_undone (Some s) quiet = unfinished s quiet

or_undone : (a b : Option Status) → Undone a → Undone b → Undone (option_or a b)
or_undone None b first second = second
or_undone (Some s) b first second = first

halt_undone : (by : Choice) → Undone (if_halts by)
halt_undone (choice.Halts why) = refl
halt_undone by = tt

refusal_undone : (c : Command) (given : Given) (database : Database) → Undone (refusal c given database)
refusal_undone command.Validate given database = quiet_undone (refusal command.Validate given database) (quiet_invalid given database.rows)
refusal_undone command.Status given database = quiet_undone (refusal command.Status given database) (quiet_invalid given database.rows)
refusal_undone command.Update given database =
    or_undone (unready given database) (own_halt given database) (quiet_undone (unready given database) (quiet_unready given database)) (halt_undone (own_choice (log_in given) (contents_of database)))
refusal_undone (command.Tag name) given database = quiet_undone (refusal (command.Tag name) given database) (quiet_or (held database) (untagged database.rows) (quiet_held database) (quiet_untagged database.rows))
refusal_undone (command.Rollback target) given database =
    quiet_undone (refusal (command.Rollback target) given database) (quiet_or (unready given database) (no_way_back given target database.rows) (quiet_unready given database) (quiet_way given (rows_kept target database.rows) database.rows))
refusal_undone command.Sync given database = quiet_undone (refusal command.Sync given database) (quiet_unready given database)
refusal_undone command.Release given database = tt

fault_undone : (s : Status) → IsFault s → is_done s ≡ false
fault_undone s (inl is) = subst (λ s. is_done s ≡ false) (sym is) refl
fault_undone s (inr is) = subst (λ s. is_done s ≡ false) (sym is) refl

answer_undone : (o : Option Status) (s : Status) → Undone o → Answers o (Err s) → is_done s ≡ false
answer_undone None s undone fault = fault_undone s fault
answer_undone (Some refused) s undone (inl is) = subst (λ s. is_done s ≡ false) (sym is) undone
answer_undone (Some refused) s undone (inr fault) = fault_undone s fault

copied_same : (s : Status) → is_done (copy_status s) ≡ is_done s
copied_same status.DiskFault = refl
copied_same s = refl

-- a command that fails is not done
pub fails_undone : (c : Command) (given : Given) (database : Database) (s now : Status) → Answers (refusal c given database) (Err s) → now ≡ copy_status s → is_done now ≡ false
fails_undone c given database s now answers is = subst (λ s. is_done s ≡ false) (sym is) (copied_same s ∙ answer_undone (refusal c given database) s (refusal_undone c given database) answers)
