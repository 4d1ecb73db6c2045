-- Which warnings a command has: those of an update, with the changelog's own in front, and no others.
use Rattle.std.proofs.Common.{ap, refl, ◌∙◌}
use Rattle.std.proofs.lemmas.List.{append-nil}
use Rattle.std.specs.List.{flat_map}
use Rattle.std.specs.Prelude.{Bool, Err, IfOk, List, None, Ok, Option, Result, Some, [], ℕ, ◌∷◌, ◌≡◌}
use Rattle.lq_base.specs.declared.command.Target.{Target}
use Rattle.lq_base.specs.declared.dialect.Dialect.{Dialect}
use Rattle.lq_base.specs.declared.identity.Identity.{Identity}
use Rattle.lq_base.specs.declared.run.Why.{Why}
use Rattle.lq_run.specs.Commands.{HasDatabase}
use Rattle.lq_seen.specs.Telling.{Account, of_turns}
use Rattle.lq_seen.specs.View.{any_meaning}
use Rattle.lq_store.specs.Journal.{State}
use Rattle.lq_tell.specs.Lines.{warning_line, warning_lines}
use Rattle.lq_tell.specs.declared.done.Done.{Done}
use Rattle.lq_tell.specs.declared.status.Status.{Status}
use Rattle.lq_track.specs.Database.{Database}
use Rattle.lq_turns.specs.Deed.{Contents, contents_of}
use Rattle.lq_turns.specs.Script.{all_rolled, rolled_as, rows_kept, rows_undone, undo_turns}
use Rattle.lq_turns.specs.Settle.{own_choice, unless_stopped}
use Rattle.lq_turns.specs.Turn.{Ending, Finished, Refused, ending}
use Rattle.lq_turns.specs.declared.choice.Choice.{Choice}
use Rattle.lq_turns.specs.declared.turn.Turn.{Turn}
use Rattle.lq_commands.specs.Outputs.{back_in}
use Rattle.lq_commands.specs.Refusals.{if_warns, own_warning}
use Rattle.lq_commands.specs.Scripts.{log_in, nothing_told, rolled_to, sets_in}
use Rattle.lq_commands.specs.Works.{IsQuiet, WarnsUpTo, OnIts}
use Rattle.lq_commands.specs.declared.given.Given.{Given}

-- without warnings there are no lines of them
pub quiet_lines : (done : Done) → IsQuiet done → warning_lines done.own done.warned ≡ []
quiet_lines done quiet = ap (λ (own : Option Why). warning_lines own done.warned) quiet.0 ∙ ap (warning_lines None) quiet.1

-- the lines are those of a front of what there may be: of none, or of all

pub none_up_to : (ws : List (Option Identity × Why)) (done : Done) → warning_lines done.own done.warned ≡ [] → WarnsUpTo ws done
none_up_to ws done none = record { front = []; rest = ws; is = refl; lines = none }

pub quiet_up_to : (ws : List (Option Identity × Why)) (done : Done) → IsQuiet done → WarnsUpTo ws done
quiet_up_to ws done quiet = none_up_to ws done (quiet_lines done quiet)

pub all_up_to : (ws : List (Option Identity × Why)) (done : Done) → warning_lines done.own done.warned ≡ flat_map warning_line ws → WarnsUpTo ws done
all_up_to ws done lines = record { front = ws; rest = []; is = append-nil ws; lines = lines }

-- what the check of the changelog's own precondition answers
pub own_warns : (given : Given) (d : Dialect) (x : State) (r : Result (Option Why) Status) (by : Choice) → IfOk r (λ (own : Option Why). own ≡ if_warns by)
    → ((database : Database) → HasDatabase d x database → by ≡ own_choice (log_in given) (contents_of database)) → IfOk r (λ (own : Option Why). OnIts d x (λ (database : Database). own ≡ own_warning given database))
own_warns given d x (Ok own) by is same = λ database has. is ∙ ap if_warns (same database has)
own_warns given d x (Err s) by is same = tt

-- turns of a rollback have none

turns_quiet : (d : Dialect) (turns : List Turn) (c : Contents) → (all_rolled d turns c).warned ≡ []
turns_quiet d [] c = refl
turns_quiet d (turn ∷ turns) c = by (ending d turn c) (λ after. turns_quiet d turns after) where
  by : (e : Ending) → ((after : Contents) → (all_rolled d turns after).warned ≡ []) → (unless_stopped (rolled_as turn e) (all_rolled d turns)).warned ≡ []
  by (Finished after) rest = rest after
  by (Refused after refusal) rest = refl

module _ (prints : Bool) (given : Given) (database : Database) where
  abbrev taken_by : Option (List Turn) → Account
  taken_by o = elim o [ Some turns ↦ of_turns prints given.options.dialect turns (contents_of database) | None ↦ nothing_told (contents_of database) ]

  taken_quiet : (o : Option (List Turn)) → (taken_by o).settled.warned ≡ []
  taken_quiet (Some turns) = turns_quiet given.options.dialect turns (contents_of database)
  taken_quiet None = refl

  stay_quiet : (o : Option ℕ) → (rolled_to prints given o database).settled.warned ≡ []
  stay_quiet (Some stay) = taken_quiet (undo_turns given.options.dialect any_meaning (sets_in given) (rows_undone stay database.rows))
  stay_quiet None = refl

  pub back_quiet : (target : Target) → (back_in prints given target database).settled.warned ≡ []
  back_quiet target = stay_quiet (rows_kept target database.rows)
