-- What a command is refused for, its calls and its status are those of its runner.
use Rattle.std.proofs.Common.{ap, refl, ◌∙◌}
use Rattle.std.specs.Option.{option_map, option_or}
use Rattle.std.specs.Prelude.{Bool, List, None, Option, Some, [], false, if◌then◌else◌, true, ℕ, ◌&&◌, ◌∷◌, ◌≡◌}
use Rattle.lq_base.specs.declared.command.Command.{Command}
use Rattle.lq_base.specs.declared.command.Command.TheVariants as command
use Rattle.lq_base.specs.declared.identity.Identity.{Identity}
use Rattle.lq_base.specs.declared.tracking.Lock.{Lock}
use Rattle.lq_base.specs.declared.tracking.Tracked.{Tracked}
use Rattle.lq_cli.specs.declared.line.Job.TheVariants.{Run}
use Rattle.lq_commands.specs.Refusals.{if_halts, if_not, if_some, invalid, no_way_back, own_halt, refusal, unreachable_by, untagged}
use Rattle.lq_commands.specs.Scripts.{log_in, nothing_told, rollback_to, rolled_to, script, sets_in}
use Rattle.lq_commands.specs.Works.{status_by, is_finished}
use Rattle.lq_commands.specs.declared.given.Given.{Given}
use Rattle.lq_any.specs.declared.any_change.AnyChange.{AnyChange}
use Rattle.lq_players.specs.Tasks.{answer_by, if_halts as halts_answer, if_not as not_answer, if_some as some_answer, invalid as invalid_answer, own_halt as own_answer, refuses, stop_back, stop_of, stop_to, task_for, unreachable_by as unreachable_answer, untagged as untagged_answer}
use Rattle.lq_seen.specs.Telling.{Account, of_turns}
use Rattle.lq_seen.specs.View.{any_meaning}
use Rattle.lq_tell.specs.declared.status.Status.{Status}
use Rattle.lq_tell.specs.declared.status.Status.TheVariants as status
use Rattle.lq_track.specs.Database.{Database}
use Rattle.lq_turns.specs.Deed.{contents_of}
use Rattle.lq_turns.specs.Faults.{faults}
use Rattle.lq_turns.specs.Jobs.{Task, needs_lock, script_of}
use Rattle.lq_turns.specs.Laws.{rollback_calls, synced}
use Rattle.lq_turns.specs.Script.{not_reversible, rows_kept, rows_undone, undo_turns}
use Rattle.lq_turns.specs.Settle.{own_choice, updated}
use Rattle.lq_turns.specs.declared.answer.Answer.{Answer}
use Rattle.lq_turns.specs.declared.answer.Answer.TheVariants as answer
use Rattle.lq_turns.specs.declared.call.Call.{Call}
use Rattle.lq_turns.specs.declared.choice.Choice.{Choice}
use Rattle.lq_turns.specs.declared.choice.Choice.TheVariants as choice
use Rattle.lq_turns.specs.declared.fault.Fault.{Fault}
use Rattle.lq_turns.specs.declared.stop.Stop.{Stop}
use Rattle.lq_turns.specs.declared.stop.Stop.TheVariants.{Halted, Refused}
use Rattle.lq_turns.specs.declared.turn.Turn.{Turn}
use Rattle.lq_drills.specs.Players.{status_of}
use Rattle.lq_jobs.specs.Says.{SaysJob}

-- a refusal, as its runner answers it
abbrev told : Option Answer → Option Status
told a = option_map status_of a

-- checks one after another
both_told : (p q : Option Answer) → option_or (told p) (told q) ≡ told (option_or p q)
both_told None q = refl
both_told (Some a) q = refl

either_told : (first second : Option Status) (p q : Option Answer) → first ≡ told p → second ≡ told q → option_or first second ≡ told (option_or p q)
either_told first second p q one other = ap (λ (o : Option Status). option_or o second) one ∙ ap (λ (o : Option Status). option_or (told p) o) other ∙ both_told p q

-- the check of the lock, and then one more
behind_lock : (held : Bool) (lock : Lock) (checks : Option Status) (a : Option Answer) → checks ≡ told a
    → option_or (if held then Some (status.Locked lock) else None) checks ≡ told (if held then Some (answer.Locked lock) else a)
behind_lock true lock checks a is = refl
behind_lock false lock checks a is = is

-- or two
both_behind_lock : (held : Bool) (lock : Lock) (first second : Option Status) (a : Option Answer) → option_or first second ≡ told a
    → option_or (option_or (if held then Some (status.Locked lock) else None) first) second ≡ told (if held then Some (answer.Locked lock) else a)
both_behind_lock true lock first second a is = refl
both_behind_lock false lock first second a is = is

some_told : (xs : List Fault) → if_some xs ≡ told (some_answer xs)
some_told [] = refl
some_told (x ∷ xs) = refl

halts_told : (by : Choice) → if_halts by ≡ told (halts_answer by)
halts_told (choice.Halts why) = refl
halts_told choice.Passes = refl
halts_told choice.Fills = refl
halts_told choice.Skips = refl
halts_told (choice.Marks what) = refl
halts_told (choice.Runs what why) = refl

not_told : (of : Option Identity) → if_not of ≡ told (not_answer of)
not_told None = refl
not_told (Some of) = refl

untagged_told : (rows : List Tracked) → untagged rows ≡ told (untagged_answer rows)
untagged_told [] = refl
untagged_told (row ∷ rows) = refl

module _ (given : Given) where
  invalid_told : (rows : List Tracked) → invalid given rows ≡ told (invalid_answer (log_in given) rows)
  invalid_told rows = some_told (faults (sets_in given) rows)

  own_told : (database : Database) → own_halt given database ≡ told (own_answer (log_in given) database)
  own_told database = halts_told (own_choice (log_in given) (contents_of database))

  unreachable_told : (stay : Option ℕ) (rows : List Tracked) → unreachable_by given stay rows ≡ told (unreachable_answer given.options.dialect (log_in given) stay rows)
  unreachable_told None rows = refl
  unreachable_told (Some stay) rows = not_told (not_reversible given.options.dialect any_meaning (sets_in given) (rows_undone stay rows))

  abbrev pub task_of : Command → Task AnyChange
  task_of c = task_for c given.options given.changelog given.stamp

  module _ (database : Database) where
    -- what its runner answers by its checks
    abbrev pub checked_of : Command → Option Answer
    checked_of c = if needs_lock c && database.lock.locked then Some (answer.Locked database.lock) else refuses given.options.dialect (task_of c) database

    pub refusal_told : (c : Command) → refusal c given database ≡ told (checked_of c)
    refusal_told command.Validate = invalid_told database.rows
    refusal_told command.Status = invalid_told database.rows
    refusal_told command.Update =
        both_behind_lock database.lock.locked database.lock (invalid given database.rows) (own_halt given database) (option_or (invalid_answer (log_in given) database.rows) (own_answer (log_in given) database))
        (either_told (invalid given database.rows) (own_halt given database) (invalid_answer (log_in given) database.rows) (own_answer (log_in given) database) (invalid_told database.rows) (own_told database))
    refusal_told (command.Tag name) = behind_lock database.lock.locked database.lock (untagged database.rows) (untagged_answer database.rows) (untagged_told database.rows)
    refusal_told (command.Rollback target) =
        let stay : Option ℕ = rows_kept target database.rows in
        both_behind_lock database.lock.locked database.lock (invalid given database.rows) (no_way_back given target database.rows)
        (option_or (invalid_answer (log_in given) database.rows) (unreachable_answer given.options.dialect (log_in given) (rows_kept target database.rows) database.rows))
        (either_told (invalid given database.rows) (unreachable_by given stay database.rows) (invalid_answer (log_in given) database.rows) (unreachable_answer given.options.dialect (log_in given) stay database.rows) (invalid_told database.rows) (unreachable_told stay database.rows))
    refusal_told command.Sync = behind_lock database.lock.locked database.lock (invalid given database.rows) (invalid_answer (log_in given) database.rows) (invalid_told database.rows)
    refusal_told command.Release = refl

    -- its calls

    back_calls : (stay : Option ℕ) → elim stay as (λ _. List Call) [ Some n ↦ rollback_calls given.options.dialect any_meaning given.stamp (sets_in given) n database | None ↦ [] ] ≡ rollback_to given stay database
    back_calls None = refl
    back_calls (Some n) = refl

    pub calls_same : (c : Command) → script_of given.options.dialect any_meaning c given.stamp (log_in given) database ≡ script c given database
    calls_same command.Validate = refl
    calls_same command.Status = refl
    calls_same command.Update = refl
    calls_same (command.Tag name) = refl
    calls_same (command.Rollback target) = back_calls (rows_kept target database.rows)
    calls_same command.Sync = refl
    calls_same command.Release = refl

    -- what stopped it

    turns_stop : (turns : Option (List Turn)) → (elim turns as (λ _. Account) [ Some ts ↦ of_turns false given.options.dialect ts (contents_of database) | None ↦ nothing_told (contents_of database) ]).settled.stop ≡ stop_back given.options.dialect turns (contents_of database)
    turns_stop None = refl
    turns_stop (Some ts) = refl

    back_stop : (stay : Option ℕ) → (rolled_to false given stay database).settled.stop ≡ stop_to given.options.dialect (log_in given) stay database.rows (contents_of database)
    back_stop None = refl
    back_stop (Some n) = turns_stop (undo_turns given.options.dialect any_meaning (sets_in given) (rows_undone n database.rows))

    stop_told : (o : Option Stop) → status_by o ≡ status_of (answer_by o)
    stop_told None = refl
    stop_told (Some (Halted place why)) = refl
    stop_told (Some (Refused of refusal)) = refl

    -- the answer of a runner that made its calls
    abbrev pub last_answer : Command → Answer
    last_answer c = answer_by (stop_of given.options.dialect (task_of c) database)

    finished_by : (o : Option Stop) → is_finished (status_of (answer_by o)) ≡ true
    finished_by None = refl
    finished_by (Some (Halted place why)) = refl
    finished_by (Some (Refused of refusal)) = refl

    pub last_finished : (c : Command) → is_finished (status_of (last_answer c)) ≡ true
    last_finished c = finished_by (stop_of given.options.dialect (task_of c) database)

    pub status_said : (c : Command) (s : Status) (before after : Option (List ℕ)) → SaysJob (Run c) given database s before after → s ≡ status_of (last_answer c)
    status_said command.Validate s before after says = says.status
    status_said command.Status s before after says = says.status
    status_said command.Update s before after says = says.status ∙ stop_told (updated given.options.dialect any_meaning given.stamp.reading (log_in given) (contents_of database)).stop
    status_said (command.Tag name) s before after says = says.status
    status_said (command.Rollback target) s before after says =
        let stay : Option ℕ = rows_kept target database.rows in
        says.status ∙ ap status_by (back_stop stay) ∙ stop_told (stop_to given.options.dialect (log_in given) stay database.rows (contents_of database))
    status_said command.Sync s before after says = says.status ∙ stop_told (synced given.stamp.reading (sets_in given) (contents_of database)).stop
    status_said command.Release s before after says = says.status
