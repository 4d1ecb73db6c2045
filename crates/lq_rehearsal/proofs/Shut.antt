-- The calls of a command that has the lock leave nothing open.
use Rattle.std.proofs.Common.{ap, inl, inr, refl, subst, sym, ◌∙◌}
use Rattle.std.proofs.lemmas.List.{append-nil}
use Rattle.std.specs.Prelude.{Bool, List, None, Option, Some, [], false, if◌then◌else◌, map, not, true, ℕ, ◌&&◌, ◌++◌, ◌∷◌, ◌≡◌}
use Rattle.lq_base.specs.declared.command.Target.{Target}
use Rattle.lq_base.specs.declared.dialect.Dialect.{Dialect}
use Rattle.lq_model.specs.declared.caller.Room.TheVariants.{Ordinary}
use Rattle.lq_run.proofs.Resting.{closing_frees}
use Rattle.lq_seen.specs.View.{any_meaning}
use Rattle.lq_track.specs.Database.{Database}
use Rattle.lq_turns.proofs.Made.{calls_both}
use Rattle.lq_turns.specs.Deed.{contents_of}
use Rattle.lq_turns.specs.Script.{rollback_of, rows_kept, rows_undone, turns_made, undo_turns, closing, has_work, opening, sets_calls, with_lock}
use Rattle.lq_turns.specs.Session.{Session, all_called, called, session_on}
use Rattle.lq_turns.specs.Settle.{is_halt, own_choice}
use Rattle.lq_turns.specs.Stops.{Journal}
use Rattle.lq_turns.specs.declared.call.Call.{Call}
use Rattle.lq_turns.specs.declared.call.Call.TheVariants.{Alone}
use Rattle.lq_turns.specs.declared.deed.Deed.{Deed}
use Rattle.lq_turns.specs.declared.deed.Deed.TheVariants.{Locks}
use Rattle.lq_turns.specs.declared.stamp.Stamp.{Stamp}
use Rattle.lq_turns.specs.declared.turn.Turn.{Turn}
use Rattle.lq_commands.proofs.Sequenced.{IsOver, behind}
use Rattle.lq_commands.specs.Scripts.{log_in, rollback_script, rollback_to, sets_in, sets_script, update_script}
use Rattle.lq_commands.specs.declared.given.Given.{Given}

shut_is : (s : Session) → s.is_open ≡ false → s.seen ≡ s.committed → s.begun ≡ [] → s ≡ behind s.entries (session_on s.committed)
shut_is s shut seen begun =
    ap (λ (b : Bool). record s { is_open = b }) shut
    ∙ ap (λ (e : Database). record s { is_open = false; seen = e }) seen
    ∙ ap (λ (ds : List Deed). record s { is_open = false; seen = s.committed; begun = ds }) begun
    ∙ ap (λ (es : Journal). record s { is_open = false; seen = s.committed; begun = []; entries = es }) (sym (append-nil s.entries))

module _ (d : Dialect) (stamp : Stamp) (database : Database) (calls : List Call) where
  abbrev opened : Session
  opened = called d (Alone (map Locks (opening stamp database)) Ordinary) (session_on database)

  abbrev before_last : Session
  before_last = all_called d calls opened

  pub lock_over : IsOver d (with_lock stamp database calls) database
  lock_over =
      let closed = calls_both d calls (closing ∷ []) opened in (
        subst (λ (s : Session). s ≡ behind s.entries (session_on s.committed)) (sym closed) (shut_is (called d closing before_last) refl refl refl),
        inl (ap (λ (s : Session). s.committed.lock) closed ∙ closing_frees d before_last),
      )

module _ (given : Given) (database : Database) where
  abbrev d : Dialect
  d = given.options.dialect

  abbrev locked : List Call
  locked = with_lock given.stamp database (sets_calls d any_meaning given.stamp (sets_in given) (contents_of database))

  abbrev if_locked : Bool → List Call
  if_locked b = if b then locked else []

  locked_over : (b : Bool) → IsOver d (if_locked b) database
  locked_over true = lock_over d given.stamp database (sets_calls d any_meaning given.stamp (sets_in given) (contents_of database))
  locked_over false = (refl, inr refl)

  pub sets_over : IsOver d (sets_script given database) database
  sets_over = locked_over (has_work (sets_in given) database.rows)

  pub update_over : IsOver d (update_script given database) database
  update_over = locked_over (has_work (sets_in given) database.rows && not (is_halt (own_choice (log_in given) (contents_of database))))

  turns_over : (turns : List Turn) → IsOver d (rollback_of d given.stamp turns database) database
  turns_over [] = (refl, inr refl)
  turns_over (turn ∷ turns) = lock_over d given.stamp database (turns_made d given.stamp.who (turn ∷ turns) (contents_of database))

  undone_over : (o : Option (List Turn)) → IsOver d (elim o as (λ _. List Call) [ Some turns ↦ rollback_of d given.stamp turns database | None ↦ [] ]) database
  undone_over (Some turns) = turns_over turns
  undone_over None = (refl, inr refl)

  back_over : (o : Option ℕ) → IsOver d (rollback_to given o database) database
  back_over (Some stay) = undone_over (undo_turns d any_meaning (sets_in given) (rows_undone stay database.rows))
  back_over None = (refl, inr refl)

  pub rollback_over : (target : Target) → IsOver d (rollback_script given target database) database
  rollback_over target = back_over (rows_kept target database.rows)
