-- The new rows of each script are the first of their identities, and stand behind all others; so the store is ready for the next run.
use Rattle.std.proofs.Common.{ap, refl, subst, sym, ◌∙◌}
use Rattle.std.specs.List.{list_all}
use Rattle.std.specs.Prelude.{Bool, List, None, Option, Some, [], false, if◌then◌else◌, length, not, true, ℕ, ◌&&◌, ◌++◌, ◌∷◌, ◌≡◌}
use Rattle.lq_back.proofs.Spelled.{turns_back_spelled}
use Rattle.lq_back.specs.Reversal.{goes_back, is_deletion}
use Rattle.lq_base.specs.declared.command.Target.TheVariants.{Count}
use Rattle.lq_base.specs.declared.command.Target.{Target}
use Rattle.lq_base.specs.declared.dialect.Dialect.{Dialect}
use Rattle.lq_base.specs.declared.tracking.Tracked.{Tracked}
use Rattle.lq_kinds.specs.ReadFor.{AreFor}
use Rattle.lq_model.proofs.Lists.{and_left, and_right, and_true}
use Rattle.lq_model.specs.Catalogue.{Catalogue}
use Rattle.lq_model.specs.Sound.{IsSound}
use Rattle.lq_run.specs.Commands.{Leaves}
use Rattle.lq_seen.specs.View.{any_meaning}
use Rattle.lq_stand.proofs.FirstRows.{undone_is_first, update_is_first}
use Rattle.lq_stand.proofs.Places.{places_are_small}
use Rattle.lq_stand.proofs.StaysClean.{calls_stay_clean}
use Rattle.lq_stand.specs.Stays.{call_is_first, calls_are_first}
use Rattle.lq_store.specs.Journal.{IsStore, State}
use Rattle.lq_track.specs.Database.{Database}
use Rattle.lq_turns.proofs.Made.{At, calls_both}
use Rattle.lq_turns.proofs.Stays.{all_sound}
use Rattle.lq_turns.proofs.TurnLeft.{ending_sound, turn_taken, twice}
use Rattle.lq_turns.proofs.Updates.{locked_leaves, sets_taken}
use Rattle.lq_turns.specs.Deed.{Contents, contents_of}
use Rattle.lq_turns.specs.Script.{all_rolled, calls_if_finished, rolled_as, rollback_of, rows_kept, rows_undone, turns_made, undo_turns, calls_unless, has_work, sets_calls, with_lock}
use Rattle.lq_turns.specs.Session.{Session, all_called, called, left_by, session_on}
use Rattle.lq_turns.specs.Settle.{all_settled, is_halt, own_choice, unless_stopped}
use Rattle.lq_turns.specs.Stops.{Journal}
use Rattle.lq_turns.specs.Turn.{Ending, Finished, Refused, contents_in, ending, made, turn_calls}
use Rattle.lq_turns.specs.declared.call.Call.{Call}
use Rattle.lq_turns.specs.declared.call.Call.TheVariants.{Abort, Alone, Begin, Commit, Execute}
use Rattle.lq_turns.specs.declared.stop.Stop.{Stop}
use Rattle.lq_turns.specs.declared.turn.Turn.{Turn}
use Rattle.lq_commands.proofs.Planned.{bare, kept, sets_bare}
use Rattle.lq_commands.proofs.Sequenced.{IsOver, behind, call_behind}
use Rattle.lq_rehearsal.proofs.Shut.{rollback_over, update_over}
use Rattle.lq_commands.proofs.ViewsRead.{views_are_read}
use Rattle.lq_commands.specs.Rehearsal.{after_update, came, rehearsal_script, takes_back, updates}
use Rattle.lq_commands.specs.Scripts.{log_in, rollback_script, rollback_to, sets_in, sets_script, update_script}
use Rattle.lq_commands.specs.Works.{IsReady, OnIts}
use Rattle.lq_commands.specs.declared.given.Given.{Given}

module _ (given : Given) (database : Database) where
  abbrev d : Dialect
  d = given.options.dialect

  abbrev pub AreFirst : List Call → Type 0
  AreFirst calls = calls_are_first d calls (session_on database) ≡ true

  turns_first : (rows : List Tracked) (o : Option (List Turn)) → undo_turns d any_meaning (sets_in given) rows ≡ o
      → AreFirst (elim o as (λ _. List Call) [ Some turns ↦ rollback_of d given.stamp turns database | None ↦ [] ])
  turns_first rows None is = refl
  turns_first rows (Some turns) is = undone_is_first d any_meaning given.stamp (sets_in given) rows turns database is

  back_first : (o : Option ℕ) → AreFirst (rollback_to given o database)
  back_first None = refl
  back_first (Some stay) = turns_first (rows_undone stay database.rows) (undo_turns d any_meaning (sets_in given) (rows_undone stay database.rows)) refl

  pub rollback_first : (target : Target) → AreFirst (rollback_script given target database)
  rollback_first target = back_first (rows_kept target database.rows)

  module _ (sound : IsSound d database.users) (read : AreFor d given.changelog) where
    pub update_first : AreFirst (update_script given database)
    update_first = update_is_first any_meaning kept d given.stamp (log_in given) database sound (views_are_read d given.options given.changelog read)

    pub sets_first : AreFirst (sets_script given database)
    sets_first = ap (λ (calls : List Call). calls_are_first d calls (session_on database)) (sets_bare given database)
        ∙ update_is_first any_meaning kept d given.stamp (bare given database) database sound (views_are_read d given.options given.changelog read)

-- what the scripts leave is sound

module _ (d : Dialect) where
  rolled_by : (who : List ℕ) (turn : Turn) (turns : List Turn) (e : Ending) (s : Session) → At s (twice (contents_in e))
      → ((c : Contents) (t : Session) → At t (twice c) → At (all_called d (turns_made d who turns c) t) (twice (all_rolled d turns c).contents))
      → At (all_called d (calls_if_finished (turns_made d who turns (contents_in e)) e) s) (twice (unless_stopped (rolled_as turn e) (all_rolled d turns)).contents)
  rolled_by who turn turns (Finished c) s at more = more c s at
  rolled_by who turn turns (Refused c refusal) s at more = at

  rolled_taken : (who : List ℕ) (turns : List Turn) (c : Contents) (s : Session) → At s (twice c) → At (all_called d (turns_made d who turns c) s) (twice (all_rolled d turns c).contents)
  rolled_taken who [] c s at = at
  rolled_taken who (turn ∷ turns) c s at =
      subst (λ (t : Session). At t (twice (all_rolled d (turn ∷ turns) c).contents)) (sym (calls_both d (made d (turn_calls d who turn) c) (calls_if_finished (turns_made d who turns (contents_in (ending d turn c))) (ending d turn c)) s))
      (rolled_by who turn turns (ending d turn c) (all_called d (made d (turn_calls d who turn) c) s) (turn_taken d who turn c s at) (rolled_taken who turns))

  rolled_on : (turn : Turn) (turns : List Turn) (e : Ending) → IsSound d (contents_in e).users → ((c : Contents) → IsSound d c.users → IsSound d (all_rolled d turns c).contents.users)
      → IsSound d (unless_stopped (rolled_as turn e) (all_rolled d turns)).contents.users
  rolled_on turn turns (Finished c) sound more = more c sound
  rolled_on turn turns (Refused c refusal) sound more = sound

  rolled_sound : (turns : List Turn) (c : Contents) → list_all (goes_back d) turns ≡ true → IsSound d c.users → IsSound d (all_rolled d turns c).contents.users
  rolled_sound [] c all sound = sound
  rolled_sound (turn ∷ turns) c all sound =
      let one = and_right (is_deletion turn.row) _ (and_left (goes_back d turn) _ all) in
      rolled_on turn turns (ending d turn c) (ending_sound d turn c one sound) (λ e fine. rolled_sound turns e (and_right (goes_back d turn) _ all) fine)

module _ (given : Given) (database : Database) (sound : IsSound given.options.dialect database.users) (read : AreFor given.options.dialect given.changelog) where
  abbrev its : Dialect
  its = given.options.dialect

  abbrev LeavesSound : List Call → Type 0
  LeavesSound calls = IsSound its (left_by its calls database).users

  locked_sound : (b : Bool) → LeavesSound (if b then with_lock given.stamp database (sets_calls its any_meaning given.stamp (sets_in given) (contents_of database)) else [])
  locked_sound false = sound
  locked_sound true =
      let known = views_are_read its given.options given.changelog read in
      let same = locked_leaves its given.stamp database (sets_calls its any_meaning given.stamp (sets_in given) (contents_of database)) (all_settled its any_meaning given.stamp.reading (sets_in given) (contents_of database)).contents
      (λ s at. sets_taken its any_meaning kept given.stamp (sets_in given) (contents_of database) s known sound at) in
      subst (λ (users : Catalogue). IsSound its users) (sym same.users) (all_sound its any_meaning kept given.stamp (sets_in given) (contents_of database) known sound)

  pub sets_sound : LeavesSound (sets_script given database)
  sets_sound = locked_sound (has_work (sets_in given) database.rows)

  pub update_sound : LeavesSound (update_script given database)
  update_sound = locked_sound (has_work (sets_in given) database.rows && not (is_halt (own_choice (log_in given) (contents_of database))))

  turns_sound : (turns : List Turn) → list_all (goes_back its) turns ≡ true → LeavesSound (rollback_of its given.stamp turns database)
  turns_sound [] all = sound
  turns_sound (turn ∷ turns) all =
      let same = locked_leaves its given.stamp database (turns_made its given.stamp.who (turn ∷ turns) (contents_of database)) (all_rolled its (turn ∷ turns) (contents_of database)).contents
      (λ s at. rolled_taken its given.stamp.who (turn ∷ turns) (contents_of database) s at) in
      subst (λ (users : Catalogue). IsSound its users) (sym same.users) (rolled_sound its (turn ∷ turns) (contents_of database) all sound)

  undone_sound : (rows : List Tracked) (o : Option (List Turn)) → undo_turns its any_meaning (sets_in given) rows ≡ o
      → LeavesSound (elim o as (λ _. List Call) [ Some turns ↦ rollback_of its given.stamp turns database | None ↦ [] ])
  undone_sound rows None is = sound
  undone_sound rows (Some turns) is = turns_sound turns (turns_back_spelled its given.options given.changelog rows turns read is)

  back_sound : (o : Option ℕ) → LeavesSound (rollback_to given o database)
  back_sound None = sound
  back_sound (Some stay) = undone_sound (rows_undone stay database.rows) (undo_turns its any_meaning (sets_in given) (rows_undone stay database.rows)) refl

  pub rollback_sound : (target : Target) → LeavesSound (rollback_script given target database)
  rollback_sound target = back_sound (rows_kept target database.rows)

-- calls, and others on the database that they leave

module _ (d : Dialect) where
  one_behind : (first : Journal) (call : Call) (s : Session) → call_is_first d call (behind first s) ≡ call_is_first d call s
  one_behind first (Alone deeds room) s = refl
  one_behind first Begin s = refl
  one_behind first (Execute deed) s = refl
  one_behind first Commit s = refl
  one_behind first Abort s = refl

  first_behind : (first : Journal) (calls : List Call) (s : Session) → calls_are_first d calls (behind first s) ≡ calls_are_first d calls s
  first_behind first [] s = refl
  first_behind first (call ∷ calls) s =
      ap (λ (b : Bool). b && calls_are_first d calls (called d call (behind first s))) (one_behind first call s)
      ∙ ap (λ (t : Session). call_is_first d call s && calls_are_first d calls t) (call_behind d first call s)
      ∙ ap (λ (b : Bool). call_is_first d call s && b) (first_behind first calls (called d call s))

  both_first : (calls others : List Call) (s : Session) → calls_are_first d calls s ≡ true → calls_are_first d others (all_called d calls s) ≡ true → calls_are_first d (calls ++ others) s ≡ true
  both_first [] others s a b = b
  both_first (call ∷ calls) others s a b = and_true _ _ (and_left (call_is_first d call s) _ a) (both_first calls others (called d call s) (and_right (call_is_first d call s) _ a) b)

  then_first : (calls others : List Call) (database : Database) → IsOver d calls database → calls_are_first d calls (session_on database) ≡ true
      → calls_are_first d others (session_on (left_by d calls database)) ≡ true → calls_are_first d (calls ++ others) (session_on database) ≡ true
  then_first calls others database over a b =
      both_first calls others (session_on database) a
      (ap (calls_are_first d others) over.0 ∙ first_behind (all_called d calls (session_on database)).entries others (session_on (left_by d calls database)) ∙ b)

  unless_first : (o : Option Stop) (calls : List Call) (s : Session) → calls_are_first d calls s ≡ true → calls_are_first d (calls_unless o calls) s ≡ true
  unless_first None calls s first = first
  unless_first (Some stop) calls s first = refl

pub rehearsal_first : (given : Given) (database : Database) → IsSound given.options.dialect database.users → AreFor given.options.dialect given.changelog → AreFirst given database (rehearsal_script given database)
rehearsal_first given database sound read =
    let e = given.options.dialect in
    let stay = length database.rows in
    let one = left_by e (update_script given database) database in
    let back = rollback_script given (Count (came stay one)) one in
    let two = left_by e back one in
    let fine = update_sound given database sound read in
    let last = sets_first given two (rollback_sound given one fine read (Count (came stay one))) read in
    let rest = then_first e back (calls_unless ((takes_back given stay).told one).stop (sets_script given two)) one (rollback_over given one (Count (came stay one))) (rollback_first given one (Count (came stay one)))
    (unless_first e ((takes_back given stay).told one).stop (sets_script given two) (session_on two) last) in
    then_first e (update_script given database) (calls_unless ((updates given).told database).stop ((after_update given stay).calls one)) database (update_over given database) (update_first given database sound read)
    (unless_first e ((updates given).told database).stop ((after_update given stay).calls one) (session_on one) rest)

-- after calls whose new rows are such
pub ready_again : (d : Dialect) (x y : State) (calls : Database → List Call) → IsReady d x → OnIts d x (λ (database : Database). Leaves d (calls database) database x y)
    → OnIts d x (λ (database : Database). calls_are_first d (calls database) (session_on database) ≡ true) → IsStore y → IsReady d y
ready_again d x y calls ready leaves first store =
    let left = leaves ready.database ready.has in
    let sound = subst (λ (e : Dialect). IsSound e y.committed) left.database_is.dialect store.sound in
    record {
      database = left_by d (calls ready.database) ready.database;
      has = left.database_is;
      clean = calls_stay_clean d (calls ready.database) ready.database y.committed ready.clean (first ready.database ready.has) left.database_is.committed;
      small = places_are_small d y.committed (left_by d (calls ready.database) ready.database) sound left.database_is.committed;
    }
