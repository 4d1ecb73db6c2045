-- A steady update that is run again after stops, in postgresql.
use Rattle.std.proofs.Common.{ap, inl, inr, subst, sym, ◌∙◌}
use Rattle.std.proofs.lemmas.List.{append-nil}
use Rattle.std.specs.List.{list_all}
use Rattle.std.specs.Prelude.{List, None, Ok, Result, [], false, if◌then◌else◌, length, map, not, refl, true, ℕ, ◌&&◌, ◌++◌, ◌∷◌, ◌≡◌, ◌⊎◌}
use Rattle.lq_base.specs.declared.dialect.Dialect.TheVariants.{Postgresql}
use Rattle.lq_base.specs.declared.reason.Reason.{Reason}
use Rattle.lq_model.proofs.Lists.{all-append_left}
use Rattle.lq_base.specs.declared.tracking.Tracked.{Tracked}
use Rattle.lq_model.specs.Catalogue.{Catalogue}
use Rattle.lq_model.specs.declared.caller.Room.TheVariants.{Ordinary}
use Rattle.lq_track.specs.Database.{Database}
use Rattle.lq_track.specs.Lock.{free}
use Rattle.lq_turns.specs.Stops.{are_twins, has_own_sum, IsFront, IsLeft, IsTrail, Journal, joined}
use Rattle.lq_turns.specs.Deed.{Contents, contents_of, all_done}
use Rattle.lq_turns.specs.Laws.{AreRead, IsAtRest, rollback_calls}
use Rattle.lq_turns.specs.Ran.{RanSince}
use Rattle.lq_turns.specs.Script.{closing, has_work, opening, release_calls, sets_calls, update_calls, with_lock}
use Rattle.lq_turns.specs.Session.{Session, all_called, left_by, session_on}
use Rattle.lq_turns.specs.Set.{Changelog, IsKept, Meaning, Set}
use Rattle.lq_turns.specs.declared.call.Call.{Call}
use Rattle.lq_turns.specs.declared.call.Call.TheVariants.{Alone}
use Rattle.lq_turns.specs.declared.choice.What.TheVariants.{New}
use Rattle.lq_turns.specs.declared.deed.Deed.{Deed}
use Rattle.lq_turns.specs.declared.deed.Deed.TheVariants.{Locks}
use Rattle.lq_turns.specs.declared.deed.OnLock.TheVariants.{Freed}
use Rattle.lq_turns.specs.declared.stamp.Stamp.{Stamp}
use Rattle.lq_turns.specs.Settle.{Settled, all_settled, by_own, is_halt, own_choice, tested, updated}
use Rattle.lq_turns.specs.Trails.{ResumedReturns, UpdateResumes}
use Rattle.lq_turns.proofs.Fronts.{all_fronts}
use Rattle.lq_turns.proofs.GoesOn.{Same, skips}
use Rattle.lq_turns.proofs.Journal.{journal_leads, same_ok}
use Rattle.lq_turns.proofs.Locked.{LockStands, all_locks, entries_leave, falls, first_session, led_both, lock_stands, opened_by}
use Rattle.lq_turns.proofs.Stays.{IsCalm, stays_calm}
use Rattle.lq_turns.proofs.Undone.{rollback_rests}
use Rattle.lq_turns.proofs.Updates.{opened, rests_on, sets_taken, update_rests}

-- the lock on a trail

stands_on : (start before now : Database) → LockStands start before → LockStands before now → LockStands start now
stands_on start before now first (inl same) = subst (LockStands start) (sym same) first
stands_on start before now first (inr set) = inr set

-- where it is not held nothing was done, or it is free
pub not_held : (start now : Database) → LockStands start now → now.lock.locked ≡ false → (now.lock ≡ free) ⊎ (now ≡ start)
not_held start now (inl same) unlocked = inr same
not_held start now (inr (inl held)) unlocked = absurd (both (sym held ∙ unlocked)) where
  both : true ≡ false → ⊥
  both is = Prim.cc
not_held start now (inr (inr frees)) unlocked = inl frees

-- a trail keeps what each stop on it keeps
module _ (start : Database) (command : List ℕ → Database → List Call) (Keeps : Contents → Type 0) where
  abbrev pub KeptBy : Journal → Type 0
  KeptBy journal = (database : Database) → all_done Postgresql (joined journal) start ≡ Ok database → Keeps (contents_of database) × LockStands start database

  -- a stop of the calls leaves contents that are kept, and the lock held or free where it leaves more than was there
  abbrev pub StopKeeps : List Call → Database → Type 0
  StopKeeps calls database = (front rest : Journal) (now : Database) → (all_called Postgresql calls (session_on database)).entries ≡ front ++ rest → all_done Postgresql (joined front) database ≡ Ok now → Keeps (contents_of now) × LockStands database now

  pub one_ok : {x y : Database} (r : Result Database Reason) → r ≡ Ok x → r ≡ Ok y → x ≡ y
  one_ok r p q = same_ok Postgresql (sym p ∙ q)

  -- the entry that frees the lock
  frees_lock : (before now : Database) → all_done Postgresql (Locks Freed ∷ []) before ≡ Ok now → now.lock ≡ free
  frees_lock before now led = ap (λ (e : Database). e.lock) (sym (same_ok Postgresql led))

  left_keeps : (calls : List Call) (database : Database) (before after : Journal) → all_done Postgresql (joined before) start ≡ Ok database → LockStands start database → IsLeft Postgresql calls database before after → StopKeeps calls database → KeptBy after
  left_keeps calls database before after at stands left keeps now is = elim left.is as (λ _. Keeps (contents_of now) × LockStands start now) [
    | inl same ↦ front_kept now (subst (λ es. all_done Postgresql (joined es) start ≡ Ok now) same is)
    | inr closed ↦ closed_kept now (subst (λ es. all_done Postgresql (joined es) start ≡ Ok now) closed.0 is)
  ] where
    front_at : (now : Database) → all_done Postgresql (joined (before ++ left.front)) start ≡ Ok now → left.now ≡ now
    front_at now is =
        let parts = led_both Postgresql before left.front start now is in
        let same = one_ok (all_done Postgresql (joined before) start) at parts.1 in
        one_ok (all_done Postgresql (joined left.front) database) left.led (subst (λ e. all_done Postgresql (joined left.front) e ≡ Ok now) (sym same) parts.2)

    front_kept : (now : Database) → all_done Postgresql (joined (before ++ left.front)) start ≡ Ok now → Keeps (contents_of now) × LockStands start now
    front_kept now is =
        let kept = keeps left.front left.rest left.now left.entries left.led in
        subst (λ (e : Database). Keeps (contents_of e) × LockStands start e) (front_at now is) (kept.0, stands_on start database left.now stands kept.1)

    closed_kept : (now : Database) → all_done Postgresql (joined (before ++ left.front ++ (Locks Freed ∷ []) ∷ [])) start ≡ Ok now → Keeps (contents_of now) × LockStands start now
    closed_kept now is =
        let parts = led_both Postgresql (before ++ left.front) ((Locks Freed ∷ []) ∷ []) start now is in
        (subst Keeps (sym (entries_leave Postgresql ((Locks Freed ∷ []) ∷ []) parts.0 now refl parts.2)) (front_kept parts.0 parts.1).0, inr (inr (frees_lock parts.0 now parts.2)))

  pub nothing_kept : (database : Database) → Keeps (contents_of database) → StopKeeps [] database
  nothing_kept database kept [] rest now is led = (subst (λ (e : Database). Keeps (contents_of e)) (same_ok Postgresql led) kept, inl (sym (same_ok Postgresql led)))
  nothing_kept database kept (e ∷ front) rest now is led = Prim.cc

  free_kept : (database : Database) → Keeps (contents_of database) → StopKeeps (closing ∷ []) database
  free_kept database kept [] rest now is led = nothing_kept database kept [] [] now refl led
  free_kept database kept (e ∷ x ∷ front) rest now is led = Prim.cc
  free_kept database kept (e ∷ []) rest now is led =
      let same = one_entry e rest is in (
        subst Keeps (sym (entries_leave Postgresql (e ∷ []) database now (ap (λ x. all_locks (x ∷ [])) same) led)) kept,
        inr (inr (frees_lock database now (subst (λ deeds. all_done Postgresql (joined (deeds ∷ [])) database ≡ Ok now) same led))),
      ) where
        one_entry : (e : List Deed) (rest : Journal) → (all_called Postgresql (closing ∷ []) (session_on database)).entries ≡ e ∷ rest → e ≡ Locks Freed ∷ []
        one_entry e rest is = Prim.cc

  release_keeps : (database : Database) → Keeps (contents_of database) → StopKeeps (release_calls database) database
  release_keeps database kept = elim database.lock.locked as (λ b. StopKeeps (if b then closing ∷ [] else []) database) [ true ↦ free_kept database kept | false ↦ nothing_kept database kept ]

  pub trail_keeps : ((who : List ℕ) (database : Database) → Keeps (contents_of database) → StopKeeps (command who database) database)
      → (from : Journal) (stops : List Journal) (to : Journal) → IsTrail Postgresql start command from stops to → KeptBy from → KeptBy to
  trail_keeps keeps from [] to trail kept = subst KeptBy trail kept
  trail_keeps keeps from (after ∷ stops) to trail kept =
      let stop = trail.0 in
      let here = kept stop.0 stop.1 in
      trail_keeps keeps after stops to trail.1 (elim stop.2 as (λ _. KeptBy after) [
        | inl released ↦ left_keeps (release_calls stop.0) stop.0 from after stop.1 here.1 released (release_keeps stop.0 here.0)
        | inr ran ↦ left_keeps (command ran.1.0 stop.0) stop.0 from after stop.1 here.1 ran.1.1 (keeps ran.1.0 stop.0 here.0)
      ])

-- an update that is stopped stays as it was

module _ {Key : Type 0} (m : Meaning Key) (keeps : IsKept m) (stamp : Stamp) (sets : List (Set Key)) (first : Contents)
    (read : AreRead Postgresql m sets) (own : list_all has_own_sum sets ≡ true) (apart : are_twins sets ≡ false) where
  -- it can be run again, and leaves what it leaves from the first contents
  abbrev IsSteadyOn : Contents → Type 0
  IsSteadyOn c = IsCalm Postgresql m keeps stamp sets c × Same Postgresql m keeps stamp (all_settled Postgresql m stamp.reading sets c) (all_settled Postgresql m stamp.reading sets first)

  turns_keep : (turns rest : List (Set Key)) (c : Contents) → sets ≡ turns ++ rest → (all_settled Postgresql m stamp.reading turns c).stop ≡ None → IsSteadyOn c → IsSteadyOn (all_settled Postgresql m stamp.reading turns c).contents
  turns_keep turns rest c are stop steady =
      let more = stays_calm Postgresql m keeps stamp turns rest c (subst (AreRead Postgresql m) are read) (subst (λ xs. list_all has_own_sum xs ≡ true) are own) (subst (λ xs. are_twins xs ≡ false) are apart) stop (subst (λ xs. IsCalm Postgresql m keeps stamp xs c) are steady.0) in
      let same = subst (λ xs. Same Postgresql m keeps stamp (all_settled Postgresql m stamp.reading xs (all_settled Postgresql m stamp.reading turns c).contents) (all_settled Postgresql m stamp.reading xs c)) (sym are) more.1 in
      (subst (λ xs. IsCalm Postgresql m keeps stamp xs (all_settled Postgresql m stamp.reading turns c).contents) (sym are) more.0, (same.0 ∙ steady.1.0, same.1 ∙ steady.1.1))

  module _ (who : List ℕ) (database : Database) (steady : IsSteadyOn (contents_of database)) where
    abbrev by : Stamp
    by = record stamp { who = who }

    abbrev here : Session
    here = first_session Postgresql by database

    read_front : (turns rest : List (Set Key)) → AreRead Postgresql m (turns ++ rest) → AreRead Postgresql m turns
    read_front turns rest all = all-append_left (λ (x : Set Key). list_all (m.is_for Postgresql) x.changes) turns rest all

    front_keeps : (front : Journal) (now : Database) → IsFront m by sets (contents_of database) here front → all_done Postgresql (joined (here.entries ++ front)) database ≡ Ok now → IsSteadyOn (contents_of now)
    front_keeps front now is led =
        let calls = Alone (map Locks (opening by database)) Ordinary ∷ sets_calls Postgresql m by is.turns (contents_of database) in
        let leads = journal_leads Postgresql calls database in
        let same = one_ok database (λ w e. []) (λ c. IsSteadyOn c) (all_done Postgresql (joined (here.entries ++ front)) database) led (ap (λ es. all_done Postgresql (joined es) database) (sym is.entries) ∙ leads) in
        let taken = sets_taken Postgresql m keeps by is.turns (contents_of database) here (read_front is.turns is.rest (subst (AreRead Postgresql m) is.are read)) steady.0.sound (opened Postgresql by database) in
        let at = ap contents_of same ∙ taken.committed in
        subst IsSteadyOn (sym at) (turns_keep is.turns is.rest (contents_of database) is.are is.goes_on steady)

    locked_keeps : StopKeeps database (λ w e. []) IsSteadyOn (with_lock by database (sets_calls Postgresql m by sets (contents_of database))) database
    locked_keeps front rest now is led =
        let at = opened Postgresql by database in
        let ready = opened_by Postgresql by database in
        let all = all_fronts m keeps by sets (contents_of database) here (record { committed = at.committed; seen = at.seen; begun = ready.begun }) steady.0.sound read apart steady.0.whole in
        let stop = falls Postgresql by database (sets_calls Postgresql m by sets (contents_of database)) all.all all.wrote all.idle front rest now is led in
        let contents = elim stop as (λ _. IsSteadyOn (contents_of now)) [
          | inl opens ↦ subst IsSteadyOn (sym opens.contents) steady
          | inr later ↦ elim later as (λ _. IsSteadyOn (contents_of now)) [
            | inl within ↦ front_keeps within.front now (all.fronts within.front within.rest within.is) within.led
            | inr after ↦ subst IsSteadyOn (sym after.contents) (front_keeps all.all after.before (all.fronts all.all [] (sym (append-nil all.all))) after.led)
          ]
        ] in
        (contents, lock_stands by database all.all now all.others stop)

    update_keeps : (g : Changelog Key) → g.sets ≡ sets → StopKeeps database (λ w e. []) IsSteadyOn (update_calls Postgresql m by g database) database
    update_keeps g same = subst (λ xs. StopKeeps database (λ w e. []) IsSteadyOn (if has_work xs database.rows && not (is_halt (own_choice g (contents_of database))) then with_lock by database (sets_calls Postgresql m by xs (contents_of database)) else []) database) (sym same)
        (elim (has_work sets database.rows && not (is_halt (own_choice g (contents_of database)))) as (λ b. StopKeeps database (λ w e. []) IsSteadyOn (if b then with_lock by database (sets_calls Postgresql m by sets (contents_of database)) else []) database) [
          | true ↦ locked_keeps
          | false ↦ nothing_kept database (λ w e. []) IsSteadyOn database steady
        ])

-- without a condition of its own, an update is what its changesets do
bare_is : {Key : Type 0} (m : Meaning Key) (stamp : Stamp) (g : Changelog Key) (c : Contents) → g.condition.told c ≡ Ok true → updated Postgresql m stamp.reading g c ≡ all_settled Postgresql m stamp.reading g.sets c
bare_is m stamp g c bare = ap (λ told. by_own (tested New g.condition told) c (all_settled Postgresql m stamp.reading g.sets c)) bare

pub update_resumes : {Key : Type 0} (m : Meaning Key) → IsKept m → UpdateResumes m
update_resumes m keeps stamp g start database sound read own apart steady stopped =
    let calm : IsCalm Postgresql m keeps stamp g.sets (contents_of start) = record { sound = sound; none_skipped = ap skips (sym (bare_is m stamp g (contents_of start) (steady.bare _))) ∙ steady.none_skipped; once = steady.once; whole = steady.whole } in
    let kept = trail_keeps start (λ who. update_calls Postgresql m (record stamp { who = who }) g) (IsSteadyOn m keeps stamp g.sets (contents_of start) read own apart)
    (λ who e is. update_keeps m keeps stamp g.sets (contents_of start) read own apart who e is g refl)
    [] stopped.stops stopped.last stopped.trail
    (λ e is. (subst (λ (x : Database). IsSteadyOn m keeps stamp g.sets (contents_of start) read own apart (contents_of x)) (same_ok Postgresql is) (calm, (refl, refl)), inl (sym (same_ok Postgresql is))))
    database stopped.led in
    let same = kept.0.1 in
    let leaves = update_rests m keeps Postgresql stamp g database kept.0.0.sound read in
    let contents = ap (λ (s : Settled). s.contents) (bare_is m stamp g (contents_of database) (steady.bare _)) ∙ same.0 ∙ ap (λ (s : Settled). s.contents) (sym (bare_is m stamp g (contents_of start) (steady.bare _))) in
    let stop = ap (λ (s : Settled). s.stop) (bare_is m stamp g (contents_of database) (steady.bare _)) ∙ same.1 ∙ ap (λ (s : Settled). s.stop) (sym (bare_is m stamp g (contents_of start) (steady.bare _))) in (
      rests_on start database (left_by Postgresql (update_calls Postgresql m stamp g database) database) _ (not_held start database kept.1 stopped.unlocked)
          (subst (λ c. IsAtRest database c (left_by Postgresql (update_calls Postgresql m stamp g database) database)) contents leaves),
      stop,
    )

same_contents : (users : Catalogue) (rows : List Tracked) (c : Contents) → users ≡ c.users → rows ≡ c.rows → (let e : Contents = record { users = users; rows = rows } in e) ≡ c
same_contents users rows c first second = ap (λ u. record { users = u; rows = rows }) first ∙ ap (λ r. record { users = c.users; rows = r }) second

pub resumed_returns : {Key : Type 0} (m : Meaning Key) → IsKept m → ResumedReturns m
resumed_returns m keeps stamp later g sets xs start database sound read own apart steady stopped ran can known =
    let left = (update_resumes m keeps stamp g start database sound read own apart steady stopped).0 in
    let after = left_by Postgresql (update_calls Postgresql m stamp g database) database in
    let same = same_contents after.users after.rows (updated Postgresql m stamp.reading g (contents_of start)).contents left.users left.rows in
    let back = rollback_rests m keeps Postgresql later sets (contents_of start) xs after (subst (RanSince Postgresql m (contents_of start) xs) (sym same) ran) can known in
    rests_on start after (left_by Postgresql (rollback_calls Postgresql m later sets (length start.rows) after) after) (contents_of start) left.lock back
