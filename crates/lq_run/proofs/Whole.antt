-- From the call that takes the lock to the end.
use Rattle.std.proofs.Common.{ap, inl, inr, refl, subst, sym, ◌∙◌}
use Rattle.std.specs.Prelude.{Err, List, None, Ok, Option, Some, [], false, map, true, ℕ, ◌++◌, ◌∷◌, ◌≡◌, ◌⊎◌}
use Rattle.lq_base.specs.declared.dialect.Dialect.{Dialect}
use Rattle.lq_model.proofs.Lists.{and_right}
use Rattle.lq_model.specs.declared.caller.Room.TheVariants.{Ordinary}
use Rattle.lq_model.specs.declared.fault.StoreFault.{StoreFault}
use Rattle.lq_model.specs.declared.fault.StoreFault.TheVariants as fault
use Rattle.lq_store.specs.Journal.{State, Transaction}
use Rattle.lq_track.specs.Database.{Database}
use Rattle.lq_turns.proofs.Made.{calls_both}
use Rattle.lq_turns.specs.Session.{Both, Session, all_called, called, session_on}
use Rattle.lq_turns.specs.Rest.{rest}
use Rattle.lq_turns.specs.Script.{closing, opening}
use Rattle.lq_turns.specs.Set.{Meaning}
use Rattle.lq_turns.specs.declared.call.Call.{Call}
use Rattle.lq_turns.specs.declared.call.Call.TheVariants.{Alone}
use Rattle.lq_turns.specs.declared.deed.Deed.{Deed}
use Rattle.lq_turns.specs.declared.deed.Deed.TheVariants.{Locks}
use Rattle.lq_turns.specs.declared.stamp.Stamp.{Stamp}
use Rattle.lq_beside.specs.Replays.{call_fits, calls_fit}
use Rattle.lq_hand.specs.Way.{Way}
use Rattle.lq_run.proofs.Begins.{begins, ends_script, first_session, new_keeps, resting}
use Rattle.lq_run.proofs.Full.{full_before}
use Rattle.lq_run.proofs.Grows.{calls_grow, came_all}
use Rattle.lq_run.proofs.Left.{all_taken, leaves_so, ok_err, stands_there}
use Rattle.lq_run.specs.Commands.{HasDatabase, IsNew, Leaves, LeavesAll, LeavesAs, MayRun, RunsWhole, TellsAll, both_on, script}
use Rattle.lq_run.specs.Does.{Breaks, DoesAlone}
use Rattle.lq_run.specs.Ends.{CameFrom, EndsAs, IsAtLock, IsBefore, IsFullBefore, IsFullSince, IsRunning, RestsAs, RestsBefore, RestsShort, RestsShortAs, Runs, RunsOn, StaysFull, TellsOn, at_end}
use Rattle.lq_run.specs.Moves.{TakesLock}
use Rattle.lq_run.specs.Stands.{IsBare, IsBegun, Stands}
use Rattle.lq_run.specs.Steps.{Standing, end_of, place, AfterFault, TellsTo}
use Rattle.lq_run.specs.declared.runner.End.{End}
use Rattle.lq_run.specs.declared.runner.End.TheVariants as end

not_true : false ≡ true → ⊥
not_true h = Prim.cc

-- a session without a transaction

rests_as : (start x : State) (number : ℕ) (s : Session) (o : Option Transaction) → IsBegun start.dialect number s o → s.is_open ≡ false → s ≡ resting s.committed s.entries
rests_as start x number s None begun shut =
    ap (λ b. record s { is_open = b }) shut ∙ ap (λ (c : Database). record s { is_open = false; seen = c }) begun.1 ∙ ap (λ (ds : List Deed). record s { is_open = false; seen = s.committed; begun = ds }) begun.2
rests_as start x number s (Some t) begun shut = absurd (not_true (sym shut ∙ begun.0))

module _ {Key Told : Type 0} (d : Dialect) (m : Meaning Key) (stamp : Stamp) (number : ℕ) (r : Standing Key Told) (start x y : State) (s : Session) (told : Told) (may : MayRun d m stamp number r x start s told) where
  abbrev at_rest : Session
  at_rest = resting s.committed s.entries

  rests : s ≡ at_rest
  rests = rests_as start x number s x.begun may.stands.begun may.shut

  stands : Stands start number x at_rest
  stands = subst (Stands start number x) rests may.stands

  abbrev calls : List Call
  calls = script d m stamp (place r) s.committed

  abbrev last : Session
  last = all_called d calls at_rest

  here : CameFrom d at_rest at_rest
  here = record { calls = []; is = refl }

  before : IsBefore at_rest last
  before = calls_grow d calls at_rest

  fails : (why : StoreFault) → DoesAlone start number x at_rest (map Locks (opening stamp s.committed)) Ordinary (Err why) y → EndsAs d m stamp number start at_rest last false None (end_of why) y
  fails fault.Disk does = record {
    s = at_rest;
    x = x;
    stands = stands;
    came = here;
    call = Alone (map Locks (opening stamp s.committed)) Ordinary;
    breaks = subst (λ e. Breaks e (Alone (map Locks (opening stamp s.committed)) Ordinary) at_rest x y) may.dialect does;
    before = inl (calls_grow d (rest d m stamp (place r) (both_on s.committed)) (first_session d m stamp number s.committed s.entries));
  }
  fails (fault.Full used next) does =
      let still : Stands start number y at_rest = subst (λ z. Stands start number z at_rest) (sym does.1) stands in
      let full = full_before d m stamp number start at_rest last at_rest x stands may.dialect here (Alone (map Locks (opening stamp s.committed)) Ordinary) Ordinary used next refl (inl refl)
      (inl (calls_grow d (rest d m stamp (place r) (both_on s.committed)) (first_session d m stamp number s.committed s.entries))) (inl (rest d m stamp (place r) (both_on s.committed), refl)) does.0 in (
        (at_rest, here, before, inl still),
        record { s = at_rest; came = here; before = before; shut = (refl, refl); rests = inr (still, ((full.0, ap (λ (t : Session). t.entries) (sym full.1)), inr (refl, full.2, refl))) },
      )
  fails fault.OutOfMemory does =
      let still : Stands start number y at_rest = subst (λ z. Stands start number z at_rest) (sym does) stands in
      ((at_rest, here, before, inl still), record { s = at_rest; came = here; before = before; shut = (refl, refl); rests = inr (still, inr (refl, refl)) })
  fails (fault.Busy n) does = absurd does
  fails fault.NotSql does = absurd does
  fails (fault.Refused reason) does = let it = all_taken start.dialect (opening stamp s.committed) s.committed in absurd (ok_err (sym it.1 ∙ does.0))

  whole : (e : End) → EndsAs d m stamp number start at_rest last false None e y → EndsAs d m stamp number start s (all_called d calls s) false None e y
  whole e ends = subst (λ t. EndsAs d m stamp number start t (all_called d calls t) false None e y) (sym rests) ends

  pub not_taken : (why : StoreFault) → TakesLock d stamp number x (Err why) y → EndsAs d m stamp number start s (all_called d calls s) false None (end_of why) y
  not_taken why takes = whole (end_of why) (fails why (takes start at_rest may.dialect stands))

  pub is_taken : IsNew d m stamp r → TakesLock d stamp number x (Ok tt) y → IsRunning d m stamp number r y start (first_session d m stamp number s.committed s.entries) told
  is_taken new takes =
      let does = takes start at_rest may.dialect stands in
      begins d m stamp number s.committed s.entries r told start y new may.dialect (subst (λ e. Stands start number y (called e (Alone (map Locks (opening stamp s.committed)) Ordinary) at_rest)) may.dialect does.2) may.known
      (and_right (call_fits d (Alone (map Locks (opening stamp s.committed)) Ordinary) at_rest) (calls_fit d (rest d m stamp (place r) (both_on s.committed)) (first_session d m stamp number s.committed s.entries))
      (subst (λ t. calls_fit d calls t ≡ true) rests may.fits))

  -- how full it was since a session tells it since one that came before
  full_since : (first next to : Session) (used more : ℕ) → CameFrom d first next → (is : IsFullBefore d m stamp number start next to used more) → (full : IsFullBefore d m stamp number start first to used more) × (full.s ≡ is.s) × (full.call ≡ is.call)
  full_since first next to used more came is = (
    record {
      s = is.s;
      came = came_all d first next is.s came is.came;
      call = is.call;
      before = is.before;
      next_call = is.next_call;
      which = is.which;
      used_is = is.used_is;
      more = is.more;
      appends = is.appends;
      next_is = is.next_is;
      full = is.full;
    },
    refl,
    refl,
  )

  -- and how the lock rests
  module _ (first next to : Session) (used more : ℕ) (came : CameFrom d first next) where
    stays_since : (t : Session) (full : StaysFull d m stamp number start next to used more t) → (now : StaysFull d m stamp number start first to used more t) × (now.0.call ≡ full.0.call)
    stays_since t full =
        let it = full_since first next to used more came full.0 in
        ((it.0, full.1 ∙ ap (λ (u : Session). u.entries) (sym it.1)), it.2)

    rests_since : (t : Session) (z : State) → RestsAs d m stamp number start next to true None used more t z → RestsAs d m stamp number start first to false None used more t z
    rests_since t z (inl gone) = inl (by gone.0, gone.1) where
      by : IsFullSince d m stamp number start next to None used more t → IsFullSince d m stamp number start first to None used more t
      by (inl full) = inl (stays_since t full).0
      by (inr met) = inr met
    rests_since t z (inr still) = let it = stays_since t still.1.0 in inr (still.0, (it.0, at_lock still.1.1 it.1)) where
      at_lock : {call now : Call} → IsAtLock d m stamp number start next to true call t → now ≡ call → IsAtLock d m stamp number start first to false now t
      at_lock (inl closes) same = inl (same ∙ closes)
      at_lock (inr opens) same = absurd (not_true (sym opens.0))

    ends_since : (z : State) → RestsBefore d m stamp number start next to true None used more z → RestsBefore d m stamp number start first to false None used more z
    ends_since z is = record { s = is.s; came = came_all d first next is.s came is.came; before = is.before; shut = is.shut; rests = rests_since is.s z is.rests }

  -- and so after want of memory
  module _ (first next to : Session) (came : CameFrom d first next) where
    short_since : (t : Session) (z : State) → RestsShortAs d m stamp number start next to true t z → RestsShortAs d m stamp number start first to false t z
    short_since t z (inl gone) = inl gone
    short_since t z (inr still) = inr (still.0, by still.1) where
      by : (IsBare stamp t.committed.lock ⊎ ((true ≡ false) × (t.entries ≡ next.entries))) → IsBare stamp t.committed.lock ⊎ ((false ≡ false) × (t.entries ≡ first.entries))
      by (inl bare) = inl bare
      by (inr opens) = absurd (not_true (sym opens.0))

    rests_short : (z : State) → RestsShort d m stamp number start next to true z → RestsShort d m stamp number start first to false z
    rests_short z is = record { s = is.s; came = came_all d first next is.s came is.came; before = is.before; shut = is.shut; rests = short_since is.s z is.rests }

  -- what ends so since a session ends so since one that came before it
  since : (first next to : Session) (e : End) (z : State) → CameFrom d first next → EndsAs d m stamp number start next to true None e z → EndsAs d m stamp number start first to false None e z
  since first next to end.Done z came ends = ends
  since first next to (end.Refused refusal) z came ends = ends
  since first next to (end.Locked lock) z came ends = ends
  since first next to end.Disk z came ends = record { s = ends.s; x = ends.x; stands = ends.stands; came = came_all d first next ends.s came ends.came; call = ends.call; breaks = ends.breaks; before = ends.before }
  since first next to (end.Full used more) z came ends = ((ends.0.0, came_all d first next ends.0.0 came ends.0.1, ends.0.2, ends.0.3), ends_since first next to used more came z ends.1)
  since first next to end.OutOfMemory z came ends = ((ends.0.0, came_all d first next ends.0.0 came ends.0.1, ends.0.2, ends.0.3), rests_short first next to came z ends.1)

  pub opens : IsNew d m stamp r → TakesLock d stamp number x (Ok tt) y → Runs d m stamp number r y
  opens new takes = record { start = start; session = first_session d m stamp number s.committed s.entries; told = told; is = is_taken new takes }

  pub ends_whole : (z : State) (e : End) → IsNew d m stamp r → TakesLock d stamp number x (Ok tt) y → RunsOn d m stamp number r y e z → EndsAs d m stamp number start s (all_called d calls s) false None e z
  ends_whole z e new takes runs =
      subst (λ t. EndsAs d m stamp number start t (all_called d calls t) false None e z) (sym rests)
      (since at_rest (first_session d m stamp number s.committed s.entries) last e z (record { calls = Alone (map Locks (opening stamp s.committed)) Ordinary ∷ []; is = refl })
      (subst (λ l. EndsAs d m stamp number start (first_session d m stamp number s.committed s.entries) l true None e z) (ends_script d m stamp number s.committed s.entries (place r))
      (subst (λ f. EndsAs d m stamp number start (first_session d m stamp number s.committed s.entries) (at_end d m stamp number (place r) (first_session d m stamp number s.committed s.entries)) true f e z) new.fault
      (runs start (first_session d m stamp number s.committed s.entries) told (is_taken new takes)))))

  pub tells_whole : (z : State) (e : End) (way : Dialect → Stamp → Told → Way) → IsNew d m stamp r → TakesLock d stamp number x (Ok tt) y → TellsOn d m stamp number r y e way → TellsTo (way d stamp told) e
  tells_whole z e way new takes tells = tells start (first_session d m stamp number s.committed s.entries) told (is_taken new takes) (subst (λ f. AfterFault f r.hand (r.way d stamp told)) (sym new.fault) tt)

-- in words of databases

module _ {Key Told : Type 0} (d : Dialect) (m : Meaning Key) (stamp : Stamp) (number : ℕ) (r : Standing Key Told) (new : IsNew d m stamp r) (x y : State) where
  -- the call that frees the lock leaves no transaction open
  shut_last : (all front : List Call) (t : Session) → all ≡ front ++ closing ∷ [] → (all_called d all t).is_open ≡ false
  shut_last all front t is = ap (λ cs. (all_called d cs t).is_open) is ∙ ap (λ (u : Session). u.is_open) (calls_both d front (closing ∷ []) t)

  shut_at_end : (b : Both) (t : Session) → (all_called d (rest d m stamp (place r) b) t).is_open ≡ false
  shut_at_end b t =
      let keeps = new_keeps d m stamp r new b in
      shut_last (rest d m stamp (place r) b) keeps.front t keeps.is

  module _ (database : Database) (has : HasDatabase d x database) where
    abbrev script_there : List Call
    script_there = script d m stamp (place r) database

    abbrev last_there : Session
    last_there = all_called d script_there (session_on database)

    left : Stands x number y last_there → Leaves d script_there database x y
    left stands = leaves_so d number x database has script_there y (shut_at_end (both_on database) (first_session d m stamp number database [])) stands

    leaves_as : (e : End) → EndsAs d m stamp number x (session_on database) last_there false None e y → LeavesAs d script_there database x e y
    leaves_as end.Done stands = left stands
    leaves_as (end.Refused refusal) stands = left stands
    leaves_as (end.Locked lock) ends = ends
    leaves_as end.Disk ends = tt
    leaves_as (end.Full used next) ends = tt
    leaves_as end.OutOfMemory ends = tt

  pub leaves : (e : End) → RunsWhole d m stamp number r x e y → LeavesAll d m stamp r x e y
  leaves e whole database told has known fits = leaves_as database has e (whole x (session_on database) told (record { dialect = has.dialect; stands = stands_there d number x database has; shut = refl; known = known; fits = fits }))

  pub tells : (e : End) (way : Dialect → Stamp → Told → Way) → ((start : State) (s : Session) (told : Told) → MayRun d m stamp number r x start s told → TellsTo (way d stamp told) e) → TellsAll d m stamp r x e way
  tells e way whole database told has known fits = whole x (session_on database) told (record { dialect = has.dialect; stands = stands_there d number x database has; shut = refl; known = known; fits = fits })
