-- What a command leaves that a fault of the store ended.
use Rattle.std.proofs.Common.{ap, inl, inr, refl, subst, sym, ◌∙◌}
use Rattle.std.proofs.lemmas.List.{append_assoc, append_cancel_left, map-append}
use Rattle.std.specs.Option.{option_map}
use Rattle.std.specs.Prelude.{List, None, Option, Some, [], false, map, ℕ, ◌++◌, ◌∷◌, ◌≡◌, ◌⊎◌}
use Rattle.lq_base.specs.declared.dialect.Dialect.{Dialect}
use Rattle.lq_base.specs.declared.tracking.Lock.{Lock}
use Rattle.lq_drill.specs.Faults.{freed}
use Rattle.lq_model.specs.declared.caller.Room.TheVariants.{Ordinary, Release}
use Rattle.lq_model.specs.declared.fault.StoreFault.{StoreFault}
use Rattle.lq_store.specs.Calls.{Fails}
use Rattle.lq_store.specs.Journal.{Entry, State}
use Rattle.lq_track.specs.Database.{Database}
use Rattle.lq_turns.proofs.Made.{calls_both}
use Rattle.lq_turns.specs.Rest.{rest}
use Rattle.lq_turns.specs.Script.{closing, opening}
use Rattle.lq_turns.specs.Session.{Session, all_called, called, room_of, session_on}
use Rattle.lq_turns.specs.Set.{Meaning}
use Rattle.lq_turns.specs.Stops.{IsLeft, has_mark, is_mark}
use Rattle.lq_turns.specs.declared.call.Call.{Call}
use Rattle.lq_turns.specs.declared.call.Call.TheVariants.{Alone}
use Rattle.lq_turns.specs.declared.deed.Deed.TheVariants.{Locks}
use Rattle.lq_turns.specs.declared.deed.OnLock.TheVariants.{Freed}
use Rattle.lq_turns.specs.declared.stamp.Stamp.{Stamp}
use Rattle.lq_run.proofs.Begins.{opened, script_closes}
use Rattle.lq_run.proofs.Grows.{came_on, closing_entry}
use Rattle.lq_run.proofs.Left.{leads, rests_at, short_at, stands_there}
use Rattle.lq_run.proofs.Resting.{closing_frees, closing_shuts, marked_some}
use Rattle.lq_run.specs.Commands.{HasDatabase, IsNew, RunsWhole, both_on, script}
use Rattle.lq_run.specs.Ends.{BreaksBefore, CameFrom, EndsAs, IsAtLock, IsBefore, IsFullBefore, IsFullSince, IsToCome, LetsGo, RestsAs, RestsBefore, RestsShort, RestsShortAs, StaysFull}
use Rattle.lq_run.specs.Stands.{IsBare, Stands, entries_of, entry_of}
use Rattle.lq_run.specs.Left.{BreaksIn, ClosesHeld, HasClosing, IsAsTaken, IsAtMostFreed, IsFullIn, LeavesLock, LeavesShort, LeftAll, LeftAs, RestsIn, RestsShortIn}
use Rattle.lq_run.specs.Steps.{Standing, place}
use Rattle.lq_run.specs.declared.runner.End.{End}
use Rattle.lq_run.specs.declared.runner.End.TheVariants as end

rooms_differ : Ordinary ≡ Release → ⊥
rooms_differ h = Prim.cc

none_some : {why : StoreFault} → (let o : Option StoreFault = None in o) ≡ Some why → ⊥
none_some h = Prim.cc

added_twice : (o : Option (List Entry)) (a b : List Entry) → option_map (λ (entries : List Entry). entries ++ b) (option_map (λ (entries : List Entry). entries ++ a) o) ≡ option_map (λ (entries : List Entry). entries ++ (a ++ b)) o
added_twice None a b = refl
added_twice (Some entries) a b = ap Some (append_assoc entries a b)

module _ {Key : Type 0} (d : Dialect) (m : Meaning Key) (stamp : Stamp) (number : ℕ) (unmarked : is_mark stamp.who ≡ false) (x y : State) (database : Database) (has : HasDatabase d x database) (calls : List Call) (has_closing : HasClosing calls) where
  abbrev last : Session
  last = all_called d calls (session_on database)

  -- what a session on the way has written may be left by a stop
  left_before : (s : Session) → CameFrom d (session_on database) s → IsBefore s last → IsLeft d calls database [] s.entries
  left_before s came before = record { front = s.entries; rest = before.more; entries = before.entries; now = s.committed; led = (leads d database s came).committed; is = inl refl }

  -- and so what it has written when it freed a lock without a mark
  left_closed : (s : Session) → CameFrom d (session_on database) s → IsBefore s last → IsBare stamp s.committed.lock → s.begun ≡ [] → IsLeft d calls database [] (called d closing s).entries
  left_closed s came before bare none =
      record { front = s.entries; rest = before.more; entries = before.entries; now = s.committed; led = (leads d database s came).committed; is = inr (closing_entry d s none, ap has_mark bare ∙ unmarked) }

  -- which is no more than a front of their entries, but for that entry behind it
  front_before : (s : Session) → IsBefore s last → ClosesHeld d calls database s.entries
  front_before s before = inl (before.more, before.entries)

  held_closed : (s : Session) → CameFrom d (session_on database) s → IsBefore s last → IsBare stamp s.committed.lock → s.begun ≡ [] → ClosesHeld d calls database (called d closing s).entries
  held_closed s came before bare none = inr (record {
    closes = has_closing;
    front = s.entries;
    is_front = (before.more, before.entries);
    now = s.committed;
    led = (leads d database s came).committed;
    held = ap (λ (lock : Lock). lock.locked) bare;
    unmarked = ap has_mark bare ∙ unmarked;
    is = closing_entry d s none;
  })

  -- with a call to come
  left_called : (s : Session) (call : Call) → CameFrom d (session_on database) s → IsToCome d m stamp number x (session_on database) last call s → IsLeft d calls database [] (called d call s).entries
  left_called s call came (inl before) = left_before (called d call s) (came_on d (session_on database) s call came) before
  left_called s call came (inr early) = subst (λ c. IsLeft d calls database [] (called d c s).entries) (sym early.0) (left_closed s came early.3 early.1 early.2)

  held_called : (s : Session) (call : Call) → CameFrom d (session_on database) s → IsToCome d m stamp number x (session_on database) last call s → ClosesHeld d calls database (called d call s).entries
  held_called s call came (inl before) = front_before (called d call s) before
  held_called s call came (inr early) = subst (λ c. ClosesHeld d calls database (called d c s).entries) (sym early.0) (held_closed s came early.3 early.1 early.2)

  module _ (is : BreaksBefore d m stamp number x (session_on database) last y) where
    abbrev next : Session
    next = called d is.call is.s

    abbrev here : List Entry
    here = entries_of d is.s.entries

    there : is.x.entries ≡ option_map (λ entries. entries ++ here) x.entries
    there = subst (λ e. is.x.entries ≡ option_map (λ entries. entries ++ entries_of e is.s.entries) x.entries) has.dialect is.stands.entries

    pub fails : Fails (entries_of d next.entries) x y
    fails =
        let of = is.breaks in
        let f = of.fails in
        record {
          dead = f.dead;
          dialect_is = f.dialect_is ∙ is.stands.dialect;
          limit_is = f.limit_is ∙ is.stands.limit;
          front = here ++ f.front;
          is_front = (
            f.is_front.0,
            ap (entries_of d) of.appends.entries ∙ map-append (entry_of d) is.s.entries of.appends.more ∙ ap (λ es. here ++ es) (sym of.appends.texts ∙ f.is_front.1) ∙ sym (append_assoc here f.front f.is_front.0),
          );
          entries_are = f.entries_are ∙ ap (option_map (λ (entries : List Entry). entries ++ f.front)) there ∙ added_twice x.entries here f.front;
        }

    breaks_in : BreaksIn d calls database x y
    breaks_in = record { written = next.entries; left = left_called is.s is.call is.came is.before; closes = held_called is.s is.call is.came is.before; fails = fails }

  -- how full it was
  full_in : (used more : ℕ) → (is : IsFullBefore d m stamp number x (session_on database) last used more) → (full : IsFullIn d calls database x used more) × (full.written ≡ is.s.entries) × (is.call ≡ closing → full.more ≡ freed)
  full_in used more is = (
    record {
      written = is.s.entries;
      more = is.more;
      stops = left_before is.s is.came (on_way is.before);
      comes = subst (IsLeft d calls database []) is.appends (left_called is.s is.call is.came is.before);
      made = is.came.calls;
      call = is.call;
      wrote = ap (λ (s : Session). s.entries) (sym is.came.is);
      appends = ap (λ (s : Session). (called d is.call s).entries) (sym is.came.is) ∙ is.appends;
      next_call = elim is.next_call [
        | inl goes ↦ inl (goes.0, calls_both d is.came.calls (is.call ∷ goes.0) (session_on database) ∙ ap (all_called d (is.call ∷ goes.0)) (sym is.came.is) ∙ goes.1)
        | inr left ↦ inr (left, has_closing)
      ];
      used_is = is.used_is;
      next_is = is.next_is;
      room = room_of is.call;
      in_room = refl;
      which = by is.which;
      full = is.full;
    },
    refl,
    λ closes. frees closes is.which,
  ) where
    on_way : IsToCome d m stamp number x (session_on database) last is.call is.s → IsBefore is.s last
    on_way (inl before) = record { more = is.more ++ before.more; entries = before.entries ∙ ap (λ es. es ++ before.more) is.appends ∙ append_assoc is.s.entries is.more before.more }
    on_way (inr early) = early.3

    by : ((room_of is.call ≡ Ordinary) ⊎ ((is.call ≡ closing) × (is.s.begun ≡ []))) → (room_of is.call ≡ Ordinary) ⊎ (is.more ≡ (Locks Freed ∷ []) ∷ [])
    by (inl ordinary) = inl ordinary
    by (inr closes) = inr (append_cancel_left is.s.entries is.more ((Locks Freed ∷ []) ∷ []) (sym is.appends ∙ ap (λ call. (called d call is.s).entries) closes.0 ∙ closing_entry d is.s closes.1))

    frees : is.call ≡ closing → ((room_of is.call ≡ Ordinary) ⊎ ((is.call ≡ closing) × (is.s.begun ≡ []))) → is.more ≡ freed
    frees closes (inl ordinary) = absurd (rooms_differ (sym ordinary ∙ ap room_of closes))
    frees closes (inr both) = append_cancel_left is.s.entries is.more freed (sym is.appends ∙ ap (λ call. (called d call is.s).entries) closes ∙ closing_entry d is.s both.1)

  -- and how its lock rests
  module _ (used more : ℕ) (is : RestsBefore d m stamp number x (session_on database) last false None used more y) where
    module _ (full : StaysFull d m stamp number x (session_on database) last used more is.s) where
      told : (it : IsFullIn d calls database x used more) × (it.written ≡ full.0.s.entries) × (full.0.call ≡ closing → it.more ≡ freed)
      told = full_in used more full.0

      behind_so : (t : Session) → IsAtMostFreed is.s.entries t.entries → IsAtMostFreed told.0.written t.entries
      behind_so t behind = subst (λ w. IsAtMostFreed w t.entries) (full.1 ∙ sym told.1) behind

      rests_there : Stands x number y is.s → LeavesLock is.s.committed.lock told.0.more is.s.entries → RestsIn d calls database x y used more
      rests_there stands lock = rests_at d number x database has calls y is.s is.came (left_before is.s is.came is.before) (front_before is.s is.before) stands is.shut.0 used more told.0 (behind_so is.s (inl refl)) lock

      lets_go : LetsGo d m stamp number x (session_on database) last is.s y → RestsIn d calls database x y used more
      lets_go (inl bare) =
          rests_at d number x database has calls y (called d closing is.s) (came_on d (session_on database) is.s closing is.came) (left_closed is.s is.came is.before bare.0 is.shut.1) (held_closed is.s is.came is.before bare.0 is.shut.1) bare.1 (closing_shuts d is.s)
          used more told.0 (behind_so (called d closing is.s) (inr (closing_entry d is.s is.shut.1))) (inl (inl (closing_frees d is.s)))
      lets_go (inr marked) = rests_there marked.1 (inl (inr (marked_some stamp is.s.committed.lock marked.0)))

      at_lock : Stands x number y is.s → IsAtLock d m stamp number x (session_on database) last false full.0.call is.s → RestsIn d calls database x y used more
      at_lock stands (inl closes) = rests_there stands (inr (inl (told.2 closes)))
      at_lock stands (inr opens) = rests_there stands (inr (inr opens.2))

    since : IsFullSince d m stamp number x (session_on database) last None used more is.s → StaysFull d m stamp number x (session_on database) last used more is.s
    since (inl full) = full
    since (inr met) = absurd (none_some met)

    rests_in : RestsIn d calls database x y used more
    rests_in = by is.rests where
      by : RestsAs d m stamp number x (session_on database) last false None used more is.s y → RestsIn d calls database x y used more
      by (inl gone) = lets_go (since gone.0) gone.1
      by (inr still) = at_lock still.1.0 still.0 still.1.1

  -- and so after want of memory, where the first of the calls takes the lock
  module _ (is : RestsShort d m stamp number x (session_on database) last false y) (takes : IsBare stamp is.s.committed.lock → IsAsTaken d calls database is.s.committed.lock) where
    short_there : Stands x number y is.s → LeavesShort d calls database is.s.committed.lock is.s.entries → RestsShortIn d calls database x y
    short_there stands lock = short_at d number x database has calls y is.s is.came (left_before is.s is.came is.before) (front_before is.s is.before) stands is.shut.0 lock

    short_gone : LetsGo d m stamp number x (session_on database) last is.s y → RestsShortIn d calls database x y
    short_gone (inl bare) =
        short_at d number x database has calls y (called d closing is.s) (came_on d (session_on database) is.s closing is.came) (left_closed is.s is.came is.before bare.0 is.shut.1) (held_closed is.s is.came is.before bare.0 is.shut.1) bare.1 (closing_shuts d is.s)
        (inl (inl (closing_frees d is.s)))
    short_gone (inr marked) = short_there marked.1 (inl (inr (marked_some stamp is.s.committed.lock marked.0)))

    short_in : RestsShortIn d calls database x y
    short_in = by is.rests where
      by : RestsShortAs d m stamp number x (session_on database) last false is.s y → RestsShortIn d calls database x y
      by (inl gone) = short_gone gone
      by (inr still) = short_there still.0 (inr (elim still.1 [ inl bare ↦ inl (takes bare) | inr opens ↦ inr opens.1 ]))

  left_as : (takes : (lock : Lock) → IsBare stamp lock → IsAsTaken d calls database lock) (e : End) → EndsAs d m stamp number x (session_on database) last false None e y → LeftAs d calls database x e y
  left_as takes end.Done ends = tt
  left_as takes (end.Refused refusal) ends = tt
  left_as takes (end.Locked lock) ends = tt
  left_as takes end.Disk ends = breaks_in ends
  left_as takes (end.Full used more) ends = rests_in used more ends.1
  left_as takes end.OutOfMemory ends = short_in ends.1 (takes ends.1.s.committed.lock)

pub left_all : {Key Told : Type 0} (d : Dialect) (m : Meaning Key) (stamp : Stamp) (number : ℕ) (r : Standing Key Told) → IsNew d m stamp r → (x y : State) (e : End) → RunsWhole d m stamp number r x e y → LeftAll d m stamp r x e y
left_all d m stamp number r new x y e whole unmarked database told has known fits =
    left_as d m stamp number unmarked x y database has (script d m stamp (place r) database) (script_closes d m stamp r new database)
    (λ lock bare. record { first = Alone (map Locks (opening stamp database)) Ordinary; others = rest d m stamp (place r) (both_on database); is = refl; same = bare ∙ sym (opened d m stamp number database []).committed }) e
    (whole x (session_on database) told (record { dialect = has.dialect; stands = stands_there d number x database has; shut = refl; known = known; fits = fits }))
