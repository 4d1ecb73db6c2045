-- The store and its database, as one that stands for a session.
use Rattle.std.proofs.Common.{ap, inl, inr, refl, rules, subst, sym, ◌∙◌}
use Rattle.std.proofs.lemmas.List.{append-nil}
use Rattle.std.specs.Option.{option_map}
use Rattle.std.specs.Prelude.{Err, List, None, Ok, Option, Result, Some, [], false, if◌then◌else◌, map, true, ℕ, ◌+◌, ◌++◌, ◌∷◌, ◌≡◌, ◌⊎◌}
use Rattle.lq_base.specs.declared.dialect.Dialect.{Dialect}
use Rattle.lq_base.specs.declared.identity.Identity.{Identity}
use Rattle.lq_base.specs.declared.reason.Reason.{Reason}
use Rattle.lq_model.proofs.Lists.{and_left}
use Rattle.lq_model.specs.declared.caller.Room.{Room}
use Rattle.lq_model.specs.declared.caller.Room.TheVariants.{Ordinary, Release}
use Rattle.lq_model.specs.declared.fault.StoreFault.{StoreFault}
use Rattle.lq_model.specs.declared.fault.StoreFault.TheVariants as fault
use Rattle.lq_store.specs.Calls.{Fails}
use Rattle.lq_store.specs.Journal.{Entry, size_of_all, State, Transaction}
use Rattle.lq_track.specs.Database.{Database}
use Rattle.lq_turns.proofs.Journal.{Leads, calls_lead}
use Rattle.lq_turns.specs.Deed.{contents_of, with_contents, all_done, done, lock_after}
use Rattle.lq_turns.specs.Schedule.{StandsFor, all_fit}
use Rattle.lq_turns.specs.Script.{clear_calls, clearing, closing, opening, release_calls, tag_calls, tag_of}
use Rattle.lq_turns.specs.Session.{Session, accepted, all_called, all_executed, all_executed_as, called, session_on}
use Rattle.lq_turns.specs.Stops.{IsLeft}
use Rattle.lq_turns.specs.declared.call.Call.{Call}
use Rattle.lq_turns.specs.declared.call.Call.TheVariants.{Alone}
use Rattle.lq_turns.specs.declared.deed.Deed.{Deed}
use Rattle.lq_turns.specs.declared.deed.Deed.TheVariants.{Locks, Rows}
use Rattle.lq_turns.specs.declared.deed.OnLock.{OnLock}
use Rattle.lq_turns.specs.declared.deed.OnLock.TheVariants.{Freed}
use Rattle.lq_turns.specs.declared.deed.OnRows.TheVariants.{Cleared, Tagged}
use Rattle.lq_turns.specs.declared.stamp.Stamp.{Stamp}
use Rattle.lq_beside.specs.Replays.{calls_fit}
use Rattle.lq_run.proofs.Full.{full_once}
use Rattle.lq_run.proofs.Grows.{closing_entry}
use Rattle.lq_run.proofs.Rooms.{no_entries}
use Rattle.lq_run.specs.Commands.{HasDatabase, Leaves}
use Rattle.lq_run.specs.Does.{AloneFor, Breaks, DoesAlone, HasNoRoom}
use Rattle.lq_run.specs.Ends.{CameFrom}
use Rattle.lq_run.specs.Left.{ClosesHeld, IsAtMostFreed, IsFullIn, LeavesCleared, LeavesLock, LeavesOnce, LeavesOpened, LeavesReleased, LeavesShort, LeavesTagged, RestsIn, RestsShortIn, StopsIn}
use Rattle.lq_run.specs.Moves.{TakesLock}
use Rattle.lq_run.specs.Stands.{HadRoom, IsBegun, Stands, entries_of}

not_true : false ≡ true → ⊥
not_true h = Prim.cc

pub ok_err : {database : Database} {reason : Reason} → (let r : Result Database Reason = Ok database in r) ≡ Err reason → ⊥
ok_err h = Prim.cc

none_open : (d : Dialect) (number : ℕ) (s : Session) (o : Option Transaction) → IsBegun d number s o → s.is_open ≡ false → o ≡ None
none_open d number s None begun shut = refl
none_open d number s (Some t) begun shut = absurd (not_true (sym shut ∙ begun.0))

no_more : (o : Option (List Entry)) → o ≡ option_map (λ (entries : List Entry). entries ++ []) o
no_more None = refl
no_more (Some entries) = ap Some (sym (append-nil entries))

-- nothing refuses the deeds that take the lock
pub all_taken : (d : Dialect) (ws : List OnLock) (database : Database) → (now : Database) × (all_done d (map Locks ws) database ≡ Ok now)
all_taken d [] database = (database, refl)
all_taken d (w ∷ ws) database = all_taken d ws (with_contents (lock_after w database) (contents_of database))

-- a call of its own leaves no transaction open
executes_shut : (d : Dialect) (deeds : List Deed) (s : Session) → (all_executed d deeds s).is_open ≡ false
executes_shut d [] s = refl
executes_shut d (deed ∷ deeds) s = elim (done d deed s.seen) as (λ r. (all_executed_as d deed s (all_executed d deeds) r).is_open ≡ false) [
  | Ok now ↦ executes_shut d deeds (accepted d deed now s)
  | Err reason ↦ refl
]

-- what a session has written leads from where it began to what it has committed
pub leads : (d : Dialect) (database : Database) (s : Session) → CameFrom d (session_on database) s → Leads d database s
leads d database s came = subst (Leads d database) (sym came.is) (calls_lead d database came.calls (session_on database) (record { committed = refl; seen = refl }))

module _ (d : Dialect) (number : ℕ) (x : State) (database : Database) (has : HasDatabase d x database) where
  pub stands_there : Stands x number x (session_on database)
  stands_there = record {
    dialect = refl;
    limit = refl;
    live = has.live;
    committed = subst (λ e. StandsFor e x.committed database) (sym has.dialect) has.committed;
    begun = subst (IsBegun x.dialect number (session_on database)) (sym has.shut) (refl, refl, refl);
    entries = no_more x.entries;
    used = search rules;
    room = no_entries x.dialect x.limit x.used;
  }

  pub leaves_so : (calls : List Call) (y : State) → (all_called d calls (session_on database)).is_open ≡ false → Stands x number y (all_called d calls (session_on database)) → Leaves d calls database x y
  leaves_so calls y shut stands =
      let last = all_called d calls (session_on database) in
      record {
        database_is = record {
          dialect = stands.dialect ∙ has.dialect;
          live = stands.live;
          shut = none_open x.dialect number last y.begun stands.begun shut;
          committed = subst (λ e. StandsFor e y.committed last.committed) has.dialect stands.committed;
        };
        limit = stands.limit;
        entries = subst (λ e. y.entries ≡ option_map (λ entries. entries ++ entries_of e last.entries) x.entries) has.dialect stands.entries;
        used = subst (λ e. y.used ≡ x.used + size_of_all (entries_of e last.entries)) has.dialect stands.used;
        room = subst (λ e. HadRoom e x.limit x.used last.entries) has.dialect stands.room;
      }

  -- nothing was written

  stops_still : (calls : List Call) → (stops : StopsIn d calls database x x) × (stops.written ≡ [])
  stops_still calls = (
    record {
      written = [];
      left = record { front = []; rest = (all_called d calls (session_on database)).entries; entries = refl; now = database; led = refl; is = inl refl };
      closes = inl ((all_called d calls (session_on database)).entries, refl);
      now = database;
      led = refl;
      database_is = record { dialect = has.dialect; live = has.live; shut = refl; committed = has.committed };
      limit = refl;
      entries = no_more x.entries;
      used = search rules;
    },
    refl,
  )

  rests_still : (calls : List Call) (used next : ℕ) (full : IsFullIn d calls database x used next) → full.written ≡ [] → RestsIn d calls database x x used next
  rests_still calls used next full none = let still = stops_still calls in record { stops = still.0; full = full; behind = inl (still.1 ∙ sym none); shut = has.shut; lock = inr (inr still.1) }

  short_still : (calls : List Call) → RestsShortIn d calls database x x
  short_still calls = let still = stops_still calls in record { stops = still.0; shut = has.shut; lock = inr (inr still.1) }

  -- where the store stands for a session that a stop may leave
  module _ (calls : List Call) (y : State) (s : Session) (came : CameFrom d (session_on database) s) (left : IsLeft d calls database [] s.entries) (closes : ClosesHeld d calls database s.entries) (stands : Stands x number y s) where
    pub stands_left : (stops : StopsIn d calls database x y) × (stops.written ≡ s.entries) × (stops.now ≡ s.committed)
    stands_left = (
      record {
        written = s.entries;
        left = left;
        closes = closes;
        now = s.committed;
        led = (leads d database s came).committed;
        database_is = record { dialect = stands.dialect ∙ has.dialect; live = stands.live; shut = refl; committed = subst (λ e. StandsFor e y.committed s.committed) has.dialect stands.committed };
        limit = stands.limit;
        entries = subst (λ e. y.entries ≡ option_map (λ entries. entries ++ entries_of e s.entries) x.entries) has.dialect stands.entries;
        used = subst (λ e. y.used ≡ x.used + size_of_all (entries_of e s.entries)) has.dialect stands.used;
      },
      refl,
      refl,
    )

    -- after a full journal
    pub rests_at : s.is_open ≡ false → (used next : ℕ) (full : IsFullIn d calls database x used next) → IsAtMostFreed full.written s.entries → LeavesLock s.committed.lock full.more s.entries → RestsIn d calls database x y used next
    rests_at shut used next full behind lock =
        let stops = stands_left in
        record {
          stops = stops.0;
          full = full;
          behind = subst (IsAtMostFreed full.written) (sym stops.1) behind;
          shut = none_open x.dialect number s y.begun stands.begun shut;
          lock = subst (LeavesLock stops.0.now.lock full.more) (sym stops.1) (subst (λ (now : Database). LeavesLock now.lock full.more s.entries) (sym stops.2) lock);
        }

    -- after want of memory
    pub short_at : s.is_open ≡ false → LeavesShort d calls database s.committed.lock s.entries → RestsShortIn d calls database x y
    short_at shut lock =
        let stops = stands_left in
        record {
          stops = stops.0;
          shut = none_open x.dialect number s y.begun stands.begun shut;
          lock = subst (LeavesShort d calls database stops.0.now.lock) (sym stops.1) (subst (λ (now : Database). LeavesShort d calls database now.lock s.entries) (sym stops.2) lock);
        }

  module _ (deeds : List Deed) (room : Room) (y : State) (which : (room ≡ Ordinary) ⊎ ((called d (Alone deeds room) (session_on database)).entries ≡ (Locks Freed ∷ []) ∷ [])) (never : (reason : Reason) → all_done d deeds database ≡ Err reason → ⊥) where
    pub leaves_once : (result : Result (Unit {0}) StoreFault) → DoesAlone x number x (session_on database) deeds room result y → LeavesOnce d (Alone deeds room ∷ []) database x result y
    leaves_once (Ok u) does = leaves_so (Alone deeds room ∷ []) y (executes_shut d deeds (session_on database)) (subst (λ e. Stands x number y (called e (Alone deeds room) (session_on database))) has.dialect does.2)
    leaves_once (Err fault.Disk) does =
        let breaks = subst (λ e. Breaks e (Alone deeds room) (session_on database) x y) has.dialect does in
        subst (λ w. Fails w x y) (breaks.appends.texts ∙ ap (entries_of d) (sym breaks.appends.entries)) breaks.fails
    leaves_once (Err (fault.Full used next)) does =
        let full = full_once d database x (Alone deeds room) room used next (subst (λ e. HasNoRoom e room (Alone deeds room) (session_on database) x used next) has.dialect does.0) refl which in
        (does.1, subst (λ z. RestsIn d (Alone deeds room ∷ []) database x z used next) (sym does.1) (rests_still (Alone deeds room ∷ []) used next full.0 full.1))
    leaves_once (Err fault.OutOfMemory) does = (does, subst (λ z. RestsShortIn d (Alone deeds room ∷ []) database x z) (sym does) (short_still (Alone deeds room ∷ [])))
    leaves_once (Err (fault.Busy n)) does = does
    leaves_once (Err fault.NotSql) does = does
    leaves_once (Err (fault.Refused reason)) does = never reason (subst (λ e. all_done e deeds database ≡ Err reason) has.dialect does.0)

module _ (d : Dialect) (number : ℕ) (x y : State) (result : Result (Unit {0}) StoreFault) where
  pub opening_leaves : (stamp : Stamp) → TakesLock d stamp number x result y → LeavesOpened d stamp x result y
  opening_leaves stamp takes database has =
      let it = all_taken d (opening stamp database) database in
      leaves_once d number x database has (map Locks (opening stamp database)) Ordinary y (inl refl) (λ reason is. ok_err (sym it.1 ∙ is)) result (takes x (session_on database) has.dialect (stands_there d number x database has))

  alone_leaves : (deeds : List Deed) (room : Room) (database : Database) (has : HasDatabase d x database) → ((room ≡ Ordinary) ⊎ ((called d (Alone deeds room) (session_on database)).entries ≡ (Locks Freed ∷ []) ∷ []))
      → ((reason : Reason) → all_done d deeds database ≡ Err reason → ⊥) → calls_fit d (Alone deeds room ∷ []) (session_on database) ≡ true → AloneFor d number deeds room x result y → LeavesOnce d (Alone deeds room ∷ []) database x result y
  alone_leaves deeds room database has which never fits alone =
      leaves_once d number x database has deeds room y which never result (alone x (session_on database) has.dialect (stands_there d number x database has) (and_left (all_fit d deeds database) true fits))

  pub tag_leaves : (of : Identity) (tag : List ℕ) → AloneFor d number (Rows (Tagged of tag) ∷ []) Ordinary x result y → LeavesTagged d of tag x result y
  tag_leaves of tag alone database row has last is fits =
      let same : tag_calls tag database ≡ Alone (Rows (Tagged of tag) ∷ []) Ordinary ∷ [] = ap (tag_of tag) last ∙ ap (λ i. Alone (Rows (Tagged i tag) ∷ []) Ordinary ∷ []) is in
      subst (λ calls. LeavesOnce d calls database x result y) (sym same)
      (alone_leaves (Rows (Tagged of tag) ∷ []) Ordinary database has (inl refl) (λ reason refused. ok_err refused) (subst (λ calls. calls_fit d calls (session_on database) ≡ true) same fits) alone)

  pub clear_leaves : AloneFor d number (Rows Cleared ∷ []) Ordinary x result y → LeavesCleared d x result y
  clear_leaves alone database has some fits =
      let same : clear_calls database ≡ clearing ∷ [] = ap (λ b. if b then [] else clearing ∷ []) some in
      subst (λ calls. LeavesOnce d calls database x result y) (sym same)
      (alone_leaves (Rows Cleared ∷ []) Ordinary database has (inl refl) (λ reason refused. ok_err refused) (subst (λ calls. calls_fit d calls (session_on database) ≡ true) same fits) alone)

  pub release_leaves : AloneFor d number (Locks Freed ∷ []) Release x result y → LeavesReleased d x result y
  release_leaves alone database has locked fits =
      let same : release_calls database ≡ closing ∷ [] = ap (λ b. if b then closing ∷ [] else []) locked in
      subst (λ calls. LeavesOnce d calls database x result y) (sym same)
      (alone_leaves (Locks Freed ∷ []) Release database has (inr (closing_entry d (session_on database) refl)) (λ reason refused. ok_err refused) (subst (λ calls. calls_fit d calls (session_on database) ≡ true) same fits) alone)
