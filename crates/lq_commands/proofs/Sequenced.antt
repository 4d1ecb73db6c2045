-- Calls, and others behind them.
use Rattle.std.proofs.Common.{ap, inl, inr, refl, subst, sym, ◌∙◌}
use Rattle.std.proofs.lemmas.List.{append_assoc, map-append}
use Rattle.std.specs.Prelude.{Bool, Err, List, Ok, Result, [], false, true, ℕ, ◌+◌, ◌++◌, ◌∷◌, ◌≡◌, ◌⊎◌}
use Rattle.lq_base.specs.declared.dialect.Dialect.{Dialect}
use Rattle.lq_base.specs.declared.reason.Reason.{Reason}
use Rattle.lq_model.specs.Script.{if_any}
use Rattle.lq_run.proofs.Rooms.{both_rooms, sizes}
use Rattle.lq_run.specs.Commands.{Leaves}
use Rattle.lq_run.specs.Left.{ClosesHeld, HasClosing, IsFrontIn, IsFullIn, IsNextIn}
use Rattle.lq_run.specs.Stands.{HadRoom, entries_of, entry_of}
use Rattle.lq_store.specs.Journal.{end_of, is_full, size_of_all, State}
use Rattle.lq_tell.specs.declared.status.Status.{Status}
use Rattle.lq_track.specs.Database.{Database}
use Rattle.lq_track.specs.Lock.{free}
use Rattle.lq_turns.proofs.Journal.{done_both, joined_both, journal_leads, next}
use Rattle.lq_turns.proofs.Made.{calls_both}
use Rattle.lq_turns.specs.Deed.{all_done, done}
use Rattle.lq_turns.specs.Script.{closing}
use Rattle.lq_turns.specs.Session.{Session, aborted, accepted, all_called, all_executed, all_executed_as, called, closed, executed_as, is_own, left_by, session_on, settled_if, settled_up}
use Rattle.lq_turns.specs.Stops.{IsLeft, Journal, has_mark, joined}
use Rattle.lq_turns.specs.declared.call.Call.{Call}
use Rattle.lq_turns.specs.declared.call.Call.TheVariants.{Abort, Alone, Begin, Commit, Execute}
use Rattle.lq_turns.specs.declared.deed.Deed.{Deed}
use Rattle.lq_turns.specs.declared.deed.Deed.TheVariants.{Locks}
use Rattle.lq_turns.specs.declared.deed.OnLock.TheVariants.{Freed}
use Rattle.lq_commands.specs.Works.{SaysFull, TellsRoom, is_finished}

not_true : false ≡ true → ⊥
not_true h = Prim.cc

-- where one of the first frees the lock, or one of the others, one of both does

has_first : (calls others : List Call) → HasClosing calls → HasClosing (calls ++ others)
has_first calls others one = record { before = one.before; after = one.after ++ others; is = ap (λ (cs : List Call). cs ++ others) one.is ∙ append_assoc one.before (closing ∷ one.after) others }

has_then : (calls others : List Call) → HasClosing others → HasClosing (calls ++ others)
has_then calls others one = record { before = calls ++ one.before; after = one.after; is = ap (λ (cs : List Call). calls ++ cs) one.is ∙ sym (append_assoc calls one.before (closing ∷ one.after)) }

-- what a session had written before is no matter to its calls

abbrev pub behind : Journal → Session → Session
behind first s = record s { entries = first ++ s.entries }

module _ (d : Dialect) (first : Journal) where
  settles : (own : Bool) (s : Session) → settled_if own (behind first s) ≡ behind first (settled_if own s)
  settles true s = ap (λ (es : Journal). record (settled_up s) { entries = es }) (append_assoc first s.entries (if_any s.begun))
  settles false s = refl

  accepts : (own : Bool) (deed : Deed) (now : Database) (s : Session)
      → settled_if own (record (settled_if own (behind first s)) { seen = now; begun = (settled_if own (behind first s)).begun ++ deed ∷ [] }) ≡ behind first (settled_if own (record (settled_if own s) { seen = now; begun = (settled_if own s).begun ++ deed ∷ [] }))
  accepts true deed now s =
      let last : Session = settled_if true (record (settled_if true s) { seen = now; begun = deed ∷ [] }) in
      ap (λ (es : Journal). record last { entries = es }) (ap (λ (es : Journal). es ++ (deed ∷ []) ∷ []) (append_assoc first s.entries (if_any s.begun)) ∙ append_assoc first (s.entries ++ if_any s.begun) ((deed ∷ []) ∷ []))
  accepts false deed now s = refl

  executes : (deed : Deed) (s : Session) (r : Result Database Reason) → executed_as d deed (behind first s) r ≡ behind first (executed_as d deed s r)
  executes deed s (Ok now) = accepts (is_own d deed) deed now s
  executes deed s (Err reason) = settles (is_own d deed) s

  closes : (s : Session) → closed (behind first s) ≡ behind first (closed s)
  closes s = ap (λ (es : Journal). record (closed s) { entries = es }) (append_assoc first s.entries (if_any s.begun))

  executes_all : (deeds : List Deed) (s : Session) → all_executed d deeds (behind first s) ≡ behind first (all_executed d deeds s)
  executes_all [] s = closes s
  executes_all (deed ∷ deeds) s = elim (done d deed s.seen) as (λ r. all_executed_as d deed (behind first s) (all_executed d deeds) r ≡ behind first (all_executed_as d deed s (all_executed d deeds) r)) [
    | Ok now ↦ ap (all_executed d deeds) (accepts (is_own d deed) deed now s) ∙ executes_all deeds (accepted d deed now s)
    | Err reason ↦ ap aborted (settles (is_own d deed) s)
  ]

  pub call_behind : (call : Call) (s : Session) → called d call (behind first s) ≡ behind first (called d call s)
  call_behind (Alone deeds room) s = executes_all deeds s
  call_behind Begin s = refl
  call_behind (Execute deed) s = executes deed s (done d deed s.seen)
  call_behind Commit s = closes s
  call_behind Abort s = refl

  pub calls_behind : (calls : List Call) (s : Session) → all_called d calls (behind first s) ≡ behind first (all_called d calls s)
  calls_behind [] s = refl
  calls_behind (call ∷ calls) s = ap (all_called d calls) (call_behind call s) ∙ calls_behind calls (called d call s)

-- calls leave nothing open; and where there are any they leave the lock free
abbrev pub IsOver : Dialect → List Call → Database → Type 0
IsOver d calls database = (all_called d calls (session_on database) ≡ behind (all_called d calls (session_on database)).entries (session_on (left_by d calls database))) × (((left_by d calls database).lock ≡ free) ⊎ (calls ≡ []))

-- calls, and others on the database that they leave
module _ (d : Dialect) (calls others : List Call) (database : Database) where
  abbrev pub middle : Database
  middle = left_by d calls database

  abbrev pub there : Journal
  there = (all_called d calls (session_on database)).entries

  abbrev pub coming : Journal
  coming = (all_called d others (session_on middle)).entries

  -- they leave nothing open
  module _ (over : IsOver d calls database) where
    pub both_entries : (all_called d (calls ++ others) (session_on database)).entries ≡ there ++ coming
    both_entries = ap (λ (s : Session). s.entries) (calls_both d calls others (session_on database) ∙ ap (all_called d others) over.0 ∙ calls_behind d there others (session_on middle))

    -- what a stop of the first may leave
    pub left_first : (written : Journal) → IsLeft d calls database [] written → IsLeft d (calls ++ others) database [] written
    left_first written left = record {
      front = left.front;
      rest = left.rest ++ coming;
      entries = both_entries ∙ ap (λ (es : Journal). es ++ coming) left.entries ∙ append_assoc left.front left.rest coming;
      now = left.now;
      led = left.led;
      is = left.is;
    }

    -- and one of the others
    pub left_then : (written : Journal) → IsLeft d others middle [] written → IsLeft d (calls ++ others) database [] (there ++ written)
    left_then written left = record {
      front = there ++ left.front;
      rest = left.rest;
      entries = both_entries ∙ ap (λ (es : Journal). there ++ es) left.entries ∙ sym (append_assoc there left.front left.rest);
      now = left.now;
      led = ap (λ deeds. all_done d deeds database) (joined_both there left.front) ∙ done_both d (joined there) (joined left.front) database ∙ ap (next d (joined left.front)) (journal_leads d calls database) ∙ left.led;
      is = by left.is;
    } where
      by : (written ≡ left.front) ⊎ ((written ≡ left.front ++ (Locks Freed ∷ []) ∷ []) × (has_mark left.now.lock ≡ false))
          → (there ++ written ≡ there ++ left.front) ⊎ ((there ++ written ≡ (there ++ left.front) ++ (Locks Freed ∷ []) ∷ []) × (has_mark left.now.lock ≡ false))
      by (inl same) = inl (ap (λ (es : Journal). there ++ es) same)
      by (inr freed) = inr (ap (λ (es : Journal). there ++ es) freed.0 ∙ sym (append_assoc there left.front ((Locks Freed ∷ []) ∷ [])), freed.1)

    -- and each leaves no more than a front of the entries of both, but for the one that frees the lock behind it

    front_first : (written : Journal) → IsFrontIn d calls database written → IsFrontIn d (calls ++ others) database written
    front_first written front = (front.0 ++ coming, both_entries ∙ ap (λ (es : Journal). es ++ coming) front.1 ∙ append_assoc written front.0 coming)

    front_then : (written : Journal) → IsFrontIn d others middle written → IsFrontIn d (calls ++ others) database (there ++ written)
    front_then written front = (front.0, both_entries ∙ ap (λ (es : Journal). there ++ es) front.1 ∙ sym (append_assoc there written front.0))

    led_then : (written : Journal) (now : Database) → all_done d (joined written) middle ≡ Ok now → all_done d (joined (there ++ written)) database ≡ Ok now
    led_then written now led = ap (λ deeds. all_done d deeds database) (joined_both there written) ∙ done_both d (joined there) (joined written) database ∙ ap (next d (joined written)) (journal_leads d calls database) ∙ led

    pub closes_first : (written : Journal) → ClosesHeld d calls database written → ClosesHeld d (calls ++ others) database written
    closes_first written (inl front) = inl (front_first written front)
    closes_first written (inr closed) = inr (record {
      closes = has_first calls others closed.closes;
      front = closed.front;
      is_front = front_first closed.front closed.is_front;
      now = closed.now;
      led = closed.led;
      held = closed.held;
      unmarked = closed.unmarked;
      is = closed.is;
    })

    pub closes_then : (written : Journal) → ClosesHeld d others middle written → ClosesHeld d (calls ++ others) database (there ++ written)
    closes_then written (inl front) = inl (front_then written front)
    closes_then written (inr closed) = inr (record {
      closes = has_then calls others closed.closes;
      front = there ++ closed.front;
      is_front = front_then closed.front closed.is_front;
      now = closed.now;
      led = led_then closed.front closed.now closed.led;
      held = closed.held;
      unmarked = closed.unmarked;
      is = ap (λ (es : Journal). there ++ es) closed.is ∙ sym (append_assoc there closed.front ((Locks Freed ∷ []) ∷ []));
    })

    module _ (x : State) where
      -- calls that lead on the way to the end of the first lead on the way to the end of all, and so do those of the others

      next_first : (made : List Call) (call : Call) → IsNextIn d calls database made call → IsNextIn d (calls ++ others) database made call
      next_first made call (inl goes) = inl (
        goes.0 ++ others,
        ap (λ cs. all_called d cs (session_on database)) (sym (append_assoc made (call ∷ goes.0) others)) ∙ calls_both d (made ++ call ∷ goes.0) others (session_on database) ∙ ap (all_called d others) goes.1
            ∙ sym (calls_both d calls others (session_on database)),
      )
      next_first made call (inr left) = inr (left.0, has_first calls others left.1)

      both_called : (more : List Call) → all_called d (calls ++ more) (session_on database) ≡ behind there (all_called d more (session_on middle))
      both_called more = calls_both d calls more (session_on database) ∙ ap (all_called d more) over.0 ∙ calls_behind d there more (session_on middle)

      next_then : (made : List Call) (call : Call) → IsNextIn d others middle made call → IsNextIn d (calls ++ others) database (calls ++ made) call
      next_then made call (inl goes) = inl (
        goes.0,
        ap (λ cs. all_called d cs (session_on database)) (append_assoc calls made (call ∷ goes.0)) ∙ both_called (made ++ call ∷ goes.0) ∙ ap (behind there) goes.1 ∙ sym (both_called others),
      )
      next_then made call (inr left) = inr (left.0, has_then calls others left.1)

      pub full_first : (used size : ℕ) (it : IsFullIn d calls database x used size) → (full : IsFullIn d (calls ++ others) database x used size) × (full.written ≡ it.written) × (full.more ≡ it.more)
      full_first used size it = (
        record {
          written = it.written;
          more = it.more;
          stops = left_first it.written it.stops;
          comes = left_first (it.written ++ it.more) it.comes;
          made = it.made;
          call = it.call;
          wrote = it.wrote;
          appends = it.appends;
          next_call = next_first it.made it.call it.next_call;
          used_is = it.used_is;
          next_is = it.next_is;
          room = it.room;
          in_room = it.in_room;
          which = it.which;
          full = it.full;
        },
        refl,
        refl,
      )

      pub first_told : (s : Status) → is_finished s ≡ false → SaysFull d calls database x s → TellsRoom d (calls ++ others) database x s
      first_told s unfinished says = (λ finished. absurd (not_true (sym unfinished ∙ finished)), λ used size is. (full_first used size (says used size is)).0)

      module _ (y : State) (leaves : Leaves d calls database x y) where
        pub full_then : (used size : ℕ) (it : IsFullIn d others middle y used size) → (full : IsFullIn d (calls ++ others) database x used size) × (full.written ≡ there ++ it.written) × (full.more ≡ it.more)
        full_then used size it = (
          record {
            written = there ++ it.written;
            more = it.more;
            stops = left_then it.written it.stops;
            comes = subst (λ (es : Journal). IsLeft d (calls ++ others) database [] es) (sym (append_assoc there it.written it.more)) (left_then (it.written ++ it.more) it.comes);
            used_is = it.used_is ∙ ap (λ u. u + size_of_all (entries_of d it.written)) leaves.used ∙ sizes x.used (entries_of d there) (entries_of d it.written) ∙ ap (λ es. x.used + size_of_all es) (sym (map-append (entry_of d) there it.written));
            made = calls ++ it.made;
            call = it.call;
            wrote = ap (λ (s : Session). s.entries) (both_called it.made) ∙ ap (λ (es : Journal). there ++ es) it.wrote;
            appends = ap (λ (s : Session). (called d it.call s).entries) (both_called it.made) ∙ ap (λ (s : Session). s.entries) (call_behind d there it.call (all_called d it.made (session_on middle)))
                ∙ ap (λ (es : Journal). there ++ es) it.appends ∙ sym (append_assoc there it.written it.more);
            next_call = next_then it.made it.call it.next_call;
            next_is = it.next_is;
            room = it.room;
            in_room = it.in_room;
            which = it.which;
            full = ap (λ l. is_full (end_of it.room l) used (entries_of d it.more)) (sym leaves.limit) ∙ it.full;
          },
          refl,
          refl,
        )

        pub both_room : HadRoom d y.limit y.used coming → HadRoom d x.limit x.used (all_called d (calls ++ others) (session_on database)).entries
        both_room room =
            let here : HadRoom d x.limit (x.used + size_of_all (entries_of d there)) coming = subst (λ u. HadRoom d x.limit u coming) leaves.used (subst (λ l. HadRoom d l y.used coming) leaves.limit room) in
            subst (λ (es : Journal). HadRoom d x.limit x.used es) (sym both_entries) (both_rooms d x.limit x.used there coming leaves.room here)

        pub both_told : (s : Status) → (is_finished s ≡ true → HadRoom d y.limit y.used coming) → SaysFull d others middle y s → TellsRoom d (calls ++ others) database x s
        both_told s room says = (λ finished. both_room (room finished), λ used size is. (full_then used size (says used size is)).0)
