-- The machine's holder gives up after a fault of the store; and what its next call brings, or the fault that it meets there.
use Rattle.std.proofs.Common.{ap, inl, subst, sym, ◌∙◌}
use Rattle.std.proofs.lemmas.List.{append-nil}
use Rattle.std.specs.Option.{option_map}
use Rattle.std.specs.Prelude.{List, None, Option, Some, [], if◌then◌else◌, nat_eq, refl, true, ℕ, ◌++◌, ◌∷◌, ◌≡◌, ◌⊎◌}
use Rattle.lq_base.specs.declared.dialect.Dialect.{Dialect}
use Rattle.lq_drill.specs.Faults.{HasCause, HasNoRoom, gives_up, last_calls, left_with, IsHolders, LeftBetween, Shows, entries_of}
use Rattle.lq_drill.specs.Player.{Brings, answer_of, held_by}
use Rattle.lq_drill.specs.declared.fault.DrillFault.{DrillFault}
use Rattle.lq_model.specs.declared.caller.Room.TheVariants.{Ordinary}
use Rattle.lq_model.specs.declared.caller.Room.{Room}
use Rattle.lq_model.specs.declared.fault.StoreFault.{StoreFault}
use Rattle.lq_model.specs.declared.fault.StoreFault.TheVariants as fault
use Rattle.lq_playing.proofs.Machines.{Held, IsToCall, Runs, holder_is, moved_adds, next_appended, own_number}
use Rattle.lq_playing.proofs.Shown.{nothing_more}
use Rattle.lq_playing.specs.Answers.{fault_of, as_busy, as_failed, as_locked}
use Rattle.lq_playing.specs.Checked.{Work}
use Rattle.lq_playing.specs.Under.{bare}
use Rattle.lq_playing.specs.declared.came.Came.{Came}
use Rattle.lq_run.proofs.Since.{front_of_map}
use Rattle.lq_run.specs.Crashing.{LeftInCall}
use Rattle.lq_run.specs.Does.{Breaks, Faults, HasNoRoom as NoRoom}
use Rattle.lq_run.specs.Stands.{Stands, entry_of, entries_of as written_of}
use Rattle.lq_store.specs.Journal.{Entry, end_of, is_full, size_of_all, State}
use Rattle.lq_turns.specs.Schedule.{appended, has_begun, moved}
use Rattle.lq_turns.specs.Script.{closing}
use Rattle.lq_turns.specs.Session.{Session, called, room_of}
use Rattle.lq_turns.specs.declared.call.Call.{Call}
use Rattle.lq_turns.specs.declared.deed.Deed.{Deed}

-- the holder that gave up, and its machine

abbrev pub fallen : DrillFault → List Call → Held → Held
fallen why calls h = record h { rest = calls; answer = as_failed why }

abbrev pub given_with : DrillFault → List Call → Held → Runs → Runs
given_with why calls h x = record x { holder = Some (fallen why calls h) }

abbrev pub given : DrillFault → Held → Runs → Runs
given why h x = gives_up as_failed why h x

-- where calls are left to it
pub given_is : (why : DrillFault) (h : Held) (x : Runs) (call : Call) (calls : List Call) → last_calls h.session ≡ call ∷ calls → given_with why (call ∷ calls) h x ≡ given why h x
given_is why h x call calls next = sym (ap (λ c. left_with as_failed c why h x) next)

-- it is still the holder
pub fallen_held : (n : ℕ) (o : Option Held) (h : Held) (why : DrillFault) (calls : List Call) → held_by n o ≡ Some h → held_by n (Some (fallen why calls h)) ≡ Some (fallen why calls h)
fallen_held n o h why calls held = ap (λ b. if b then Some (fallen why calls h) else None) (ap (λ j. nat_eq j n) (holder_is n o h held).1 ∙ own_number n)

-- and makes the first of the calls that are left to it
pub given_calls : (n : ℕ) (x : Runs) (h : Held) (why : DrillFault) (call : Call) (calls : List Call) → answer_of n x.answers ≡ None → has_begun Came as_locked as_busy n x ≡ true → held_by n x.holder ≡ Some h
    → IsToCall n (given_with why (call ∷ calls) h x) (fallen why (call ∷ calls) h) call calls
given_calls n x h why call calls unanswered begun held = record { unanswered = unanswered; begun = begun; held = fallen_held n x.holder h why (call ∷ calls) held; next = refl }

-- the store shows that machine too
pub given_shows : (origin w : State) (n : ℕ) (x : Runs) (h : Held) (why : DrillFault) (calls : List Call) → held_by n x.holder ≡ Some h → Shows origin w x → Shows origin w (given_with why calls h x)
given_shows origin w n x h why calls held shows =
    let holders : IsHolders origin.dialect x.committed (Some h) w.begun = subst (λ o. IsHolders origin.dialect x.committed o w.begun) (holder_is n x.holder h held).0 shows.begun in
    record { dialect = shows.dialect; limit = shows.limit; live = shows.live; committed = shows.committed; begun = holders; entries = shows.entries; used = shows.used; room = shows.room }

-- a step that brought nothing
pub brings_none : (d : Dialect) (jobs : ℕ → Work) (n : ℕ) (x : Runs) (w z : State) → z ≡ w → Brings d x (moved Came as_locked as_busy d jobs n x) w z
brings_none d jobs n x w z same =
    let added = moved_adds d jobs n x in
    record { front = []; more = added.more; came = added.is; entries = ap (λ (v : State). v.entries) same ∙ nothing_more w.entries }

-- The holder's next call, in a machine with the entries of a first one.
module _ (origin w : State) (jobs : ℕ → Work) (n : ℕ) (first x : Runs) (h : Held) (call : Call) (calls : List Call) (same : x.entries ≡ first.entries) (shows : Shows origin w x) (it : IsToCall n x h call calls) where
  abbrev d : Dialect
  d = origin.dialect

  abbrev to : Runs
  to = moved Came as_locked as_busy d jobs n x

  came : to.entries ≡ first.entries ++ appended d call h.session
  came = next_appended d jobs n x h call calls it ∙ ap (λ (l : List (List Deed)). l ++ appended d call h.session) same

  -- it was made
  pub brings_all : (z : State) (now : Session) → now ≡ called d call (bare h.session) → Stands w n z now → Brings d first to w z
  brings_all z now made stands = record {
    front = appended d call h.session;
    more = [];
    came = came ∙ ap (λ (l : List (List Deed)). first.entries ++ l) (sym (append-nil (appended d call h.session)));
    entries = stands.entries ∙ ap (λ k. option_map (λ l. l ++ written_of k now.entries) w.entries) shows.dialect ∙ ap (λ (q : Session). option_map (λ l. l ++ written_of d q.entries) w.entries) made;
  }

  -- the disk failed, and a front of what it appends is written
  brings_front : (z : State) → Breaks d call (bare h.session) w z → Brings d first to w z
  brings_front z breaks =
      let parts = front_of_map (entry_of d) breaks.appends.more breaks.fails.front breaks.fails.is_front.0 (sym breaks.appends.texts ∙ breaks.fails.is_front.1) in
      let all : appended d call h.session ≡ breaks.appends.more = breaks.appends.entries in
      record {
        front = parts.0;
        more = parts.1;
        came = came ∙ ap (λ (l : List (List Deed)). first.entries ++ l) (all ∙ parts.2);
        entries = breaks.fails.entries_are ∙ ap (λ (f : List Entry). option_map (λ l. l ++ f) w.entries) (sym parts.3);
      }

  nothing_brought : (z : State) → z ≡ w → Brings d first to w z
  nothing_brought z still = record { front = []; more = appended d call h.session; came = came; entries = ap (λ (v : State). v.entries) still ∙ nothing_more w.entries }

  -- it met a fault
  pub brings_fault : (z : State) (room : Room) (why : StoreFault) → Faults w n w (bare h.session) room call why z → Brings d first to w z
  brings_fault z room fault.Disk faults = brings_front z (subst (λ k. Breaks k call (bare h.session) w z) shows.dialect faults)
  brings_fault z room (fault.Full used next) faults = nothing_brought z faults.1
  brings_fault z room fault.OutOfMemory faults = nothing_brought z faults
  brings_fault z room (fault.Busy k) faults = absurd faults
  brings_fault z room fault.NotSql faults = absurd faults
  brings_fault z room (fault.Refused reason) faults = absurd faults

  -- which has its cause in the machine

  pub no_room : (room : Room) (used next : ℕ) → room_of call ≡ room → ((room_of call ≡ Ordinary) ⊎ ((call ≡ closing) × (h.session.begun ≡ []))) → NoRoom w.dialect room call (bare h.session) w used next → (it : HasNoRoom as_failed d jobs origin.used origin.limit n x used next) × (it.call ≡ call)
  no_room room used next in_room which met =
      let none : NoRoom d room call (bare h.session) w used next = subst (λ k. NoRoom k room call (bare h.session) w used next) shows.dialect met in
      let written_is : none.written ≡ entries_of d (appended d call h.session) = none.appends.texts ∙ ap (λ (l : List (List Deed)). entries_of d l) (sym none.appends.entries) in (
        record {
          call = call;
          session = h.session;
          is_next = inl (h, calls, it.held, it.next, refl);
          used_is = none.full.1.0 ∙ shows.used;
          next_is = none.full.1.1 ∙ ap (λ (l : List Entry). size_of_all l) written_is;
          full = ap (λ k. is_full (end_of (room_of call) k) used (entries_of d (appended d call h.session))) (sym shows.limit)
              ∙ ap (λ k. is_full (end_of k w.limit) used (entries_of d (appended d call h.session))) in_room
              ∙ ap (λ u. is_full (end_of room w.limit) u (entries_of d (appended d call h.session))) none.full.1.0
              ∙ ap (λ (l : List Entry). is_full (end_of room w.limit) w.used l) (sym written_is) ∙ none.full.0;
          which = which;
        },
        refl,
      )

  pub cause : (z : State) (room : Room) (why : StoreFault) → room_of call ≡ room → ((room_of call ≡ Ordinary) ⊎ ((call ≡ closing) × (h.session.begun ≡ []))) → Faults w n w (bare h.session) room call why z → HasCause as_failed d jobs origin.used origin.limit n x (fault_of why)
  cause z room fault.Disk in_room which faults = tt
  cause z room (fault.Full used next) in_room which faults = (no_room room used next in_room which faults.0).0
  cause z room fault.OutOfMemory in_room which faults = tt
  cause z room (fault.Busy k) in_room which faults = tt
  cause z room fault.NotSql in_room which faults = tt
  cause z room (fault.Refused reason) in_room which faults = tt

  -- a crash in it
  pub leaves_call : (there left : List Entry) → LeftInCall d call (bare h.session) there left → LeftBetween d first to there left
  leaves_call there left is = record { front = is.front; more = is.more; came = came ∙ ap (λ (l : List (List Deed)). first.entries ++ l) is.appends; is = is.is }
