-- One statement is taken back.
use Rattle.std.proofs.Common.{ap, inl, refl, subst, sym, ◌∙◌}
use Rattle.std.proofs.lemmas.List.{append-nil}
use Rattle.std.specs.Prelude.{Err, List, None, Ok, Option, Result, Some, [], false, true, ℕ, ◌+◌, ◌∷◌, ◌≡◌}
use Rattle.laws_repair.specs.Repair.{back_calls}
use Rattle.lq_base.specs.declared.dialect.Dialect.{Dialect}
use Rattle.lq_base.specs.declared.identity.Identity.{Identity}
use Rattle.lq_base.specs.declared.reason.Reason.{Reason}
use Rattle.lq_beside.specs.Replays.{calls_fit}
use Rattle.lq_hand.specs.Hand.{AreTurns, IsReady, calls_left, hand_place, place_of}
use Rattle.lq_hand.specs.declared.hand.Hand.{Hand}
use Rattle.lq_hand.specs.declared.hand.Phase.TheVariants as phase
use Rattle.lq_model.specs.Catalogue.{Catalogue}
use Rattle.lq_model.specs.Step.{is_statement, step}
use Rattle.lq_model.specs.declared.caller.By.TheVariants.{User}
use Rattle.lq_model.specs.declared.caller.Room.TheVariants.{Ordinary}
use Rattle.lq_model.specs.declared.fault.StoreFault.{StoreFault}
use Rattle.lq_model.specs.declared.fault.StoreFault.TheVariants as fault
use Rattle.lq_model.specs.declared.statement.Statement.{Statement}
use Rattle.lq_reverse.specs.Back.{back}
use Rattle.lq_run.proofs.Ending.{opened_is}
use Rattle.lq_run.proofs.Grows.{came_on}
use Rattle.lq_run.proofs.Since.{leave_then}
use Rattle.lq_run.specs.Crashing.{LeftAlone}
use Rattle.lq_run.specs.Does.{AbortFor, Breaks, HasNoRoom}
use Rattle.lq_run.specs.Ends.{IsBefore}
use Rattle.lq_run.specs.Moves.{Meets}
use Rattle.lq_run.specs.Stands.{no_changes, Stands, entries_of}
use Rattle.lq_store.specs.Journal.{Crashes, CrashesLeave, Entry, end_of, is_full, size_of_all, State, is_open}
use Rattle.lq_turns.specs.Deed.{contents_of, if_accepted}
use Rattle.lq_turns.specs.Rest.{NoMore, Place, if_goes_on, rest, both_of}
use Rattle.lq_turns.specs.Session.{Session, all_called, called}
use Rattle.lq_turns.specs.declared.call.Call.{Call}
use Rattle.lq_turns.specs.declared.call.Call.TheVariants.{Abort, Commit}
use Rattle.lq_turns.specs.declared.stamp.Stamp.{Stamp}
use Rattle.lq_turns.specs.declared.stop.Refusal.{Refusal}
use Rattle.lq_run.specs.declared.runner.End.TheVariants as end
use Rattle.lq_mending.proofs.Crashed.{alone_crash}
use Rattle.lq_mending.proofs.Fitting.{one_fits}
use Rattle.lq_mending.proofs.Making.{refused_ends, refused_why, turns_at}
use Rattle.lq_mending.proofs.Onward.{before_end, end_before, is_first, on_to_end}
use Rattle.lq_mending.specs.Comes.{AreMade, At, CrashesAll, Ends, EndsAs, LeftOf, Reached, at_end, first_reason, reason_by, refused_by, refused_from, refusal_of}
use Rattle.lq_mending.specs.Mends.{EndsAt, Goes, Rests, WasFull, Waits}
use Rattle.lq_mending.specs.declared.all.Made.{Made}
use Rattle.lq_mending.specs.declared.all.Made.TheVariants as made

-- who makes the calls, and when, is in none of them
abbrev pub nobody : Stamp
nobody = record { who = []; reading = 0 }

none_some : {A : Type 0} {reason : Reason} → (let o : Option Reason = None in o) ≡ Some reason → A
none_some h = absurd (clash h) where
  clash : {reason : Reason} → (let o : Option Reason = None in o) ≡ Some reason → ⊥
  clash h = Prim.cc

some_same : {a b : Reason} → (let o : Option Reason = Some a in o) ≡ Some b → a ≡ b
some_same h = Prim.cc

-- told by what was in use, and by the entries' texts
pub full_by : (room_end used in_use : ℕ) (written entries : List Entry) → used ≡ in_use → written ≡ entries → is_full room_end in_use written ≡ true → is_full room_end used entries ≡ true
full_by room_end used in_use written entries used_is texts full = ap (λ u. is_full room_end u entries) used_is ∙ ap (is_full room_end in_use) (sym texts) ∙ full

module _ (d : Dialect) (who : List ℕ) (of : Identity) (n : ℕ) (statement : Statement) (is : is_statement d statement ≡ true) (number : ℕ) (hand : Hand) (inside : hand.phase ≡ phase.Inside)
    (calls : calls_left hand ≡ back_calls who of n (back d statement)) (turns : AreTurns d false (calls_left hand)) where
  abbrev ours : List Call
  ours = back_calls who of n (back d statement)

  abbrev calls_there : Session → Place (Unit {0}) → Type 0
  calls_there s p = calls_fit d (rest d no_changes nobody p (both_of s)) s ≡ true

  -- the calls are those to come
  pub comes_at : (start x : State) (s : Session) → Rests d number start x s → At d nobody number hand x start s
  comes_at start x s rests = record {
    dialect = rests.dialect;
    stands = rests.stands;
    ready = subst (λ p. IsReady {Key = Unit {0}} d s.is_open (hand_place p (calls_left hand) hand.goes_on NoMore)) (sym inside) (subst (λ o. AreTurns d o (calls_left hand)) (sym rests.shut) turns);
    fits = subst (λ p. calls_there s (hand_place p (calls_left hand) hand.goes_on NoMore)) (sym inside)
        (subst (λ cs. calls_there s (hand_place phase.Inside cs hand.goes_on NoMore)) (sym calls) (one_fits d nobody who of n statement hand.goes_on s is rests.row));
    row = rests.row;
  }

  module _ (start x y : State) (s : Session) (rests : Rests d number start x s) where
    abbrev EndedAs : Made → Hand → Type 0
    EndedAs m new = (last : Hand) × (z : State) × (so : Reached d nobody number start s (calls_left hand) last z) × EndsAs d nobody number start last z so.session m new y

    ended : (m : Made) (new : Hand) → Ends d number hand x m new y → EndedAs m new
    ended m new ends = ends nobody start s (comes_at start x s rests)

    -- all of them were made
    pub goes : (new : Hand) → Ends d number hand x made.All new y → Goes d number ours start s y
    goes new ends =
        let it = ended made.All new ends in
        let k = it.2 in
        let none : calls_left it.0 ≡ [] = it.3.0 in
        record {
          after = k.session;
          rests = record {
            dialect = k.at.dialect;
            stands = subst (λ z. Stands start number z k.session) (sym it.3.1) k.at.stands;
            shut = subst (AreTurns d k.session.is_open) none (turns_at d nobody number start it.1 it.0 k.session k.inside k.at);
            row = k.at.row;
          };
          made = subst (λ cs. AreMade d ours cs s k.session) none (subst (λ cs. AreMade d cs (calls_left it.0) s k.session) calls k.are_made);
        }

    -- one was refused

    refused_at : (reason : Reason) (new : Hand) → Ends d number hand x (made.Refused reason) new y → (t : Session) × Stands start number y t × (t.is_open ≡ true) × ((tail : List Call) → at_end d ours tail s ≡ called d Abort t)
    refused_at reason new ends =
        let it = ended (made.Refused reason) new ends in
        let took = it.3.0 in (
          took.goes.after,
          took.goes.at.stands,
          subst (λ p. IsReady {Key = Unit {0}} d took.goes.after.is_open (hand_place p (calls_left new) new.goes_on (if_goes_on it.0.goes_on NoMore))) it.3.1 took.goes.at.ready,
          λ tail. ap (λ cs. at_end d cs tail s) (sym calls) ∙ refused_ends d nobody number start s (calls_left hand) tail it.0 new it.1 y reason it.2 took,
        )

    pub refused_open : (reason : Reason) (new : Hand) → Ends d number hand x (made.Refused reason) new y → (y.live ≡ true) × (is_open number y.begun ≡ true)
    refused_open reason new ends =
        let it = refused_at reason new ends in
        (it.1.live, opened_is d no_changes nobody number start y it.0 it.1 ∙ it.2)

    pub refused : (reason : Reason) (new : Hand) (left : State) → Ends d number hand x (made.Refused reason) new y → AbortFor d number y left → (refusal : Refusal) (tail : List Call) → EndsAt d number start s (at_end d ours tail s) (end.Refused refusal) left
    refused reason new left ends aborts refusal tail =
        let it = refused_at reason new ends in
        subst (λ last. EndsAt d number start s last (end.Refused refusal) left) (sym (it.3 tail)) (aborts start it.0 rests.dialect it.1, refl)

    reason_is : (reason : Reason) (new : Hand) → Ends d number hand x (made.Refused reason) new y → first_reason d ours (contents_of s.seen) ≡ Some reason
    reason_is reason new ends =
        let it = ended (made.Refused reason) new ends in
        ap (λ cs. first_reason d cs (contents_of s.seen)) (sym calls) ∙ refused_why d nobody number start s (calls_left hand) it.0 new it.1 y reason it.2 it.3.0

    pub refused_so : (reason : Reason) (new : Hand) → Ends d number hand x (made.Refused reason) new y → (more : Catalogue → Option Refusal) → refused_from d more n (back d statement) s.seen.users ≡ Some (refusal_of n reason)
    refused_so reason new ends more = by (back d statement) (reason_is reason new ends) where
      by : (o : Option Statement) → first_reason d (back_calls who of n o) (contents_of s.seen) ≡ Some reason → refused_from d more n o s.seen.users ≡ Some (refusal_of n reason)
      by None none = none_some none
      by (Some b) why = by_step (step User d b s.seen.users) why where
        by_step : (r : Result (Catalogue × ℕ) Reason) → reason_by (first_reason d (Commit ∷ [])) (if_accepted (λ ran. record (contents_of s.seen) { users = ran.0 }) r) ≡ Some reason → refused_by more n r ≡ Some (refusal_of n reason)
        by_step (Ok ran) none = none_some none
        by_step (Err other) same = ap (λ e. Some (refusal_of n e)) (some_same same)

    -- one met a fault

    meets_before : (last : Hand) (z : State) (k : Reached d nobody number start s (calls_left hand) last z) (why : StoreFault) (w : State) (meets : Meets d no_changes nobody number (place_of last NoMore) start k.session z Ordinary why w)
        → (tail : List Call) → IsBefore (called d meets.call k.session) (at_end d ours tail s)
    meets_before last z k why w meets tail =
        let next = subst (λ p. rest d no_changes nobody (hand_place p (calls_left last) last.goes_on NoMore) (both_of k.session) ≡ meets.call ∷ meets.more) k.inside meets.next in
        let first = is_first d nobody (calls_left last) last.goes_on (both_of k.session) meets.call meets.more next meets.by in
        subst (IsBefore (called d meets.call k.session)) (sym (k.are_made.ends tail) ∙ ap (λ cs. at_end d cs tail s) calls) (before_end d (calls_left last) first.0 tail meets.call k.session first.1)

    goes_on_by : (last : Hand) (z : State) (k : Reached d nobody number start s (calls_left hand) last z) (why : StoreFault) (w : State) (meets : Meets d no_changes nobody number (place_of last NoMore) start k.session z Ordinary why w)
        → (tail : List Call) → (others : List Call) × (all_called d (meets.call ∷ others) k.session ≡ at_end d ours tail s)
    goes_on_by last z k why w meets tail =
        let next = subst (λ p. rest d no_changes nobody (hand_place p (calls_left last) last.goes_on NoMore) (both_of k.session) ≡ meets.call ∷ meets.more) k.inside meets.next in
        let first = is_first d nobody (calls_left last) last.goes_on (both_of k.session) meets.call meets.more next meets.by in
        let goes = on_to_end d (calls_left last) first.0 tail meets.call k.session first.1 in
        (goes.0, goes.1 ∙ sym (k.are_made.ends tail) ∙ ap (λ cs. at_end d cs tail s) calls)

    pub disk : (new : Hand) → Ends d number hand x made.Disk new y → (tail : List Call) → EndsAt d number start s (at_end d ours tail s) end.Disk y
    disk new ends tail =
        let it = ended made.Disk new ends in
        let k = it.2 in
        let meets = it.3 in
        record {
          session = k.session;
          x = it.1;
          stands = k.at.stands;
          call = meets.call;
          breaks = subst (λ e. Breaks e meets.call k.session it.1 y) k.at.dialect meets.faults;
          before = meets_before it.0 it.1 k fault.Disk y meets tail;
        }

    pub waits : (last : Hand) (z : State) (k : Reached d nobody number start s (calls_left hand) last z) (left : State) → AbortFor d number z left → (tail : List Call) → (waits : Waits d number start s (at_end d ours tail s) left) × (waits.session.entries ≡ k.session.entries)
    waits last z k left aborts tail =
        let before = subst (IsBefore k.session) (sym (k.are_made.ends tail) ∙ ap (λ cs. at_end d cs tail s) calls) (end_before d (calls_left last) tail k.session) in (
          record {
            session = called d Abort k.session;
            came = came_on d s k.session Abort k.are_made.came;
            before = record { more = before.more; entries = before.entries };
            stands = aborts start k.session rests.dialect k.at.stands;
            shut = refl;
          },
          refl,
        )

    full_of : (last : Hand) (z : State) (k : Reached d nobody number start s (calls_left hand) last z) (used next : ℕ) (meets : Meets d no_changes nobody number (place_of last NoMore) start k.session z Ordinary (fault.Full used next) y)
        → (tail : List Call) → (full : WasFull d number start s (at_end d ours tail s) used next) × (full.session ≡ k.session)
    full_of last z k used next meets tail =
        let it : HasNoRoom d Ordinary meets.call k.session z used next = subst (λ e. HasNoRoom e Ordinary meets.call k.session z used next) k.at.dialect meets.faults.0 in
        let goes = goes_on_by last z k (fault.Full used next) y meets tail in (
          record {
            session = k.session;
            came = k.are_made.came;
            call = meets.call;
            more = it.appends.more;
            appends = it.appends.entries;
            before = meets_before last z k (fault.Full used next) y meets tail;
            others = goes.0;
            goes_on = goes.1;
            used_is = it.full.1.0 ∙ subst (λ e. z.used ≡ start.used + size_of_all (entries_of e k.session.entries)) k.at.dialect k.at.stands.used;
            next_is = it.full.1.1 ∙ ap size_of_all it.appends.texts;
            which = inl meets.by;
            full = ap (λ r. is_full (end_of r start.limit) used (entries_of d it.appends.more)) meets.by ∙ ap (λ l. is_full (end_of Ordinary l) used (entries_of d it.appends.more)) (sym k.at.stands.limit)
                ∙ full_by (end_of Ordinary z.limit) used z.used it.written (entries_of d it.appends.more) it.full.1.0 it.appends.texts it.full.0;
          },
          refl,
        )

    pub full_open : (used next : ℕ) (new : Hand) → Ends d number hand x (made.Full used next) new y → (y.live ≡ true) × (is_open number y.begun ≡ true)
    full_open used next new ends =
        let it = ended (made.Full used next) new ends in
        let same : y ≡ it.1 = it.3.0.faults.1 in
        subst (λ z. (z.live ≡ true) × (is_open number z.begun ≡ true)) (sym same) (it.2.at.stands.live, opened_is d no_changes nobody number start it.1 it.2.session it.2.at.stands ∙ it.3.1)

    pub full : (used next : ℕ) (new : Hand) (left : State) → Ends d number hand x (made.Full used next) new y → AbortFor d number y left → (tail : List Call) → EndsAt d number start s (at_end d ours tail s) (end.Full used next) left
    full used next new left ends aborts tail =
        let it = ended (made.Full used next) new ends in
        let same : y ≡ it.1 = it.3.0.faults.1 in
        let waiting = waits it.0 it.1 it.2 left (subst (λ z. AbortFor d number z left) same aborts) tail in
        let was = full_of it.0 it.1 it.2 used next it.3.0 tail in
        (waiting.0, was.0, waiting.1 ∙ ap (λ (t : Session). t.entries) (sym was.1))

    pub lack_open : (new : Hand) → Ends d number hand x made.OutOfMemory new y → (y.live ≡ true) × (is_open number y.begun ≡ true)
    lack_open new ends =
        let it = ended made.OutOfMemory new ends in
        subst (λ z. (z.live ≡ true) × (is_open number z.begun ≡ true)) (sym it.3.0) (it.2.at.stands.live, opened_is d no_changes nobody number start it.1 it.2.session it.2.at.stands ∙ it.3.1)

    pub lack : (new : Hand) (left : State) → Ends d number hand x made.OutOfMemory new y → AbortFor d number y left → (tail : List Call) → EndsAt d number start s (at_end d ours tail s) end.OutOfMemory left
    lack new left ends aborts tail =
        let it = ended made.OutOfMemory new ends in
        (waits it.0 it.1 it.2 left (subst (λ z. AbortFor d number z left) it.3.0 aborts) tail).0

  -- nothing was called
  pub none_made : (start x : State) (s : Session) → Rests d number start x s → (tail : List Call) → EndsAt d number start s (at_end d ours tail s) end.OutOfMemory x
  none_made start x s rests tail = record { session = s; came = record { calls = []; is = refl }; before = end_before d ours tail s; stands = rests.stands; shut = rests.shut }

  -- a crash before the abort
  pub taking_crash : (x : State) (a b : Crashes) → CrashesAll d number hand x a b → (start : State) (s : Session) (tail : List Call) (rests : Rests d number start x s)
      → CrashesLeave start.entries (LeftOf d (at_end d ours tail s)) a b
  taking_crash x a b crash start s tail rests =
      subst (λ cs. CrashesLeave start.entries (LeftOf d (at_end d cs tail s)) a b) calls (crash nobody start s tail (comes_at start x s rests))

  module _ (x y : State) (a b c : Crashes) (crash : CrashesAll d number hand x a b) (aborts : CrashesLeave y.entries LeftAlone b c) (start : State) (s : Session) (tail : List Call) (rests : Rests d number start x s) where
    with_abort : (t : Session) → Stands start number y t → IsBefore t (at_end d ours tail s) → CrashesLeave start.entries (LeftOf d (at_end d ours tail s)) a c
    with_abort t stands before =
        leave_then start.entries (LeftOf d (at_end d ours tail s)) a b c (taking_crash x a b crash start s tail rests)
        (alone_crash d number start y t (at_end d ours tail s) rests.dialect stands before b c aborts)

    pub refused_crash : (reason : Reason) (new : Hand) → Ends d number hand x (made.Refused reason) new y → CrashesLeave start.entries (LeftOf d (at_end d ours tail s)) a c
    refused_crash reason new ends =
        let it = refused_at start x y s rests reason new ends in
        with_abort it.0 it.1 (subst (IsBefore it.0) (sym (it.3 tail)) (same it.0)) where
          same : (t : Session) → IsBefore t (called d Abort t)
          same t = record { more = []; entries = sym (append-nil t.entries) }

    before_so : (last : Hand) (z : State) (k : Reached d nobody number start s (calls_left hand) last z) → IsBefore k.session (at_end d ours tail s)
    before_so last z k = subst (IsBefore k.session) (sym (k.are_made.ends tail) ∙ ap (λ cs. at_end d cs tail s) calls) (end_before d (calls_left last) tail k.session)

    pub full_crash : (used next : ℕ) (new : Hand) → Ends d number hand x (made.Full used next) new y → CrashesLeave start.entries (LeftOf d (at_end d ours tail s)) a c
    full_crash used next new ends =
        let it = ended start x y s rests (made.Full used next) new ends in
        with_abort it.2.session (subst (λ z. Stands start number z it.2.session) (sym it.3.0.faults.1) it.2.at.stands) (before_so it.0 it.1 it.2)

    pub lack_crash : (new : Hand) → Ends d number hand x made.OutOfMemory new y → CrashesLeave start.entries (LeftOf d (at_end d ours tail s)) a c
    lack_crash new ends =
        let it = ended start x y s rests made.OutOfMemory new ends in
        with_abort it.2.session (subst (λ z. Stands start number z it.2.session) (sym it.3.0) it.2.at.stands) (before_so it.0 it.1 it.2)
