-- The next call in hand.
use Rattle.std.proofs.Common.{ap, subst, sym, ◌∙◌}
use Rattle.std.specs.Prelude.{Bool, Err, List, Ok, Result, false, refl, reverse, true, ℕ, ◌++◌, ◌∷◌, ◌≡◌, ◌≢◌, []}
use Rattle.lq_base.specs.declared.dialect.Dialect.{Dialect}
use Rattle.lq_base.specs.declared.reason.Reason.{Reason}
use Rattle.lq_model.proofs.Lists.{and_left, and_right}
use Rattle.lq_model.specs.declared.caller.Room.TheVariants.{Ordinary}
use Rattle.lq_model.specs.declared.fault.StoreFault.{StoreFault}
use Rattle.lq_store.specs.Journal.{Crashes, Entry, State}
use Rattle.lq_track.specs.Database.{Database}
use Rattle.lq_turns.specs.Deed.{Contents, contents_of, with_contents, contents_after, if_accepted, locked_after}
use Rattle.lq_turns.specs.Rest.{GivingUp, Inside, Place, Turns, if_goes_on, rest, Went, both_of}
use Rattle.lq_turns.specs.Session.{Session, called, executed_as, is_own, room_of, settled_if}
use Rattle.lq_turns.specs.Set.{Meaning}
use Rattle.lq_turns.specs.declared.call.Call.{Call}
use Rattle.lq_turns.specs.declared.call.Call.TheVariants.{Abort, Alone, Begin, Commit, Execute}
use Rattle.lq_turns.specs.declared.deed.Deed.{Deed}
use Rattle.lq_turns.specs.declared.deed.Deed.TheVariants.{Locks, Rows, Users}
use Rattle.lq_turns.specs.declared.deed.OnLock.TheVariants.{Freed, LockMade, LockRowMade, LogMade, Marked, Taken}
use Rattle.lq_turns.specs.declared.stamp.Stamp.{Stamp}
use Rattle.lq_beside.specs.Replays.{call_fits, calls_fit}
use Rattle.lq_hand.proofs.InHand.{last_first}
use Rattle.lq_hand.specs.Hand.{AreTurns, IsNext, IsReady, calls_left, hand_place, opens, place_of}
use Rattle.lq_run.proofs.Since.{leave_wider, none_yet}
use Rattle.lq_run.specs.Crashing.{CrashesFor, CrashesTaken, LeftInCall, LeftInNext}
use Rattle.lq_run.specs.Moves.{Accepts, Goes, IsAt, Makes, Refuses, Takes, refusal_of}
use Rattle.lq_run.specs.Stands.{Stands}
use Rattle.lq_hand.specs.declared.hand.Hand.{Hand}
use Rattle.lq_run.specs.declared.hand.Moved.TheVariants as moved
use Rattle.lq_hand.specs.declared.hand.Phase.TheVariants as phase

head_is : {c k : Call} {cs ks : List Call} → c ∷ cs ≡ k ∷ ks → c ≡ k
head_is h = Prim.cc

pub next_in_hand : (d : Dialect) (opened : Bool) (calls left : List Call) (call : Call) → calls ≡ left ++ call ∷ [] → AreTurns d opened (reverse calls) → IsNext d opened call
next_in_hand d opened calls left call is turns = (subst (AreTurns d opened) (last_first calls left call is) turns).0

module _ {Key : Type 0} (d : Dialect) (m : Meaning Key) (stamp : Stamp) (number : ℕ) where
  -- the first call of a turn is the next of the script
  head_fits : (call : Call) (calls : List Call) (on : Bool) (turns : Turns Key) (s : Session) → calls_fit d (rest d m stamp (Inside (call ∷ calls) on turns) (both_of s)) s ≡ true → call_fits d call s ≡ true
  head_fits Begin calls on turns s fit = refl
  head_fits Commit calls on turns s fit = refl
  head_fits Abort calls on turns s fit = refl
  head_fits (Execute deed) calls on turns s fit = and_left (call_fits d (Execute deed) s) _ fit
  head_fits (Alone deeds room) calls on turns s fit = and_left (call_fits d (Alone deeds room) s) _ fit

  pub still_by : (deed : Deed) (s : Session) (q : Result Contents Reason) → (executed_as d deed s (if_accepted (with_contents (locked_after deed s.seen)) q)).is_open ≡ s.is_open
  still_by deed s (Ok now) = elim (is_own d deed) as (λ o. (settled_if o (record (settled_if o s) { seen = with_contents (locked_after deed s.seen) now; begun = (settled_if o s).begun ++ deed ∷ [] })).is_open ≡ s.is_open) [ true ↦ refl | false ↦ refl ]
  still_by deed s (Err reason) = elim (is_own d deed) as (λ o. (settled_if o s).is_open ≡ s.is_open) [ true ↦ refl | false ↦ refl ]

  opens_as : (call : Call) (s : Session) → IsNext d s.is_open call → (called d call s).is_open ≡ opens call
  opens_as Begin s next = refl
  opens_as Commit s next = refl
  opens_as Abort s next = refl
  opens_as (Alone deeds room) s next = absurd next
  opens_as (Execute deed) s next = still_by deed s (contents_after d deed (contents_of s.seen)) ∙ next.0

  locked_row : (deed : Deed) (database : Database) → database.has_lock_row ≡ true → (locked_after deed database).has_lock_row ≡ true
  locked_row (Users s) database is = is
  locked_row (Rows w) database is = is
  locked_row (Locks LogMade) database is = is
  locked_row (Locks LockMade) database is = is
  locked_row (Locks LockRowMade) database is = refl
  locked_row (Locks (Taken at by)) database is = is
  locked_row (Locks (Marked by)) database is = is
  locked_row (Locks Freed) database is = is

  abbrev HasRow : Session → Type 0
  HasRow s = (s.committed.has_lock_row ≡ true) × (s.seen.has_lock_row ≡ true)

  row_by : (deed : Deed) (s : Session) (q : Result Contents Reason) → HasRow s → HasRow (executed_as d deed s (if_accepted (with_contents (locked_after deed s.seen)) q))
  row_by deed s (Ok now) is =
      elim (is_own d deed) as (λ o. HasRow (settled_if o (record (settled_if o s) { seen = with_contents (locked_after deed s.seen) now; begun = (settled_if o s).begun ++ deed ∷ [] }))) [
        | true ↦ (locked_row deed s.seen is.1, locked_row deed s.seen is.1)
        | false ↦ (is.0, locked_row deed s.seen is.1)
      ]
  row_by deed s (Err reason) is = elim (is_own d deed) as (λ o. HasRow (settled_if o s)) [ true ↦ (is.1, is.1) | false ↦ is ]

  ordinary : (call : Call) (opened : Bool) → IsNext d opened call → room_of call ≡ Ordinary
  ordinary Begin opened next = refl
  ordinary Commit opened next = refl
  ordinary Abort opened next = refl
  ordinary (Alone deeds room) opened next = absurd next
  ordinary (Execute deed) opened next = refl

  has_row : (call : Call) (s : Session) → IsNext d s.is_open call → HasRow s → HasRow (called d call s)
  has_row Begin s next is = is
  has_row Commit s next is = (is.1, is.1)
  has_row Abort s next is = (is.0, is.0)
  has_row (Alone deeds room) s next is = absurd next
  has_row (Execute deed) s next is = row_by deed s (contents_after d deed (contents_of s.seen)) is

  -- a step leaves what fits
  pub fits_on : (p q : Place Key) (s t : Session) → Went d m stamp p q s t → calls_fit d (rest d m stamp p (both_of s)) s ≡ true → calls_fit d (rest d m stamp q (both_of t)) t ≡ true
  fits_on p q s t went fit =
      subst (λ z. calls_fit d (rest d m stamp q (both_of t)) z ≡ true) (sym went.is) (and_right (call_fits d went.call s) _ (subst (λ calls. calls_fit d calls s ≡ true) went.next fit))

  pub goes_to : (call : Call) (q : Place Key) (calls : List Call) (on : Bool) (turns : Turns Key) (x y start : State) (s : Session) → IsAt d m stamp number (Inside (call ∷ calls) on turns) x start s
      → Stands start number y (called d call s) → IsReady d (opens call) q → Went d m stamp (Inside (call ∷ calls) on turns) q s (called d call s) → Goes d m stamp number (Inside (call ∷ calls) on turns) q start s y
  goes_to call q calls on turns x y start s is stands ready went = record {
    after = called d call s;
    at = record {
      dialect = is.dialect;
      stands = stands;
      ready = subst (λ o. IsReady d o q) (sym (opens_as call s is.ready.0)) ready;
      fits = fits_on (Inside (call ∷ calls) on turns) q s (called d call s) went is.fits;
      row = has_row call s is.ready.0 is.row;
    };
    went = went;
  }

  next_is : (c : Call) (calls : List Call) (on : Bool) (turns : Turns Key) (s : Session) → (more : List Call) × (rest d m stamp (Inside (c ∷ calls) on turns) (both_of s) ≡ c ∷ more)
  next_is Begin calls on turns s = (_, refl)
  next_is Commit calls on turns s = (_, refl)
  next_is Abort calls on turns s = (_, refl)
  next_is (Execute deed) calls on turns s = (_, refl)
  next_is (Alone deeds room) calls on turns s = (_, refl)

  -- with nothing written yet of the next call in hand
  still_at : (calls : List Call) (on : Bool) (turns : Turns Key) (x start : State) (s : Session) → calls ≢ [] → IsAt d m stamp number (Inside calls on turns) x start s
      → (there left : List Entry) → left ≡ there → LeftInNext d m stamp number (Inside calls on turns) s there left
  still_at [] on turns x start s some is there left same = absurd (some refl)
  still_at (call ∷ calls) on turns x start s some is there left same =
      let next = next_is call calls on turns s in
      record { call = call; others = next.0; next = next.1; by = ordinary call s.is_open is.ready.0; is = none_yet d call s there left same }

  pub still_next : (hand : Hand) (turns : Turns Key) (x start : State) (s : Session) → hand.phase ≡ phase.Inside → calls_left hand ≢ [] → IsAt d m stamp number (place_of hand turns) x start s
      → (there left : List Entry) → left ≡ there → LeftInNext d m stamp number (place_of hand turns) s there left
  still_next hand turns x start s inside some is there left same =
      let at : place_of hand turns ≡ Inside (calls_left hand) hand.goes_on turns = ap (λ p. hand_place p (calls_left hand) hand.goes_on turns) inside in
      subst (λ p. LeftInNext d m stamp number p s there left) (sym at) (still_at (calls_left hand) hand.goes_on turns x start s some (subst (λ p. IsAt d m stamp number p x start s) at is) there left same)

  -- and so for a hand

  module _ (hand : Hand) (left : List Call) (call : Call) (x y : State) (inside : hand.phase ≡ phase.Inside) (last : hand.calls ≡ left ++ call ∷ []) where
    first : calls_left hand ≡ call ∷ reverse left
    first = last_first hand.calls left call last

    here : (turns : Turns Key) → place_of hand turns ≡ Inside (call ∷ reverse left) hand.goes_on turns
    here turns = ap (λ p. hand_place p (calls_left hand) hand.goes_on turns) inside ∙ ap (λ calls. Inside calls hand.goes_on turns) first

    there : (turns : Turns Key) → place_of (record hand { calls = left }) turns ≡ Inside (reverse left) hand.goes_on turns
    there turns = ap (λ p. hand_place p (reverse left) hand.goes_on turns) inside

    pub take_on : Makes d m stamp number call x moved.On y → Takes d m stamp number hand x moved.On (record hand { calls = left }) y
    unfolding goes_to
    take_on makes turns start s is =
        let at = subst (λ p. IsAt d m stamp number p x start s) (here turns) is in
        let made = makes start s at.dialect at.stands (head_fits call (reverse left) hand.goes_on turns s at.fits) in
        subst (λ ph. Accepts d m stamp number (hand_place ph (calls_left hand) hand.goes_on turns) (hand_place ph (reverse left) hand.goes_on turns) (calls_left hand) (reverse left) start s y) (sym inside)
        (subst (λ calls. Accepts d m stamp number (Inside calls hand.goes_on turns) (Inside (reverse left) hand.goes_on turns) calls (reverse left) start s y) (sym first)
        (record {
          goes = goes_to call (Inside (reverse left) hand.goes_on turns) (reverse left) hand.goes_on turns x y start s at made.0 at.ready.1 (made.1 (reverse left) hand.goes_on turns);
          continues = made.2 (reverse left);
          first = ap (λ (c : Call). c ∷ reverse left) (sym (head_is (sym (made.1 (reverse left) hand.goes_on turns).next ∙ (next_is call (reverse left) hand.goes_on turns s).1)));
          none = ap (λ (c : Call). refusal_of d c s) (head_is (sym (made.1 (reverse left) hand.goes_on turns).next ∙ (next_is call (reverse left) hand.goes_on turns s).1)) ∙ made.3;
        }))

    pub take_refused : (reason : Reason) → Makes d m stamp number call x (moved.Refused reason) y → Takes d m stamp number hand x (moved.Refused reason) (record hand { phase = phase.GivingUp; calls = left }) y
    unfolding goes_to
    take_refused reason makes turns start s is =
        let at = subst (λ p. IsAt d m stamp number p x start s) (here turns) is in
        let made = makes start s at.dialect at.stands (head_fits call (reverse left) hand.goes_on turns s at.fits) in
        subst (λ ph. Refuses d m stamp number (hand_place ph (calls_left hand) hand.goes_on turns) (GivingUp (if_goes_on hand.goes_on turns)) (calls_left hand) reason start s y) (sym inside)
        (subst (λ calls. Refuses d m stamp number (Inside calls hand.goes_on turns) (GivingUp (if_goes_on hand.goes_on turns)) calls reason start s y) (sym first)
        (record {
          goes = goes_to call (GivingUp (if_goes_on hand.goes_on turns)) (reverse left) hand.goes_on turns x y start s at made.0 made.1 (made.2 (reverse left) hand.goes_on turns);
          breaks_off = made.3 (reverse left);
          more = reverse left;
          first = ap (λ (c : Call). c ∷ reverse left) (sym (head_is (sym (made.2 (reverse left) hand.goes_on turns).next ∙ (next_is call (reverse left) hand.goes_on turns s).1)));
          why = ap (λ (c : Call). refusal_of d c s) (head_is (sym (made.2 (reverse left) hand.goes_on turns).next ∙ (next_is call (reverse left) hand.goes_on turns s).1)) ∙ made.4;
        }))

    pub take_fault : (fault : StoreFault) → Makes d m stamp number call x (moved.Failed fault) y → Takes d m stamp number hand x (moved.Failed fault) (record hand { calls = left }) y
    take_fault fault makes turns start s is =
        let at = subst (λ p. IsAt d m stamp number p x start s) (here turns) is in
        let made = makes start s at.dialect at.stands (head_fits call (reverse left) hand.goes_on turns s at.fits) in
        let next = next_is call (reverse left) hand.goes_on turns s in
        (record { call = call; more = next.0; next = ap (λ p. rest d m stamp p (both_of s)) (here turns) ∙ next.1; by = ordinary call s.is_open at.ready.0; faults = made.0 }, made.1)

    pub take_lack : Makes d m stamp number call x moved.Lack y → Takes d m stamp number hand x moved.Lack (record hand { calls = left }) y
    take_lack makes turns start s is =
        let at = subst (λ p. IsAt d m stamp number p x start s) (here turns) is in
        makes start s at.dialect at.stands (head_fits call (reverse left) hand.goes_on turns s at.fits)

    -- what a crash leaves
    pub take_crash : (a b : Crashes) → CrashesFor d number call x a b → CrashesTaken d m stamp number hand x a b
    take_crash a b crash turns start s is =
        let at = subst (λ p. IsAt d m stamp number p x start s) (here turns) is in
        let next = next_is call (reverse left) hand.goes_on turns s in
        leave_wider x.entries (LeftInCall d call s) (LeftInNext d m stamp number (place_of hand turns) s) a b
        (λ there left it. record { call = call; others = next.0; next = ap (λ p. rest d m stamp p (both_of s)) (here turns) ∙ next.1; by = ordinary call s.is_open at.ready.0; is = it })
        (crash start s at.dialect at.stands (head_fits call (reverse left) hand.goes_on turns s at.fits))
