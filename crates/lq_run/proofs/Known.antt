-- What a source holds from call to call.
use Rattle.std.proofs.Common.{ap, rules, subst, sym, ◌∙◌}
use Rattle.std.specs.Prelude.{Bool, List, None, Option, Some, [], cond, false, refl, reverse, true, ℕ, ◌==◌, ◌∷◌, ◌≡◌, ◌≢◌}
use Rattle.lq_base.specs.declared.dialect.Dialect.{Dialect}
use Rattle.lq_base.specs.declared.reason.Reason.{Reason}
use Rattle.lq_model.specs.Catalogue.{Catalogue}
use Rattle.lq_model.specs.declared.fault.StoreFault.{StoreFault}
use Rattle.lq_model.specs.declared.fault.StoreFault.TheVariants as fault
use Rattle.lq_store.specs.Calls.{IsBusy}
use Rattle.lq_store.specs.Journal.{State, Transaction, other, other_in, seen, seen_in}
use Rattle.lq_turns.specs.Deed.{Contents, contents_of}
use Rattle.lq_turns.specs.Session.{Both, went, Session}
use Rattle.lq_turns.specs.Schedule.{StandsFor}
use Rattle.lq_turns.specs.Rest.{GivingUp, Inside, Turns, both_of}
use Rattle.lq_turns.specs.declared.call.Call.{Call}
use Rattle.lq_turns.specs.declared.call.Call.TheVariants.{Abort, Alone, Begin, Commit, Execute}
use Rattle.lq_turns.specs.declared.deed.Deed.TheVariants.{Locks, Rows, Users}
use Rattle.lq_turns.specs.declared.stop.Refusal.{Refusal}
use Rattle.lq_hand.specs.Way.{first_coming, refusal_at, with_accepted, with_refused, Expects, GivesUp, Looks, Way, sights}
use Rattle.lq_hand.specs.declared.progress.Coming.{Coming}
use Rattle.lq_hand.specs.declared.progress.Coming.TheVariants as coming
use Rattle.lq_hand.specs.declared.progress.Progress.{Progress}
use Rattle.lq_run.specs.Moves.{BreaksOff, Continues, unseen}
use Rattle.lq_run.specs.Stands.{IsBegun, Stands}
use Rattle.lq_run.specs.Steps.{ExpectsNext, Known, KnownIn, KnownNext, Shows, TellsAs, end_of, enters_turns, is_statement, shown, stopped_by}

not_true : false ≡ true → ⊥
not_true h = Prim.cc

self_eq : (n : ℕ) → (n == n) ≡ true
self_eq n = Prim.search rules

pub unstopped : (f : Option StoreFault) (r : Option Refusal) → enters_turns f r ≡ true → (f ≡ None) × (r ≡ None)
unstopped None None h = (refl, refl)
unstopped None (Some refusal) h = absurd (not_true h)
unstopped (Some why) r h = absurd (not_true h)

module _ (d : Dialect) (way : Way) (goes_on : Bool) where
  pub expects_on : (before after : List Call) (s t : Session) (p : Progress) → Continues d before after s t → ExpectsNext d way goes_on before p (both_of s) → Expects d way goes_on after (with_accepted (first_coming d before) p) (both_of t)
  expects_on before after s t p is e = record {
    finished = λ all. subst (λ (x : Both). way.awaits (sights d after (contents_of t.seen)) x.0) is.contents (subst (λ (seen : List Catalogue). way.awaits seen (went d before (both_of s)).0) is.seen (e.finished (is.accepted ∙ all)));
    refused = λ refusal why. subst (λ (x : Both). way.yields goes_on refusal x.0) is.contents (e.refused refusal (is.counted p ∙ why));
  }

  pub yields_refused : (calls : List Call) (reason : Reason) (s t : Session) (p : Progress) → BreaksOff d calls reason s t → ExpectsNext d way goes_on calls p (both_of s)
      → way.yields goes_on (refusal_at (with_refused (first_coming d calls) p) reason) (contents_of t.committed)
  yields_refused calls reason s t p is e = subst (λ (c : Contents). way.yields goes_on (refusal_at (with_refused (first_coming d calls) p) reason) c) is.contents (e.refused (refusal_at (with_refused (first_coming d calls) p) reason) (is.counted p))

  pub known_left : (calls : List Call) (p : Progress) (x : Both) → calls ≢ [] → Expects d way goes_on calls p x → KnownIn d way goes_on calls p x
  known_left [] p x left e = absurd (left refl)
  known_left (call ∷ calls) p x left e = e

pub known_done : (d : Dialect) (way later : Way) (goes_on : Bool) (calls : List Call) (p : Progress) (x : Both) → calls ≡ [] → ((c : Contents) → way.awaits [] c → later.knows c)
    → Expects d way goes_on (reverse calls) p x → KnownIn d later goes_on (reverse calls) p x
known_done d way later goes_on calls p x none finished e =
    subst (λ (cs : List Call). KnownIn d later goes_on (reverse cs) p x) (sym none) (finished x.0 ((subst (λ (cs : List Call). Expects d way goes_on (reverse cs) p x) none e).finished refl))

-- the first of the calls was made

module _ {Key : Type 0} (d : Dialect) (way later : Way) (goes_on : Bool) (calls : List Call) (p : Progress) (x : Both) where
  pub known_on : (refused : Option Refusal) (more : List Call) (on : Bool) (turns : Turns Key) (q : Progress) (z : Both) → KnownNext d way refused goes_on calls p x
      → (ExpectsNext d way goes_on calls p x → KnownIn d later on more q z) → Known d later refused (Inside more on turns) q z
  known_on None more on turns q z e go = go e
  known_on (Some refusal) more on turns q z e go = absurd e

  pub known_refused : (refused : Option Refusal) (on : Bool) (refusal : Refusal) (turns : Turns Key) (q : Progress) (z : Both) → KnownNext d way refused goes_on calls p x → GivesUp way later
      → (ExpectsNext d way goes_on calls p x → way.yields on refusal z.0) → Known d later (stopped_by (Some refusal) on refused) (GivingUp turns) q z
  known_refused None true refusal turns q z e gives go = gives.goes_on refusal z.0 (go e)
  known_refused None false refusal turns q z e gives go = gives.stops refusal z.0 (go e)
  known_refused (Some other) on refusal turns q z e gives go = absurd e

-- what was begun is taken back
pub known_back : {Key : Type 0} (d : Dialect) (way : Way) (refused : Option Refusal) (on : Bool) (turns : Turns Key) (p : Progress) (x z : Both) → x.0 ≡ z.0 → Known d way refused (GivingUp turns) p x → Known d way refused (Inside [] on turns) p z
known_back d way None on turns p x z same known = subst (λ (c : Contents). way.knows c) same known
known_back d way (Some refusal) on turns p x z same known = known

-- the source looks at what the next call sees

sights_first : (d : Dialect) (calls : List Call) (c : Contents) → sights d calls c ≡ shown (first_coming d calls) c.users (unseen d calls c)
sights_first d [] c = refl
sights_first d (Execute (Users s) ∷ calls) c = refl
sights_first d (Execute (Rows w) ∷ calls) c = refl
sights_first d (Execute (Locks w) ∷ calls) c = refl
sights_first d (Begin ∷ calls) c = refl
sights_first d (Commit ∷ calls) c = refl
sights_first d (Abort ∷ calls) c = refl
sights_first d (Alone deeds room ∷ calls) c = refl

module _ (d : Dialect) (before after : Way) (goes_on : Bool) (p : Progress) (s : Session) (c : Catalogue) (stands : StandsFor d c s.seen) where
  expects_shown : (calls : List Call) → Shows d (first_coming d calls) c before after → Expects d before goes_on calls p (both_of s) → ExpectsNext d after goes_on calls p (both_of s)
  expects_shown calls shows e = record {
    finished = λ all. shows.awaits s.seen stands (unseen d calls (contents_of s.seen)) (went d calls (both_of s)).0
        (subst (λ (seen : List Catalogue). before.awaits seen (went d calls (both_of s)).0) (sights_first d calls (contents_of s.seen)) (e.finished all));
    refused = λ refusal why. shows.yields goes_on refusal (went d calls (both_of s)).0 (e.refused refusal why);
  }

  pub known_shown : {Key : Type 0} (refused : Option Refusal) (calls : List Call) (turns : Turns Key) → calls ≢ [] → Shows d (first_coming d calls) c before after → Known d before refused (Inside calls goes_on turns) p (both_of s) → KnownNext d after refused goes_on calls p (both_of s)
  known_shown None [] turns left shows known = absurd (left refl)
  known_shown None (call ∷ calls) turns left shows known = expects_shown (call ∷ calls) shows known
  known_shown (Some refusal) [] turns left shows known = absurd (left refl)
  known_shown (Some refusal) (call ∷ calls) turns left shows known = absurd known

-- what a session sees, where it has the one transaction or none is open
module _ (d : Dialect) (number : ℕ) (start x : State) (s : Session) (stands : Stands start number x s) where
  shows_by : (o : Option Transaction) → IsBegun start.dialect number s o → (other_in number o ≡ None) × StandsFor start.dialect (seen_in number o x.committed) s.seen
  shows_by None begun = (refl, subst (StandsFor start.dialect x.committed) (sym begun.1) stands.committed)
  shows_by (Some t) begun =
      let same : (t.session == number) ≡ true = subst (λ n. (t.session == n) ≡ true) begun.1 (self_eq t.session) in
      (ap (λ b. cond b None (Some t.session)) same, subst (λ b. StandsFor start.dialect (cond b t.now x.committed) s.seen) (sym same) begun.2)

  pub shows_own : start.dialect ≡ d → (other number x ≡ None) × StandsFor d (seen number x) s.seen
  shows_own is = let it = shows_by x.begun stands.begun in (it.0, subst (λ e. StandsFor e (seen number x) s.seen) is it.1)

-- a call that shows the source nothing
pub shows_nothing : (d : Dialect) (call : Coming) (c : Catalogue) (way : Way) → is_statement call ≡ false → Shows d call c way way
shows_nothing d (coming.Statement commits) c way none = absurd (not_true (sym none))
shows_nothing d coming.Commit c way none = record { knows = λ z h. h; awaits = λ database stands more z h. h; yields = λ on refusal z h. h }
shows_nothing d coming.Other c way none = record { knows = λ z h. h; awaits = λ database stands more z h. h; yields = λ on refusal z h. h }

pub shows_statement : (d : Dialect) (call : Coming) (c : Catalogue) (before after : Way) → is_statement call ≡ true → Looks d c before after → Shows d call c before after
shows_statement d (coming.Statement commits) c before after one looks = record { knows = looks.knows; awaits = looks.awaits; yields = looks.yields }
shows_statement d coming.Commit c before after one looks = absurd (not_true one)
shows_statement d coming.Other c before after one looks = absurd (not_true one)

-- what is told at the end of a fault
pub tells_fault : (way : Way) (why : StoreFault) → TellsAs way (end_of why)
tells_fault way fault.Disk = tt
tells_fault way (fault.Full used next) = tt
tells_fault way fault.OutOfMemory = tt
tells_fault way (fault.Busy n) = tt
tells_fault way fault.NotSql = tt
tells_fault way (fault.Refused reason) = tt

-- another session is not in the way where none has a transaction open
pub not_busy : (number : ℕ) (x : State) (why : StoreFault) → other number x ≡ None → IsBusy number x why → ⊥
not_busy number x (fault.Busy n) none busy = clash (sym none ∙ busy) where
  clash : (let o : Option ℕ = None in o) ≡ Some n → ⊥
  clash h = Prim.cc
not_busy number x fault.Disk none busy = busy
not_busy number x (fault.Full used next) none busy = busy
not_busy number x fault.OutOfMemory none busy = busy
not_busy number x fault.NotSql none busy = busy
not_busy number x (fault.Refused reason) none busy = busy
