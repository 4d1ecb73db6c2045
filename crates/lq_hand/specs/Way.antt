-- How far a turn has come, counted in its user's statements.
use Rattle.std.specs.Prelude.{Bool, Err, List, None, Ok, Option, Result, Some, [], false, if◌then◌else◌, min, true, ℕ, ◌+◌, ◌-◌, ◌^◌, ◌∷◌, ◌≡◌, ◌≢◌, ◌⊎◌}
use Rattle.lq_base.specs.declared.dialect.Dialect.{Dialect}
use Rattle.lq_base.specs.declared.reason.Reason.{Reason}
use Rattle.lq_hand.specs.Hand.{AreTurns, calls_left, place_of}
use Rattle.lq_hand.specs.declared.hand.Hand.{Hand}
use Rattle.lq_hand.specs.declared.hand.Phase.TheVariants as phase
use Rattle.lq_hand.specs.declared.progress.Coming.{Coming}
use Rattle.lq_hand.specs.declared.progress.Coming.TheVariants as coming
use Rattle.lq_hand.specs.declared.progress.Progress.{Progress}
use Rattle.lq_hand.specs.declared.source.Entered.{Entered}
use Rattle.lq_hand.specs.declared.source.Entered.TheVariants as entered
use Rattle.lq_model.specs.Catalogue.{Catalogue}
use Rattle.lq_model.specs.Step.{commits_itself, step}
use Rattle.lq_model.specs.declared.caller.By.TheVariants.{User}
use Rattle.lq_model.specs.declared.statement.Statement.{Statement}
use Rattle.lq_track.specs.Database.{Database}
use Rattle.lq_turns.specs.Deed.{Contents, contents_after, contents_of}
use Rattle.lq_turns.specs.Rest.{Place, Turns, between, rest}
use Rattle.lq_turns.specs.Schedule.{StandsFor}
use Rattle.lq_turns.specs.Script.{closing}
use Rattle.lq_turns.specs.Session.{Both, are_accepted, went}
use Rattle.lq_turns.specs.Set.{Meaning}
use Rattle.lq_turns.specs.Turn.{Ending, Finished, Refused}
use Rattle.lq_turns.specs.declared.call.Call.{Call}
use Rattle.lq_turns.specs.declared.call.Call.TheVariants.{Abort, Alone, Begin, Commit, Execute}
use Rattle.lq_turns.specs.declared.deed.Deed.{Deed}
use Rattle.lq_turns.specs.declared.deed.Deed.TheVariants.{Locks, Rows, Users}
use Rattle.lq_turns.specs.declared.stamp.Stamp.{Stamp}
use Rattle.lq_turns.specs.declared.stop.Refusal.{Refusal}

abbrev pub no_progress : Progress
no_progress = record { statement = 0; kept = 0 }

-- at the greatest u64 it stays
abbrev pub one_more : ℕ → ℕ
one_more count = min (count + 1) (2 ^ 64 - 1)

abbrev pub coming_of : Dialect → Call → Coming
coming_of d (Execute (Users s)) = coming.Statement (commits_itself d s)
coming_of d (Execute (Rows w)) = coming.Other
coming_of d (Execute (Locks w)) = coming.Other
coming_of d Commit = coming.Commit
coming_of d Begin = coming.Other
coming_of d Abort = coming.Other
coming_of d (Alone deeds room) = coming.Other

abbrev pub first_coming : Dialect → List Call → Coming
first_coming d [] = coming.Other
first_coming d (call ∷ calls) = coming_of d call

abbrev pub all_kept : Progress → Progress
all_kept p = record { statement = p.statement; kept = p.statement }

-- after a call that was accepted: a commit keeps all statements by then, and so does one that commits by itself
abbrev pub with_accepted : Coming → Progress → Progress
with_accepted (coming.Statement commits) p = record { statement = one_more p.statement; kept = if commits then one_more p.statement else p.kept }
with_accepted coming.Commit p = all_kept p
with_accepted coming.Other p = p

-- after one that was refused
abbrev pub with_refused : Coming → Progress → Progress
with_refused (coming.Statement true) p = all_kept p
with_refused (coming.Statement false) p = p
with_refused coming.Commit p = p
with_refused coming.Other p = p

abbrev pub progress_after : Coming → Option Reason → Progress → Progress
progress_after call None p = with_accepted call p
progress_after call (Some reason) p = with_refused call p

-- the statement after those that were accepted was refused
abbrev pub refusal_at : Progress → Reason → Refusal
refusal_at p reason = record { statement = one_more p.statement; kept = p.kept; reason = reason }

abbrev pub refusal_by : Progress → Option Reason → Option Refusal
refusal_by p None = None
refusal_by p (Some reason) = Some (refusal_at p reason)

-- What a source of turns holds on its way to what it will have told, and what the calls of a turn come to.

pub record Way : Type 1 where
  -- of the contents that are committed, between two turns
  pub knows : Contents → Type 0
  -- of those that are there once the turn in hand has finished, where its statements to come see these objects
  pub awaits : List Catalogue → Contents → Type 0
  -- of those that are left where a statement of it is refused, and the command goes on, or stops
  pub yields : Bool → Refusal → Contents → Type 0
  -- all is told, but for the refusal that stopped the command
  pub tells : Option Refusal → Type 0
  -- so much is told where there was no memory for the next turn
  pub lacks : Type 0

-- the source is somewhere on its way, or at its end
abbrev pub IsUnderWay : Way → Type 0
IsUnderWay way = ((c : Contents) × way.knows c) ⊎ (((sees : List Catalogue) × (c : Contents) × way.awaits sees c) ⊎ (((goes_on : Bool) × (refusal : Refusal) × (c : Contents) × way.yields goes_on refusal c) ⊎ (((refused : Option Refusal) × way.tells refused) ⊎ way.lacks)))

module _ (d : Dialect) where
  -- the refusal of the first of these calls that is refused, where the turn has come so far

  abbrev pub refused_by : Deed → (Progress → Contents → Option Refusal) → Progress → Result Contents Reason → Option Refusal
  refused_by deed more p (Ok now) = more (with_accepted (coming_of d (Execute deed)) p) now
  refused_by deed more p (Err reason) = Some (refusal_at (with_refused (coming_of d (Execute deed)) p) reason)

  abbrev pub refused_in : List Call → Progress → Contents → Option Refusal
  refused_in [] p c = None
  refused_in (Execute deed ∷ calls) p c = refused_by deed (refused_in calls) p (contents_after d deed c)
  refused_in (call ∷ calls) p c = refused_in calls (with_accepted (coming_of d call) p) c

  -- the users' objects as each user's statement of these calls sees them, up to one that is refused

  abbrev pub seen_first : Deed → Catalogue → List Catalogue → List Catalogue
  seen_first (Users s) users more = users ∷ more
  seen_first (Rows w) users more = more
  seen_first (Locks w) users more = more

  abbrev pub seen_after : (Contents → List Catalogue) → Result Contents Reason → List Catalogue
  seen_after more (Ok now) = more now
  seen_after more (Err reason) = []

  abbrev pub sights : List Call → Contents → List Catalogue
  sights [] c = []
  sights (Execute deed ∷ calls) c = seen_first deed c.users (seen_after (sights calls) (contents_after d deed c))
  sights (call ∷ calls) c = sights calls c

-- the users' objects as each of these statements sees them, up to one that is refused
abbrev pub seen_along : Dialect → List Statement → Catalogue → List Catalogue
seen_along d [] users = []
seen_along d (s ∷ ss) users = users ∷ elim (step User d s users) [ Ok r ↦ seen_along d ss r.0 | Err reason ↦ [] ]

-- the refusal in how a turn ends
abbrev pub refusal_at_end : Ending → Option Refusal
refusal_at_end (Finished c) = None
refusal_at_end (Refused c refusal) = Some refusal

-- What these calls of a turn make of the contents: the source awaits them where all are accepted, and yields to the refusal of one.
pub record Expects (d : Dialect) (way : Way) (goes_on : Bool) (calls : List Call) (p : Progress) (x : Both) : Type 0 where
  pub finished : are_accepted d calls x.1 ≡ true → way.awaits (sights d calls x.1) (went d calls x).0
  pub refused : (refusal : Refusal) → refused_in d calls p x.1 ≡ Some refusal → way.yields goes_on refusal (went d calls x).0

-- the source has looked at what the next user's statement sees
pub record Looks (d : Dialect) (seen : Catalogue) (before after : Way) : Type 0 where
  pub knows : (c : Contents) → before.knows c → after.knows c
  pub awaits : (database : Database) → StandsFor d seen database → (more : List Catalogue) (c : Contents) → before.awaits (database.users ∷ more) c → after.awaits more c
  pub yields : (goes_on : Bool) (refusal : Refusal) (c : Contents) → before.yields goes_on refusal c → after.yields goes_on refusal c

-- it has heard of a refusal
pub record GivesUp (before after : Way) : Type 0 where
  pub goes_on : (refusal : Refusal) (c : Contents) → before.yields true refusal c → after.knows c
  pub stops : (refusal : Refusal) (c : Contents) → before.yields false refusal c → after.tells (Some refusal)

-- How the next turn of a command is entered.

-- a turn in hand, of which no call is made
pub record IsTurn (d : Dialect) (hand : Hand) : Type 0 where
  pub inside : hand.phase ≡ phase.Inside
  pub left : hand.calls ≢ []
  pub turn : AreTurns d false (calls_left hand)

module _ {Key : Type 0} (d : Dialect) (m : Meaning Key) (stamp : Stamp) where
  -- the calls to come where so much is committed, and nothing begun
  abbrev pub rest_at : Place Key → Contents → List Call
  rest_at p c = rest d m stamp p (c, c)

module _ {Key Told : Type 0} (d : Dialect) (m : Meaning Key) (stamp : Stamp) where
  -- on each database that is seen, and whose contents the source knows on its way to having told so much
  abbrev pub OnSeen : (Told → Way) → Catalogue → (Contents → Told → Type 0) → Type 0
  OnSeen knew seen holds = (database : Database) → StandsFor d seen database → (told : Told) → (knew told).knows (contents_of database) → holds (contents_of database) told

  -- The next turn is entered, and the calls to come stay the same; or there is no turn, and all is told; or there was no memory for it.
  abbrev pub Enters : Turns Key → (Told → Way) → Catalogue → Entered → Turns Key → (Told → Way) → Type 0
  Enters turns knew seen (entered.Turn hand) after ways = IsTurn d hand × OnSeen knew seen (λ c told.
      (rest_at d m stamp (between turns) c ≡ rest_at d m stamp (place_of hand after) c) × Expects d (ways told) hand.goes_on (calls_left hand) no_progress (c, c))
  Enters turns knew seen entered.NoTurn after ways = OnSeen knew seen (λ c told. (rest_at d m stamp (between turns) c ≡ closing ∷ []) × (ways told).tells None)
  Enters turns knew seen entered.Lack after ways = OnSeen knew seen (λ c told. IsUnderWay (ways told))
