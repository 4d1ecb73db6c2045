-- How many changes of the turn in hand are not fresh, told where their first statements come.
use Rattle.std.specs.List.{list_any}
use Rattle.std.specs.Prelude.{Bool, List, None, Option, Some, [], false, if◌then◌else◌, length, map, reverse, slice_get, suc, true, zero, ℕ, ◌++◌, ◌+◌, ◌-◌, ◌∷◌, ◌≡◌}
use Rattle.lq_base.specs.declared.dialect.Dialect.{Dialect}
use Rattle.lq_base.specs.declared.tracking.Tracked.{Tracked}
use Rattle.lq_cond.specs.Told.{told}
use Rattle.lq_cond.specs.declared.cond.Cond.{Cond}
use Rattle.lq_cond.specs.declared.condition.Condition.{Condition}
use Rattle.lq_cond.specs.declared.condition.Condition.TheVariants.{ChangeSetExecuted}
use Rattle.lq_any.specs.AnyChange.{gives, is_fresh}
use Rattle.lq_any.specs.declared.any_change.AnyChange.{AnyChange}
use Rattle.lq_kinds.specs.declared.change_set.ChangeSet.{ChangeSet}
use Rattle.lq_model.specs.Catalogue.{Catalogue}
use Rattle.lq_seen.specs.Telling.{bounded}
use Rattle.lq_sets.specs.declared.in_hand.InHand.{InHand}
use Rattle.lq_track.specs.Database.{Database}
use Rattle.lq_turns.specs.Deed.{theirs}
use Rattle.lq_turns.specs.Schedule.{StandsFor}
use Rattle.lq_turns.specs.declared.choice.Choice.{Choice}
use Rattle.lq_turns.specs.declared.choice.Choice.TheVariants.{Fills, Halts, Marks, Passes, Runs, Skips}
use Rattle.lq_turns.specs.declared.choice.What.{What}
use Rattle.lq_turns.specs.declared.choice.What.TheVariants.{Again, Fill, New}

-- whether its changes run
abbrev pub runs : Choice → Bool
runs Passes = false
runs Fills = false
runs Skips = false
runs (Marks what) = false
runs (Runs what why) = true
runs (Halts why) = false

-- those that do
abbrev pub changes_run : Choice → List AnyChange → List AnyChange
changes_run choice xs = if runs choice then xs else []

-- of each statement the place of the change that begins with it, where one does

abbrev pub begins_none : ℕ → List (Option ℕ)
begins_none zero = []
begins_none (suc count) = None ∷ begins_none count

-- so many statements, given by the change at n
abbrev pub begins_at : ℕ → ℕ → List (Option ℕ)
begins_at n zero = []
begins_at n (suc count) = Some n ∷ begins_none count

-- those of changes, of which the first stands at n
abbrev pub begins_from : Dialect → ℕ → List AnyChange → List (Option ℕ)
begins_from d n [] = []
begins_from d n (x ∷ xs) = begins_at n (length (gives d x)) ++ begins_from d (suc n) xs

abbrev pub first_of : List (Option ℕ) → Option ℕ
first_of [] = None
first_of (b ∷ bs) = b

abbrev pub after_first : List (Option ℕ) → List (Option ℕ)
after_first [] = []
after_first (b ∷ bs) = bs

-- 1 where a change is there that is not fresh, else 0
abbrev pub stale_one : Dialect → Option AnyChange → Catalogue → ℕ
stale_one d None users = 0
stale_one d (Some x) users = if is_fresh d x users then 0 else 1

-- the same of the one of these changes that begins with a statement, which sees these objects
abbrev pub stale_at : Dialect → List AnyChange → Option ℕ → Catalogue → ℕ
stale_at d xs None users = 0
stale_at d xs (Some n) users = stale_one d (slice_get xs n) users

-- of those that begin with the statements to come, which see these objects
abbrev pub stale_in : Dialect → List AnyChange → List (Option ℕ) → List Catalogue → ℕ
stale_in d xs bs [] = 0
stale_in d xs bs (users ∷ sees) = stale_at d xs (first_of bs) users + stale_in d xs (after_first bs) sees

-- how many are counted once all of these are seen
abbrev pub counts_to : Dialect → List AnyChange → InHand → List Catalogue → ℕ
counts_to d xs turn sees = bounded (turn.not_fresh + stale_in d xs (reverse turn.beginnings) sees)

-- once the turn has finished
abbrev pub counted_in : Option InHand → ℕ → ℕ
counted_in None count = count
counted_in (Some turn) count = bounded (count + turn.not_fresh)

-- the changes of the changeset before this place
abbrev pub changes_in : Option ChangeSet → List AnyChange
changes_in None = []
changes_in (Some x) = x.changes

abbrev pub changes_before : List ChangeSet → ℕ → List AnyChange
changes_before sets next = changes_in (slice_get sets (next - 1))

-- what they count does not depend on the tracking tables, since none of those that are to come names one
abbrev pub AreAlike : Dialect → List AnyChange → List (Option ℕ) → Type 0
AreAlike d xs [] = Unit {0}
AreAlike d xs (b ∷ bs) = ((c : Catalogue) (database : Database) → StandsFor d c database → stale_at d xs b c ≡ stale_at d xs b database.users) × AreAlike d xs bs

-- the turn has looked at what its next statement sees: what it will have counted stays as it was
pub record HasLooked (d : Dialect) (xs : List AnyChange) (seen : Catalogue) (before after : InHand) : Type 0 where
  pub counts : (sees : List Catalogue) → counts_to d xs after sees ≡ counts_to d xs before (seen ∷ sees)
  pub alike : AreAlike d xs (reverse before.beginnings) → AreAlike d xs (reverse after.beginnings)

-- What a condition sees of a database.

-- A condition that is told of a catalogue, with the tracking tables in it, is told of the users' objects alone.
abbrev pub ConditionsSee : Type 0
ConditionsSee = (d : Dialect) (asked : Cond) (rows : List Tracked) (c : Catalogue) (database : Database) → StandsFor d c database → told d asked c rows ≡ told d asked database.users rows

-- the database that a catalogue stands for, whose rows in run order are these
pub record IsSeen (d : Dialect) (c : Catalogue) (rows : List Tracked) (database : Database) : Type 0 where
  pub stands : StandsFor d c database
  pub rows_are : database.rows ≡ rows

-- the rows that a condition of this kind asks for: those of the changeset that it names
abbrev pub rows_for : Condition → List Tracked → List Tracked
rows_for (ChangeSetExecuted id author file) all = theirs (record { file = file; id = id; author = author }) all
rows_for one all = []

-- each of these rows is one of those
abbrev pub AreAmong : List Tracked → List Tracked → Type 0
AreAmong rows all = (p : Tracked → Bool) → list_any p rows ≡ true → list_any p all ≡ true

-- with whatever others of them, these rows tell the condition what all tell
abbrev pub Tell : List Tracked → List Tracked → Cond → Type 0
Tell all rows asked = (d : Dialect) (c : Catalogue) (more : List Tracked) → AreAmong rows more → AreAmong more all → told d asked c all ≡ told d asked c more

-- each of the conditions
abbrev pub TellEach : List Tracked → List Tracked → List Cond → Type 0
TellEach all rows conds = (d : Dialect) (c : Catalogue) (more : List Tracked) → AreAmong rows more → AreAmong more all → map (λ cond. told d cond c all) conds ≡ map (λ cond. told d cond c more) conds

-- rows were added, of all that there are
pub record Added (all old new : List Tracked) : Type 0 where
  pub kept : AreAmong old new
  pub among : AreAmong old all → AreAmong new all

-- rows were added until they tell the condition enough
pub record Gathered (all old new : List Tracked) (asked : Cond) : Type 0 where
  pub added : Added all old new
  pub tell : Tell all new asked

-- until they tell each condition enough
pub record GatheredEach (all old new : List Tracked) (conds : List Cond) : Type 0 where
  pub added : Added all old new
  pub tell : TellEach all new conds

-- the rows tell the condition as much as those of the database
abbrev pub Suffice : Dialect → Cond → Database → List Tracked → Type 0
Suffice d asked database rows = told d asked database.users database.rows ≡ told d asked database.users rows

-- its sum is filled in, and nothing runs
abbrev pub is_fill : What → Bool
is_fill New = false
is_fill Again = false
is_fill Fill = true

-- what comes of a changeset without a precondition
abbrev pub unasked : What → Choice
unasked New = Runs New None
unasked Again = Runs Again None
unasked Fill = Fills
