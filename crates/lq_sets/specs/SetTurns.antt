-- The turns of an update as they are planned on the rows, and how the next of them comes.
use Rattle.std.specs.List.{list_all}
use Rattle.std.specs.Prelude.{Bool, List, None, Option, Some, [], drop, false, if◌then◌else◌, length, nat_lt, not, reverse, true, ℕ, ◌&&◌, ◌++◌, ◌+◌, ◌∷◌, ◌≡◌, ◌≤◌}
use Rattle.lq_base.specs.declared.dialect.Dialect.{Dialect}
use Rattle.lq_base.specs.declared.identity.Identity.{Identity}
use Rattle.lq_base.specs.declared.run.Happened.{Happened}
use Rattle.lq_base.specs.declared.run.Printed.{Printed}
use Rattle.lq_base.specs.declared.tracking.Tracked.{Tracked}
use Rattle.lq_expr.specs.declared.options.Options.{Options}
use Rattle.lq_hand.specs.Hand.{calls_left, place_of}
use Rattle.lq_hand.specs.Way.{Expects, IsTurn, Way, no_progress, refusal_at_end, refused_in, rest_at}
use Rattle.lq_hand.specs.declared.hand.Hand.{Hand}
use Rattle.lq_kinds.specs.ReadFor.{AreFor}
use Rattle.lq_any.specs.declared.any_change.AnyChange.{AnyChange}
use Rattle.lq_kinds.specs.declared.change_set.ChangeSet.{ChangeSet}
use Rattle.lq_model.specs.Catalogue.{Catalogue}
use Rattle.lq_plan.specs.Told.{work_from}
use Rattle.lq_plan.specs.declared.turns.Item.{Item}
use Rattle.lq_seen.specs.Telling.{Account, Leads, Reports, Tells, WarnsFirst, bounded, happened_instead, happens, shown, with_texts}
use Rattle.lq_seen.specs.View.{any_meaning, view, views}
use Rattle.lq_sets.specs.Counting.{AreAlike, begins_from, changes_before, changes_run, counts_to, runs}
use Rattle.lq_sets.specs.declared.in_hand.InHand.{InHand}
use Rattle.lq_sets.specs.declared.set_turns.SetTurns.{SetTurns}
use Rattle.lq_sets.specs.declared.set_turns.Tried.{Tried}
use Rattle.lq_sets.specs.declared.set_turns.Tried.TheVariants.{Halted, Lack, Skipped, Turn as Entered}
use Rattle.lq_track.specs.Database.{Database}
use Rattle.lq_turns.specs.Deed.{Contents, contents_of}
use Rattle.lq_turns.specs.Printed.{printed}
use Rattle.lq_turns.specs.Rest.{OfSets, between}
use Rattle.lq_turns.specs.Schedule.{StandsFor}
use Rattle.lq_turns.specs.Script.{closing, turn_by}
use Rattle.lq_turns.specs.Set.{Set, statements_of}
use Rattle.lq_turns.specs.Settle.{Settled, all_settled, greatest, is_halt}
use Rattle.lq_turns.specs.Stops.{are_twins}
use Rattle.lq_turns.specs.Turn.{ending, turn_calls}
use Rattle.lq_turns.specs.declared.choice.Choice.{Choice}
use Rattle.lq_turns.specs.declared.choice.Choice.TheVariants.{Fills, Halts, Marks, Passes, Runs, Skips}
use Rattle.lq_turns.specs.declared.stamp.Stamp.{Stamp}
use Rattle.lq_turns.specs.declared.stop.Refusal.{Refusal}
use Rattle.lq_turns.specs.declared.turn.Turn.{Turn}

-- the changesets whose turns are still to come
abbrev pub sets_left : SetTurns → List (Set AnyChange)
sets_left s = views s.options (drop s.next s.changelog.sets)

-- On these rows the changesets, of which the first is the n-th, have these turns. No two of them have one identity. The last row stands at this place, of 31 bits.
pub record ArePlanned (n : ℕ) (xs : List (Set AnyChange)) (items : List Item) (last : ℕ) (rows : List Tracked) : Type 0 where
  pub work : work_from n xs rows ≡ items
  pub apart : are_twins xs ≡ false
  pub last_is : greatest rows ≡ last
  pub small : last ≤ 2147483647

-- what is kept of a turn by its choice, where that is wanted
abbrev pub if_kept : Bool → Choice → Printed → List Printed
if_kept prints choice its = if prints && runs choice then its ∷ [] else []

-- of the turn of this changeset
abbrev pub texts_by : Bool → Dialect → ChangeSet → Choice → List Printed
texts_by prints d x choice = if_kept prints choice (with_texts d (x.identity, statements_of d any_meaning x.changes))

module _ (s : SetTurns) (d : Dialect) (stamp : Stamp) (told : Account) where
  -- what the changesets to come settle on these contents
  abbrev pub to_settle : Contents → Settled
  to_settle c = all_settled d any_meaning stamp.reading (sets_left s) c

  -- and what is printed of them
  abbrev pub to_print : Contents → List Printed
  to_print c = shown s.prints d (printed d any_meaning stamp.reading (sets_left s) c)

  -- They are planned on these contents, of which the last row stands there. What was told and printed, and what comes of them, is to be told.
  pub record KnowsAt (last : ℕ) (c : Contents) : Type 0 where
    pub planned : ArePlanned s.next (sets_left s) (reverse s.items) last c.rows
    pub leads : Leads s.outcome (to_settle c) told.settled
    pub prints : s.outcome.printed ++ to_print c ≡ told.printed

  -- where the turn in hand is refused, its changeset is told as skipped, or as the one that stopped the command, and its texts go
  abbrev pub YieldsAs : Bool → Identity → List Happened → List Printed → Refusal → Contents → Type 0
  YieldsAs true of front texts refusal c =
      ArePlanned s.next (sets_left s) (reverse s.items) s.last c.rows × Leads (record (s.outcome) { happened = front ++ happened_instead of false }) (to_settle c) told.settled × (texts ++ to_print c ≡ told.printed)
  YieldsAs false of front texts refusal c = Tells (record (s.outcome) { happened = front; stopped_at = Some of }) told.settled (Some refusal) × (texts ≡ told.printed)

  pub record YieldsTo (goes_on : Bool) (refusal : Refusal) (c : Contents) : Type 0 where
    pub turn : InHand
    pub is : s.turn ≡ Some turn
    pub stops : turn.stops ≡ not goes_on
    pub happens_by : happens turn.choice ≡ true
    -- what was told of it
    pub front : List Happened
    pub last : Happened
    pub told_last : s.outcome.happened ≡ front ++ last ∷ []
    -- and what was kept of its texts
    pub texts : List Printed
    pub its : Printed
    pub kept_last : s.outcome.printed ≡ texts ++ if_kept s.prints turn.choice its
    pub then_told : YieldsAs goes_on turn.identity front texts refusal c

  abbrev pub Knows : Contents → Type 0
  Knows c = KnowsAt s.last c

-- where so many more changes are counted
abbrev pub with_count : SetTurns → ℕ → SetTurns
with_count s count = record s { outcome = record (s.outcome) { not_fresh = bounded (s.outcome.not_fresh + count) } }

-- once the turn in hand has finished, whose statements to come see these objects, so that its changes are counted
pub record Awaits (s : SetTurns) (d : Dialect) (stamp : Stamp) (told : Account) (sees : List Catalogue) (c : Contents) : Type 0 where
  pub turn : InHand
  pub is : s.turn ≡ Some turn
  pub alike : AreAlike d (changes_before s.changelog.sets s.next) (reverse turn.beginnings)
  pub knows : KnowsAt (with_count s (counts_to d (changes_before s.changelog.sets s.next) turn sees)) d stamp told s.last_after c

-- what the turns of an update hold
abbrev pub set_way : SetTurns → Dialect → Stamp → Account → Way
set_way s d stamp told = record { knows = Knows s d stamp told; awaits = Awaits s d stamp told; yields = YieldsTo s d stamp told; tells = Reports s.outcome told; lacks = WarnsFirst s.outcome told.settled }

-- its changelog was read for the dialect, its items are places of the changelog, and the last row has a place of 31 bits
pub record IsReadFor (s : SetTurns) (d : Dialect) : Type 0 where
  pub dialect : s.options.dialect ≡ d
  pub read : AreFor d s.changelog
  pub within : list_all (λ (item : Item). nat_lt item.index (length s.changelog.sets)) s.items ≡ true
  pub room : s.last ≤ 2147483647

-- a turn comes by it
abbrev pub has_turn : Choice → Bool
has_turn Passes = false
has_turn Fills = true
has_turn Skips = false
has_turn (Marks what) = true
has_turn (Runs what why) = true
has_turn (Halts why) = false

-- the last place in run order once that has finished
abbrev pub last_after : Choice → ℕ → ℕ
last_after Passes last = last
last_after Fills last = last
last_after Skips last = last
last_after (Marks what) last = last + 1
last_after (Runs what why) last = last + 1
last_after (Halts why) last = last

-- the turn by the choice is in hand, on rows of which the last stands there
pub record IsInHand (d : Dialect) (stamp : Stamp) (x : ChangeSet) (last : ℕ) (choice : Choice) (hand : Hand) : Type 0 where
  pub made : (options : Options) (rows : List Tracked) → greatest rows ≡ last
      → (turn : Turn) × (turn_by d any_meaning stamp (view options x) rows choice ≡ Some turn) × (calls_left hand ≡ turn_calls d stamp.who turn)
      × ((c : Contents) → refused_in d (calls_left hand) no_progress c ≡ refusal_at_end (ending d turn c))
  pub goes_on : hand.goes_on ≡ not x.fail_on_error
  pub is : IsTurn d hand

-- no turn comes by it, and the next changeset may have one
abbrev pub goes_past : Choice → Bool
goes_past Passes = true
goes_past Fills = false
goes_past Skips = true
goes_past (Marks what) = false
goes_past (Runs what why) = false
goes_past (Halts why) = false

-- what comes of a changeset by its choice
abbrev pub CameBy : Dialect → Stamp → ChangeSet → ℕ → Choice → Tried → Type 0
CameBy d stamp x last choice (Entered hand) = IsInHand d stamp x last choice hand
CameBy d stamp x last choice Skipped = goes_past choice ≡ true
CameBy d stamp x last choice Halted = is_halt choice ≡ true
CameBy d stamp x last choice Lack = Unit {0}

-- the turn that is kept in hand is the changeset's, and none of its statements has come
pub record IsOf (d : Dialect) (x : ChangeSet) (choice : Choice) (turn : InHand) : Type 0 where
  pub identity : turn.identity ≡ x.identity
  pub choice_is : turn.choice ≡ choice
  pub stops : turn.stops ≡ x.fail_on_error
  pub not_fresh : turn.not_fresh ≡ 0
  pub begins : reverse turn.beginnings ≡ begins_from d 0 (changes_run choice x.changes)

abbrev pub IsKeptBy : Dialect → ChangeSet → Choice → Tried → Option InHand → Type 0
IsKeptBy d x choice (Entered hand) kept = (turn : InHand) × (kept ≡ Some turn) × IsOf d x choice turn
IsKeptBy d x choice Skipped kept = Unit {0}
IsKeptBy d x choice Halted kept = Unit {0}
IsKeptBy d x choice Lack kept = Unit {0}

-- its texts are kept, where it is entered
abbrev pub KeepsTexts : Bool → Dialect → ChangeSet → Choice → Tried → List Printed → List Printed → Type 0
KeepsTexts prints d x choice (Entered hand) before after = after ≡ before ++ texts_by prints d x choice
KeepsTexts prints d x choice Skipped before after = after ≡ before
KeepsTexts prints d x choice Halted before after = after ≡ before
KeepsTexts prints d x choice Lack before after = Unit {0}

module _ (d : Dialect) (stamp : Stamp) (seen : Catalogue) (before after : SetTurns) (item : Item) where
  -- for each database that is seen, where the item is the next
  abbrev pub Where : (Contents → Account → Type 0) → Type 0
  Where holds = (database : Database) (told : Account) → StandsFor d seen database → ArePlanned before.next (sets_left before) (item ∷ reverse before.items) before.last database.rows
      → Leads before.outcome (to_settle before d stamp told (contents_of database)) told.settled → before.outcome.printed ++ to_print before d stamp told (contents_of database) ≡ told.printed → holds (contents_of database) told

  -- The turn of its changeset is entered, or it has none and the next may come; the calls to come stay the same. Or it halts the command; or there is no memory for it.
  abbrev pub CameTo : Tried → Type 0
  CameTo (Entered hand) = IsTurn d hand × Where (λ c told. (rest_at d any_meaning stamp (between (OfSets (sets_left before))) c ≡ rest_at d any_meaning stamp (place_of hand (OfSets (sets_left after))) c)
      × Expects d (set_way after d stamp told) hand.goes_on (calls_left hand) no_progress (c, c))
  CameTo Skipped = Where (λ c told. (rest_at d any_meaning stamp (between (OfSets (sets_left before))) c ≡ rest_at d any_meaning stamp (between (OfSets (sets_left after))) c) × Knows after d stamp told c)
  CameTo Halted = Where (λ c told. (rest_at d any_meaning stamp (between (OfSets (sets_left before))) c ≡ closing ∷ []) × Reports after.outcome told None)
  CameTo Lack = Where (λ c told. WarnsFirst after.outcome told.settled)
