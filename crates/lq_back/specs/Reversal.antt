-- How rows are taken back.
use Rattle.std.specs.BTreeMap.{BTreeMap, get}
use Rattle.std.specs.BTreeSet.{BTreeSet, contains}
use Rattle.std.specs.List.{list_all}
use Rattle.std.specs.Prelude.{Bool, Err, List, None, Ok, Option, Result, Some, [], false, if◌then◌else◌, is_some, map, not, option_and_then, option_map, reverse, suc, true, ℕ, ◌&&◌, ◌++◌, ◌||◌, ◌∷◌, ◌≡◌}
use Rattle.lq_kept.specs.declared.way.TakenBack.{TakenBack}
use Rattle.lq_kept.specs.declared.way.TakenBack.TheVariants.{Alone, By}
use Rattle.lq_back.specs.declared.reverse_fault.ReverseFault.{ReverseFault}
use Rattle.lq_back.specs.declared.reverse_fault.ReverseFault.TheVariants.{Not, OutOfMemory}
use Rattle.lq_back.specs.declared.row_turns.RowTurns.{RowTurns}
use Rattle.lq_back.specs.declared.set_index.Place.{Place}
use Rattle.lq_back.specs.declared.sync_rows.Made.{Made}
use Rattle.lq_base.specs.Moment.{IsMoment}
use Rattle.lq_base.specs.declared.dialect.Dialect.{Dialect}
use Rattle.lq_base.specs.declared.dialect.Dialect.TheVariants.{Postgresql}
use Rattle.lq_base.specs.declared.identity.Identity.{Identity}
use Rattle.lq_base.specs.declared.run.Did.TheVariants.{Marked, RolledBack}
use Rattle.lq_base.specs.declared.run.Happened.{Happened}
use Rattle.lq_base.specs.declared.run.Printed.{Printed}
use Rattle.lq_base.specs.declared.tracking.Tracked.{Tracked}
use Rattle.lq_expr.specs.declared.options.Options.{Options}
use Rattle.lq_hand.specs.Way.{Way}
use Rattle.lq_any.specs.AnyChange.{inverse}
use Rattle.lq_any.specs.declared.any_change.AnyChange.{AnyChange}
use Rattle.lq_kinds.specs.declared.change_set.ChangeSet.{ChangeSet}
use Rattle.lq_model.specs.Step.{is_statement}
use Rattle.lq_model.specs.declared.statement.Statement.{Statement}
use Rattle.lq_plan.specs.Told.{IdentityKey, key_cmp, keyed}
use Rattle.lq_seen.specs.Telling.{Account, Leads, Reports, WarnsFirst, shown, with_texts}
use Rattle.lq_seen.specs.View.{any_meaning, is_selected, view, views}
use Rattle.lq_track.specs.Database.{same_identity}
use Rattle.lq_track.specs.Log.{identity_of}
use Rattle.lq_turns.specs.Deed.{Contents}
use Rattle.lq_turns.specs.Printed.{printed_back}
use Rattle.lq_turns.specs.Script.{all_rolled, is_mark_ran, rows_to_sync, undo_turn}
use Rattle.lq_turns.specs.Set.{Set, has_row}
use Rattle.lq_turns.specs.Settle.{greatest}
use Rattle.lq_turns.specs.declared.call.Call.{Call}
use Rattle.lq_turns.specs.declared.call.Call.TheVariants.{Begin, Commit, Execute}
use Rattle.lq_turns.specs.declared.deed.Deed.TheVariants.{Rows}
use Rattle.lq_turns.specs.declared.deed.OnRows.{OnRows}
use Rattle.lq_turns.specs.declared.deed.OnRows.TheVariants.{Cleared, Deleted, Filled, Inserted, Renewed, Tagged}
use Rattle.lq_turns.specs.declared.stamp.Stamp.{Stamp}
use Rattle.lq_turns.specs.declared.stop.Refusal.{Refusal}
use Rattle.lq_turns.specs.declared.turn.Turn.{Turn}

-- statements are generated that take the change back, in each dialect alike
abbrev pub has_inverse : AnyChange → Bool
has_inverse x = is_some (inverse Postgresql x)

-- it says itself what takes it back, or that is generated for each of its changes
abbrev pub is_undoable : ChangeSet → Bool
is_undoable x = is_some x.rollback || list_all has_inverse x.changes

-- it is here, and has the identity
abbrev pub is_its : Identity → ChangeSet → Bool
is_its of x = x.here && same_identity of x.identity

-- the first that is, with its place, where the first of the list stands at n
abbrev pub found_from : ℕ → Identity → List ChangeSet → Option (ℕ × ChangeSet)
found_from n of [] = None
found_from n of (x ∷ xs) = if is_its of x then Some (n, x) else found_from (suc n) of xs

abbrev pub found_at : Identity → List ChangeSet → Option (ℕ × ChangeSet)
found_at of xs = found_from 0 of xs

-- the place of a changeset that something takes back
abbrev pub undoable_place : ℕ × ChangeSet → Option ℕ
undoable_place found = if is_undoable found.1 then Some found.0 else None

-- the row of a changeset that was marked goes alone, another one by the changeset of its identity
abbrev pub taken_back : List ChangeSet → Tracked → Option TakenBack
taken_back xs row = if is_mark_ran row.exec then Some Alone else option_map (λ n. By n) (option_and_then undoable_place (found_at (identity_of row) xs))

-- how each of the rows is taken back, the last first
abbrev pub AreWays : List ChangeSet → List Tracked → List TakenBack → Type 0
AreWays xs rows ways = map (λ way. Some way) ways ≡ map (taken_back xs) (reverse rows)

-- it is how the row is taken back
abbrev pub IsWay : List ChangeSet → Tracked → TakenBack → Type 0
IsWay xs row way = taken_back xs row ≡ Some way

-- the turn that takes the row back, whatever a command selects
abbrev pub IsTurn : Dialect → List ChangeSet → Tracked → Turn → Type 0
IsTurn d xs row turn = (options : Options) → undo_turn d any_meaning (views options xs) row ≡ Some turn

-- a turn that takes the row back by these statements, and deletes it
abbrev pub turn_back : Tracked → List Statement → Bool → Turn
turn_back row statements in_transaction = record { identity = identity_of row; statements = statements; in_transaction = in_transaction; is_undo = true; row = Deleted (identity_of row) }

-- how it is answered that rows can be taken back, where this is the first that cannot
abbrev pub IsReversed : {A : Type 0} → Option Identity → Result A ReverseFault → Type 0
IsReversed meant (Ok a) = meant ≡ None
IsReversed meant (Err (Not of)) = meant ≡ Some of
IsReversed meant (Err OutOfMemory) = Unit {0}

-- it names the row's changeset, unless memory ran out
abbrev pub IsRefusal : Tracked → ReverseFault → Type 0
IsRefusal row (Not of) = of ≡ identity_of row
IsRefusal row OutOfMemory = Unit {0}

-- changesets, for looking up by their identities

abbrev pub kept_set : BTreeMap IdentityKey Place → IdentityKey → Option (ℕ × ChangeSet)
kept_set index key = option_map (λ place. (place.index, place.set.now)) (get key_cmp index key)

-- new has the changeset in that place beside what old has, where it is here
pub record KeepsSet (old new : BTreeMap IdentityKey Place) (n : ℕ) (x : ChangeSet) : Type 0 where
  pub values : (key : IdentityKey) → kept_set new key ≡ (if is_its (keyed key) x then Some (n, x) else kept_set old key)

-- the index has the first changeset of each identity
pub record HasSets (xs : List ChangeSet) (index : BTreeMap IdentityKey Place) : Type 0 where
  pub values : (key : IdentityKey) → kept_set index key ≡ found_at (keyed key) xs

-- The turns of a rollback.

abbrev pub is_deletion : OnRows → Bool
is_deletion (Deleted of) = true
is_deletion (Inserted row) = false
is_deletion (Renewed row) = false
is_deletion (Filled of sum) = false
is_deletion (Tagged of tag) = false
is_deletion Cleared = false

-- it deletes its row, and its statements are of the dialect
abbrev pub goes_back : Dialect → Turn → Bool
goes_back d turn = is_deletion turn.row && list_all (is_statement d) turn.statements

-- what is told of it, where it finishes
abbrev pub rolled_back : Turn → Happened
rolled_back turn = record { what = RolledBack; identity = turn.identity }

-- the texts of its statements
abbrev pub printed : Dialect → Turn → Printed
printed d turn = with_texts d (turn.identity, turn.statements)

-- what was told and printed, and what comes of the turns that are still to come on these contents, is to be told
pub record LeadsBack (s : RowTurns) (d : Dialect) (told : Account) (c : Contents) : Type 0 where
  pub settles : Leads s.outcome (all_rolled d (reverse s.turns) c) told.settled
  pub prints : s.outcome.printed ++ shown s.prints d (printed_back d (reverse s.turns) c) ≡ told.printed

-- the turn that was told last, and whose texts were kept last, stops the command, and is not done
pub record StopsAt (s : RowTurns) (told : Account) (goes_on : Bool) (refusal : Refusal) : Type 0 where
  pub stops : goes_on ≡ false
  pub front : List Happened
  pub last : Happened
  pub told_last : s.outcome.happened ≡ front ++ last ∷ []
  pub texts : List Printed
  pub its : Printed
  pub kept_last : s.outcome.printed ≡ texts ++ (if s.prints then its ∷ [] else [])
  pub then_told : Reports (record (s.outcome) { happened = front; printed = texts; stopped_at = Some last.identity }) told (Some refusal)

-- what the turns of a rollback hold
abbrev pub row_way : RowTurns → Dialect → Stamp → Account → Way
row_way s d stamp told = record { knows = LeadsBack s d told; awaits = λ sees c. LeadsBack s d told c; yields = λ goes_on refusal c. StopsAt s told goes_on refusal; tells = Reports s.outcome told; lacks = WarnsFirst s.outcome told.settled }

-- The turn of a changelog-sync.

-- its changeset was marked
abbrev pub mark_of : Tracked → Happened
mark_of row = record { what = Marked; identity = identity_of row }

-- the call that writes a new row
abbrev pub insert_call : Tracked → Call
insert_call row = Execute (Rows (Inserted row))

-- these rows, all in one transaction
abbrev pub sync_calls : List Tracked → List Call
sync_calls rows = Begin ∷ map insert_call rows ++ Commit ∷ []

-- each row's date is a moment of the calendar
abbrev pub AreDated : List Tracked → Type 0
AreDated [] = Unit {0}
AreDated (row ∷ rows) = IsMoment row.date × AreDated rows

-- The rows of a changelog-sync, as they are made one after another.

-- it is selected, and none of the rows is its own
abbrev pub has_no_row : Options → List Tracked → ChangeSet → Bool
has_no_row options rows set = is_selected options set && not (has_row rows set.identity)

-- the set has the identities of these rows
pub record HasIdentities (rows : List Tracked) (seen : BTreeSet IdentityKey) : Type 0 where
  pub members : (key : IdentityKey) → contains key_cmp seen key ≡ has_row rows (keyed key)

-- An identity was put into the set of these rows' identities: it is new where none of them has it, and then the set is that of these rows and its own.
pub record Keeps (rows : List Tracked) (of : Identity) (is_new : Bool) (seen : BTreeSet IdentityKey) : Type 0 where
  pub told : is_new ≡ not (has_row rows of)
  pub more : is_new ≡ true → (row : Tracked) → identity_of row ≡ of → HasIdentities (rows ++ row ∷ []) seen
  pub same : is_new ≡ false → HasIdentities rows seen

-- what is kept beside the rows that are made is right, where these are there
pub record IsAt (rows : List Tracked) (made : Made) : Type 0 where
  pub last : made.last ≡ greatest (rows ++ made.rows)
  pub seen : HasIdentities made.rows made.seen

-- the changeset's row was made, or none was to be, so that with the changesets to come the rows stay the same
pub record Adds (options : Options) (reading : ℕ) (rows : List Tracked) (set : ChangeSet) (old new : Made) : Type 0 where
  pub at : IsAt rows new
  pub same : (xs : List (Set AnyChange)) → new.rows ++ rows_to_sync reading xs (rows ++ new.rows) ≡ old.rows ++ rows_to_sync reading (view options set ∷ xs) (rows ++ old.rows)
