-- What a changeset does at its turn.
use Rattle.std.specs.Prelude.{Bool, Err, List, None, Ok, Option, Result, Some, [], codes, false, if◌then◌else◌, map, max, not, pos, true, ℕ, ◌&&◌, ◌++◌, ◌+◌, ◌||◌, ◌∷◌}
use Rattle.lq_base.specs.Number.{last_digits}
use Rattle.lq_base.specs.declared.dialect.Dialect.{Dialect}
use Rattle.lq_base.specs.declared.identity.Identity.{Identity}
use Rattle.lq_base.specs.declared.reason.Reason.{Reason}
use Rattle.lq_base.specs.declared.run.Did.{Did}
use Rattle.lq_base.specs.declared.run.Did.TheVariants as did
use Rattle.lq_base.specs.declared.run.Happened.{Happened}
use Rattle.lq_base.specs.declared.run.OnFail.{OnFail}
use Rattle.lq_base.specs.declared.run.OnFail.TheVariants.{Continue, Halt, MarkRan, Warn}
use Rattle.lq_base.specs.declared.run.Why.{Why}
use Rattle.lq_base.specs.declared.run.Why.TheVariants.{Error, Failed}
use Rattle.lq_base.specs.declared.tracking.Exec.{Exec}
use Rattle.lq_base.specs.declared.tracking.Exec.TheVariants as exec
use Rattle.lq_base.specs.declared.tracking.Tracked.{Tracked}
use Rattle.lq_track.specs.Database.{cut}
use Rattle.lq_turns.specs.Deed.{Contents, filled}
use Rattle.lq_turns.specs.Set.{Changelog, Condition, Meaning, Set, effects, is_excused, not_fresh, row_at, statements_of}
use Rattle.lq_turns.specs.Turn.{Ending, Finished, Refused, ending, row_ending}
use Rattle.lq_turns.specs.declared.choice.Choice.{Choice}
use Rattle.lq_turns.specs.declared.choice.Choice.TheVariants.{Fills, Halts, Marks, Passes, Runs, Skips}
use Rattle.lq_turns.specs.declared.choice.What.{What}
use Rattle.lq_turns.specs.declared.choice.What.TheVariants.{Again, Fill, New}
use Rattle.lq_turns.specs.declared.deed.OnRows.{OnRows}
use Rattle.lq_turns.specs.declared.deed.OnRows.TheVariants.{Filled, Inserted, Renewed}
use Rattle.lq_turns.specs.declared.stop.Stop.{Stop}
use Rattle.lq_turns.specs.declared.stop.Stop.TheVariants.{Halted, Refused as Stopped}
use Rattle.lq_turns.specs.declared.turn.Turn.{Turn}

-- the last place in run order, 0 without a row
abbrev pub greatest : List Tracked → ℕ
greatest [] = 0
greatest (row ∷ rows) = max row.order (greatest rows)

-- the deed on its row, for a changeset that ran or was marked
abbrev pub recorded : What → Tracked → OnRows
recorded New row = Inserted row
recorded Again row = Renewed row
recorded Fill row = Renewed row

-- what one turn, or several, made of the contents, and what is told of them
pub record Settled : Type 0 where
  pub contents : Contents
  pub happened : List Happened
  pub warned : List (Option Identity × Why)
  pub not_fresh : ℕ
  pub stop : Option Stop

abbrev pub nothing_done : Contents → Settled
nothing_done c = record { contents = c; happened = []; warned = []; not_fresh = 0; stop = None }

-- what one leaves, and then another on the contents that it leaves
abbrev pub and_then : Settled → Settled → Settled
and_then s more = record { contents = more.contents; happened = s.happened ++ more.happened; warned = s.warned ++ more.warned; not_fresh = s.not_fresh + more.not_fresh; stop = more.stop }

abbrev pub followed : Option Stop → Settled → (Contents → Settled) → Settled
followed None s more = and_then s (more s.contents)
followed (Some stop) s more = s

abbrev pub unless_stopped : Settled → (Contents → Settled) → Settled
unless_stopped s more = followed s.stop s more

-- a condition's reaction, where it does not hold
abbrev pub reacted : What → OnFail → Why → Choice
reacted what Halt why = Halts why
reacted what Continue why = Skips
reacted what MarkRan why = Marks what
reacted what Warn why = Runs what (Some why)

abbrev pub tested : What → Condition → Result Bool Reason → Choice
tested what condition (Ok true) = Runs what None
tested what condition (Ok false) = reacted what condition.on_fail Failed
tested what condition (Err reason) = reacted what condition.on_error (Error reason)

-- how a changeset that runs came to its row
abbrev pub exec_of : What → Exec
exec_of New = exec.Executed
exec_of Again = exec.Reran
exec_of Fill = exec.Reran

abbrev pub did_of : What → Did
did_of New = did.Ran
did_of Again = did.RanAgain
did_of Fill = did.RanAgain

-- by the changelog's own condition: no changeset has its turn, or there is a warning first
abbrev pub by_own : Choice → Contents → Settled → Settled
by_own (Halts why) c s = record (nothing_done c) { stop = Some (Halted None why) }
by_own (Runs by (Some why)) c s = record s { warned = (None, why) ∷ s.warned }
by_own _ c s = s

abbrev pub is_halt : Choice → Bool
is_halt (Halts why) = true
is_halt _ = false

module _ {Key : Type 0} where
  -- the stored sum is not null, not its own and not excused
  abbrev pub has_changed : Set Key → Option (List ℕ) → Bool
  has_changed x None = false
  has_changed x (Some sum) = not (x.is_own_sum sum) && not (is_excused x sum)

  -- a null sum is filled in, and one of an old form is rewritten
  abbrev pub is_to_fill : Set Key → Option (List ℕ) → Bool
  is_to_fill x None = true
  is_to_fill x (Some sum) = x.is_old_sum sum && x.is_own_sum sum

  abbrev pub runs_again : Set Key → Tracked → Bool
  runs_again x row = x.run_always || (x.run_on_change && has_changed x row.md5sum)

  -- new without a row; with one, again or its sum filled in, or nothing
  abbrev pub what_by : Set Key → Option Tracked → Option What
  what_by x None = Some New
  what_by x (Some row) = if runs_again x row then Some Again else if is_to_fill x row.md5sum then Some Fill else None

  -- whether it has a turn, and what that is by its row
  abbrev pub what : Set Key → List Tracked → Option What
  what x rows = if x.selected then what_by x (row_at x.identity rows) else None

  abbrev pub choice_of : Set Key → Contents → Option What → Choice
  choice_of x c None = Passes
  choice_of x c (Some Fill) = Fills
  choice_of x c (Some New) = tested New x.condition (x.condition.told c)
  choice_of x c (Some Again) = tested Again x.condition (x.condition.told c)

  abbrev pub choice : Set Key → Contents → Choice
  choice x c = choice_of x c (what x c.rows)

  abbrev pub own_choice : Changelog Key → Contents → Choice
  own_choice g c = tested New g.condition (g.condition.told c)

  -- its row in a place, for a reading of the clock
  abbrev pub row_for : ℕ → ℕ → Exec → Set Key → Tracked
  row_for reading order exec x = record {
    id = x.identity.id;
    author = x.identity.author;
    filename = x.identity.file;
    date = pos reading;
    order = order;
    exec = exec;
    md5sum = Some x.sum;
    description = cut x.description;
    comments = cut x.comments;
    tag = x.tag;
    tool = codes "profile-1";
    contexts = cut x.contexts;
    labels = cut x.labels;
    deployment = last_digits 10 reading;
  }

  -- the row stands after all others
  abbrev pub record_in : ℕ → What → Exec → Set Key → List Tracked → OnRows
  record_in reading what exec x rows = recorded what (row_for reading (greatest rows + 1) exec x)

  -- the row alone
  abbrev pub row_turn : Set Key → OnRows → Turn
  row_turn x row = record { identity = x.identity; statements = []; in_transaction = true; is_undo = false; row = row }

  abbrev pub mark_turn : ℕ → What → Set Key → List Tracked → Turn
  mark_turn reading what x rows = row_turn x (record_in reading what exec.MarkRan x rows)

  abbrev pub fill_turn : Set Key → Turn
  fill_turn x = row_turn x (Filled x.identity x.sum)

  abbrev pub happens : Set Key → Did → Happened
  happens x what = record { what = what; identity = x.identity }

  abbrev pub warning : Set Key → Option Why → List (Option Identity × Why)
  warning x None = []
  warning x (Some why) = (Some x.identity, why) ∷ []

  -- what is refused stops the command, or the changeset is skipped
  abbrev pub settled_as : Set Key → Did → Option Why → ℕ → Ending → Settled
  settled_as x what why count (Finished c) = record { contents = c; happened = happens x what ∷ []; warned = warning x why; not_fresh = count; stop = None }
  settled_as x what why count (Refused c refusal) =
      if x.fail_on_error
      then record { contents = c; happened = []; warned = warning x why; not_fresh = 0; stop = Some (Stopped x.identity refusal) }
      else record { contents = c; happened = happens x did.Skipped ∷ []; warned = warning x why; not_fresh = 0; stop = None }

module _ {Key : Type 0} (d : Dialect) (m : Meaning Key) (reading : ℕ) where
  abbrev pub run_turn : What → Set Key → List Tracked → Turn
  run_turn what x rows = record { identity = x.identity; statements = statements_of d m x.changes; in_transaction = x.in_transaction; is_undo = false; row = record_in reading what (exec_of what) x rows }

  -- What a changeset that runs leaves: its changes' effects, then its row. Where an effect is refused, a statement of the turn is.
  abbrev pub run_ending : Turn → Set Key → Contents → Ending
  run_ending turn x c = elim (effects d m x.changes c.users) [ Ok users ↦ row_ending d turn users c | Err reason ↦ ending d turn c ]

  abbrev pub settled_by : Set Key → Contents → Choice → Settled
  settled_by x c Passes = nothing_done c
  settled_by x c Fills = record (nothing_done c) { contents = record c { rows = map (filled x.identity x.sum) c.rows } }
  settled_by x c Skips = record (nothing_done c) { happened = happens x did.Skipped ∷ [] }
  settled_by x c (Marks what) = settled_as x did.Marked None 0 (ending d (mark_turn reading what x c.rows) c)
  settled_by x c (Runs what why) = settled_as x (did_of what) why (not_fresh d m x.changes c.users) (run_ending (run_turn what x c.rows) x c)
  settled_by x c (Halts why) = record (nothing_done c) { stop = Some (Halted (Some x.identity) why) }

  abbrev pub settle : Set Key → Contents → Settled
  settle x c = settled_by x c (choice x c)

  -- the changesets in order, up to the first that stops the command
  abbrev pub all_settled : List (Set Key) → Contents → Settled
  all_settled [] c = nothing_done c
  all_settled (x ∷ xs) c = unless_stopped (settle x c) (all_settled xs)

  -- the same for a changelog, whose own condition only halts or warns
  abbrev pub updated : Changelog Key → Contents → Settled
  updated g c = by_own (own_choice g c) c (all_settled g.sets c)
