-- What a status lists.
use Rattle.std.specs.List.{filter_map, list_any}
use Rattle.std.specs.Prelude.{Bool, List, None, Option, Some, [], false, if◌then◌else◌, true, ℕ, ◌++◌, ◌∷◌}
use Rattle.lq_base.specs.declared.dialect.Dialect.{Dialect}
use Rattle.lq_base.specs.declared.identity.Identity.{Identity}
use Rattle.lq_base.specs.declared.run.Did.{Did}
use Rattle.lq_base.specs.declared.run.Did.TheVariants as did
use Rattle.lq_base.specs.declared.tracking.Tracked.{Tracked}
use Rattle.lq_model.specs.declared.statement.Statement.{Statement}
use Rattle.lq_turns.specs.Deed.{Contents}
use Rattle.lq_turns.specs.Set.{Meaning, Set, statements_of}
use Rattle.lq_turns.specs.Settle.{Settled, settle, what}
use Rattle.lq_turns.specs.Turn.{Ending, Finished, Refused, ending}
use Rattle.lq_turns.specs.declared.choice.What.{What}
use Rattle.lq_turns.specs.declared.choice.What.TheVariants.{Again, Fill, New}
use Rattle.lq_turns.specs.declared.turn.Turn.{Turn}

abbrev pub if_pending : Identity → Option What → Option Identity
if_pending of (Some New) = Some of
if_pending of (Some Again) = Some of
if_pending of (Some Fill) = None
if_pending of None = None

-- the selected changesets whose turn on these rows is new or again
abbrev pub pending : {Key : Type 0} → List (Set Key) → List Tracked → List Identity
pending xs rows = filter_map (λ x. if_pending x.identity (what x rows)) xs

-- The statements that are printed as SQL: those of each changeset that ran, or that took back a row.

abbrev pub is_run : Did → Bool
is_run did.Ran = true
is_run did.RanAgain = true
is_run did.Marked = false
is_run did.Skipped = false
is_run did.RolledBack = false

module _ {Key : Type 0} (d : Dialect) (m : Meaning Key) (reading : ℕ) where
  abbrev pub printed_of : Set Key → Settled → List (Identity × List Statement)
  printed_of x s = if list_any (λ h. is_run h.what) s.happened then (x.identity, statements_of d m x.changes) ∷ [] else []

  -- the statements of each changeset that runs
  abbrev pub printed : List (Set Key) → Contents → List (Identity × List Statement)
  printed [] c = []
  printed (x ∷ xs) c = printed_of x (settle d m reading x c) ++ elim (settle d m reading x c).stop [ None ↦ printed xs (settle d m reading x c).contents | Some stop ↦ [] ]

abbrev pub printed_as : Turn → Ending → (Contents → List (Identity × List Statement)) → List (Identity × List Statement)
printed_as turn (Finished c) more = (turn.identity, turn.statements) ∷ more c
printed_as turn (Refused c refusal) more = []

-- the statements that took back each row of a rollback
abbrev pub printed_back : Dialect → List Turn → Contents → List (Identity × List Statement)
printed_back d [] c = []
printed_back d (turn ∷ turns) c = printed_as turn (ending d turn c) (printed_back d turns)
