-- What is printed of a command, and with it all that it is to tell.
use Rattle.std.specs.Prelude.{Bool, List, None, Option, Some, [], false, if◌then◌else◌, map, min, option_map, true, ℕ, ◌++◌, ◌+◌, ◌-◌, ◌^◌, ◌∷◌, ◌≡◌}
use Rattle.lq_base.specs.declared.dialect.Dialect.{Dialect}
use Rattle.lq_base.specs.declared.identity.Identity.{Identity}
use Rattle.lq_base.specs.declared.run.Did.{Did}
use Rattle.lq_base.specs.declared.run.Did.TheVariants as did
use Rattle.lq_base.specs.declared.run.Happened.{Happened}
use Rattle.lq_base.specs.declared.run.Printed.{Printed}
use Rattle.lq_base.specs.declared.run.Why.{Why}
use Rattle.lq_any.specs.declared.any_change.AnyChange.{AnyChange}
use Rattle.lq_model.specs.StatementText.{text_of}
use Rattle.lq_model.specs.declared.statement.Statement.{Statement}
use Rattle.lq_seen.specs.View.{any_meaning}
use Rattle.lq_seen.specs.declared.outcome.Halt.{Halt}
use Rattle.lq_seen.specs.declared.outcome.Outcome.{Outcome}
use Rattle.lq_turns.specs.Deed.{Contents}
use Rattle.lq_turns.specs.Printed.{printed as statements_run, printed_back as statements_back}
use Rattle.lq_turns.specs.Script.{all_rolled}
use Rattle.lq_turns.specs.Set.{Set}
use Rattle.lq_turns.specs.Settle.{Settled, all_settled, did_of}
use Rattle.lq_turns.specs.declared.choice.Choice.{Choice}
use Rattle.lq_turns.specs.declared.choice.Choice.TheVariants.{Fills, Halts, Marks, Passes, Runs, Skips}
use Rattle.lq_turns.specs.declared.stop.Refusal.{Refusal}
use Rattle.lq_turns.specs.declared.stop.Stop.{Stop}
use Rattle.lq_turns.specs.declared.stop.Stop.TheVariants.{Halted, Refused}
use Rattle.lq_turns.specs.declared.turn.Turn.{Turn}

-- the canonical texts of the statements that ran for a changeset, or that took back its row
abbrev pub with_texts : Dialect → Identity × List Statement → Printed
with_texts d ran = record { identity = ran.0; texts = map (text_of d) ran.1 }

-- those of each in order, where they are wanted
abbrev pub shown : Bool → Dialect → List (Identity × List Statement) → List Printed
shown prints d all = if prints then map (with_texts d) all else []

-- what a command is to tell: what its turns settle, and what is printed of them
pub record Account : Type 0 where
  pub settled : Settled
  pub printed : List Printed

-- an update, whose changesets have their turns from these contents on
abbrev pub of_sets : Bool → Dialect → ℕ → List (Set AnyChange) → Contents → Account
of_sets prints d reading xs c = record { settled = all_settled d any_meaning reading xs c; printed = shown prints d (statements_run d any_meaning reading xs c) }

-- a rollback by these turns
abbrev pub of_turns : Bool → Dialect → List Turn → Contents → Account
of_turns prints d turns c = record { settled = all_rolled d turns c; printed = shown prints d (statements_back d turns c) }

-- What a source has told of a command, on its way to what its turns settle.

-- a count of 64 bits stays at the greatest
abbrev pub bounded : ℕ → ℕ
bounded n = min n (2 ^ 64 - 1)

-- so much was told, and so much is still to come
pub record Leads (o : Outcome) (more told : Settled) : Type 0 where
  pub happened : o.happened ++ more.happened ≡ told.happened
  pub warned : o.warned ++ more.warned ≡ told.warned
  -- so many changes of changesets that ran were not fresh
  pub so_far : ℕ
  pub counted : o.not_fresh ≡ bounded so_far
  pub not_fresh : so_far + more.not_fresh ≡ told.not_fresh
  pub stop : more.stop ≡ told.stop
  pub unhalted : o.halted ≡ None
  pub unstopped : o.stopped_at ≡ None

-- what it has warned of is a front of all
abbrev pub WarnsFirst : Outcome → Settled → Type 0
WarnsFirst o told = (more : List (Option Identity × Why)) × (o.warned ++ more ≡ told.warned)

-- what stopped a command: a precondition, or the refusal of a statement
abbrev pub stop_told : Outcome → Option Refusal → Option Stop
stop_told o None = option_map (λ (h : Halt). Halted h.identity h.why) o.halted
stop_told o (Some refusal) = option_map (λ identity. Refused identity refusal) o.stopped_at

-- all was told
pub record Tells (o : Outcome) (told : Settled) (refused : Option Refusal) : Type 0 where
  pub happened : o.happened ≡ told.happened
  pub warned : o.warned ≡ told.warned
  pub not_fresh : o.not_fresh ≡ bounded told.not_fresh
  pub stop : told.stop ≡ stop_told o refused

-- all was told, and printed
pub record Reports (o : Outcome) (told : Account) (refused : Option Refusal) : Type 0 where
  pub tells : Tells o told.settled refused
  pub prints : o.printed ≡ told.printed

-- what is told of a changeset by its choice, where its turn finishes

abbrev pub happened_as : Identity → Did → Happened
happened_as of what = record { what = what; identity = of }

abbrev pub warned_of : Identity → Option Why → List (Option Identity × Why)
warned_of of None = []
warned_of of (Some why) = (Some of, why) ∷ []

abbrev pub with_did : Identity → Did → Outcome → Outcome
with_did of what o = record o { happened = o.happened ++ happened_as of what ∷ [] }

abbrev pub with_warning : Identity → Option Why → Outcome → Outcome
with_warning of why o = record o { warned = o.warned ++ warned_of of why }

abbrev pub told_by : Identity → Choice → Outcome → Outcome
told_by of Passes o = o
told_by of Fills o = o
told_by of Skips o = with_did of did.Skipped o
told_by of (Marks what) o = with_did of did.Marked o
told_by of (Runs what why) o = with_did of (did_of what) (with_warning of why o)
told_by of (Halts why) o = record o { halted = Some (record { identity = Some of; why = why }) }

-- a turn was told as one that marks or runs a changeset
abbrev pub happens : Choice → Bool
happens Passes = false
happens Fills = false
happens Skips = false
happens (Marks what) = true
happens (Runs what why) = true
happens (Halts why) = false

-- what is told in its place, where a statement of it is refused

abbrev pub happened_instead : Identity → Bool → List Happened
happened_instead of true = []
happened_instead of false = happened_as of did.Skipped ∷ []

abbrev pub stopped_instead : Identity → Bool → Option Identity → Option Identity
stopped_instead of true before = Some of
stopped_instead of false before = before

pub record IsTakenBack (of : Identity) (stops : Bool) (before after : Outcome) : Type 0 where
  pub happened : (front : List Happened) (last : Happened) → before.happened ≡ front ++ last ∷ [] → after.happened ≡ front ++ happened_instead of stops
  pub warned : after.warned ≡ before.warned
  pub not_fresh : after.not_fresh ≡ before.not_fresh
  pub printed : after.printed ≡ before.printed
  pub halted : after.halted ≡ before.halted
  pub stopped_at : after.stopped_at ≡ stopped_instead of stops before.stopped_at
