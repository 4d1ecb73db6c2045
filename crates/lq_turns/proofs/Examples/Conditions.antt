-- Changesets whose condition fails or cannot be told.
use Rattle.std.specs.List.{list_any}
use Rattle.std.specs.Prelude.{Err, List, None, Ok, Some, [], codes, false, map, refl, ℕ, ◌∷◌, ◌≡◌}
use Rattle.lq_base.specs.Name.{is_named}
use Rattle.lq_base.specs.Value.{into_kind}
use Rattle.lq_base.specs.declared.dialect.Dialect.TheVariants.{Postgresql}
use Rattle.lq_base.specs.declared.reason.Reason.TheVariants.{Missing}
use Rattle.lq_base.specs.declared.run.Did.{Did}
use Rattle.lq_base.specs.declared.run.Did.TheVariants.{Marked, Ran, Skipped}
use Rattle.lq_base.specs.declared.run.Happened.{Happened}
use Rattle.lq_base.specs.declared.run.Why.TheVariants.{Error, Failed}
use Rattle.lq_base.specs.declared.tracking.Exec.TheVariants.{Executed, MarkRan}
use Rattle.lq_model.specs.Plan.{decide}
use Rattle.lq_turns.specs.Set.{Condition, Set}
use Rattle.lq_turns.specs.Settle.{Settled, all_settled, updated}
use Rattle.lq_base.specs.declared.run.OnFail.{OnFail}
use Rattle.lq_base.specs.declared.run.OnFail.TheVariants as on_fail
use Rattle.lq_turns.specs.declared.stop.Stop.TheVariants.{Halted}
use Rattle.lq_turns.proofs.Examples.Given.{Given, brief, changelog, changeset, makes, meaning, named, nothing, stamp, tables_in, told_so}

-- three changesets that make t, u and w, of which the middle one has a condition
abbrev three : Condition → List (Set Given)
three condition = changeset (codes "1") (makes (codes "t") ∷ []) ∷ record (changeset (codes "2") (makes (codes "u") ∷ [])) { condition = condition } ∷ changeset (codes "3") (makes (codes "w") ∷ []) ∷ []

abbrev settled : Condition → Settled
settled condition = all_settled Postgresql meaning stamp.reading (three condition) nothing

abbrev fails : OnFail → Condition
fails reaction = told_so (Ok false) reaction on_fail.Warn

abbrev errs : OnFail → Condition
errs reaction = told_so (Err Missing) on_fail.Warn reaction

-- of what happened: what, and to which changeset
abbrev told : Settled → List (Did × List ℕ)
told s = map (λ (h : Happened). (h.what, h.identity.id)) s.happened

-- HALT stops there: the third has no turn

pub halt_stops : (settled (fails on_fail.Halt)).stop ≡ Some (Halted (Some (named (codes "2"))) Failed)
unfolding decide into_kind
halt_stops = refl

pub halt_told : told (settled (fails on_fail.Halt)) ≡ (Ran, codes "1") ∷ []
unfolding decide into_kind
halt_told = refl

pub halt_rows : brief (settled (fails on_fail.Halt)).contents.rows ≡ (codes "1", 1, Executed, Some (codes "P2:new")) ∷ []
unfolding decide into_kind
halt_rows = refl

pub halt_tables : tables_in (settled (fails on_fail.Halt)).contents ≡ codes "t" ∷ []
unfolding decide into_kind
halt_tables = refl

pub error_stops : (settled (errs on_fail.Halt)).stop ≡ Some (Halted (Some (named (codes "2"))) (Error Missing))
unfolding decide into_kind
error_stops = refl

-- CONTINUE skips, without a row

pub continue_told : told (settled (fails on_fail.Continue)) ≡ (Ran, codes "1") ∷ (Skipped, codes "2") ∷ (Ran, codes "3") ∷ []
unfolding decide into_kind
continue_told = refl

pub continue_rows : brief (settled (fails on_fail.Continue)).contents.rows ≡ (codes "1", 1, Executed, Some (codes "P2:new")) ∷ (codes "3", 2, Executed, Some (codes "P2:new")) ∷ []
unfolding decide into_kind
continue_rows = refl

pub continue_tables : tables_in (settled (fails on_fail.Continue)).contents ≡ codes "t" ∷ codes "w" ∷ []
unfolding decide into_kind
continue_tables = refl

-- MARK_RAN writes a row, and runs nothing

pub mark_told : told (settled (fails on_fail.MarkRan)) ≡ (Ran, codes "1") ∷ (Marked, codes "2") ∷ (Ran, codes "3") ∷ []
unfolding decide into_kind
mark_told = refl

pub mark_rows : brief (settled (errs on_fail.MarkRan)).contents.rows ≡ (codes "1", 1, Executed, Some (codes "P2:new")) ∷ (codes "2", 2, MarkRan, Some (codes "P2:new")) ∷ (codes "3", 3, Executed, Some (codes "P2:new")) ∷ []
unfolding decide into_kind
mark_rows = refl

pub mark_tables : tables_in (settled (fails on_fail.MarkRan)).contents ≡ codes "t" ∷ codes "w" ∷ []
unfolding decide into_kind
mark_tables = refl

-- WARN runs, after a warning

pub warn_told : told (settled (fails on_fail.Warn)) ≡ (Ran, codes "1") ∷ (Ran, codes "2") ∷ (Ran, codes "3") ∷ []
unfolding decide into_kind
warn_told = refl

pub warn_warns : (settled (errs on_fail.Warn)).warned ≡ (Some (named (codes "2")), Error Missing) ∷ []
unfolding decide into_kind
warn_warns = refl

-- the changelog's own condition: HALT changes nothing and names no changeset, WARN warns first

abbrev own : Condition → Settled
own condition = updated Postgresql meaning stamp.reading (record (changelog (changeset (codes "1") (makes (codes "t") ∷ []) ∷ [])) { condition = condition }) nothing

pub own_stops : (own (fails on_fail.Halt)).stop ≡ Some (Halted None Failed)
unfolding decide into_kind
own_stops = refl

pub own_halts : (own (fails on_fail.Halt)).contents ≡ nothing
unfolding decide into_kind
own_halts = refl

pub own_warns : (own (fails on_fail.Warn)).warned ≡ (None, Failed) ∷ []
unfolding decide into_kind
own_warns = refl

pub own_runs : told (own (fails on_fail.Warn)) ≡ (Ran, codes "1") ∷ []
unfolding decide into_kind
own_runs = refl

-- Changeset 1 asks whether the table u is there, which changeset 2 makes. Stopped after changeset 2 and run again, the first one runs that was skipped without a stop: such an update is not steady.

abbrev asks : Condition
asks = record { told = λ c. Ok (list_any (λ t. is_named t.0 (codes "u")) c.users.tables); on_fail = on_fail.Continue; on_error = on_fail.Halt }

abbrev first : List (Set Given)
first = record (changeset (codes "1") (makes (codes "t") ∷ [])) { condition = asks } ∷ changeset (codes "2") (makes (codes "u") ∷ []) ∷ []

abbrev whole : List (Set Given)
whole = record (changeset (codes "1") (makes (codes "t") ∷ [])) { condition = asks } ∷ changeset (codes "2") (makes (codes "u") ∷ []) ∷ changeset (codes "3") (makes (codes "w") ∷ []) ∷ []

pub unstopped : told (all_settled Postgresql meaning stamp.reading whole nothing) ≡ (Skipped, codes "1") ∷ (Ran, codes "2") ∷ (Ran, codes "3") ∷ []
unfolding decide into_kind
unstopped = refl

pub stopped : told (all_settled Postgresql meaning stamp.reading whole (all_settled Postgresql meaning stamp.reading first nothing).contents) ≡ (Ran, codes "1") ∷ (Ran, codes "3") ∷ []
unfolding decide into_kind
stopped = refl
