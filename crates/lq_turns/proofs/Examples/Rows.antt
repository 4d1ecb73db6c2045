-- What becomes of a changeset's row.
use Rattle.std.specs.Prelude.{List, None, Ok, Option, Some, [], codes, false, map, pos, refl, true, ℕ, ℤ, ◌∷◌, ◌≡◌}
use Rattle.lq_base.specs.Value.{into_kind}
use Rattle.lq_base.specs.declared.dialect.Dialect.TheVariants.{Postgresql}
use Rattle.lq_base.specs.declared.run.Did.TheVariants as did
use Rattle.lq_base.specs.declared.tracking.Exec.TheVariants.{Executed, MarkRan, Reran}
use Rattle.lq_base.specs.declared.tracking.Tracked.{Tracked}
use Rattle.lq_model.specs.Plan.{decide}
use Rattle.lq_turns.specs.Set.{Set}
use Rattle.lq_turns.specs.Settle.{Settled, settle, what}
use Rattle.lq_base.specs.declared.run.OnFail.TheVariants as on_fail
use Rattle.lq_turns.specs.declared.choice.What.TheVariants.{Again, Fill, New}
use Rattle.lq_turns.proofs.Examples.Given.{Given, brief, changeset, makes, meaning, named, row, stamp, told_so, with_rows}

-- the row of changeset 1, of which a tag was set, before that of changeset 2
abbrev rows : Option (List ℕ) → List Tracked
rows sum = record (row (codes "1") 4 Executed sum) { tag = Some (codes "v1") } ∷ row (codes "2") 7 Executed (Some (codes "P2:two")) ∷ []

abbrev one : Set Given
one = changeset (codes "1") (makes (codes "t") ∷ [])

abbrev settled : Set Given → Option (List ℕ) → Settled
settled x sum = settle Postgresql meaning stamp.reading x (with_rows (rows sum))

-- One that runs again: its row goes behind all others, with a new date, place, sum and deployment, and keeps the rest.

abbrev again : Set Given
again = record one { run_always = true }

pub rerun_rows : brief (settled again (Some (codes "P2:old"))).contents.rows ≡ (codes "2", 7, Executed, Some (codes "P2:two")) ∷ (codes "1", 8, Reran, Some (codes "P2:new")) ∷ []
unfolding decide into_kind
rerun_rows = refl

abbrev rest_of : List Tracked → List (ℤ × List ℕ × Option (List ℕ) × List ℕ)
rest_of rows = map (λ (r : Tracked). (r.date, r.deployment, r.tag, r.description)) rows

pub rerun_rest : rest_of (settled again (Some (codes "P2:old"))).contents.rows ≡ (pos 7, codes "0000000000", None, codes "before") ∷ (pos 1000, codes "0000001000", Some (codes "v1"), codes "before") ∷ []
unfolding decide into_kind
rerun_rest = refl

pub rerun_told : (settled again (Some (codes "P2:old"))).happened ≡ record { what = did.RanAgain; identity = named (codes "1") } ∷ []
unfolding decide into_kind
rerun_told = refl

-- one that is marked in place of running again: in the same way

pub marked_rows : brief (settled (record again { condition = told_so (Ok false) on_fail.MarkRan on_fail.Halt }) None).contents.rows ≡ (codes "2", 7, Executed, Some (codes "P2:two")) ∷ (codes "1", 8, MarkRan, Some (codes "P2:new")) ∷ []
unfolding decide into_kind
marked_rows = refl

-- a sum that is null is filled in, where the row stands

pub filled_rows : (settled one None).contents.rows ≡ rows (Some (codes "P2:new"))
filled_rows = refl

pub filled_told : (settled one None).happened ≡ []
filled_told = refl

-- and one that is there stays, also where it is another

pub kept_sum : (settled one (Some (codes "P2:old"))).contents.rows ≡ rows (Some (codes "P2:old"))
kept_sum = refl

-- its own sum in the old form is rewritten, where the row stands, and another one stays

pub rewritten_sum : (settled one (Some (codes "P1:new"))).contents.rows ≡ rows (Some (codes "P2:new"))
rewritten_sum = refl

pub rewritten_told : (settled one (Some (codes "P1:new"))).happened ≡ []
rewritten_told = refl

pub kept_old_sum : (settled one (Some (codes "P1:old"))).contents.rows ≡ rows (Some (codes "P1:old"))
kept_old_sum = refl

-- what becomes of a changeset

pub unselected : what (record one { selected = false }) [] ≡ None
unselected = refl

pub new_one : what one (row (codes "2") 7 Executed None ∷ []) ≡ Some New
new_one = refl

abbrev on_change : List (List ℕ) → Set Given
on_change valid = record one { run_on_change = true; valid_sums = valid }

pub changed_runs : what (on_change []) (rows (Some (codes "P2:old"))) ≡ Some Again
changed_runs = refl

pub own_sum_passes : what (on_change []) (rows (Some (codes "P2:new"))) ≡ None
own_sum_passes = refl

pub old_own_sum_is_filled : what (on_change []) (rows (Some (codes "P1:new"))) ≡ Some Fill
old_own_sum_is_filled = refl

pub changed_old_sum_runs : what (on_change []) (rows (Some (codes "P1:old"))) ≡ Some Again
changed_old_sum_runs = refl

pub excused_old_sum_passes : what (on_change (codes "P1:old" ∷ [])) (rows (Some (codes "P1:old"))) ≡ None
excused_old_sum_passes = refl

pub null_sum_is_filled : what (on_change []) (rows None) ≡ Some Fill
null_sum_is_filled = refl

pub excused_passes : what (on_change (codes "P2:other" ∷ codes "P2:old" ∷ [])) (rows (Some (codes "P2:old"))) ≡ None
excused_passes = refl

pub other_is_not_excused : what (on_change (codes "P2:other" ∷ [])) (rows (Some (codes "P2:old"))) ≡ Some Again
other_is_not_excused = refl

pub any_excuses : what (on_change (codes "ANY" ∷ [])) (rows (Some (codes "P2:old"))) ≡ None
any_excuses = refl

-- runAlways runs it also where its sum is its own
pub always_runs : what again (rows (Some (codes "P2:new"))) ≡ Some Again
always_runs = refl
