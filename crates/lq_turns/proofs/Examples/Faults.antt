-- Validation faults, and what is pending.
use Rattle.std.specs.Prelude.{List, None, Option, Some, [], codes, false, refl, true, ℕ, ◌∷◌, ◌≡◌}
use Rattle.lq_base.specs.declared.tracking.Exec.TheVariants.{Executed}
use Rattle.lq_base.specs.declared.tracking.Tracked.{Tracked}
use Rattle.lq_turns.specs.Faults.{faults}
use Rattle.lq_turns.specs.Printed.{pending}
use Rattle.lq_turns.specs.Set.{Set}
use Rattle.lq_turns.specs.declared.fault.Fault.TheVariants.{Changed, Twice}
use Rattle.lq_turns.proofs.Examples.Given.{Given, changeset, named, row}

abbrev one : Set Given
one = changeset (codes "1") []

abbrev two : Set Given
two = changeset (codes "2") []

abbrev rows : Option (List ℕ) → List Tracked
rows sum = row (codes "1") 1 Executed sum ∷ []

pub same_twice : faults (one ∷ two ∷ one ∷ []) [] ≡ Twice (named (codes "1")) ∷ []
same_twice = refl

-- also where the command does not select them
pub unselected_twice : faults (record one { selected = false } ∷ one ∷ []) [] ≡ Twice (named (codes "1")) ∷ []
unselected_twice = refl

-- but not where one of them is for another dialect
pub other_dialect : faults (record one { here = false } ∷ one ∷ []) [] ≡ []
other_dialect = refl

pub other_sum : faults (two ∷ one ∷ []) (rows (Some (codes "P2:old"))) ≡ Changed (named (codes "1")) (codes "P2:old") (codes "P2:new") ∷ []
other_sum = refl

pub own_sum : faults (one ∷ []) (rows (Some (codes "P2:new"))) ≡ []
own_sum = refl

pub null_sum : faults (one ∷ []) (rows None) ≡ []
null_sum = refl

pub runs_on_change : faults (record one { run_on_change = true } ∷ []) (rows (Some (codes "P2:old"))) ≡ []
runs_on_change = refl

-- runAlways does not excuse it
pub always_runs : faults (record one { run_always = true } ∷ []) (rows (Some (codes "P2:old"))) ≡ Changed (named (codes "1")) (codes "P2:old") (codes "P2:new") ∷ []
always_runs = refl

pub excused : faults (record one { valid_sums = codes "P2:old" ∷ [] } ∷ []) (rows (Some (codes "P2:old"))) ≡ []
excused = refl

pub any_sum : faults (record one { valid_sums = codes "ANY" ∷ [] } ∷ []) (rows (Some (codes "P2:old"))) ≡ []
any_sum = refl

pub not_excused : faults (record one { valid_sums = codes "P2:older" ∷ [] } ∷ []) (rows (Some (codes "P2:old"))) ≡ Changed (named (codes "1")) (codes "P2:old") (codes "P2:new") ∷ []
not_excused = refl

-- a sum of the old form is held against the old sum, which the fault shows then

pub old_own_sum : faults (one ∷ []) (rows (Some (codes "P1:new"))) ≡ []
old_own_sum = refl

pub other_old_sum : faults (one ∷ []) (rows (Some (codes "P1:old"))) ≡ Changed (named (codes "1")) (codes "P1:old") (codes "P1:new") ∷ []
other_old_sum = refl

pub old_excused : faults (record one { valid_sums = codes "P1:old" ∷ [] } ∷ []) (rows (Some (codes "P1:old"))) ≡ []
old_excused = refl

-- pending is what is new or runs again, and not what is filled in

pub new_ones : pending (one ∷ two ∷ []) (rows (Some (codes "P2:new"))) ≡ named (codes "2") ∷ []
new_ones = refl

pub one_again : pending (record one { run_always = true } ∷ two ∷ []) (rows (Some (codes "P2:new"))) ≡ named (codes "1") ∷ named (codes "2") ∷ []
one_again = refl

pub null_sum_is_not_pending : pending (one ∷ []) (rows None) ≡ []
null_sum_is_not_pending = refl

pub old_sum_is_not_pending : pending (one ∷ []) (rows (Some (codes "P1:new"))) ≡ []
old_sum_is_not_pending = refl
