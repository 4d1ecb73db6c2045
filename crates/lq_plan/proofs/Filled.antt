-- Which stored sums are filled in.
use Rattle.std.proofs.Common.{Bool, List, None, Option, Some, codes, eqb, false, refl, true, ℕ, ◌&&◌, ◌∙◌, ◌≡◌}
use Rattle.std.specs.List.{starts_with}
use Rattle.std.specs.Prelude.{IfSome, if◌then◌else◌}
use Rattle.lq_base.specs.Name.{is_text}
use Rattle.lq_plan.specs.Told.{headed}
use Rattle.lq_plan.specs.declared.head.Head.{Head}
use Rattle.lq_turns.specs.Settle.{is_to_fill}

-- that of the old form is the changeset's own exactly where it is its old sum
pub filled : (h : Head) (stored : Option (List ℕ)) (answer : Bool) → (stored ≡ None → answer ≡ true) → IfSome stored (λ sum. answer ≡ (starts_with eqb sum (codes "P1:") && is_text sum h.old_sum.now)) → answer ≡ is_to_fill (headed h) stored
filled h None answer null own = null refl
filled h (Some sum) answer null own = own ∙ by (starts_with eqb sum (codes "P1:")) where
  by : (old : Bool) → (old && is_text sum h.old_sum.now) ≡ (old && is_text sum (if old then h.old_sum.now else h.sum.now))
  by true = refl
  by false = refl
