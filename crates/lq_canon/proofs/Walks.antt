-- A walk over a value, step by step.
use Rattle.std.proofs.Common.{List, None, Some, arith, ap, option_and_then, refl, sym, zero, suc, ℕ, ◌≡◌, ◌∙◌, ◌++◌, ◌+◌}
use Rattle.lq_model.specs.Changes.{CanonicalValue, canonical}
use Rattle.lq_canon.specs.Passing.{behind, passed, stepped}
use Rattle.lq_canon.proofs.ValuePassed.{steps_of, value_passed}

-- some steps lead from here to the text
pub record Leads (depth : ℕ) (rest end : List ℕ) : Type 0 where
  pub steps : ℕ
  pub to : passed steps depth rest ≡ Some end

pub begins_so : (v : CanonicalValue) (bytes end : List ℕ) → bytes ≡ canonical v ++ end → Leads 0 bytes end
begins_so v bytes end is = record { steps = steps_of v + 0; to = ap (passed (steps_of v + 0) 0) is ∙ value_passed v end (steps_of v + 0) 0 0 refl }

step_of : (steps depth : ℕ) (rest end : List ℕ) → passed steps depth rest ≡ Some end → (more : ℕ) × (option_and_then (λ p. behind (passed more) p.0 p.1) (stepped depth rest) ≡ Some end)
step_of zero depth rest end e = grind arith
step_of (suc more) depth rest end e = (more, e)

pub never_stuck : (depth : ℕ) (rest end : List ℕ) → Leads depth rest end → stepped depth rest ≡ None → ⊥
never_stuck depth rest end leads none =
    let step = step_of leads.steps depth rest end leads.to in
    let is : None ≡ Some end = ap (option_and_then (λ p. behind (passed step.0) p.0 p.1)) (sym none) ∙ step.1 in
    grind arith

stepped_to : (depth : ℕ) (rest end : List ℕ) (p : ℕ × List ℕ) → Leads depth rest end → stepped depth rest ≡ Some p → (more : ℕ) × (behind (passed more) p.0 p.1 ≡ Some end)
stepped_to depth rest end p leads is =
    let step = step_of leads.steps depth rest end leads.to in
    (step.0, ap (option_and_then (λ q. behind (passed step.0) q.0 q.1)) (sym is) ∙ step.1)

pub ends_there : (depth : ℕ) (rest end : List ℕ) (p : ℕ × List ℕ) → Leads depth rest end → stepped depth rest ≡ Some p → p.0 ≡ 0 → Some p.1 ≡ Some end
ends_there depth rest end p leads is none =
    let step = stepped_to depth rest end p leads is in
    ap (λ n. behind (passed step.0) n p.1) (sym none) ∙ step.1

pub leads_on : (depth : ℕ) (rest end : List ℕ) (n : ℕ) (after : List ℕ) → Leads depth rest end → stepped depth rest ≡ Some (n, after) → (n ≡ 0 → ⊥) → Leads n after end
leads_on depth rest end n after leads is some =
    let step = stepped_to depth rest end (n, after) leads is in
    by n step.0 step.1 some
  where
    by : (n more : ℕ) → behind (passed more) n after ≡ Some end → (n ≡ 0 → ⊥) → Leads n after end
    by zero more e some = absurd (some refl)
    by (suc n) more e some = record { steps = more; to = e }
