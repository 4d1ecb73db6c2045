-- Neither faults nor turns, nor what a status lists, depend on changes and conditions.
use Rattle.std.proofs.Common.{ap, map, refl, suc, ◌≡◌, ◌∙◌, [], ◌∷◌}
use Rattle.std.specs.Prelude.{List, ℕ}
use Rattle.lq_base.specs.declared.identity.Identity.{Identity}
use Rattle.lq_base.specs.declared.tracking.Tracked.{Tracked}
use Rattle.lq_turns.specs.Faults.{faults, faults_behind}
use Rattle.lq_turns.specs.Printed.{pending}
use Rattle.lq_turns.specs.Set.{Set}
use Rattle.lq_plan.specs.Told.{HeadsTell, bare, work, work_from}

module _ {Key : Type 0} where
  bare_faults : (earlier : List Identity) (xs : List (Set Key)) (rows : List Tracked) → faults_behind earlier (map bare xs) rows ≡ faults_behind earlier xs rows
  bare_faults earlier [] rows = refl
  bare_faults earlier (x ∷ xs) rows = rw (bare_faults (x.identity ∷ earlier) xs rows, bare_faults earlier xs rows) refl

  bare_work : (n : ℕ) (xs : List (Set Key)) (rows : List Tracked) → work_from n (map bare xs) rows ≡ work_from n xs rows
  bare_work n [] rows = refl
  bare_work n (x ∷ xs) rows = rw (bare_work (suc n) xs rows) refl

  bare_pending : (xs : List (Set Key)) (rows : List Tracked) → pending (map bare xs) rows ≡ pending xs rows
  bare_pending [] rows = refl
  bare_pending (x ∷ xs) rows = rw (bare_pending xs rows) refl

pub heads_tell : (Key : Type 0) → HeadsTell Key
heads_tell Key = λ hs xs rows are. (ap (λ ys. faults ys rows) are ∙ bare_faults [] xs rows, ap (λ ys. work ys rows) are ∙ bare_work 0 xs rows, ap (λ ys. pending ys rows) are ∙ bare_pending xs rows)
