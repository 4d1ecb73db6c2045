-- How a plan is judged.
use Rattle.std.specs.Prelude.{Bool, List, false, not, refl, ◌≡◌}
use Rattle.lq_base.specs.declared.name.Name.{Name}
use Rattle.lq_model.specs.Catalogue.{Catalogue, is_in}
use Rattle.lq_model.specs.Plan.{Plan, decide, lacks_parents, leaves_children, has_null, has_orphan, has_orphans, has_twins, is_loose, is_overfull}
use Rattle.lq_model.proofs.Decide.{IsFree}
use Rattle.lq_model.proofs.Lists.{and_no_right, any_less, whether}
use Rattle.lq_decide.specs.Faults.{Faults, no_faults, judged}

-- what stands before the test of foreign keys is not against the plan
pub record IsOpen (p : Plan) : Type 0 where
  pub reserved : p.reserved ≡ false
  pub missing : p.missing ≡ false
  pub exists : p.exists ≡ false
  pub depends : p.depends ≡ false

-- the faults are those of the result e, where rows of the tables `named` need their parents
pub record IsFound (named : List Name) (e : Catalogue) (x : Faults) : Type 0 where
  pub nulls : has_null e ≡ x.nulls
  pub twins : has_twins e ≡ x.twins
  pub orphans : lacks_parents named e ≡ x.orphans
  pub children : leaves_children named e ≡ x.children
  pub full : is_overfull e ≡ x.full

-- nothing is found in a result whose tests all fail
pub quiet_found : (loose : Bool) (ns : List Name) (e : Catalogue) → has_null e ≡ false → has_twins e ≡ false → has_orphans e ≡ false → is_overfull e ≡ false → IsFound ns e (record no_faults { loose = loose })
quiet_found loose ns e nulls twins orphans full = record {
  nulls = nulls;
  twins = twins;
  orphans = any_less _ (λ x. has_orphan e x.1) e.tables (λ x none. and_no_right (is_in x.0 ns) _ none) orphans;
  children = any_less _ (λ x. has_orphan e x.1) e.tables (λ x none. and_no_right (not (is_in x.0 ns)) _ none) orphans;
  full = full;
}

-- where the faults are those of the result, once nothing else is against the plan, they are all that is asked
pub judge : (p : Plan) (x : Faults) → (IsOpen p → is_loose p.result ≡ x.loose) → (IsFree p → IsFound p.named p.result x) → decide p ≡ judged p x
unfolding decide judged
judge p x loose found =
    whether p.reserved (λ h. rw (h) refl) (λ r. whether p.missing (λ h. rw (r, h) refl) (λ m. whether p.exists (λ h. rw (r, m, h) refl) (λ e. whether p.depends (λ h. rw (r, m, e, h) refl) (λ s.
    let l = loose (record { reserved = r; missing = m; exists = e; depends = s }) in
    whether x.loose (λ h. rw (r, m, e, s, l, h) refl) (λ n. whether p.wrong (λ h. rw (r, m, e, s, l, n, h) refl) (λ w. whether p.wide (λ h. rw (r, m, e, s, l, n, w, h) refl) (λ v.
    let f = found (record { reserved = r; missing = m; exists = e; depends = s; wrong = w; wide = v }) in
    rw (r, m, e, s, l, n, w, v, f.nulls, f.twins, f.orphans, f.children, f.full) refl)))))))
