-- A list of conditions that is on no last level.
use Rattle.std.proofs.Common.{ap, arith}
use Rattle.std.specs.Prelude.{suc, zero, refl, ℕ, ◌-◌, ◌≡◌}
use Rattle.lq_base.specs.declared.dialect.Dialect.{Dialect}
use Rattle.lq_tree.specs.declared.node.Node.{Node}
use Rattle.lq_cond.specs.Reading.{a_list, cond_at, conditions}

pub one_level : (d : Dialect) (levels : ℕ) (n : Node) → (levels ≡ 0 → ⊥) → conditions d levels n ≡ a_list (cond_at d (conditions d (levels - 1))) n
one_level d zero n some = absurd (some refl)
one_level d (suc levels) n some =
    let same : levels ≡ suc levels - 1 = omega arith in
    ap (λ inside. a_list (cond_at d (conditions d inside)) n) same
