-- What a gate says.
use Rattle.std.proofs.Common.{◌≡◌, ◌<◌, ℕ, List, [], ◌∷◌, length, refl, ap, arith}
use Rattle.lq_gate.specs.Gate.{IsEnd}

pub gate_shut : (bytes : List ℕ) → 0 < length bytes → (¬ ((after : List ℕ) × (bytes ≡ 1 ∷ after))) → IsEnd bytes
gate_shut [] some none = absurd (omega (arith, some))
gate_shut (gate ∷ tail) some none = record { gate = gate; tail = tail; is = refl; closed = λ is. none (tail, ap (λ (g : ℕ). g ∷ tail) is) }
