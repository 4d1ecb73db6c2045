-- What a gate says.
use Rattle.std.specs.Prelude.{List, ℕ, ◌∷◌, ◌≡◌}

-- a closed gate
pub record IsEnd (bytes : List ℕ) : Type 0 where
  pub gate : ℕ
  pub tail : List ℕ
  pub is : bytes ≡ gate ∷ tail
  pub closed : ¬ gate ≡ 1
