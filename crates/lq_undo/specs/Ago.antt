-- What was there some changes ago.
use Rattle.std.specs.Prelude.{suc, zero, ℕ}

-- n changes ago, where each is undone by this function
abbrev pub ago : {A : Type 0} → (A → A) → ℕ → A → A
ago before zero now = now
ago before (suc n) now = ago before n (before now)
