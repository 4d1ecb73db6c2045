-- Who has a transaction open.
use Rattle.std.specs.Prelude.{Bool, None, Option, Some, false, ℕ, ◌==◌}

-- it is the session that has one open
abbrev pub is_its : ℕ → Option ℕ → Bool
is_its session None = false
is_its session (Some number) = number == session
