-- What a test notes of a store.
use Rattle.std.specs.Prelude.{Bool, IsTrue, None, Option, Some, false, ℕ, ◌==◌, ◌≡◌}
use Rattle.lq_store.specs.Journal.{State, is_open}

-- by the note, the session has a transaction open
abbrev pub is_noted : ℕ → Option ℕ → Bool
is_noted session None = false
is_noted session (Some n) = n == session

-- the note is right, as long as the store lives
abbrev pub IsNoted : Option ℕ → State → Type 0
IsNoted holder x = IsTrue x.live → (session : ℕ) → is_open session x.begun ≡ is_noted session holder
