-- Bytes that stand for themselves.
use Rattle.std.specs.Prelude.{Bool, not, ℕ, ◌&&◌, ◌==◌}

-- in these quotes neither a quote nor, where it escapes, a backslash
abbrev pub is_plain : Bool → ℕ → ℕ → Bool
is_plain escaping quote byte = not (byte == quote) && not (escaping && byte == 92)
