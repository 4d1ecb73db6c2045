-- A text cut into pieces at a delimiter.
use Rattle.std.specs.Prelude.{Bool, List, Option, Some, [], false, filter, if◌then◌else◌, length, not, option_map, true, ℕ, ◌&&◌, ◌++◌, ◌∷◌}
use Rattle.lq_base.specs.Sql.{begins, is_trivia, length_at, sort_at, units}
use Rattle.lq_base.specs.declared.dialect.Dialect.{Dialect}
use Rattle.lq_marks.specs.Enclosed.{is_enclosed}

-- how many bytes at the front of a text stand together, where no delimiter is: a whole string, quoted name or comment, or else one byte
abbrev pub together : Dialect → List ℕ → Option ℕ
together d text = if is_enclosed (sort_at d text) then length_at d text else Some 1

-- a delimiter is at the front of a text, and no string, quoted name or comment begins there
abbrev pub is_delimited : Dialect → List ℕ → List ℕ → Bool
is_delimited d delimiter text = not (is_enclosed (sort_at d text)) && begins delimiter text

-- the unit at the front of a text, and whether it is a delimiter
abbrev pub unit_at : Dialect → List ℕ → List ℕ → Option (Bool × ℕ)
unit_at d delimiter text =
    if is_delimited d delimiter text then Some (true, length delimiter) else option_map (λ n. (false, n)) (together d text)

-- with these bytes before the first piece
abbrev pub onto : List ℕ → List (List ℕ) → List (List ℕ)
onto bytes [] = bytes ∷ []
onto bytes (piece ∷ pieces) = (bytes ++ piece) ∷ pieces

-- what stands between the delimiters among some units
abbrev pub between : List (Bool × List ℕ) → List (List ℕ)
between [] = [] ∷ []
between (unit ∷ more) = if unit.0 then [] ∷ between more else onto unit.1 (between more)

-- all pieces of a text; none where a string, quoted name or comment is not closed
unfoldable pub cut : Dialect → List ℕ → List ℕ → Option (List (List ℕ))
cut d text delimiter = option_map between (units (unit_at d delimiter) 0 text)

-- those that are not of blanks and comments alone
abbrev pub kept : Dialect → List (List ℕ) → List (List ℕ)
kept d pieces = filter (λ piece. not (is_trivia d piece)) pieces

unfoldable pub pieces : Dialect → List ℕ → List ℕ → Option (List (List ℕ))
pieces d text delimiter = option_map (kept d) (cut d text delimiter)
