-- Paths of the files of a changelog.
use Rattle.std.specs.List.{ends_with, slice_split, starts_with}
use Rattle.std.specs.Prelude.{Bool, List, None, Option, Some, [], codes, eqb, false, if◌then◌else◌, option_and_then, option_map, true, ℕ, ◌++◌, ◌==◌, ◌||◌, ◌∷◌, ◌≡◌}
use Rattle.std.specs.Str.{bytes_eq}
use Rattle.lq_paths.specs.declared.path.Format.{Format}
use Rattle.lq_paths.specs.declared.path.Format.TheVariants.{Json, Sql, Yaml}

-- its parts between slashes
abbrev pub parts : List ℕ → List (List ℕ)
parts path = slice_split (λ b. b == 47) path

-- the parts before the last one
abbrev pub without_last : List (List ℕ) → Option (List (List ℕ))
without_last [] = None
without_last (p ∷ []) = Some []
without_last (p ∷ q ∷ ps) = option_map (λ more. p ∷ more) (without_last (q ∷ ps))

abbrev pub is_passed : List ℕ → Bool
is_passed part = bytes_eq part [] || bytes_eq part (codes ".")

abbrev pub is_up : List ℕ → Bool
is_up part = bytes_eq part (codes "..")

-- the parts of a folder's way with one more part: `..` leads out of the last one, an empty part and `.` lead nowhere
abbrev pub entered : List (List ℕ) → List ℕ → Option (List (List ℕ))
entered way part =
    if is_passed part then Some way else if is_up part then without_last way else Some (way ++ part ∷ [])

-- the way along these parts, or nothing where it leads out of where it begins
abbrev pub along : List (List ℕ) → List (List ℕ) → Option (List (List ℕ))
along way [] = Some way
along way (p ∷ ps) = option_and_then (λ next. along next ps) (entered way p)

-- a slash before each part
abbrev pub behind_slashes : List (List ℕ) → List ℕ
behind_slashes [] = []
behind_slashes (p ∷ ps) = 47 ∷ p ++ behind_slashes ps

-- parts with slashes between
abbrev pub with_slashes : List (List ℕ) → List ℕ
with_slashes [] = []
with_slashes (p ∷ ps) = p ++ behind_slashes ps

-- a leading slash
abbrev pub front : List ℕ → List ℕ
front path = if starts_with eqb path (codes "/") then codes "/" else []

-- a path without empty parts, `.` and `..`; its leading slash stays
unfoldable pub plain : List ℕ → Option (List ℕ)
plain path = option_map (λ way. front path ++ with_slashes way) (along [] (parts path))

-- each part with a slash behind it
abbrev pub with_ends : List (List ℕ) → List ℕ
with_ends [] = []
with_ends (p ∷ ps) = p ++ 47 ∷ with_ends ps

abbrev pub ended : Option (List (List ℕ)) → List ℕ
ended None = []
ended (Some ps) = with_ends ps

-- a path up to and with its last slash, if it has one
abbrev pub folder_of : List ℕ → List ℕ
folder_of path = ended (without_last (parts path))

-- what an include in a file names
abbrev pub joined : List ℕ → Bool → List ℕ → List ℕ
joined including true text = folder_of including ++ text
joined including false text = text

abbrev pub ends : List ℕ → List ℕ → Bool
ends path ending = ends_with eqb path ending

abbrev pub is_xml : List ℕ → Bool
is_xml path = ends path (codes ".xml")

-- what a file is written in
abbrev pub format_of : List ℕ → Option Format
format_of path =
    if ends path (codes ".json") then Some Json
    else if ends path (codes ".yaml") || ends path (codes ".yml") then Some Yaml
    else if ends path (codes ".sql") then Some Sql else None

-- whether a way goes on, and where it leads then
abbrev pub Enters : Bool → Option (List (List ℕ)) → List (List ℕ) → Type 0
Enters true meant way = meant ≡ Some way
Enters false meant way = meant ≡ None
