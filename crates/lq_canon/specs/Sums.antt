-- The checksums of a changeset's changes.
use Rattle.std.specs.List.{list_any}
use Rattle.std.specs.Prelude.{Bool, List, codes, false, if◌then◌else◌, map, not, ℕ, ◌&&◌, ◌++◌, ◌||◌}
use Rattle.std.specs.Str.{bytes_eq}
use Rattle.hex.specs.Hex.{encode_lower}
use Rattle.lq_model.specs.Changes.{CanonicalChange, CanonicalPairs, CanonicalValue, canonical_changes, no_pairs, pair, text}
use Rattle.lq_uniform.specs.Uniform.{is_quote, is_space, uniform}
use Rattle.md5.specs.Md5.{md5}

-- an end delimiter with a blank or a quote, behind which a text would be cut elsewhere
abbrev pub is_wide : List ℕ → CanonicalValue → Bool
is_wide key (text t) = bytes_eq key (codes "endDelimiter") && list_any (λ b. is_space b || is_quote b) t
is_wide key _ = false

abbrev pub has_wide : CanonicalPairs → Bool
has_wide no_pairs = false
has_wide (pair key v pairs) = is_wide key v || has_wide pairs

-- the keys whose texts are SQL, by the name of the type
abbrev pub is_sql_at : List ℕ → List ℕ → Bool
is_sql_at name key =
    (bytes_eq name (codes "createView") && bytes_eq key (codes "selectQuery"))
    || ((bytes_eq name (codes "update") || bytes_eq name (codes "delete")) && bytes_eq key (codes "where"))

-- the names of the types that have such texts
abbrev pub has_sql_name : List ℕ → Bool
has_sql_name name = bytes_eq name (codes "sql") || bytes_eq name (codes "createView") || bytes_eq name (codes "update") || bytes_eq name (codes "delete")

-- the texts whose blanks do not count; those of a sql change only where its end delimiter is not wide
abbrev pub is_replaced : Bool → List ℕ → List ℕ → Bool
is_replaced wide name key = (bytes_eq name (codes "sql") && bytes_eq key (codes "sql") && not wide) || is_sql_at name key

abbrev pub uniform_value : Bool → CanonicalValue → CanonicalValue
uniform_value replaced (text t) = text (if replaced then uniform t else t)
uniform_value replaced v = v

abbrev pub uniform_pairs : Bool → List ℕ → CanonicalPairs → CanonicalPairs
uniform_pairs wide name no_pairs = no_pairs
uniform_pairs wide name (pair key v pairs) = pair key (uniform_value (is_replaced wide name key) v) (uniform_pairs wide name pairs)

-- a change whose texts of SQL are uniform
abbrev pub uniformed : CanonicalChange → CanonicalChange
uniformed change = record { name = change.name; pairs = uniform_pairs (has_wide change.pairs) change.name change.pairs }

abbrev pub digits_of : List ℕ → List ℕ
digits_of canonical = encode_lower (md5 canonical)

-- `P1:` and the 32 lower-case hex digits of the MD5 of the canonical text
abbrev pub old_sum_of : List CanonicalChange → List ℕ
old_sum_of changes = codes "P1:" ++ digits_of (canonical_changes changes)

-- `P2:` and those of the canonical text in which the texts of SQL are uniform
abbrev pub sum_of : List CanonicalChange → List ℕ
sum_of changes = codes "P2:" ++ digits_of (canonical_changes (map uniformed changes))
