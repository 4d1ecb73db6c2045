-- What a node says of a load: which file, and how it is read.
use Rattle.std.specs.Option.{unwrap_or}
use Rattle.std.specs.Prelude.{List, None, Option, Some, [], codes, false, if◌then◌else◌, option_and_then, ℕ, ◌∷◌}
use Rattle.std.specs.Str.{bytes_eq}
use Rattle.csv.specs.Reading.{default_config, records, strip_bom}
use Rattle.csv.specs.declared.parser.Config.{Config}
use Rattle.lq_load.specs.declared.load_keys.LoadKeys.{LoadKeys}
use Rattle.lq_tree.specs.Given.{a_name, a_text, a_truth}
use Rattle.lq_tree.specs.Keys.{Keys, a_change, fields, optional, required, ◌⊛◌}
use Rattle.lq_tree.specs.Look.{Taken, or_bad, printed_of}

-- a comma, a semicolon, a tab or a bar
abbrev pub separator_of : List ℕ → Option ℕ
separator_of t =
    if bytes_eq t (codes ",") then Some 44
    else if bytes_eq t (codes ";") then Some 59
    else if bytes_eq t (9 ∷ []) then Some 9
    else if bytes_eq t (codes "|") then Some 124
    else None

-- a scalar that is printed as a separator
abbrev pub a_separator : Taken ℕ
a_separator n = or_bad (option_and_then separator_of (printed_of n))

abbrev pub keys : Keys LoadKeys
keys =
    fields (λ table file relative separator. record { table_name = table; file = file; is_relative = unwrap_or relative false; separator = unwrap_or separator 44 })
    ⊛ required (codes "tableName") a_name
    ⊛ required (codes "file") a_text
    ⊛ optional (codes "relativeToChangelogFile") a_truth
    ⊛ optional (codes "separator") a_separator

unfoldable pub load_keys : Taken LoadKeys
load_keys = a_change keys

-- The records of a text of separated fields.

-- as a reader's defaults have it, with a separator of one's own: a field may be in double quotes, a line ends with CR, LF or both, and empty lines are passed over
abbrev pub config : ℕ → Config
config separator = record default_config { delimiter = separator }

-- a byte order mark is no part of the text
unfoldable pub records_in : ℕ → List ℕ → List (List (List ℕ))
records_in separator bytes = records (config separator) (strip_bom bytes)
