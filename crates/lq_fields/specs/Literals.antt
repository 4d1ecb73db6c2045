-- The fields of a file of separated fields as literals.
use Rattle.std.specs.Prelude.{List, codes, if◌then◌else◌, ℕ}
use Rattle.std.specs.Str.{bytes_eq}
use Rattle.lq_base.specs.declared.literal.Literal.{Literal}
use Rattle.lq_base.specs.declared.literal.Literal.TheVariants as literal

-- the field `NULL` is null, also where it stood in quotes; any other is its text
abbrev pub literal_in : List ℕ → Literal
literal_in field = if bytes_eq field (codes "NULL") then literal.Null else literal.Text field
