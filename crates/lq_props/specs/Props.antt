-- The values of properties by scope.
use Rattle.std.specs.Prelude.{Bool, List, None, Option, Some, false, if◌then◌else◌, true, ℕ}
use Rattle.std.specs.Str.{bytes_eq}
use Rattle.lq_props.specs.Replaced.{defined, value_in, value_in_file}
use Rattle.lq_props.specs.declared.props.Props.{Props}
use Rattle.lq_props.specs.declared.scope.Scope.{Scope}
use Rattle.lq_props.specs.declared.scope.Scope.TheVariants.{Command, File, Global}

-- the value that a scope itself has of a name
abbrev pub own : Props → Scope → List ℕ → Option (List ℕ)
own props Command name = value_in props.command name
own props (File file) name = value_in_file props.files file name
own props Global name = value_in props.global name

abbrev pub is_same_scope : Scope → Scope → Bool
is_same_scope Command Command = true
is_same_scope (File a) (File b) = bytes_eq a b
is_same_scope Global Global = true
is_same_scope _ _ = false

-- the values after a name is given one in a scope: the one that it had there stays, and so do all others
abbrev pub defines : (Scope → List ℕ → Option (List ℕ)) → Scope → List ℕ → List ℕ → Scope → List ℕ → Option (List ℕ)
defines look scope name value s n = if is_same_scope scope s then defined (look s) name value n else look s n

-- the first value, if there is one, and else the second
abbrev pub or_else : Option (List ℕ) → Option (List ℕ) → Option (List ℕ)
or_else None other = other
or_else (Some value) other = Some value

-- the value of a name in a file: the command line's, else the file's own, else the global one
unfoldable pub value_of : Props → List ℕ → List ℕ → Option (List ℕ)
value_of props file name = or_else (own props Command name) (or_else (own props (File file) name) (own props Global name))
