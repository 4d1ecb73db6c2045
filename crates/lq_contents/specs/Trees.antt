-- A changelog's own preconditions, of which only HALT and WARN are reactions.
use Rattle.std.specs.Prelude.{Bool, Err, List, None, Ok, Option, Result, Some, codes, cond, false, map, ℕ, ◌&&◌, ◌||◌}
use Rattle.std.specs.Str.{bytes_eq}
use Rattle.lq_base.specs.declared.dialect.Dialect.{Dialect}
use Rattle.lq_base.specs.declared.fault.KindFault.TheVariants as kind
use Rattle.lq_cond.specs.Reading.{reaction}
use Rattle.lq_cond.specs.declared.cond.Reaction.{Reaction}
use Rattle.lq_paths.specs.declared.path.Format.{Format}
use Rattle.lq_paths.specs.declared.path.Format.TheVariants.{Json, Sql, Yaml}
use Rattle.lq_sources.specs.declared.fault.What.{What}
use Rattle.lq_sources.specs.declared.fault.What.TheVariants as what
use Rattle.lq_sqltree.specs.SqlTree.{sql_tree}
use Rattle.lq_sqltree.specs.declared.fault.SqlTreeFault.{SqlTreeFault}
use Rattle.lq_sqltree.specs.declared.fault.SqlTreeFault.TheVariants as sql
use Rattle.lq_tree.specs.Json.{json_tree}
use Rattle.lq_tree.specs.Look.{Taken, list_of, map_of, text_of}
use Rattle.lq_tree.specs.declared.node.Node.{List as ListNode, Map as MapNode, Node, Null}
use Rattle.lq_tree.specs.declared.node.TreeFault.{TreeFault}
use Rattle.lq_tree.specs.declared.node.TreeFault.TheVariants as json
use Rattle.lq_yaml.specs.Yaml.{yaml_tree}
use Rattle.lq_yaml.specs.declared.fault.YamlFault.{YamlFault}
use Rattle.lq_yaml.specs.declared.fault.YamlFault.TheVariants as yaml

-- the reactions of a changeset alone
abbrev pub is_of_sets : Option (List ℕ) → Bool
is_of_sets None = false
is_of_sets (Some text) = bytes_eq text (codes "CONTINUE") || bytes_eq text (codes "MARK_RAN")

abbrev pub is_reaction : List ℕ → Bool
is_reaction key = bytes_eq key (codes "onFail") || bytes_eq key (codes "onError")

-- such a reaction stands for null, which is none
abbrev pub own_entry : List ℕ × Node → List ℕ × Node
own_entry e = (e.0, cond (is_reaction e.0 && is_of_sets (text_of e.1)) Null e.1)

abbrev pub own_item : Node → Node
own_item n = elim (map_of n) [ None ↦ n | Some es ↦ MapNode (map own_entry es) ]

abbrev pub own_list : Node → Node
own_list n = elim (list_of n) [ None ↦ n | Some ns ↦ ListNode (map own_item ns) ]

-- the value of `preConditions` in a changelog
unfoldable pub own_reaction : Dialect → Taken Reaction
own_reaction d n = reaction d (own_list n)

-- The tree of a file's bytes, by what the file is written in.

abbrev pub what_of_json : TreeFault → What
what_of_json json.NotJson = what.NotJson
what_of_json json.FloatNumber = what.FloatNumber
what_of_json json.OutOfMemory = what.Key kind.OutOfMemory

abbrev pub in_json : Result Node TreeFault → Result Node What
in_json (Ok tree) = Ok tree
in_json (Err fault) = Err (what_of_json fault)

abbrev pub what_of_yaml : YamlFault → What
what_of_yaml yaml.NotUtf8 = what.NotUtf8
what_of_yaml (yaml.Line n) = what.Line n
what_of_yaml yaml.TooDeep = what.TooDeep
what_of_yaml yaml.OutOfMemory = what.Key kind.OutOfMemory

abbrev pub in_yaml : Result Node YamlFault → Result Node What
in_yaml (Ok tree) = Ok tree
in_yaml (Err fault) = Err (what_of_yaml fault)

abbrev pub what_of_sql : SqlTreeFault → What
what_of_sql sql.NoHeader = what.NoHeader
what_of_sql (sql.Line n) = what.Line n
what_of_sql sql.OutOfMemory = what.Key kind.OutOfMemory

abbrev pub in_sql : Result Node SqlTreeFault → Result Node What
in_sql (Ok tree) = Ok tree
in_sql (Err fault) = Err (what_of_sql fault)

abbrev pub file_tree : Format → List ℕ → Result Node What
file_tree Json bytes = in_json (json_tree bytes)
file_tree Yaml bytes = in_yaml (yaml_tree bytes)
file_tree Sql bytes = in_sql (sql_tree bytes)
