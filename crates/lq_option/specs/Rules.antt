-- The options of a command, as rules of `clap`.
use Rattle.std.specs.Prelude.{Bool, Some, codes}
use Rattle.clap.specs.Simple.{new_rule}
use Rattle.clap.specs.Walk.{Rule, Text}
use Rattle.clap.specs.declared.builder.action.ArgAction.TheVariants.{Append}

-- `--name=value` or `--name value`
abbrev pub option : Bool → Text → Rule
option required name = record (new_rule name) { long = Some name; required = required }

abbrev pub define_id : Text
define_id = codes "define"

-- `-Dname=value`, any number of times
abbrev pub define : Rule
define = record (new_rule define_id) { short = Some 68; action = Some Append }
