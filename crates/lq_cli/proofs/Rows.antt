-- What `clap` found of an option.
use Rattle.std.proofs.Common.{◌≡◌, ◌∙◌, List, ap, option_map}
use Rattle.clap.proofs.WalkLemmas.{first_value-rows, raw_values-rows}
use Rattle.clap.specs.Matches.{first_value, matched_of, raw_values}
use Rattle.clap.specs.Walk.{Row, Text, all_of, first_of, rows_of}
use Rattle.clap.specs.declared.parser.matches.Found.{Found}
use Rattle.lq_cli.specs.Options.{definitions, value}
use Rattle.lq_option.specs.Rules.{define_id}

pub value_is : (f : Found) (given : List Row) (name : Text) → rows_of f ≡ given → first_value f name ≡ value given name
unfolding value
value_is f given name is = first_value-rows f name ∙ ap (first_of name) is

pub definitions_are : (f : Found) (given : List Row) → rows_of f ≡ given → option_map raw_values (matched_of f define_id) ≡ definitions given
unfolding definitions
definitions_are f given is = raw_values-rows f define_id ∙ ap (all_of define_id) is
