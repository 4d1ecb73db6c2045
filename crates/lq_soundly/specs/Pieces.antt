-- The pieces of the test of a catalogue, each over what the code has in hand.
use Rattle.std.specs.List.{list_all}
use Rattle.std.specs.Prelude.{Bool, List, map, not, ◌&&◌}
use Rattle.lq_model.specs.Catalogue.{Catalogue, View, is_in, same_names, the_table}
use Rattle.lq_model.specs.Comparison.{compares_wrongly, is_spelled}
use Rattle.lq_model.specs.Kinds.{kind_of, same_kinds}
use Rattle.lq_model.specs.Sound.{wanted_names}
use Rattle.lq_model.specs.Truth.{names_in}
use Rattle.lq_model.specs.declared.column.Column.{Column}
use Rattle.lq_model.specs.declared.constraint.ForeignKey.{ForeignKey}
use Rattle.lq_sound_table.specs.Pieces.{are_some_of, names_of}

-- a foreign key of a table of these columns and its targets differ in number or kinds
abbrev pub differs_from : Catalogue → List Column → ForeignKey → Bool
differs_from c cs f =
    not (same_kinds (map (λ n. kind_of n cs) f.columns)
    (map (λ n. kind_of n (the_table c f.table).columns) f.targets))

-- a view of a table of these columns
abbrev pub is_view_of : List Column → View → Bool
is_view_of cs v =
    are_some_of cs v.columns
    && (list_all (λ n. is_in n (names_of cs)) (names_in v.query.test)
    && (same_names (wanted_names v.query.wanted) v.columns
    && (is_spelled v.query.test && not (compares_wrongly cs v.query.test))))
