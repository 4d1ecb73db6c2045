-- A view at the table that it names.
use Rattle.std.specs.List.{list_all}
use Rattle.std.specs.Option.{unwrap_or}
use Rattle.std.specs.Prelude.{Bool, Option, is_some, not, refl, ◌&&◌, ◌≡◌}
use Rattle.lq_model.specs.Catalogue.{Catalogue, Table, View, no_table, table_of, is_in, same_names, column_names}
use Rattle.lq_model.specs.Comparison.{compares_wrongly, is_spelled}
use Rattle.lq_model.specs.Sound.{are_columns, is_view, wanted_names}
use Rattle.lq_model.specs.Truth.{names_in}

-- what a catalogue asks of a view, of what stands at its table's name
unfoldable pub view_at : Option Table → View → Bool
view_at o v =
    let it = unwrap_or o no_table in
    is_some o
    && (are_columns it v.columns
    && (list_all (λ n. is_in n (column_names it)) (names_in v.query.test)
    && (same_names (wanted_names v.query.wanted) v.columns
    && (is_spelled v.query.test && not (compares_wrongly it.columns v.query.test)))))

pub view_is : (c : Catalogue) (v : View) → is_view c v ≡ view_at (table_of c v.query.table) v
unfolding view_at
view_is c v = refl
