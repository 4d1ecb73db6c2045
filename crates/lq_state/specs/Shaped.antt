-- What every sound catalogue keeps to, and the types of its parts do not say.
use Rattle.std.specs.List.{list_all}
use Rattle.std.specs.Prelude.{Bool, List, length, nat_lt, ◌&&◌, ◌==◌}
use Rattle.lq_base.specs.declared.value.Value.{Value}
use Rattle.lq_codec.specs.State.{free, has_levels, if_both}
use Rattle.lq_codec.specs.Tables.{has_some}
use Rattle.lq_model.specs.Catalogue.{Catalogue, Table, View}
use Rattle.lq_model.specs.declared.column.Column.{Column}

-- as many values as columns
abbrev pub has_width : List Column → List Value → Bool
has_width cs row = length row == length cs

-- columns, at most 100,000 rows, and rows of the columns' number
abbrev pub is_shaped : Table → Bool
is_shaped t =
    has_some t.columns
    && (nat_lt (length t.rows) 100_001 && list_all (has_width t.columns) t.rows)

abbrev pub is_shaped_view : View → Bool
is_shaped_view v = has_levels v.query

abbrev pub is_shaped_whole : Catalogue → Bool
is_shaped_whole c =
    list_all (if_both free is_shaped) c.tables && list_all (if_both free is_shaped_view) c.views
