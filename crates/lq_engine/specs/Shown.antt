-- That views show tables.
use Rattle.std.specs.Prelude.{Some, is_some, true, ◌≡◌}
use Rattle.lq_base.specs.declared.name.Name.{Name}
use Rattle.lq_model.specs.Catalogue.{Catalogue, View, table_of, view_of}

-- the table of each view is there
abbrev pub ViewsStand : Catalogue → Type 0
ViewsStand c = (n : Name) (v : View) → view_of c n ≡ Some v → is_some (table_of c v.query.table) ≡ true
