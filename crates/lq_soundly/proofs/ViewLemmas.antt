-- A view at its table.
use Rattle.std.proofs.Common.{None, Option, Some, ap, is_some, sym, ◌&&◌, ◌≡◌}
use Rattle.std.specs.Option.{unwrap_or}
use Rattle.lq_model.specs.Catalogue.{Catalogue, Table, View, no_table, table_of}
use Rattle.lq_model.specs.Sound.{is_view}
use Rattle.lq_soundly.specs.Pieces.{is_view_of}

at : (v : View) (it : Table) (o : Option Table) → o ≡ Some it → is_view_of it.columns v ≡ (is_some o && is_view_of (unwrap_or o no_table).columns v)
at v it None e = absurd (cc e)
at v it (Some x) e = let same : x ≡ it = cc e in ap (λ (y : Table). is_view_of y.columns v) (sym same)

pub view_is : (c : Catalogue) (v : View) (it : Table) → table_of c v.query.table ≡ Some it → is_view_of it.columns v ≡ is_view c v
view_is c v it there = at v it (table_of c v.query.table) there
