-- Lemmas on what queries ask.
use Rattle.std.specs.List.{filter}
use Rattle.std.specs.Prelude.{List, Option, Some, map, not, refl, ◌≡◌}
use Rattle.lq_base.specs.declared.name.Name.{Name}
use Rattle.lq_base.specs.declared.value.Value.{Value}
use Rattle.lq_model.specs.Views.{Source, columns_at, shown_by}
use Rattle.lq_model.specs.Catalogue.{picked, Catalogue, Table, View, the_table}
use Rattle.lq_model.specs.Truth.{takes}
use Rattle.lq_model.specs.declared.column.Column.{Column}
use Rattle.lq_model.specs.declared.test.Test.{Test}
use Rattle.lq_base.specs.declared.dialect.Dialect.{Dialect}
use Rattle.lq_engine.specs.Shown.{ViewsStand}
use Rattle.lq_model.proofs.Lists.{and_left, any_none, not_false, not_true}
use Rattle.lq_model.proofs.Maps.{at_lookup}
use Rattle.lq_model.specs.Sound.{IsSound, is_view}

pub views_stand : (d : Dialect) (c : Catalogue) → IsSound d c → ViewsStand c
views_stand d c sound n v there = and_left _ _ (not_false _ (at_lookup _ (λ w. not (is_view c w)) c.views v (any_none _ (λ e. is_view c e.1) c.views (λ e q. not_true _ q) sound.views) there))

-- what a view shows, said of its table
pub shown_is : (c : Catalogue) (v : View) (it : Table) (cs : List Column) (rows : List (List Value)) (ns : List Name) (test : Option Test) → the_table c v.query.table ≡ it → cs ≡ it.columns → rows ≡ it.rows → ns ≡ v.columns → test ≡ v.query.test
    → (let s : Option Source = Some (shown_by c v) in s) ≡ Some (record { columns = columns_at ns cs; rows = map (picked cs ns) (filter (takes test cs) rows) })
shown_is c v it cs rows ns test a b e f g = rw (a, b, e, f, g) refl
