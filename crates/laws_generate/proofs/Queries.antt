-- The query of each view of a sound catalogue is one that can be written, where the names of its tables are names.
use Rattle.std.proofs.Common.{ap, refl, ◌∙◌}
use Rattle.std.specs.List.{AllByRecursion, list_all}
use Rattle.std.specs.Map.{lookup}
use Rattle.std.specs.Option.{unwrap_or}
use Rattle.std.specs.Prelude.{Bool, List, Option, Some, [], cond, false, is_some, map, not, true, ◌&&◌, ◌∷◌, ◌≡◌, ◌||◌}
use Rattle.lq_base.specs.Name.{is_name, is_named, is_object}
use Rattle.lq_base.specs.declared.dialect.Dialect.{Dialect}
use Rattle.lq_base.specs.declared.name.Name.{Name}
use Rattle.lq_model.proofs.Lists.{all-map, all_more, and_left, and_right, and_true, same_name}
use Rattle.lq_model.specs.Catalogue.{Catalogue, Table, View, no_table, table_of, the_table, is_empty, is_in, repeats, same_names, column_names}
use Rattle.lq_model.specs.Sound.{IsSound, are_columns, is_view, wanted_names}
use Rattle.lq_model.specs.Comparison.{is_spelled}
use Rattle.lq_model.specs.Step.{is_query, is_wanted}
use Rattle.lq_model.specs.Truth.{names_in}
use Rattle.lq_model.specs.declared.column.Column.{Column}
use Rattle.lq_model.specs.declared.query.Wanted.{Wanted}
use Rattle.lq_model.specs.declared.query.Wanted.TheVariants as wanted
use Rattle.laws_generate.proofs.PlainNames.{HasPlainColumns, among, looked_object, looked_plain}

same_list : (ns ms : List Name) → same_names ns ms ≡ true → ns ≡ ms
same_list [] [] same = refl
same_list [] (m ∷ ms) same = absurd Prim.cc
same_list (n ∷ ns) [] same = absurd Prim.cc
same_list (n ∷ ns) (m ∷ ms) same = ap (λ x. x ∷ ns) (same_name n m (and_left (is_named n m) _ same)) ∙ ap (λ xs. m ∷ xs) (same_list ns ms (and_right (is_named n m) _ same))

wanted_written : (w : Wanted) (ns : List Name) → same_names (wanted_names w) ns ≡ true → not (is_empty ns) ≡ true → list_all is_name ns ≡ true → is_wanted w ≡ true
wanted_written (wanted.Columns ms) ns same some named = ap (λ xs. not (is_empty xs) && list_all is_name xs) (same_list ms ns same) ∙ and_true (not (is_empty ns)) (list_all is_name ns) some named
wanted_written _ ns same some named = refl

module _ (d : Dialect) (c : Catalogue) (objects : AllByRecursion (λ (e : Name × Table). is_object d e.0 ≡ true) c.tables) (plain : AllByRecursion HasPlainColumns c.tables) (v : View) where
  abbrev it : Table
  it = the_table c v.query.table

  query_written : is_view c v ≡ true → is_query d v.query ≡ true
  query_written h =
      let t = v.query.table in
      let object : is_object d t ≡ true = looked_object d t c.tables objects (and_left (is_some (table_of c t)) _ h) in
      let named : list_all is_name (column_names it) ≡ true = all-map is_name (λ (x : Column). x.name) it.columns ∙ looked_plain t c.tables plain in
      let rest = and_right (is_some (table_of c t)) _ h in
      let columns = and_left (are_columns it v.columns) _ rest in
      let test = and_right (are_columns it v.columns) _ rest in
      let there = and_left (list_all (λ n. is_in n (column_names it)) (names_in v.query.test)) _ test in
      let last = and_right (list_all (λ n. is_in n (column_names it)) (names_in v.query.test)) _ test in
      let same = and_left (same_names (wanted_names v.query.wanted) v.columns) _ last in
      let spelled = and_left (is_spelled v.query.test) _ (and_right (same_names (wanted_names v.query.wanted) v.columns) _ last) in
      let some = and_left (not (is_empty v.columns)) _ columns in
      let listed = and_right (not (repeats v.columns)) _ (and_right (not (is_empty v.columns)) _ columns) in
      and_true (is_wanted v.query.wanted) _ (wanted_written v.query.wanted v.columns same some (among v.columns (column_names it) named listed))
      (and_true (is_object d t) _ object
      (and_true (list_all is_name (names_in v.query.test)) (is_spelled v.query.test) (among (names_in v.query.test) (column_names it) named there) spelled))

pub queries_written : (d : Dialect) (c : Catalogue) → IsSound d c → AllByRecursion (λ (e : Name × Table). is_object d e.0 ≡ true) c.tables → AllByRecursion HasPlainColumns c.tables → list_all (λ (v : Name × View). is_query d v.1.query) c.views ≡ true
queries_written d c sound objects plain = all_more (λ (v : Name × View). is_view c v.1) (λ (v : Name × View). is_query d v.1.query) c.views (λ v h. query_written d c objects plain v.1 h) sound.views
