-- Lemmas on a table whose columns and rows change together.
use Rattle.std.proofs.Common.{List, [], ap, false, length, map, refl, sym, true, ◌++◌, ◌∙◌, ◌∷◌, ◌≡◌}
use Rattle.std.specs.Prelude.{None, Ok, Option, Result, Some, is_none, is_some}
use Rattle.lq_base.specs.Name.{is_named}
use Rattle.lq_base.specs.declared.name.Name.{Name}
use Rattle.lq_base.specs.declared.value.Value.{Value}
use Rattle.lq_chain.specs.History.{History}
use Rattle.lq_chain.specs.Marks.{replaced}
use Rattle.lq_model.specs.Catalogue.{Catalogue, Table, table_of, the_table, with_table}
use Rattle.lq_model.specs.Tables.{columns_without, row_without, with_column, without_column}
use Rattle.lq_model.specs.Kinds.{default_value}
use Rattle.lq_model.specs.declared.column.Column.{Column}
use Rattle.lq_model.proofs.Decide.{here}
use Rattle.lq_model.proofs.Maps.{lookup-set_value}
use Rattle.lq_model.proofs.Kept.{the_table-with_table, with_table-with_table}
use Rattle.lq_decide.proofs.Touched.{length_mapped}
use Rattle.lq_rows.specs.Stored.{Continues, Means, shape_of, with_all, with_shape}
use Rattle.lq_rows.specs.declared.fault.RunFault.{RunFault}
use Rattle.lq_rows.specs.declared.shape.Shape.{Shape}
use Rattle.lq_arm.proofs.Arms.{good}
use Rattle.lq_arm.specs.Verdict.{verdict_of}
use Rattle.lq_arm.specs.declared.tests.Tests.{Tests}
use Rattle.lq_columnops.specs.OnColumn.{Done}

-- every row is replaced
pub replaced_all : (f : List Value → List Value) (rows : List (List Value)) → replaced (map (λ r. Some (f r)) rows) rows ≡ map f rows
replaced_all f [] = refl
replaced_all f (r ∷ rows) = ap (λ rs. f r ∷ rs) (replaced_all f rows)

is_here : (o : Option Table) → is_some o ≡ true → is_none o ≡ false
is_here (Some x) h = refl
is_here None h = sym h

module _ (c : Catalogue) (t : Name) (is : is_some (table_of c t) ≡ true) where
  stands : table_of c t ≡ Some (the_table c t)
  stands = here c t (is_here (table_of c t) is)

  pub the_table_is : (it : Table) → the_table (with_table c t it) t ≡ it
  the_table_is it = the_table-with_table c t it stands

  pub still_there : (it : Table) → is_some (table_of (with_table c t it) t) ≡ true
  still_there it = ap is_some (lookup-set_value (is_named t) c.tables (the_table c t) it stands)

  -- another shape, and then other rows
  pub both : (shape : Shape) (f : List (List Value) → List (List Value))
      → with_table (with_table c t (with_shape shape (the_table c t))) t (with_all f (the_table (with_table c t (with_shape shape (the_table c t))) t)) ≡ with_table c t (with_all f (with_shape shape (the_table c t)))
  both shape f =
      let new = with_shape shape (the_table c t) in
      ap (λ it. with_table (with_table c t new) t (with_all f it)) (the_table_is new) ∙ with_table-with_table c t new (with_all f new)

-- all rows are asked for
pub each_less : (it : Table) (n : Name) (by : List (Option (List Value))) → by ≡ map (λ r. Some (row_without n it.columns r)) it.rows → length by ≡ length it.rows
each_less it n by is = ap length is ∙ length_mapped (λ r. Some (row_without n it.columns r)) it.rows

pub each_more : (it : Table) (v : Value) (by : List (Option (List Value))) → by ≡ map (λ r. Some (r ++ v ∷ [])) it.rows → length by ≡ length it.rows
each_more it v by is = ap length is ∙ length_mapped (λ r. Some (r ++ v ∷ [])) it.rows

-- the table without the column
pub less_is : (it : Table) (n : Name) (by : List (Option (List Value))) (shape : Shape) (columns : List Column) → by ≡ map (λ r. Some (row_without n it.columns r)) it.rows → shape ≡ shape_of it → columns ≡ columns_without n shape.columns
    → with_all (replaced by) (with_shape (record shape { columns = columns }) it) ≡ without_column n it
less_is it n by shape columns rows same less = rw (less, same, rows) (ap (λ rs. record it { columns = columns_without n it.columns; rows = rs }) (replaced_all (row_without n it.columns) it.rows))

-- the table with the column
pub more_is : (it : Table) (column : Column) (by : List (Option (List Value))) (shape : Shape) (columns : List Column) → by ≡ map (λ r. Some (r ++ default_value column ∷ [])) it.rows → shape ≡ shape_of it → columns ≡ shape.columns ++ column ∷ []
    → with_all (replaced by) (with_shape (record shape { columns = columns }) it) ≡ with_column column it
more_is it column by shape columns rows same more = rw (more, same, rows) (ap (λ rs. record it { columns = it.columns ++ column ∷ []; rows = rs }) (replaced_all (λ r. r ++ default_value column ∷ []) it.rows))

-- what was done where nothing is against it
pub did : (tests : Tests) (after : Catalogue) (old new : History Catalogue) (verdict : Result Unit RunFault) → Means (verdict_of tests) verdict → verdict ≡ Ok tt → new.now ≡ after → Continues old new → Done tests after old new (Ok 0)
did tests after old new verdict means at is goes = (good (verdict_of tests) verdict means at, refl, is, goes)
