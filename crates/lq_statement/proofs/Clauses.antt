-- A column's clauses, said from the last to the first.
use Rattle.std.proofs.Common.{◌≡◌, List, [], ◌∷◌, ◌++◌, ap, refl}
use Rattle.lq_base.specs.declared.kind.Kind.{Kind}
use Rattle.lq_base.specs.declared.name.Name.{Name}
use Rattle.lq_model.specs.SqlTable.{column_with}
use Rattle.lq_model.specs.declared.table_item.ColumnClause.{ColumnClause}
use Rattle.lq_model.specs.declared.table_item.StatedColumn.{StatedColumn}
use Rattle.lq_statement.specs.Clauses.{with_clause}

abbrev pub with_clauses : List ColumnClause → StatedColumn → StatedColumn
with_clauses [] column = column
with_clauses (c ∷ cs) column = with_clause c (with_clauses cs column)

-- those of a column that began without any
pub clauses_are : (n : Name) (k : Kind) (cs : List ColumnClause) → with_clauses cs (column_with n k []) ≡ column_with n k cs
clauses_are n k [] = refl
clauses_are n k (c ∷ cs) = ap (with_clause c) (clauses_are n k cs)

-- the last is said first
pub last_clause : (cs : List ColumnClause) (c : ColumnClause) (column : StatedColumn) → with_clauses (cs ++ c ∷ []) column ≡ with_clauses cs (with_clause c column)
last_clause [] c column = refl
last_clause (x ∷ cs) c column = ap (with_clause x) (last_clause cs c column)
