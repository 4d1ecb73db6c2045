-- Columns, constraints and tables over an unquoted word that is not reserved.
use Rattle.std.proofs.Common.{◌≡◌, true, false, if◌then◌else◌, [], ◌∷◌, Option, Some, None, inl, inr, ap, refl}
use Rattle.lq_base.specs.declared.dialect.Dialect.{Dialect}
use Rattle.lq_base.specs.declared.dialect.Dialect.TheVariants.{Mysql, Postgresql}
use Rattle.lq_base.specs.declared.name.Name.{Name}
use Rattle.lq_model.specs.Sound.{foreign_name, key_name, unique_name}
use Rattle.lq_model.specs.SqlTable.{added_column, clause_by, column_clause, column_foreign, column_key, column_of, column_unique, column_with, differ, foreign_to, has_constraint, identity, stated_column, target, column_item, create_table, table_item, table_of}
use Rattle.lq_model.specs.SqlConstraint.{begins_constraint, constraint_by, foreign, key, key_name_or, name_or, on_delete, on_delete_by, stated_name, table_constraint, unique}
use Rattle.lq_model.specs.SqlParser.{◌>>=◌, eat, enclosed, expect, given, many, pure, sees, skip}
use Rattle.lq_model.specs.SqlPart.{column_kind, literal, name, name_of, object}
use Rattle.lq_model.specs.declared.table_item.ColumnClause.TheVariants as clause
use Rattle.lq_model.specs.declared.table_item.StatedColumn.{StatedColumn}
use Rattle.lq_model.specs.declared.table_item.TableConstraint.TheVariants as constraint
use Rattle.lq_model.specs.declared.table_item.TableItem.TheVariants as item
use Rattle.lq_model.specs.declared.table_item.Target.{Target}
use Rattle.lq_model.specs.declared.word.WordKind.{WordKind}
use Rattle.lq_model.specs.declared.word.WordKind.TheVariants as word
use Rattle.lq_spelling.proofs.ServeKinds as loose
use Rattle.lq_spelling.proofs.ServeKinds.{Loose, kind_of}
use Rattle.lq_spelling.proofs.ServeNames.{serves_kind, serves_literal, serves_name, serves_object}
use Rattle.lq_spelling.proofs.ServeParts.{Serves, Tells, serves_eat, serves_enclosed, serves_expect, serves_given, serves_if, serves_many, serves_peek, serves_pure, serves_refuse, serves_skip, serves_then}

-- columns

serves_identity : Serves identity
unfolding identity
serves_identity =
    serves_then (expect word.Generated) _ (serves_expect word.Generated) (λ a. serves_then (expect word.By) _ (serves_expect word.By) (λ b.
    serves_then (expect word.Default) _ (serves_expect word.Default) (λ c. serves_then (expect word.As) _ (serves_expect word.As) (λ e. serves_expect word.Identity))))

serves_target : (d : Dialect) → Serves (target d)
unfolding target
serves_target d =
    serves_then (object d) _ (serves_object d) (λ table. serves_then (expect word.Open) _ (serves_expect word.Open) (λ a. serves_then name _ serves_name (λ column.
    serves_then (expect word.Close) _ (serves_expect word.Close) (λ b. serves_pure (record { table = table; column = column })))))

serves_clause : (d : Dialect) → Serves (column_clause d)
unfolding column_clause identity expect sees
serves_clause d =
    serves_peek (clause_by d) (tells d) (by d)
  where
    tells : (d : Dialect) → Tells (clause_by d)
    tells Postgresql loose.Generated = inr (λ said other back. refl)
    tells Mysql loose.AutoIncrement = inr (λ said other back. refl)
    tells _ _ = inl (λ i. refl)

    by : (d : Dialect) (k : WordKind) → Serves (clause_by d k)
    by d word.Not = serves_then skip _ serves_skip (λ a. serves_then (expect word.Null) _ (serves_expect word.Null) (λ b. serves_pure (Some (clause.Nullable false))))
    by d word.Null = serves_then skip _ serves_skip (λ a. serves_pure (Some (clause.Nullable true)))
    by d word.Default = serves_then skip _ serves_skip (λ a. serves_then literal _ serves_literal (λ it. serves_pure (Some (clause.Default it))))
    by d word.Primary = serves_then skip _ serves_skip (λ a. serves_then (expect word.Key) _ (serves_expect word.Key) (λ b. serves_pure (Some clause.PrimaryKey)))
    by d word.Unique = serves_then skip _ serves_skip (λ a. serves_pure (Some clause.Unique))
    by d word.References = serves_then skip _ serves_skip (λ a. serves_then (target d) _ (serves_target d) (λ it. serves_pure (Some (clause.References it))))
    by Postgresql word.Generated = serves_then identity _ serves_identity (λ a. serves_pure (Some clause.Numbered))
    by Mysql word.AutoIncrement = serves_then skip _ serves_skip (λ a. serves_pure (Some clause.Numbered))
    by d _ = serves_pure None

serves_stated : (d : Dialect) → Serves (stated_column d)
unfolding stated_column
serves_stated d =
    serves_then name _ serves_name (λ named. serves_then column_kind _ serves_kind (λ kind. serves_then (many (column_clause d)) _ (serves_many (column_clause d) (serves_clause d)) (λ found.
    serves_if (differ found) _ _ (serves_pure (column_with named kind found)) serves_refuse)))

pub serves_added : (d : Dialect) → Serves (added_column d)
unfolding added_column
serves_added d = serves_then (stated_column d) _ (serves_stated d) (λ c. serves_if (has_constraint c) _ _ serves_refuse (serves_pure (column_of c)))

serves_column_key : (d : Dialect) (table : Name) (c : StatedColumn) → Serves (column_key d table c)
unfolding column_key
serves_column_key d table c =
    serves_if c.key _ _ (serves_then (given (name_of (key_name d table))) _ (serves_given (name_of (key_name d table))) (λ named. serves_pure (Some (record { name = named; columns = c.name ∷ [] })))) (serves_pure None)

serves_column_unique : (table : Name) (c : StatedColumn) → Serves (column_unique table c)
unfolding column_unique
serves_column_unique table c =
    serves_if c.unique _ _ (serves_then (given (name_of (unique_name table (c.name ∷ [])))) _ (serves_given (name_of (unique_name table (c.name ∷ []))))
    (λ named. serves_pure (Some (record { name = named; columns = c.name ∷ [] })))) (serves_pure None)

serves_column_foreign : (table column : Name) (it : Option Target) → Serves (column_foreign table column it)
unfolding column_foreign foreign_to
serves_column_foreign table column None = serves_pure None
serves_column_foreign table column (Some it) =
    serves_then (given (name_of (foreign_name table (column ∷ [])))) _ (serves_given (name_of (foreign_name table (column ∷ []))))
    (λ named. serves_pure (Some (record { name = named; columns = column ∷ []; table = it.table; targets = it.column ∷ []; cascade = false })))

-- constraints

serves_name_or : (other : Name) (stated : Option Name) → Serves (name_or other stated)
serves_name_or other (Some stated) = serves_pure stated
serves_name_or other None = serves_given (name_of other)

serves_key_name : (d : Dialect) (table : Name) (stated : Option Name) → Serves (key_name_or d table stated)
serves_key_name Postgresql table stated = serves_name_or (key_name Postgresql table) stated
serves_key_name Mysql table stated = serves_name_or (key_name Mysql table) None

serves_key : (d : Dialect) (table : Name) (stated : Option Name) → Serves (key d table stated)
unfolding key
serves_key d table stated =
    serves_then (expect word.Primary) _ (serves_expect word.Primary) (λ a. serves_then (expect word.Key) _ (serves_expect word.Key) (λ b.
    serves_then (enclosed name) _ (serves_enclosed name serves_name) (λ columns. serves_then (key_name_or d table stated) _ (serves_key_name d table stated)
    (λ named. serves_pure (record { name = named; columns = columns })))))

serves_unique : (table : Name) (stated : Option Name) → Serves (unique table stated)
unfolding unique
serves_unique table stated =
    serves_then (expect word.Unique) _ (serves_expect word.Unique) (λ a. serves_then (enclosed name) _ (serves_enclosed name serves_name) (λ columns.
    serves_then (name_or (unique_name table columns) stated) _ (serves_name_or (unique_name table columns) stated) (λ named. serves_pure (record { name = named; columns = columns }))))

serves_on_delete : Serves on_delete
unfolding on_delete
serves_on_delete =
    serves_then (eat word.On) _ (serves_eat word.On refl) (λ stated. serves_if stated _ _
    (serves_then (expect word.Delete) _ (serves_expect word.Delete) (λ a. serves_peek on_delete_by tells by)) (serves_pure false))
  where
    tells : Tells on_delete_by
    tells loose.Cascade = inr (λ said other back. refl)
    tells loose.Restrict = inr (λ said other back. refl)
    tells loose.No = inr (λ said other back. refl)
    tells _ = inl (λ i. refl)

    by : (k : WordKind) → Serves (on_delete_by k)
    by word.Cascade = serves_then skip _ serves_skip (λ a. serves_pure true)
    by word.Restrict = serves_then skip _ serves_skip (λ a. serves_pure false)
    by word.No = serves_then skip _ serves_skip (λ a. serves_then (expect word.Action) _ (serves_expect word.Action) (λ b. serves_pure false))
    by _ = serves_refuse

serves_foreign : (d : Dialect) (table : Name) (stated : Option Name) → Serves (foreign d table stated)
unfolding foreign
serves_foreign d table stated =
    serves_then (expect word.Foreign) _ (serves_expect word.Foreign) (λ a. serves_then (expect word.Key) _ (serves_expect word.Key) (λ b.
    serves_then (enclosed name) _ (serves_enclosed name serves_name) (λ columns. serves_then (expect word.References) _ (serves_expect word.References) (λ c.
    serves_then (object d) _ (serves_object d) (λ target. serves_then (enclosed name) _ (serves_enclosed name serves_name) (λ targets. serves_then on_delete _ serves_on_delete (λ cascade.
    serves_then (name_or (foreign_name table columns) stated) _ (serves_name_or (foreign_name table columns) stated)
    (λ named. serves_pure (record { name = named; columns = columns; table = target; targets = targets; cascade = cascade })))))))))

pub starts_same : (l : Loose) → begins_constraint word.Quoted ≡ begins_constraint (kind_of l)
starts_same loose.Plain = refl
starts_same _ = refl

pub serves_constraint : (d : Dialect) (table : Name) → Serves (table_constraint d table)
unfolding table_constraint stated_name
serves_constraint d table =
    serves_then stated_name _ (serves_then (eat word.Constraint) _ (serves_eat word.Constraint refl) (λ stated. serves_if stated _ _ (serves_then name _ serves_name (λ found. serves_pure (Some found))) (serves_pure None)))
    (λ stated. serves_peek (constraint_by d table stated) (tells stated) (by stated))
  where
    tells : (stated : Option Name) → Tells (constraint_by d table stated)
    tells stated loose.Plain = inl (λ i. refl)
    tells stated _ = inl (λ i. refl)

    by : (stated : Option Name) (k : WordKind) → Serves (constraint_by d table stated k)
    by stated word.Primary = serves_then (key d table stated) _ (serves_key d table stated) (λ found. serves_pure (constraint.Key found))
    by stated word.Unique = serves_then (unique table stated) _ (serves_unique table stated) (λ found. serves_pure (constraint.Unique found))
    by stated word.Foreign = serves_then (foreign d table stated) _ (serves_foreign d table stated) (λ found. serves_pure (constraint.Foreign found))
    by stated _ = serves_refuse

-- tables

serves_column_item : (d : Dialect) (table : Name) → Serves (column_item d table)
unfolding column_item
serves_column_item d table =
    serves_then (stated_column d) _ (serves_stated d) (λ c. serves_then (column_key d table c) _ (serves_column_key d table c) (λ key.
    serves_then (column_unique table c) _ (serves_column_unique table c) (λ unique. serves_then (column_foreign table c.name c.target) _ (serves_column_foreign table c.name c.target)
    (λ foreign. serves_pure (item.Column (column_of c) key unique foreign)))))

serves_item : (d : Dialect) (table : Name) → Serves (table_item d table)
unfolding table_item
serves_item d table =
    serves_peek _ (λ l. inl (λ i. ap (λ begun. (if begun then table_constraint d table >>= (λ it. pure (item.Constraint it)) else column_item d table) i) (starts_same l)))
    (λ k. serves_if (begins_constraint k) _ _ (serves_then (table_constraint d table) _ (serves_constraint d table) (λ it. serves_pure (item.Constraint it))) (serves_column_item d table))

pub serves_table : (d : Dialect) → Serves (create_table d)
unfolding create_table
serves_table d =
    serves_then (object d) _ (serves_object d) (λ table. serves_then (enclosed (table_item d table)) _ (serves_enclosed (table_item d table) (serves_item d table)) (λ items. serves_given (table_of table items)))
