-- Statements over an unquoted word that is not reserved.
use Rattle.std.proofs.Common.{◌≡◌, Bool, true, false, if◌then◌else◌, [], Some, None, inl, inr, ap, ◌∙◌, sym, refl, pos}
use Rattle.std.specs.Ordering.{int_eq}
use Rattle.lq_base.specs.Name.{beside, text_of}
use Rattle.lq_base.specs.declared.dialect.Dialect.{Dialect}
use Rattle.lq_base.specs.declared.dialect.Dialect.TheVariants.{Mysql, Postgresql}
use Rattle.lq_base.specs.declared.literal.Literal.{Literal}
use Rattle.lq_base.specs.declared.literal.Literal.TheVariants as constant
use Rattle.lq_base.specs.declared.name.Name.{Name}
use Rattle.lq_model.specs.SqlAlter.{add, add_column, add_constraint, alter, alter_by, alter_column, alter_column_by, alter_sequence, alter_table, alter_table_by, alter_view, constraint_added, drop_part, drop_part_by, modify, new_name, rename_column, rename_part, rename_table_to, set_by, set_part, unset_by, unset_part, drop_index, drop_object, drop_object_by, rename_table}
use Rattle.lq_model.specs.SqlTable.{added_column}
use Rattle.lq_model.specs.SqlConstraint.{begins_constraint, table_constraint}
use Rattle.lq_model.specs.SqlStatement.{create, create_by, create_index, create_sequence, create_view, step, whole, whole_of, statement, statement_by}
use Rattle.lq_model.specs.SqlParser.{◌>>=◌, eat, enclosed, expect, pure, same_kind, sees, separated, skip}
use Rattle.lq_model.specs.SqlPart.{column_kind, literal, name, object}
use Rattle.lq_model.specs.SqlQuery.{query}
use Rattle.lq_model.specs.SqlRows.{assignment, delete, insert, stated_columns, update}
use Rattle.lq_model.specs.SqlTest.{where_test}
use Rattle.lq_model.specs.declared.statement.Statement.TheVariants.{AddColumn, CreateIndex, CreateSequence, CreateView, Delete, DropColumn, DropConstraint, DropDefault, DropForeignKey, DropIndex, DropNotNull, DropPrimaryKey, DropSequence, DropTable, DropUnique, DropView, Insert, Modify, RenameColumn, RenameSequence, RenameTable, RenameView, SetDefault, SetNotNull, Update}
use Rattle.lq_model.specs.declared.word.WordKind.{WordKind}
use Rattle.lq_model.specs.declared.word.WordKind.TheVariants as word
use Rattle.lq_spelling.proofs.ServeKinds as loose
use Rattle.lq_spelling.proofs.ServeKinds.{Loose, apart, kind_of}
use Rattle.lq_spelling.proofs.ServeNames.{serves_kind, serves_literal, serves_name, serves_object}
use Rattle.lq_spelling.proofs.ServeParts.{Serves, Tells, serves_eat, serves_enclosed, serves_expect, serves_if, serves_peek, serves_pure, serves_refuse, serves_separated, serves_skip, serves_then}
use Rattle.lq_spelling.proofs.ServeTables.{serves_added, serves_constraint, serves_table, starts_same}
use Rattle.lq_spelling.proofs.ServeTests.{serves_query, serves_where}

-- a name, and then what it makes
serves_named : {A : Type 0} (make : Name → A) → Serves (name >>= (λ n. pure (make n)))
serves_named make = serves_then name _ serves_name (λ n. serves_pure (make n))

-- the name of an object, and then what it makes
serves_stated : {A : Type 0} (d : Dialect) (make : Name → A) → Serves (object d >>= (λ n. pure (make n)))
serves_stated d make = serves_then (object d) _ (serves_object d) (λ n. serves_pure (make n))

-- ALTER

serves_new : (old : Name) → Serves (new_name old)
unfolding new_name
serves_new old = serves_then (expect word.To) _ (serves_expect word.To) (λ a. serves_named (λ to. beside old (text_of to)))

serves_add : (d : Dialect) (table : Name) → Serves (add d table)
unfolding add add_constraint add_column
serves_add d table =
    serves_peek _ (λ l. inl (λ i. ap (λ begun. (if begun then add_constraint d table else add_column d table) i) (starts_same l)))
    (λ k. serves_if (begins_constraint k) _ _
    (serves_then (table_constraint d table) _ (serves_constraint d table) (λ found. serves_pure (constraint_added table found)))
    (serves_then (eat word.Column) _ (serves_eat word.Column refl) (λ a. serves_then (added_column d) _ (serves_added d) (λ column. serves_pure (AddColumn table column)))))

serves_drop_part : (d : Dialect) (table : Name) → Serves (drop_part d table)
unfolding drop_part
serves_drop_part d table =
    serves_peek (drop_part_by d table) (tells d) (by d)
  where
    tells : (d : Dialect) → Tells (drop_part_by d table)
    tells Mysql loose.Index = inr (λ said other back. refl)
    tells Postgresql loose.Plain = inl (λ i. refl)
    tells _ _ = inl (λ i. refl)

    by : (d : Dialect) (k : WordKind) → Serves (drop_part_by d table k)
    by d word.Column = serves_then skip _ serves_skip (λ a. serves_named (DropColumn table))
    by Postgresql word.Constraint = serves_then skip _ serves_skip (λ a. serves_named (DropConstraint table))
    by Mysql word.Primary = serves_then skip _ serves_skip (λ a. serves_then (expect word.Key) _ (serves_expect word.Key) (λ b. serves_pure (DropPrimaryKey table)))
    by Mysql word.Index = serves_then skip _ serves_skip (λ a. serves_named (DropUnique table))
    by Mysql word.Foreign = serves_then skip _ serves_skip (λ a. serves_then (expect word.Key) _ (serves_expect word.Key) (λ b. serves_named (DropForeignKey table)))
    by d _ = serves_refuse

serves_set_part : (d : Dialect) (table column : Name) → Serves (set_part d table column)
unfolding set_part
serves_set_part d table column =
    serves_peek (set_by d table column) (tells d) (by d)
  where
    tells : (d : Dialect) → Tells (set_by d table column)
    tells Postgresql loose.Plain = inl (λ i. refl)
    tells Mysql loose.Plain = inl (λ i. refl)
    tells _ _ = inl (λ i. refl)

    by : (d : Dialect) (k : WordKind) → Serves (set_by d table column k)
    by Postgresql word.Not = serves_then skip _ serves_skip (λ a. serves_then (expect word.Null) _ (serves_expect word.Null) (λ b. serves_pure (SetNotNull table column)))
    by d word.Default = serves_then skip _ serves_skip (λ a. serves_then literal _ serves_literal (λ value. serves_pure (SetDefault table column value)))
    by d _ = serves_refuse

serves_unset_part : (d : Dialect) (table column : Name) → Serves (unset_part d table column)
unfolding unset_part
serves_unset_part d table column =
    serves_peek (unset_by d table column) (tells d) (by d)
  where
    tells : (d : Dialect) → Tells (unset_by d table column)
    tells Postgresql loose.Plain = inl (λ i. refl)
    tells Mysql loose.Plain = inl (λ i. refl)
    tells _ _ = inl (λ i. refl)

    by : (d : Dialect) (k : WordKind) → Serves (unset_by d table column k)
    by Postgresql word.Not = serves_then skip _ serves_skip (λ a. serves_then (expect word.Null) _ (serves_expect word.Null) (λ b. serves_pure (DropNotNull table column)))
    by d word.Default = serves_then skip _ serves_skip (λ a. serves_pure (DropDefault table column))
    by d _ = serves_refuse

serves_alter_column : (d : Dialect) (table : Name) → Serves (alter_column d table)
unfolding alter_column
serves_alter_column d table =
    serves_then (expect word.Column) _ (serves_expect word.Column) (λ a. serves_then name _ serves_name (λ column. serves_peek (alter_column_by d table column) (tells column) (by column)))
  where
    tells : (column : Name) → Tells (alter_column_by d table column)
    tells column loose.Plain = inl (λ i. refl)
    tells column _ = inl (λ i. refl)

    by : (column : Name) (k : WordKind) → Serves (alter_column_by d table column k)
    by column word.Set = serves_then skip _ serves_skip (λ a. serves_set_part d table column)
    by column word.Drop = serves_then skip _ serves_skip (λ a. serves_unset_part d table column)
    by column _ = serves_refuse

serves_rename_to : (table : Name) → Serves (rename_table_to table)
unfolding rename_table_to
serves_rename_to table = serves_then (new_name table) _ (serves_new table) (λ to. serves_pure (RenameTable table to))

serves_rename_part : (table : Name) → Serves (rename_part table)
unfolding rename_part rename_column
serves_rename_part table =
    serves_then (eat word.Column) _ (serves_eat word.Column refl) (λ column. serves_if column _ _
    (serves_then name _ serves_name (λ column. serves_then (expect word.To) _ (serves_expect word.To) (λ a. serves_named (RenameColumn table column)))) (serves_rename_to table))

serves_modify : (table : Name) → Serves (modify table)
unfolding modify
serves_modify table =
    serves_then name _ serves_name (λ column. serves_then column_kind _ serves_kind (λ kind. serves_then (eat word.Not) _ (serves_eat word.Not refl) (λ required.
    serves_then (expect word.Null) _ (serves_expect word.Null) (λ a. serves_pure (Modify table column kind (if required then false else true))))))

serves_alter_table : (d : Dialect) → Serves (alter_table d)
unfolding alter_table
serves_alter_table d =
    serves_then (object d) _ (serves_object d) (λ table. serves_peek (alter_table_by d table) (tells d table) (by d table))
  where
    tells : (d : Dialect) (table : Name) → Tells (alter_table_by d table)
    tells d table loose.Rename = inr (λ said other back. refl)
    tells Mysql table loose.Modify = inr (λ said other back. refl)
    tells d table _ = inl (λ i. refl)

    by : (d : Dialect) (table : Name) (k : WordKind) → Serves (alter_table_by d table k)
    by d table word.Add = serves_then skip _ serves_skip (λ a. serves_add d table)
    by d table word.Alter = serves_then skip _ serves_skip (λ a. serves_alter_column d table)
    by d table word.Drop = serves_then skip _ serves_skip (λ a. serves_drop_part d table)
    by d table word.Rename = serves_then skip _ serves_skip (λ a. serves_rename_part table)
    by Mysql table word.Modify = serves_then skip _ serves_skip (λ a. serves_modify table)
    by d table _ = serves_refuse

serves_alter : (d : Dialect) → Serves (alter d)
unfolding alter alter_view alter_sequence
serves_alter d =
    serves_peek (alter_by d) (tells d) (by d)
  where
    tells : (d : Dialect) → Tells (alter_by d)
    tells Postgresql loose.View = inr (λ said other back. refl)
    tells Postgresql loose.Sequence = inr (λ said other back. refl)
    tells Mysql loose.Plain = inl (λ i. refl)
    tells d _ = inl (λ i. refl)

    by : (d : Dialect) (k : WordKind) → Serves (alter_by d k)
    by d word.Table = serves_then skip _ serves_skip (λ a. serves_alter_table d)
    by Postgresql word.View =
        serves_then skip _ serves_skip (λ a. serves_then (object Postgresql) _ (serves_object Postgresql) (λ view. serves_then (expect word.Rename) _ (serves_expect word.Rename) (λ b. serves_then (new_name view) _ (serves_new view) (λ to. serves_pure (RenameView view to)))))
    by Postgresql word.Sequence =
        serves_then skip _ serves_skip (λ a. serves_then (object Postgresql) _ (serves_object Postgresql) (λ sequence. serves_then (expect word.Rename) _ (serves_expect word.Rename) (λ b. serves_then (new_name sequence) _ (serves_new sequence) (λ to. serves_pure (RenameSequence sequence to)))))
    by d _ = serves_refuse

-- CREATE

serves_index : (d : Dialect) (once : Bool) → Serves (create_index d once)
unfolding create_index
serves_index d once =
    serves_then (expect word.Index) _ (serves_expect word.Index) (λ a. serves_then name _ serves_name (λ index. serves_then (expect word.On) _ (serves_expect word.On) (λ b.
    serves_then (object d) _ (serves_object d) (λ table. serves_then (enclosed name) _ (serves_enclosed name serves_name) (λ columns. serves_pure (CreateIndex table (record { name = index; columns = columns; unique = once })))))))

serves_view : (d : Dialect) (replace : Bool) → Serves (create_view d replace)
unfolding create_view
serves_view d replace =
    serves_then (expect word.View) _ (serves_expect word.View) (λ a. serves_then (object d) _ (serves_object d) (λ view. serves_then (expect word.As) _ (serves_expect word.As) (λ b.
    serves_then (query d) _ (serves_query d) (λ it. serves_pure (CreateView view it replace)))))

serves_whole_of : (it : Literal) → Serves (whole_of it)
serves_whole_of (constant.Int n) = serves_pure n
serves_whole_of _ = serves_refuse

serves_whole : Serves whole
unfolding whole
serves_whole = serves_then literal _ serves_literal serves_whole_of

serves_step : Serves step
unfolding step
serves_step = serves_then whole _ serves_whole (λ n. serves_if (int_eq n (pos 0)) _ _ serves_refuse (serves_pure n))

serves_sequence : (d : Dialect) → Serves (create_sequence d)
unfolding create_sequence
serves_sequence d =
    serves_then (object d) _ (serves_object d) (λ sequence. serves_then (expect word.Start) _ (serves_expect word.Start) (λ a. serves_then (expect word.With) _ (serves_expect word.With) (λ b.
    serves_then whole _ serves_whole (λ start. serves_then (expect word.Increment) _ (serves_expect word.Increment) (λ c. serves_then (expect word.By) _ (serves_expect word.By) (λ e.
    serves_then step _ serves_step (λ size. serves_pure (CreateSequence sequence start size))))))))

serves_create : (d : Dialect) → Serves (create d)
unfolding create create_index create_view expect sees
serves_create d =
    serves_peek (create_by d) (tells d) (by d)
  where
    tells : (d : Dialect) → Tells (create_by d)
    tells d loose.Index = inr (λ said other back. refl)
    tells d loose.View = inr (λ said other back. refl)
    tells Postgresql loose.Sequence = inr (λ said other back. refl)
    tells d _ = inl (λ i. refl)

    by : (d : Dialect) (k : WordKind) → Serves (create_by d k)
    by d word.Table = serves_then skip _ serves_skip (λ a. serves_table d)
    by d word.Index = serves_index d false
    by d word.Unique = serves_then skip _ serves_skip (λ a. serves_index d true)
    by d word.View = serves_view d false
    by d word.Or = serves_then skip _ serves_skip (λ a. serves_then (expect word.Replace) _ (serves_expect word.Replace) (λ b. serves_view d true))
    by Postgresql word.Sequence = serves_then skip _ serves_skip (λ a. serves_sequence Postgresql)
    by d _ = serves_refuse

-- DROP, and RENAME TABLE

serves_drop_index : (d : Dialect) → Serves (drop_index d)
unfolding drop_index
serves_drop_index Postgresql = serves_stated Postgresql (λ index. DropIndex index None)
serves_drop_index Mysql =
    serves_then name _ serves_name (λ index. serves_then (expect word.On) _ (serves_expect word.On) (λ a. serves_named (λ table. DropIndex index (Some table))))

serves_drop : (d : Dialect) → Serves (drop_object d)
unfolding drop_object
serves_drop d =
    serves_peek (drop_object_by d) (tells d) (by d)
  where
    tells : (d : Dialect) → Tells (drop_object_by d)
    tells d loose.Index = inr (λ said other back. refl)
    tells d loose.View = inr (λ said other back. refl)
    tells Postgresql loose.Sequence = inr (λ said other back. refl)
    tells d _ = inl (λ i. refl)

    by : (d : Dialect) (k : WordKind) → Serves (drop_object_by d k)
    by d word.Table = serves_then skip _ serves_skip (λ a. serves_stated d DropTable)
    by d word.Index = serves_then skip _ serves_skip (λ a. serves_drop_index d)
    by d word.View = serves_then skip _ serves_skip (λ a. serves_stated d DropView)
    by Postgresql word.Sequence = serves_then skip _ serves_skip (λ a. serves_stated Postgresql DropSequence)
    by d _ = serves_refuse

serves_rename_table : Serves rename_table
unfolding rename_table
serves_rename_table = serves_then (expect word.Table) _ (serves_expect word.Table) (λ a. serves_then name _ serves_name (λ table. serves_rename_to table))

-- rows

opens_same : (l : Loose) → same_kind word.Quoted word.Open ≡ same_kind (kind_of l) word.Open
opens_same l = apart l false word.Open refl ∙ sym (apart l true word.Open refl)

serves_columns : Serves stated_columns
unfolding stated_columns
serves_columns =
    serves_peek _ (λ l. inl (λ i. ap (λ opened. (if opened then enclosed name else pure []) i) (opens_same l)))
    (λ k. serves_if (same_kind k word.Open) _ _ (serves_enclosed name serves_name) (serves_pure []))

serves_insert : (d : Dialect) → Serves (insert d)
unfolding insert
serves_insert d =
    serves_then (expect word.Into) _ (serves_expect word.Into) (λ a. serves_then (object d) _ (serves_object d) (λ table. serves_then stated_columns _ serves_columns (λ columns.
    serves_then (expect word.Values) _ (serves_expect word.Values) (λ b. serves_then (enclosed literal) _ (serves_enclosed literal serves_literal) (λ values. serves_pure (Insert table columns values))))))

serves_assignment : Serves assignment
unfolding assignment
serves_assignment =
    serves_then name _ serves_name (λ column. serves_then (expect word.Equal) _ (serves_expect word.Equal) (λ a. serves_then literal _ serves_literal (λ value. serves_pure (column, value))))

serves_update : (d : Dialect) → Serves (update d)
unfolding update
serves_update d =
    serves_then (object d) _ (serves_object d) (λ table. serves_then (expect word.Set) _ (serves_expect word.Set) (λ a. serves_then (separated assignment) _ (serves_separated assignment serves_assignment) (λ sets.
    serves_then where_test _ serves_where (λ t. serves_pure (Update table sets t)))))

serves_delete : (d : Dialect) → Serves (delete d)
unfolding delete
serves_delete d =
    serves_then (expect word.From) _ (serves_expect word.From) (λ a. serves_then (object d) _ (serves_object d) (λ table. serves_then where_test _ serves_where (λ t. serves_pure (Delete table t))))

-- the whole

pub serves_statement : (d : Dialect) → Serves (statement d)
unfolding statement
serves_statement d =
    serves_peek (statement_by d) (tells d) (by d)
  where
    tells : (d : Dialect) → Tells (statement_by d)
    tells Mysql loose.Rename = inr (λ said other back. refl)
    tells Postgresql loose.Plain = inl (λ i. refl)
    tells d _ = inl (λ i. refl)

    by : (d : Dialect) (k : WordKind) → Serves (statement_by d k)
    by d word.Create = serves_then skip _ serves_skip (λ a. serves_create d)
    by d word.Drop = serves_then skip _ serves_skip (λ a. serves_drop d)
    by d word.Alter = serves_then skip _ serves_skip (λ a. serves_alter d)
    by Mysql word.Rename = serves_then skip _ serves_skip (λ a. serves_rename_table)
    by d word.Insert = serves_then skip _ serves_skip (λ a. serves_insert d)
    by d word.Update = serves_then skip _ serves_skip (λ a. serves_update d)
    by d word.Delete = serves_then skip _ serves_skip (λ a. serves_delete d)
    by d _ = serves_refuse
