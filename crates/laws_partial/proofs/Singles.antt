-- That the types that give one statement are taken back in parts as they are whole.
use Rattle.std.specs.Option.{option_to_list}
use Rattle.std.specs.Prelude.{Bool, List, Ok, Option, Some, [], refl, true, ◌∷◌, ◌≡◌}
use Rattle.lq_base.specs.declared.dialect.Dialect.{Dialect}
use Rattle.lq_base.specs.declared.dialect.Dialect.TheVariants.{Mysql, Postgresql}
use Rattle.lq_model.specs.declared.statement.Statement.TheVariants as statement
use Rattle.lq_reverse.proofs.Parts.{single}
use Rattle.lq_reverse.specs.Back.{PartsBack, back}
use Rattle.lq_tree.specs.Values.{literal_of}
use Rattle.laws_partial.specs.Parts.{SingleParts}
use Rattle.lq_tables.specs.CreateTable as create_table
use Rattle.lq_tables.specs.CreateTableLaws as create_table_laws
use Rattle.lq_tables.specs.RenameTable as rename_table
use Rattle.lq_rename_column.specs.RenameColumn as rename_column
use Rattle.lq_nullable.specs.DropNotNull as drop_not_null
use Rattle.lq_columns.specs.AddDefaultValue as add_default_value
use Rattle.lq_primary_keys.specs.AddPrimaryKey as add_primary_key
use Rattle.lq_uniques.specs.AddUnique as add_unique
use Rattle.lq_keys.specs.AddForeignKey as add_foreign_key
use Rattle.lq_keys.specs.CreateIndex as create_index
use Rattle.lq_views.specs.CreateView as create_view
use Rattle.lq_views.specs.RenameView as rename_view
use Rattle.lq_views.specs.CreateSequence as create_sequence
use Rattle.lq_views.specs.RenameSequence as rename_sequence
use Rattle.lq_tables.specs.declared.create_table.CreateTable.{CreateTable}
use Rattle.lq_tables.specs.declared.rename_table.RenameTable.{RenameTable}
use Rattle.lq_rename_column.specs.declared.rename_column.RenameColumn.{RenameColumn}
use Rattle.lq_nullable.specs.declared.drop_not_null.DropNotNullConstraint.{DropNotNullConstraint}
use Rattle.lq_columns.specs.declared.add_default_value.AddDefaultValue.{AddDefaultValue}
use Rattle.lq_primary_keys.specs.declared.add_primary_key.AddPrimaryKey.{AddPrimaryKey}
use Rattle.lq_uniques.specs.declared.add_unique.AddUniqueConstraint.{AddUniqueConstraint}
use Rattle.lq_keys.specs.declared.add_foreign_key.AddForeignKeyConstraint.{AddForeignKeyConstraint}
use Rattle.lq_keys.specs.declared.create_index.CreateIndex.{CreateIndex}
use Rattle.lq_views.specs.declared.create_view.CreateView.{CreateView}
use Rattle.lq_views.specs.declared.rename_view.RenameView.{RenameView}
use Rattle.lq_views.specs.declared.create_sequence.CreateSequence.{CreateSequence}
use Rattle.lq_views.specs.declared.rename_sequence.RenameSequence.{RenameSequence}

create_table_parts : PartsBack create_table.is_for create_table.gives create_table.is_fresh create_table.inverse
create_table_parts d x c p undoing first rest right sound new taken are ran = single create_table.is_for create_table.gives create_table.effect create_table.is_fresh create_table.inverse create_table_laws.does create_table_laws.restores d x (create_table.creates d x) refl refl c p first rest right sound new are ran

rename_table_parts : PartsBack rename_table.is_for rename_table.gives rename_table.is_fresh rename_table.inverse
rename_table_parts d x c p undoing first rest right sound new taken are ran = single rename_table.is_for rename_table.gives rename_table.effect rename_table.is_fresh rename_table.inverse rename_table.does rename_table.restores d x (statement.RenameTable x.old_table_name (rename_table.renamed_to x)) refl refl c p first rest right sound new are ran

rename_column_parts : PartsBack rename_column.is_for rename_column.gives rename_column.is_fresh rename_column.inverse
rename_column_parts d x c p undoing first rest right sound new taken are ran = single rename_column.is_for rename_column.gives rename_column.effect rename_column.is_fresh rename_column.inverse rename_column.does rename_column.restores d x (rename_column.renames x.table_name x.old_column_name x.new_column_name) refl refl c p first rest right sound new are ran

drop_not_null_undone : (d : Dialect) (x : DropNotNullConstraint) → drop_not_null.inverse d x ≡ Some (option_to_list (back d (drop_not_null.sets d x true)))
drop_not_null_undone Postgresql x = refl
drop_not_null_undone Mysql x = refl

drop_not_null_parts : PartsBack drop_not_null.is_for drop_not_null.gives drop_not_null.is_fresh drop_not_null.inverse
drop_not_null_parts d x c p undoing first rest right sound new taken are ran = single drop_not_null.is_for drop_not_null.gives drop_not_null.effect drop_not_null.is_fresh drop_not_null.inverse drop_not_null.does drop_not_null.restores d x (drop_not_null.sets d x true) refl (drop_not_null_undone d x) c p first rest right sound new are ran

add_default_value_parts : PartsBack add_default_value.is_for add_default_value.gives add_default_value.is_fresh add_default_value.inverse
add_default_value_parts d x c p undoing first rest right sound new taken are ran = single add_default_value.is_for add_default_value.gives add_default_value.effect add_default_value.is_fresh add_default_value.inverse add_default_value.does add_default_value.restores d x (statement.SetDefault x.table_name x.column_name (literal_of x.default_value)) refl refl c p first rest right sound new are ran

add_primary_key_undone : (d : Dialect) (x : AddPrimaryKey) → add_primary_key.inverse d x ≡ Some (option_to_list (back d (statement.AddPrimaryKey x.table_name (add_primary_key.key_of d x))))
add_primary_key_undone Postgresql x = refl
add_primary_key_undone Mysql x = refl

add_primary_key_parts : PartsBack add_primary_key.is_for add_primary_key.gives add_primary_key.is_fresh add_primary_key.inverse
add_primary_key_parts d x c p undoing first rest right sound new taken are ran = single add_primary_key.is_for add_primary_key.gives add_primary_key.effect add_primary_key.is_fresh add_primary_key.inverse add_primary_key.does add_primary_key.restores d x (statement.AddPrimaryKey x.table_name (add_primary_key.key_of d x)) refl (add_primary_key_undone d x) c p first rest right sound new are ran

add_unique_undone : (d : Dialect) (x : AddUniqueConstraint) → add_unique.inverse d x ≡ Some (option_to_list (back d (statement.AddUnique x.table_name (add_unique.unique_of x))))
add_unique_undone Postgresql x = refl
add_unique_undone Mysql x = refl

add_unique_parts : PartsBack add_unique.is_for add_unique.gives add_unique.is_fresh add_unique.inverse
add_unique_parts d x c p undoing first rest right sound new taken are ran = single add_unique.is_for add_unique.gives add_unique.effect add_unique.is_fresh add_unique.inverse add_unique.does add_unique.restores d x (statement.AddUnique x.table_name (add_unique.unique_of x)) refl (add_unique_undone d x) c p first rest right sound new are ran

add_foreign_key_undone : (d : Dialect) (x : AddForeignKeyConstraint) → add_foreign_key.inverse d x ≡ Some (option_to_list (back d (statement.AddForeignKey x.base_table_name (add_foreign_key.foreign_of x))))
add_foreign_key_undone Postgresql x = refl
add_foreign_key_undone Mysql x = refl

add_foreign_key_parts : PartsBack add_foreign_key.is_for add_foreign_key.gives add_foreign_key.is_fresh add_foreign_key.inverse
add_foreign_key_parts d x c p undoing first rest right sound new taken are ran = single add_foreign_key.is_for add_foreign_key.gives add_foreign_key.effect add_foreign_key.is_fresh add_foreign_key.inverse add_foreign_key.does add_foreign_key.restores d x (statement.AddForeignKey x.base_table_name (add_foreign_key.foreign_of x)) refl (add_foreign_key_undone d x) c p first rest right sound new are ran

create_index_undone : (d : Dialect) (x : CreateIndex) → create_index.inverse d x ≡ Some (option_to_list (back d (statement.CreateIndex x.table_name (create_index.index_of x))))
create_index_undone Postgresql x = refl
create_index_undone Mysql x = refl

create_index_parts : PartsBack create_index.is_for create_index.gives create_index.is_fresh create_index.inverse
create_index_parts d x c p undoing first rest right sound new taken are ran = single create_index.is_for create_index.gives create_index.effect create_index.is_fresh create_index.inverse create_index.does create_index.restores d x (statement.CreateIndex x.table_name (create_index.index_of x)) refl (create_index_undone d x) c p first rest right sound new are ran

create_view_parts : PartsBack create_view.is_for create_view.gives create_view.is_fresh create_view.inverse
create_view_parts d x c p undoing first rest right sound new taken are ran = single create_view.is_for create_view.gives create_view.effect create_view.is_fresh create_view.inverse create_view.does create_view.restores d x (statement.CreateView x.view_name (create_view.query x) (create_view.replaces x)) refl refl c p first rest right sound new are ran

rename_view_undone : (d : Dialect) (x : RenameView) → rename_view.inverse d x ≡ Some (option_to_list (back d (rename_view.renames d x.old_view_name x.new_view_name)))
rename_view_undone Postgresql x = refl
rename_view_undone Mysql x = refl

rename_view_parts : PartsBack rename_view.is_for rename_view.gives rename_view.is_fresh rename_view.inverse
rename_view_parts d x c p undoing first rest right sound new taken are ran = single rename_view.is_for rename_view.gives rename_view.effect rename_view.is_fresh rename_view.inverse rename_view.does rename_view.restores d x (rename_view.renames d x.old_view_name x.new_view_name) refl (rename_view_undone d x) c p first rest right sound new are ran

create_sequence_parts : PartsBack create_sequence.is_for create_sequence.gives create_sequence.is_fresh create_sequence.inverse
create_sequence_parts d x c p undoing first rest right sound new taken are ran = single create_sequence.is_for create_sequence.gives create_sequence.effect create_sequence.is_fresh create_sequence.inverse create_sequence.does create_sequence.restores d x (statement.CreateSequence x.sequence_name x.start_value x.increment_by) refl refl c p first rest right sound new are ran

rename_sequence_parts : PartsBack rename_sequence.is_for rename_sequence.gives rename_sequence.is_fresh rename_sequence.inverse
rename_sequence_parts d x c p undoing first rest right sound new taken are ran = single rename_sequence.is_for rename_sequence.gives rename_sequence.effect rename_sequence.is_fresh rename_sequence.inverse rename_sequence.does rename_sequence.restores d x (statement.RenameSequence x.old_sequence_name x.new_sequence_name) refl refl c p first rest right sound new are ran

pub parts : SingleParts
parts = (create_table_parts, rename_table_parts, rename_column_parts, drop_not_null_parts, add_default_value_parts, add_primary_key_parts, add_unique_parts, add_foreign_key_parts, create_index_parts, create_view_parts, rename_view_parts, create_sequence_parts, rename_sequence_parts)
