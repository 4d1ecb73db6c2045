-- That a change of any type keeps its promises, since each type does.
use Rattle.std.proofs.Common.{ap, sym, ◌∙◌}
use Rattle.std.specs.Prelude.{List, false, refl, ℕ, ◌≡◌}
use Rattle.lq_base.specs.Name.{is_named}
use Rattle.lq_columns.specs.AddDefaultValue as add_default_value
use Rattle.lq_columns.specs.DropColumn as drop_column
use Rattle.lq_columns.specs.DropDefaultValue as drop_default_value
use Rattle.lq_data.specs.Delete as delete
use Rattle.lq_data.specs.Empty as empty
use Rattle.lq_data.specs.Insert as insert
use Rattle.lq_data.specs.SqlLaws as sql_text
use Rattle.lq_data.specs.TagDatabase as tag_database
use Rattle.lq_data.specs.Update as update
use Rattle.lq_keys.specs.AddForeignKey as add_foreign_key
use Rattle.lq_keys.specs.CreateIndex as create_index
use Rattle.lq_keys.specs.DropForeignKey as drop_foreign_key
use Rattle.lq_keys.specs.DropIndex as drop_index
use Rattle.lq_any.specs.AnyChange.{canonical_of, effect, gives, inverse, is_for, is_fresh}
use Rattle.lq_any.specs.declared.any_change.AnyChange.TheVariants.{AddColumn, AddDefaultValue, AddForeignKeyConstraint, AddNotNullConstraint, AddPrimaryKey, AddUniqueConstraint, CreateIndex, CreateSequence, CreateTable, CreateView, Delete, DropColumn, DropDefaultValue, DropForeignKeyConstraint, DropIndex, DropNotNullConstraint, DropPrimaryKey, DropSequence, DropTable, DropUniqueConstraint, DropView, Empty, Insert, LoadData, RenameColumn, RenameSequence, RenameTable, RenameView, Sql, TagDatabase, Update}
use Rattle.lq_load.specs.LoadData as load_data
use Rattle.lq_model.proofs.CanonLemmas.{change_told}
use Rattle.lq_model.proofs.Lists.{named_itself, true_false}
use Rattle.lq_model.specs.Changes.{AreReturns, AreStatements, AreTold, HaveEffect, TakeBack}
use Rattle.lq_nullable.specs.AddNotNull as add_not_null
use Rattle.lq_nullable.specs.DropNotNull as drop_not_null
use Rattle.lq_primary_keys.specs.AddPrimaryKey as add_primary_key
use Rattle.lq_primary_keys.specs.DropPrimaryKey as drop_primary_key
use Rattle.lq_rename_column.specs.RenameColumn as rename_column
use Rattle.lq_tables.specs.AddColumnLaws as add_column
use Rattle.lq_tables.specs.CreateTableLaws as create_table
use Rattle.lq_tables.specs.DropTable as drop_table
use Rattle.lq_tables.specs.RenameTable as rename_table
use Rattle.lq_uniques.specs.AddUnique as add_unique
use Rattle.lq_uniques.specs.DropUnique as drop_unique
use Rattle.lq_views.specs.CreateSequence as create_sequence
use Rattle.lq_views.specs.CreateView as create_view
use Rattle.lq_views.specs.DropSequence as drop_sequence
use Rattle.lq_views.specs.DropView as drop_view
use Rattle.lq_views.specs.RenameSequence as rename_sequence
use Rattle.lq_views.specs.RenameView as rename_view

pub spelled : AreStatements is_for gives
spelled d (CreateTable x) = create_table.spelled d x
spelled d (DropTable x) = drop_table.spelled d x
spelled d (RenameTable x) = rename_table.spelled d x
spelled d (AddColumn x) = add_column.spelled d x
spelled d (DropColumn x) = drop_column.spelled d x
spelled d (RenameColumn x) = rename_column.spelled d x
spelled d (AddPrimaryKey x) = add_primary_key.spelled d x
spelled d (DropPrimaryKey x) = drop_primary_key.spelled d x
spelled d (AddForeignKeyConstraint x) = add_foreign_key.spelled d x
spelled d (DropForeignKeyConstraint x) = drop_foreign_key.spelled d x
spelled d (AddUniqueConstraint x) = add_unique.spelled d x
spelled d (DropUniqueConstraint x) = drop_unique.spelled d x
spelled d (AddNotNullConstraint x) = add_not_null.spelled d x
spelled d (DropNotNullConstraint x) = drop_not_null.spelled d x
spelled d (AddDefaultValue x) = add_default_value.spelled d x
spelled d (DropDefaultValue x) = drop_default_value.spelled d x
spelled d (CreateIndex x) = create_index.spelled d x
spelled d (DropIndex x) = drop_index.spelled d x
spelled d (CreateView x) = create_view.spelled d x
spelled d (DropView x) = drop_view.spelled d x
spelled d (RenameView x) = rename_view.spelled d x
spelled d (CreateSequence x) = create_sequence.spelled d x
spelled d (DropSequence x) = drop_sequence.spelled d x
spelled d (RenameSequence x) = rename_sequence.spelled d x
spelled d (Insert x) = insert.spelled d x
spelled d (Update x) = update.spelled d x
spelled d (Delete x) = delete.spelled d x
spelled d (LoadData x) = load_data.spelled d x
spelled d (Sql x) = sql_text.spelled d x
spelled d (TagDatabase x) = tag_database.spelled d x
spelled d (Empty x) = empty.spelled d x

pub returned : AreReturns is_for inverse
returned d (CreateTable x) = create_table.returned d x
returned d (DropTable x) = drop_table.returned d x
returned d (RenameTable x) = rename_table.returned d x
returned d (AddColumn x) = add_column.returned d x
returned d (DropColumn x) = drop_column.returned d x
returned d (RenameColumn x) = rename_column.returned d x
returned d (AddPrimaryKey x) = add_primary_key.returned d x
returned d (DropPrimaryKey x) = drop_primary_key.returned d x
returned d (AddForeignKeyConstraint x) = add_foreign_key.returned d x
returned d (DropForeignKeyConstraint x) = drop_foreign_key.returned d x
returned d (AddUniqueConstraint x) = add_unique.returned d x
returned d (DropUniqueConstraint x) = drop_unique.returned d x
returned d (AddNotNullConstraint x) = add_not_null.returned d x
returned d (DropNotNullConstraint x) = drop_not_null.returned d x
returned d (AddDefaultValue x) = add_default_value.returned d x
returned d (DropDefaultValue x) = drop_default_value.returned d x
returned d (CreateIndex x) = create_index.returned d x
returned d (DropIndex x) = drop_index.returned d x
returned d (CreateView x) = create_view.returned d x
returned d (DropView x) = drop_view.returned d x
returned d (RenameView x) = rename_view.returned d x
returned d (CreateSequence x) = create_sequence.returned d x
returned d (DropSequence x) = drop_sequence.returned d x
returned d (RenameSequence x) = rename_sequence.returned d x
returned d (Insert x) = insert.returned d x
returned d (Update x) = update.returned d x
returned d (Delete x) = delete.returned d x
returned d (LoadData x) = load_data.returned d x
returned d (Sql x) = sql_text.returned d x
returned d (TagDatabase x) = tag_database.returned d x
returned d (Empty x) = empty.returned d x

pub does : HaveEffect is_for gives effect
does d (CreateTable x) = create_table.does d x
does d (DropTable x) = drop_table.does d x
does d (RenameTable x) = rename_table.does d x
does d (AddColumn x) = add_column.does d x
does d (DropColumn x) = drop_column.does d x
does d (RenameColumn x) = rename_column.does d x
does d (AddPrimaryKey x) = add_primary_key.does d x
does d (DropPrimaryKey x) = drop_primary_key.does d x
does d (AddForeignKeyConstraint x) = add_foreign_key.does d x
does d (DropForeignKeyConstraint x) = drop_foreign_key.does d x
does d (AddUniqueConstraint x) = add_unique.does d x
does d (DropUniqueConstraint x) = drop_unique.does d x
does d (AddNotNullConstraint x) = add_not_null.does d x
does d (DropNotNullConstraint x) = drop_not_null.does d x
does d (AddDefaultValue x) = add_default_value.does d x
does d (DropDefaultValue x) = drop_default_value.does d x
does d (CreateIndex x) = create_index.does d x
does d (DropIndex x) = drop_index.does d x
does d (CreateView x) = create_view.does d x
does d (DropView x) = drop_view.does d x
does d (RenameView x) = rename_view.does d x
does d (CreateSequence x) = create_sequence.does d x
does d (DropSequence x) = drop_sequence.does d x
does d (RenameSequence x) = rename_sequence.does d x
does d (Insert x) = insert.does d x
does d (Update x) = update.does d x
does d (Delete x) = delete.does d x
does d (LoadData x) = load_data.does d x
does d (Sql x) = sql_text.does d x
does d (TagDatabase x) = tag_database.does d x
does d (Empty x) = empty.does d x

pub restores : TakeBack is_for effect is_fresh inverse
restores d (CreateTable x) = create_table.restores d x
restores d (DropTable x) = drop_table.restores d x
restores d (RenameTable x) = rename_table.restores d x
restores d (AddColumn x) = add_column.restores d x
restores d (DropColumn x) = drop_column.restores d x
restores d (RenameColumn x) = rename_column.restores d x
restores d (AddPrimaryKey x) = add_primary_key.restores d x
restores d (DropPrimaryKey x) = drop_primary_key.restores d x
restores d (AddForeignKeyConstraint x) = add_foreign_key.restores d x
restores d (DropForeignKeyConstraint x) = drop_foreign_key.restores d x
restores d (AddUniqueConstraint x) = add_unique.restores d x
restores d (DropUniqueConstraint x) = drop_unique.restores d x
restores d (AddNotNullConstraint x) = add_not_null.restores d x
restores d (DropNotNullConstraint x) = drop_not_null.restores d x
restores d (AddDefaultValue x) = add_default_value.restores d x
restores d (DropDefaultValue x) = drop_default_value.restores d x
restores d (CreateIndex x) = create_index.restores d x
restores d (DropIndex x) = drop_index.restores d x
restores d (CreateView x) = create_view.restores d x
restores d (DropView x) = drop_view.restores d x
restores d (RenameView x) = rename_view.restores d x
restores d (CreateSequence x) = create_sequence.restores d x
restores d (DropSequence x) = drop_sequence.restores d x
restores d (RenameSequence x) = rename_sequence.restores d x
restores d (Insert x) = insert.restores d x
restores d (Update x) = update.restores d x
restores d (Delete x) = delete.restores d x
restores d (LoadData x) = load_data.restores d x
restores d (Sql x) = sql_text.restores d x
restores d (TagDatabase x) = tag_database.restores d x
restores d (Empty x) = empty.restores d x

apart : {A : Type 0} (m n : List ℕ) → is_named m n ≡ false → m ≡ n → A
apart m n differ same = true_false (ap (is_named m) (sym same) ∙ named_itself m) differ

pub told : AreTold is_for canonical_of
told d (CreateTable x) (CreateTable y) right also e = ap (λ k. CreateTable k) (create_table.told d x y right also e)
told d (DropTable x) (DropTable y) right also e = ap (λ k. DropTable k) (drop_table.told d x y right also e)
told d (RenameTable x) (RenameTable y) right also e = ap (λ k. RenameTable k) (rename_table.told d x y right also e)
told d (AddColumn x) (AddColumn y) right also e = ap (λ k. AddColumn k) (add_column.told d x y right also e)
told d (DropColumn x) (DropColumn y) right also e = ap (λ k. DropColumn k) (drop_column.told d x y right also e)
told d (RenameColumn x) (RenameColumn y) right also e = ap (λ k. RenameColumn k) (rename_column.told d x y right also e)
told d (AddPrimaryKey x) (AddPrimaryKey y) right also e = ap (λ k. AddPrimaryKey k) (add_primary_key.told d x y right also e)
told d (DropPrimaryKey x) (DropPrimaryKey y) right also e = ap (λ k. DropPrimaryKey k) (drop_primary_key.told d x y right also e)
told d (AddForeignKeyConstraint x) (AddForeignKeyConstraint y) right also e = ap (λ k. AddForeignKeyConstraint k) (add_foreign_key.told d x y right also e)
told d (DropForeignKeyConstraint x) (DropForeignKeyConstraint y) right also e = ap (λ k. DropForeignKeyConstraint k) (drop_foreign_key.told d x y right also e)
told d (AddUniqueConstraint x) (AddUniqueConstraint y) right also e = ap (λ k. AddUniqueConstraint k) (add_unique.told d x y right also e)
told d (DropUniqueConstraint x) (DropUniqueConstraint y) right also e = ap (λ k. DropUniqueConstraint k) (drop_unique.told d x y right also e)
told d (AddNotNullConstraint x) (AddNotNullConstraint y) right also e = ap (λ k. AddNotNullConstraint k) (add_not_null.told d x y right also e)
told d (DropNotNullConstraint x) (DropNotNullConstraint y) right also e = ap (λ k. DropNotNullConstraint k) (drop_not_null.told d x y right also e)
told d (AddDefaultValue x) (AddDefaultValue y) right also e = ap (λ k. AddDefaultValue k) (add_default_value.told d x y right also e)
told d (DropDefaultValue x) (DropDefaultValue y) right also e = ap (λ k. DropDefaultValue k) (drop_default_value.told d x y right also e)
told d (CreateIndex x) (CreateIndex y) right also e = ap (λ k. CreateIndex k) (create_index.told d x y right also e)
told d (DropIndex x) (DropIndex y) right also e = ap (λ k. DropIndex k) (drop_index.told d x y right also e)
told d (CreateView x) (CreateView y) right also e = ap (λ k. CreateView k) (create_view.told d x y right also e)
told d (DropView x) (DropView y) right also e = ap (λ k. DropView k) (drop_view.told d x y right also e)
told d (RenameView x) (RenameView y) right also e = ap (λ k. RenameView k) (rename_view.told d x y right also e)
told d (CreateSequence x) (CreateSequence y) right also e = ap (λ k. CreateSequence k) (create_sequence.told d x y right also e)
told d (DropSequence x) (DropSequence y) right also e = ap (λ k. DropSequence k) (drop_sequence.told d x y right also e)
told d (RenameSequence x) (RenameSequence y) right also e = ap (λ k. RenameSequence k) (rename_sequence.told d x y right also e)
told d (Insert x) (Insert y) right also e = ap (λ k. Insert k) (insert.told d x y right also e)
told d (Update x) (Update y) right also e = ap (λ k. Update k) (update.told d x y right also e)
told d (Delete x) (Delete y) right also e = ap (λ k. Delete k) (delete.told d x y right also e)
told d (LoadData x) (LoadData y) right also e = ap (λ k. LoadData k) (load_data.told d x y right also e)
told d (Sql x) (Sql y) right also e = ap (λ k. Sql k) (sql_text.told d x y right also e)
told d (TagDatabase x) (TagDatabase y) right also e = ap (λ k. TagDatabase k) (tag_database.told d x y right also e)
told d (Empty x) (Empty y) right also e = ap (λ k. Empty k) (empty.told d x y right also e)
told d x y right also e = apart (canonical_of x).name (canonical_of y).name refl (change_told (canonical_of x) (canonical_of y) e).0
