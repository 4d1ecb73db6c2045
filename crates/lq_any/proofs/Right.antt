-- What is read of a tree, a change of any type, is for the dialect.
use Rattle.std.proofs.lemmas.Bool.{and_parts}
use Rattle.std.specs.Prelude.{Bool, IfOk, IfSome, List, None, Option, Some, [], codes, if◌then◌else◌, true, false, ℕ, ◌∷◌, ◌≡◌}
use Rattle.std.specs.Str.{bytes_eq}
use Rattle.lq_base.specs.declared.dialect.Dialect.{Dialect}
use Rattle.lq_model.specs.SqlText.{QueriesAreSpelled, StatementsAreSpelled, TestsAreSpelled}
use Rattle.lq_tree.proofs.Says.{IsSo, map_so, within_so}
use Rattle.lq_tree.proofs.Small.{have_small, is_small, map_small}
use Rattle.lq_tree.specs.Look.{Found, map_found, within, map_of}
use Rattle.lq_tree.specs.declared.node.Node.{Node}
use Rattle.lq_columns.proofs.Right as columns
use Rattle.lq_data.proofs.Right as row_changes
use Rattle.lq_keys.proofs.Right as keys
use Rattle.lq_nullable.proofs.Right as nullable
use Rattle.lq_primary_keys.proofs.Right as primary_keys
use Rattle.lq_rename_column.proofs.Right.{rename_column_right}
use Rattle.lq_tables.proofs.Right as tables
use Rattle.lq_uniques.proofs.Right as uniques
use Rattle.lq_views.proofs.Right as views
use Rattle.lq_columns.specs.AddDefaultValue as add_default_value
use Rattle.lq_nullable.specs.AddNotNull as add_not_null
use Rattle.lq_columns.specs.DropColumn as drop_column
use Rattle.lq_columns.specs.DropDefaultValue as drop_default_value
use Rattle.lq_nullable.specs.DropNotNull as drop_not_null
use Rattle.lq_rename_column.specs.RenameColumn as rename_column
use Rattle.lq_data.specs.Delete as delete
use Rattle.lq_data.specs.Empty as empty
use Rattle.lq_data.specs.Insert as insert
use Rattle.lq_data.specs.Sql as sql_text
use Rattle.lq_data.specs.TagDatabase as tag_database
use Rattle.lq_data.specs.Update as update
use Rattle.lq_keys.specs.AddForeignKey as add_foreign_key
use Rattle.lq_primary_keys.specs.AddPrimaryKey as add_primary_key
use Rattle.lq_uniques.specs.AddUnique as add_unique
use Rattle.lq_keys.specs.CreateIndex as create_index
use Rattle.lq_keys.specs.DropForeignKey as drop_foreign_key
use Rattle.lq_keys.specs.DropIndex as drop_index
use Rattle.lq_primary_keys.specs.DropPrimaryKey as drop_primary_key
use Rattle.lq_uniques.specs.DropUnique as drop_unique
use Rattle.lq_tables.specs.AddColumn as add_column
use Rattle.lq_tables.specs.CreateTable as create_table
use Rattle.lq_tables.specs.DropTable as drop_table
use Rattle.lq_tables.specs.RenameTable as rename_table
use Rattle.lq_views.specs.CreateSequence as create_sequence
use Rattle.lq_views.specs.CreateView as create_view
use Rattle.lq_views.specs.DropSequence as drop_sequence
use Rattle.lq_views.specs.DropView as drop_view
use Rattle.lq_views.specs.RenameSequence as rename_sequence
use Rattle.lq_views.specs.RenameView as rename_view
use Rattle.lq_any.specs.AnyChange.{any_change, at_only, is_for, named, named_key, named_other}
use Rattle.lq_any.specs.declared.any_change.AnyChange.{AnyChange}
use Rattle.lq_any.specs.declared.any_change.AnyChange.TheVariants.{AddColumn, AddDefaultValue, AddForeignKeyConstraint, AddNotNullConstraint, AddPrimaryKey, AddUniqueConstraint, CreateIndex, CreateSequence, CreateTable, CreateView, Delete, DropColumn, DropDefaultValue, DropForeignKeyConstraint, DropIndex, DropNotNullConstraint, DropPrimaryKey, DropSequence, DropTable, DropUniqueConstraint, DropView, Empty, Insert, RenameColumn, RenameSequence, RenameTable, RenameView, Sql, TagDatabase, Update}

-- what is read of a dialect's texts can be written
pub record IsSpelled (d : Dialect) : Type 0 where
  pub statements : StatementsAreSpelled d
  pub queries : QueriesAreSpelled d
  pub tests : TestsAreSpelled d

module _ (d : Dialect) (spelled : IsSpelled d) where
  -- ---- a change by its name

  step : {X : Type 0} (name : List ℕ) (fits : X → Bool) (key : List ℕ) (make : X → AnyChange) (r : Found X) (other : Found AnyChange) → ((x : X) → fits x ≡ true → is_for d (make x) ≡ true)
      → IfOk r (IsSo fits) → IfOk other (IsSo (is_for d)) → IfOk (if bytes_eq name key then within key (map_found make r) else other) (IsSo (is_for d))
  step name fits key make r other each so rest = by (bytes_eq name key) where
    by : (here : Bool) → IfOk (if here then within key (map_found make r) else other) (IsSo (is_for d))
    by true = within_so (IsSo (is_for d)) key (map_found make r) (map_so (IsSo fits) (IsSo (is_for d)) r make so each)
    by false = rest

  other_right : (name : List ℕ) (n : Node) → is_small n ≡ true → IfOk (named_other d name n) (IsSo (is_for d))
  unfolding named_other
  other_right name n small =
      step name (create_view.is_for d) (codes "createView") (λ x. CreateView x) (create_view.create_view d n) _ (λ x so. so) ((views.create_view_right d spelled.queries).of n) (
      step name (drop_view.is_for d) (codes "dropView") (λ x. DropView x) (drop_view.drop_view n) _ (λ x so. so) ((views.drop_view_right d).of n) (
      step name (rename_view.is_for d) (codes "renameView") (λ x. RenameView x) (rename_view.rename_view n) _ (λ x so. so) ((views.rename_view_right d).of n) (
      step name (create_sequence.is_for d) (codes "createSequence") (λ x. CreateSequence x) (create_sequence.create_sequence d n) _ (λ x so. so) (views.create_sequence_right d n small) (
      step name (drop_sequence.is_for d) (codes "dropSequence") (λ x. DropSequence x) (drop_sequence.drop_sequence d n) _ (λ x so. so) ((views.drop_sequence_right d).of n) (
      step name (rename_sequence.is_for d) (codes "renameSequence") (λ x. RenameSequence x) (rename_sequence.rename_sequence d n) _ (λ x so. so) ((views.rename_sequence_right d).of n) (
      step name (insert.is_for d) (codes "insert") (λ x. Insert x) (insert.an_insert n) _ (λ x so. so) ((row_changes.insert_right d).of n) (
      step name (update.is_for d) (codes "update") (λ x. Update x) (update.an_update d n) _ (λ x so. so) ((row_changes.update_right d spelled.tests).of n) (
      step name (delete.is_for d) (codes "delete") (λ x. Delete x) (delete.a_delete d n) _ (λ x so. so) ((row_changes.delete_right d spelled.tests).of n) (
      step name (sql_text.is_for d) (codes "sql") (λ x. Sql x) (sql_text.a_sql d n) _ (λ x so. so) ((row_changes.sql_right d spelled.statements).of n) (
      step name (tag_database.is_for d) (codes "tagDatabase") (λ x. TagDatabase x) (tag_database.a_tag_database n) _ (λ x so. so) ((row_changes.tag_database_right d).of n) (
      step name (empty.is_for d) (codes "empty") (λ x. Empty x) (empty.an_empty n) _ (λ x so. so) ((row_changes.empty_right d).of n) (
      tt))))))))))))

  key_right : (name : List ℕ) (n : Node) → is_small n ≡ true → IfOk (named_key d name n) (IsSo (is_for d))
  unfolding named_key
  key_right name n small =
      step name (add_primary_key.is_for d) (codes "addPrimaryKey") (λ x. AddPrimaryKey x) (add_primary_key.add_primary_key d n) _ (λ x so. so) ((primary_keys.add_primary_key_right d).of n) (
      step name (drop_primary_key.is_for d) (codes "dropPrimaryKey") (λ x. DropPrimaryKey x) (drop_primary_key.drop_primary_key d n) _ (λ x so. so) ((primary_keys.drop_primary_key_right d).of n) (
      step name (add_foreign_key.is_for d) (codes "addForeignKeyConstraint") (λ x. AddForeignKeyConstraint x) (add_foreign_key.add_foreign_key d n) _ (λ x so. so) ((keys.add_foreign_key_right d).of n) (
      step name (drop_foreign_key.is_for d) (codes "dropForeignKeyConstraint") (λ x. DropForeignKeyConstraint x) (drop_foreign_key.drop_foreign_key d n) _ (λ x so. so) ((keys.drop_foreign_key_right d).of n) (
      step name (add_unique.is_for d) (codes "addUniqueConstraint") (λ x. AddUniqueConstraint x) (add_unique.add_unique d n) _ (λ x so. so) ((uniques.add_unique_right d).of n) (
      step name (drop_unique.is_for d) (codes "dropUniqueConstraint") (λ x. DropUniqueConstraint x) (drop_unique.drop_unique d n) _ (λ x so. so) ((uniques.drop_unique_right d).of n) (
      step name (create_index.is_for d) (codes "createIndex") (λ x. CreateIndex x) (create_index.create_index d n) _ (λ x so. so) ((keys.create_index_right d).of n) (
      step name (drop_index.is_for d) (codes "dropIndex") (λ x. DropIndex x) (drop_index.drop_index d n) _ (λ x so. so) ((keys.drop_index_right d).of n) (
      other_right name n small))))))))

  named_right : (name : List ℕ) (n : Node) → is_small n ≡ true → IfOk (named d name n) (IsSo (is_for d))
  unfolding named
  named_right name n small =
      step name (create_table.is_for d) (codes "createTable") (λ x. CreateTable x) (create_table.create_table d n) _ (λ x so. so) ((tables.create_table_right d).of n) (
      step name (drop_table.is_for d) (codes "dropTable") (λ x. DropTable x) (drop_table.drop_table d n) _ (λ x so. so) ((tables.drop_table_right d).of n) (
      step name (rename_table.is_for d) (codes "renameTable") (λ x. RenameTable x) (rename_table.rename_table d n) _ (λ x so. so) ((tables.rename_table_right d).of n) (
      step name (add_column.is_for d) (codes "addColumn") (λ x. AddColumn x) (add_column.add_column d n) _ (λ x so. so) ((tables.add_column_right d).of n) (
      step name (drop_column.is_for d) (codes "dropColumn") (λ x. DropColumn x) (drop_column.drop_column d n) _ (λ x so. so) ((columns.drop_column_right d).of n) (
      step name (rename_column.is_for d) (codes "renameColumn") (λ x. RenameColumn x) (rename_column.rename_column d n) _ (λ x so. so) ((rename_column_right d).of n) (
      step name (add_not_null.is_for d) (codes "addNotNullConstraint") (λ x. AddNotNullConstraint x) (add_not_null.add_not_null d n) _ (λ x so. so) ((nullable.add_not_null_right d).of n) (
      step name (drop_not_null.is_for d) (codes "dropNotNullConstraint") (λ x. DropNotNullConstraint x) (drop_not_null.drop_not_null d n) _ (λ x so. so) ((nullable.drop_not_null_right d).of n) (
      step name (add_default_value.is_for d) (codes "addDefaultValue") (λ x. AddDefaultValue x) (add_default_value.add_default_value d n) _ (λ x so. so) ((columns.add_default_value_right d).of n) (
      step name (drop_default_value.is_for d) (codes "dropDefaultValue") (λ x. DropDefaultValue x) (drop_default_value.drop_default_value d n) _ (λ x so. so) ((columns.drop_default_value_right d).of n) (
      key_right name n small))))))))))

  only_right : (es : Option (List (List ℕ × Node))) → IfSome es (IsSo have_small) → IfOk (at_only d es) (IsSo (is_for d))
  only_right None small = tt
  only_right (Some []) small = tt
  only_right (Some (e ∷ [])) small = named_right e.0 e.1 (and_parts (is_small e.1) true small).0
  only_right (Some (e ∷ f ∷ es)) small = tt

  pub any_right : (n : Node) → is_small n ≡ true → IfOk (any_change d n) (IsSo (is_for d))
  unfolding any_change
  any_right n small = only_right (map_of n) (map_small n small)
