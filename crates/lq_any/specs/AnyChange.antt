-- A change of any type: what it says is what its type says.
use Rattle.std.specs.Prelude.{Bool, Err, List, Option, Result, Some, [], codes, if◌then◌else◌, ℕ, ◌∷◌}
use Rattle.std.specs.Str.{bytes_eq}
use Rattle.lq_base.specs.declared.dialect.Dialect.{Dialect}
use Rattle.lq_base.specs.declared.fault.KindFault.TheVariants.{Bad, Unknown}
use Rattle.lq_base.specs.declared.reason.Reason.{Reason}
use Rattle.lq_columns.specs.AddDefaultValue as add_default_value
use Rattle.lq_columns.specs.DropColumn as drop_column
use Rattle.lq_columns.specs.DropDefaultValue as drop_default_value
use Rattle.lq_data.specs.Delete as delete
use Rattle.lq_data.specs.Empty as empty
use Rattle.lq_data.specs.Insert as insert
use Rattle.lq_data.specs.Sql as sql_text
use Rattle.lq_data.specs.TagDatabase as tag_database
use Rattle.lq_data.specs.Update as update
use Rattle.lq_keys.specs.AddForeignKey as add_foreign_key
use Rattle.lq_keys.specs.CreateIndex as create_index
use Rattle.lq_keys.specs.DropForeignKey as drop_foreign_key
use Rattle.lq_keys.specs.DropIndex as drop_index
use Rattle.lq_any.specs.declared.any_change.AnyChange.{AnyChange}
use Rattle.lq_any.specs.declared.any_change.AnyChange.TheVariants.{AddColumn, AddDefaultValue, AddForeignKeyConstraint, AddNotNullConstraint, AddPrimaryKey, AddUniqueConstraint, CreateIndex, CreateSequence, CreateTable, CreateView, Delete, DropColumn, DropDefaultValue, DropForeignKeyConstraint, DropIndex, DropNotNullConstraint, DropPrimaryKey, DropSequence, DropTable, DropUniqueConstraint, DropView, Empty, Insert, LoadData, RenameColumn, RenameSequence, RenameTable, RenameView, Sql, TagDatabase, Update}
use Rattle.lq_load.specs.LoadData as load_data
use Rattle.lq_model.specs.Catalogue.{Catalogue}
use Rattle.lq_model.specs.Changes.{CanonicalChange}
use Rattle.lq_model.specs.declared.statement.Statement.{Statement}
use Rattle.lq_nullable.specs.AddNotNull as add_not_null
use Rattle.lq_nullable.specs.DropNotNull as drop_not_null
use Rattle.lq_primary_keys.specs.AddPrimaryKey as add_primary_key
use Rattle.lq_primary_keys.specs.DropPrimaryKey as drop_primary_key
use Rattle.lq_rename_column.specs.RenameColumn as rename_column
use Rattle.lq_tables.specs.AddColumn as add_column
use Rattle.lq_tables.specs.CreateTable as create_table
use Rattle.lq_tables.specs.DropTable as drop_table
use Rattle.lq_tables.specs.RenameTable as rename_table
use Rattle.lq_tree.specs.Look.{Found, Taken, map_found, map_of, within}
use Rattle.lq_tree.specs.declared.node.Node.{Node}
use Rattle.lq_uniques.specs.AddUnique as add_unique
use Rattle.lq_uniques.specs.DropUnique as drop_unique
use Rattle.lq_views.specs.CreateSequence as create_sequence
use Rattle.lq_views.specs.CreateView as create_view
use Rattle.lq_views.specs.DropSequence as drop_sequence
use Rattle.lq_views.specs.DropView as drop_view
use Rattle.lq_views.specs.RenameSequence as rename_sequence
use Rattle.lq_views.specs.RenameView as rename_view

-- reading

-- a change of a view, a sequence or rows, and the other changes
unfoldable pub named_other : Dialect → List ℕ → Taken AnyChange
named_other d name n =
    if bytes_eq name (codes "createView") then within (codes "createView") (map_found (λ x. CreateView x) (create_view.create_view d n))
    else (if bytes_eq name (codes "dropView") then within (codes "dropView") (map_found (λ x. DropView x) (drop_view.drop_view n))
    else (if bytes_eq name (codes "renameView") then within (codes "renameView") (map_found (λ x. RenameView x) (rename_view.rename_view n))
    else (if bytes_eq name (codes "createSequence") then within (codes "createSequence") (map_found (λ x. CreateSequence x) (create_sequence.create_sequence d n))
    else (if bytes_eq name (codes "dropSequence") then within (codes "dropSequence") (map_found (λ x. DropSequence x) (drop_sequence.drop_sequence d n))
    else (if bytes_eq name (codes "renameSequence") then within (codes "renameSequence") (map_found (λ x. RenameSequence x) (rename_sequence.rename_sequence d n))
    else (if bytes_eq name (codes "insert") then within (codes "insert") (map_found (λ x. Insert x) (insert.an_insert n))
    else (if bytes_eq name (codes "update") then within (codes "update") (map_found (λ x. Update x) (update.an_update d n))
    else (if bytes_eq name (codes "delete") then within (codes "delete") (map_found (λ x. Delete x) (delete.a_delete d n))
    else (if bytes_eq name (codes "sql") then within (codes "sql") (map_found (λ x. Sql x) (sql_text.a_sql d n))
    else (if bytes_eq name (codes "tagDatabase") then within (codes "tagDatabase") (map_found (λ x. TagDatabase x) (tag_database.a_tag_database n))
    else (if bytes_eq name (codes "empty") then within (codes "empty") (map_found (λ x. Empty x) (empty.an_empty n))
    else Err (Unknown name))))))))))))

-- a change of a key, a constraint or an index
unfoldable pub named_key : Dialect → List ℕ → Taken AnyChange
named_key d name n =
    if bytes_eq name (codes "addPrimaryKey") then within (codes "addPrimaryKey") (map_found (λ x. AddPrimaryKey x) (add_primary_key.add_primary_key d n))
    else (if bytes_eq name (codes "dropPrimaryKey") then within (codes "dropPrimaryKey") (map_found (λ x. DropPrimaryKey x) (drop_primary_key.drop_primary_key d n))
    else (if bytes_eq name (codes "addForeignKeyConstraint") then within (codes "addForeignKeyConstraint") (map_found (λ x. AddForeignKeyConstraint x) (add_foreign_key.add_foreign_key d n))
    else (if bytes_eq name (codes "dropForeignKeyConstraint") then within (codes "dropForeignKeyConstraint") (map_found (λ x. DropForeignKeyConstraint x) (drop_foreign_key.drop_foreign_key d n))
    else (if bytes_eq name (codes "addUniqueConstraint") then within (codes "addUniqueConstraint") (map_found (λ x. AddUniqueConstraint x) (add_unique.add_unique d n))
    else (if bytes_eq name (codes "dropUniqueConstraint") then within (codes "dropUniqueConstraint") (map_found (λ x. DropUniqueConstraint x) (drop_unique.drop_unique d n))
    else (if bytes_eq name (codes "createIndex") then within (codes "createIndex") (map_found (λ x. CreateIndex x) (create_index.create_index d n))
    else (if bytes_eq name (codes "dropIndex") then within (codes "dropIndex") (map_found (λ x. DropIndex x) (drop_index.drop_index d n))
    else named_other d name n)))))))

-- a change of the type of that name: of a table or a column, of a key or an index, or of another object or of rows
unfoldable pub named : Dialect → List ℕ → Taken AnyChange
named d name n =
    if bytes_eq name (codes "createTable") then within (codes "createTable") (map_found (λ x. CreateTable x) (create_table.create_table d n))
    else (if bytes_eq name (codes "dropTable") then within (codes "dropTable") (map_found (λ x. DropTable x) (drop_table.drop_table d n))
    else (if bytes_eq name (codes "renameTable") then within (codes "renameTable") (map_found (λ x. RenameTable x) (rename_table.rename_table d n))
    else (if bytes_eq name (codes "addColumn") then within (codes "addColumn") (map_found (λ x. AddColumn x) (add_column.add_column d n))
    else (if bytes_eq name (codes "dropColumn") then within (codes "dropColumn") (map_found (λ x. DropColumn x) (drop_column.drop_column d n))
    else (if bytes_eq name (codes "renameColumn") then within (codes "renameColumn") (map_found (λ x. RenameColumn x) (rename_column.rename_column d n))
    else (if bytes_eq name (codes "addNotNullConstraint") then within (codes "addNotNullConstraint") (map_found (λ x. AddNotNullConstraint x) (add_not_null.add_not_null d n))
    else (if bytes_eq name (codes "dropNotNullConstraint") then within (codes "dropNotNullConstraint") (map_found (λ x. DropNotNullConstraint x) (drop_not_null.drop_not_null d n))
    else (if bytes_eq name (codes "addDefaultValue") then within (codes "addDefaultValue") (map_found (λ x. AddDefaultValue x) (add_default_value.add_default_value d n))
    else (if bytes_eq name (codes "dropDefaultValue") then within (codes "dropDefaultValue") (map_found (λ x. DropDefaultValue x) (drop_default_value.drop_default_value d n))
    else named_key d name n)))))))))

abbrev pub at_only : Dialect → Option (List (List ℕ × Node)) → Found AnyChange
at_only d (Some (entry ∷ [])) = named d entry.0 entry.1
at_only d _ = Err (Bad [])

-- a map with one key, the type's name
unfoldable pub any_change : Dialect → Taken AnyChange
any_change d n = at_only d (map_of n)

-- meaning

abbrev pub is_for : Dialect → AnyChange → Bool
is_for d (CreateTable x) = create_table.is_for d x
is_for d (DropTable x) = drop_table.is_for d x
is_for d (RenameTable x) = rename_table.is_for d x
is_for d (AddColumn x) = add_column.is_for d x
is_for d (DropColumn x) = drop_column.is_for d x
is_for d (RenameColumn x) = rename_column.is_for d x
is_for d (AddPrimaryKey x) = add_primary_key.is_for d x
is_for d (DropPrimaryKey x) = drop_primary_key.is_for d x
is_for d (AddForeignKeyConstraint x) = add_foreign_key.is_for d x
is_for d (DropForeignKeyConstraint x) = drop_foreign_key.is_for d x
is_for d (AddUniqueConstraint x) = add_unique.is_for d x
is_for d (DropUniqueConstraint x) = drop_unique.is_for d x
is_for d (AddNotNullConstraint x) = add_not_null.is_for d x
is_for d (DropNotNullConstraint x) = drop_not_null.is_for d x
is_for d (AddDefaultValue x) = add_default_value.is_for d x
is_for d (DropDefaultValue x) = drop_default_value.is_for d x
is_for d (CreateIndex x) = create_index.is_for d x
is_for d (DropIndex x) = drop_index.is_for d x
is_for d (CreateView x) = create_view.is_for d x
is_for d (DropView x) = drop_view.is_for d x
is_for d (RenameView x) = rename_view.is_for d x
is_for d (CreateSequence x) = create_sequence.is_for d x
is_for d (DropSequence x) = drop_sequence.is_for d x
is_for d (RenameSequence x) = rename_sequence.is_for d x
is_for d (Insert x) = insert.is_for d x
is_for d (Update x) = update.is_for d x
is_for d (Delete x) = delete.is_for d x
is_for d (LoadData x) = load_data.is_for d x
is_for d (Sql x) = sql_text.is_for d x
is_for d (TagDatabase x) = tag_database.is_for d x
is_for d (Empty x) = empty.is_for d x

abbrev pub gives : Dialect → AnyChange → List Statement
gives d (CreateTable x) = create_table.gives d x
gives d (DropTable x) = drop_table.gives d x
gives d (RenameTable x) = rename_table.gives d x
gives d (AddColumn x) = add_column.gives d x
gives d (DropColumn x) = drop_column.gives d x
gives d (RenameColumn x) = rename_column.gives d x
gives d (AddPrimaryKey x) = add_primary_key.gives d x
gives d (DropPrimaryKey x) = drop_primary_key.gives d x
gives d (AddForeignKeyConstraint x) = add_foreign_key.gives d x
gives d (DropForeignKeyConstraint x) = drop_foreign_key.gives d x
gives d (AddUniqueConstraint x) = add_unique.gives d x
gives d (DropUniqueConstraint x) = drop_unique.gives d x
gives d (AddNotNullConstraint x) = add_not_null.gives d x
gives d (DropNotNullConstraint x) = drop_not_null.gives d x
gives d (AddDefaultValue x) = add_default_value.gives d x
gives d (DropDefaultValue x) = drop_default_value.gives d x
gives d (CreateIndex x) = create_index.gives d x
gives d (DropIndex x) = drop_index.gives d x
gives d (CreateView x) = create_view.gives d x
gives d (DropView x) = drop_view.gives d x
gives d (RenameView x) = rename_view.gives d x
gives d (CreateSequence x) = create_sequence.gives d x
gives d (DropSequence x) = drop_sequence.gives d x
gives d (RenameSequence x) = rename_sequence.gives d x
gives d (Insert x) = insert.gives d x
gives d (Update x) = update.gives d x
gives d (Delete x) = delete.gives d x
gives d (LoadData x) = load_data.gives d x
gives d (Sql x) = sql_text.gives d x
gives d (TagDatabase x) = tag_database.gives d x
gives d (Empty x) = empty.gives d x

abbrev pub effect : Dialect → AnyChange → Catalogue → Result Catalogue Reason
effect d (CreateTable x) c = create_table.effect d x c
effect d (DropTable x) c = drop_table.effect d x c
effect d (RenameTable x) c = rename_table.effect d x c
effect d (AddColumn x) c = add_column.effect d x c
effect d (DropColumn x) c = drop_column.effect d x c
effect d (RenameColumn x) c = rename_column.effect d x c
effect d (AddPrimaryKey x) c = add_primary_key.effect d x c
effect d (DropPrimaryKey x) c = drop_primary_key.effect d x c
effect d (AddForeignKeyConstraint x) c = add_foreign_key.effect d x c
effect d (DropForeignKeyConstraint x) c = drop_foreign_key.effect d x c
effect d (AddUniqueConstraint x) c = add_unique.effect d x c
effect d (DropUniqueConstraint x) c = drop_unique.effect d x c
effect d (AddNotNullConstraint x) c = add_not_null.effect d x c
effect d (DropNotNullConstraint x) c = drop_not_null.effect d x c
effect d (AddDefaultValue x) c = add_default_value.effect d x c
effect d (DropDefaultValue x) c = drop_default_value.effect d x c
effect d (CreateIndex x) c = create_index.effect d x c
effect d (DropIndex x) c = drop_index.effect d x c
effect d (CreateView x) c = create_view.effect d x c
effect d (DropView x) c = drop_view.effect d x c
effect d (RenameView x) c = rename_view.effect d x c
effect d (CreateSequence x) c = create_sequence.effect d x c
effect d (DropSequence x) c = drop_sequence.effect d x c
effect d (RenameSequence x) c = rename_sequence.effect d x c
effect d (Insert x) c = insert.effect d x c
effect d (Update x) c = update.effect d x c
effect d (Delete x) c = delete.effect d x c
effect d (LoadData x) c = load_data.effect d x c
effect d (Sql x) c = sql_text.effect d x c
effect d (TagDatabase x) c = tag_database.effect d x c
effect d (Empty x) c = empty.effect d x c

abbrev pub is_fresh : Dialect → AnyChange → Catalogue → Bool
is_fresh d (CreateTable x) c = create_table.is_fresh d x c
is_fresh d (DropTable x) c = drop_table.is_fresh d x c
is_fresh d (RenameTable x) c = rename_table.is_fresh d x c
is_fresh d (AddColumn x) c = add_column.is_fresh d x c
is_fresh d (DropColumn x) c = drop_column.is_fresh d x c
is_fresh d (RenameColumn x) c = rename_column.is_fresh d x c
is_fresh d (AddPrimaryKey x) c = add_primary_key.is_fresh d x c
is_fresh d (DropPrimaryKey x) c = drop_primary_key.is_fresh d x c
is_fresh d (AddForeignKeyConstraint x) c = add_foreign_key.is_fresh d x c
is_fresh d (DropForeignKeyConstraint x) c = drop_foreign_key.is_fresh d x c
is_fresh d (AddUniqueConstraint x) c = add_unique.is_fresh d x c
is_fresh d (DropUniqueConstraint x) c = drop_unique.is_fresh d x c
is_fresh d (AddNotNullConstraint x) c = add_not_null.is_fresh d x c
is_fresh d (DropNotNullConstraint x) c = drop_not_null.is_fresh d x c
is_fresh d (AddDefaultValue x) c = add_default_value.is_fresh d x c
is_fresh d (DropDefaultValue x) c = drop_default_value.is_fresh d x c
is_fresh d (CreateIndex x) c = create_index.is_fresh d x c
is_fresh d (DropIndex x) c = drop_index.is_fresh d x c
is_fresh d (CreateView x) c = create_view.is_fresh d x c
is_fresh d (DropView x) c = drop_view.is_fresh d x c
is_fresh d (RenameView x) c = rename_view.is_fresh d x c
is_fresh d (CreateSequence x) c = create_sequence.is_fresh d x c
is_fresh d (DropSequence x) c = drop_sequence.is_fresh d x c
is_fresh d (RenameSequence x) c = rename_sequence.is_fresh d x c
is_fresh d (Insert x) c = insert.is_fresh d x c
is_fresh d (Update x) c = update.is_fresh d x c
is_fresh d (Delete x) c = delete.is_fresh d x c
is_fresh d (LoadData x) c = load_data.is_fresh d x c
is_fresh d (Sql x) c = sql_text.is_fresh d x c
is_fresh d (TagDatabase x) c = tag_database.is_fresh d x c
is_fresh d (Empty x) c = empty.is_fresh d x c

abbrev pub inverse : Dialect → AnyChange → Option (List Statement)
inverse d (CreateTable x) = create_table.inverse d x
inverse d (DropTable x) = drop_table.inverse d x
inverse d (RenameTable x) = rename_table.inverse d x
inverse d (AddColumn x) = add_column.inverse d x
inverse d (DropColumn x) = drop_column.inverse d x
inverse d (RenameColumn x) = rename_column.inverse d x
inverse d (AddPrimaryKey x) = add_primary_key.inverse d x
inverse d (DropPrimaryKey x) = drop_primary_key.inverse d x
inverse d (AddForeignKeyConstraint x) = add_foreign_key.inverse d x
inverse d (DropForeignKeyConstraint x) = drop_foreign_key.inverse d x
inverse d (AddUniqueConstraint x) = add_unique.inverse d x
inverse d (DropUniqueConstraint x) = drop_unique.inverse d x
inverse d (AddNotNullConstraint x) = add_not_null.inverse d x
inverse d (DropNotNullConstraint x) = drop_not_null.inverse d x
inverse d (AddDefaultValue x) = add_default_value.inverse d x
inverse d (DropDefaultValue x) = drop_default_value.inverse d x
inverse d (CreateIndex x) = create_index.inverse d x
inverse d (DropIndex x) = drop_index.inverse d x
inverse d (CreateView x) = create_view.inverse d x
inverse d (DropView x) = drop_view.inverse d x
inverse d (RenameView x) = rename_view.inverse d x
inverse d (CreateSequence x) = create_sequence.inverse d x
inverse d (DropSequence x) = drop_sequence.inverse d x
inverse d (RenameSequence x) = rename_sequence.inverse d x
inverse d (Insert x) = insert.inverse d x
inverse d (Update x) = update.inverse d x
inverse d (Delete x) = delete.inverse d x
inverse d (LoadData x) = load_data.inverse d x
inverse d (Sql x) = sql_text.inverse d x
inverse d (TagDatabase x) = tag_database.inverse d x
inverse d (Empty x) = empty.inverse d x

abbrev pub canonical_of : AnyChange → CanonicalChange
canonical_of (CreateTable x) = create_table.canonical_of x
canonical_of (DropTable x) = drop_table.canonical_of x
canonical_of (RenameTable x) = rename_table.canonical_of x
canonical_of (AddColumn x) = add_column.canonical_of x
canonical_of (DropColumn x) = drop_column.canonical_of x
canonical_of (RenameColumn x) = rename_column.canonical_of x
canonical_of (AddPrimaryKey x) = add_primary_key.canonical_of x
canonical_of (DropPrimaryKey x) = drop_primary_key.canonical_of x
canonical_of (AddForeignKeyConstraint x) = add_foreign_key.canonical_of x
canonical_of (DropForeignKeyConstraint x) = drop_foreign_key.canonical_of x
canonical_of (AddUniqueConstraint x) = add_unique.canonical_of x
canonical_of (DropUniqueConstraint x) = drop_unique.canonical_of x
canonical_of (AddNotNullConstraint x) = add_not_null.canonical_of x
canonical_of (DropNotNullConstraint x) = drop_not_null.canonical_of x
canonical_of (AddDefaultValue x) = add_default_value.canonical_of x
canonical_of (DropDefaultValue x) = drop_default_value.canonical_of x
canonical_of (CreateIndex x) = create_index.canonical_of x
canonical_of (DropIndex x) = drop_index.canonical_of x
canonical_of (CreateView x) = create_view.canonical_of x
canonical_of (DropView x) = drop_view.canonical_of x
canonical_of (RenameView x) = rename_view.canonical_of x
canonical_of (CreateSequence x) = create_sequence.canonical_of x
canonical_of (DropSequence x) = drop_sequence.canonical_of x
canonical_of (RenameSequence x) = rename_sequence.canonical_of x
canonical_of (Insert x) = insert.canonical_of x
canonical_of (Update x) = update.canonical_of x
canonical_of (Delete x) = delete.canonical_of x
canonical_of (LoadData x) = load_data.canonical_of x
canonical_of (Sql x) = sql_text.canonical_of x
canonical_of (TagDatabase x) = tag_database.canonical_of x
canonical_of (Empty x) = empty.canonical_of x
