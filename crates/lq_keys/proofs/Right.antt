-- What is read of a node is a change of the dialect.
use Rattle.std.specs.Prelude.{[], codes, true, ◌∷◌, ◌≡◌}
use Rattle.lq_base.specs.declared.dialect.Dialect.{Dialect}
use Rattle.lq_base.specs.declared.name.Name.{Name}
use Rattle.lq_model.proofs.Lists.{and_true}
use Rattle.lq_tree.proofs.Says.{IsSo, Says, Takes, anything, change_in_so, column_so, given, keys_in_so, map_with_so, name_so, names_so, optional_so, required_items_so, required_so, schema_so, start}
use Rattle.lq_tree.proofs.Schemas.{object_within}
use Rattle.lq_tree.specs.Keys.{catalogue, is_schema, keys_in}
use Rattle.lq_keys.specs.AddForeignKey as add_foreign_key
use Rattle.lq_keys.specs.CreateIndex as create_index
use Rattle.lq_keys.specs.DropForeignKey as drop_foreign_key
use Rattle.lq_keys.specs.DropIndex as drop_index
use Rattle.lq_keys.specs.OnDelete as column

pub drop_index_right : (d : Dialect) → Takes (IsSo (drop_index.is_for d)) (drop_index.drop_index d)
unfolding drop_index.drop_index
drop_index_right d = change_in_so (IsSo (drop_index.is_for d)) d drop_index.keys (
    given (required_so name_so) (given (required_so name_so) (start (λ index is_index table is_table schema is_schema.
    and_true _ _ is_index (object_within d schema table is_schema is_table)))))

pub drop_foreign_key_right : (d : Dialect) → Takes (IsSo (drop_foreign_key.is_for d)) (drop_foreign_key.drop_foreign_key d)
unfolding drop_foreign_key.drop_foreign_key
drop_foreign_key_right d =
    let key = codes "baseTableSchemaName" in
    map_with_so (IsSo (drop_foreign_key.is_for d)) (codes "remarks" ∷ []) (keys_in d key drop_foreign_key.keys) (keys_in_so (IsSo (drop_foreign_key.is_for d)) d key drop_foreign_key.keys (
    given (required_so name_so) (given (required_so name_so) (start (λ table is_table name is_name schema is_schema.
    and_true _ _ (object_within d schema table is_schema is_table) is_name)))))

column_right : Takes (IsSo column.is_column) column.index_column
unfolding column.index_column
column_right = map_with_so (IsSo column.is_column) (codes "remarks" ∷ []) column.keys (given (required_so name_so) (start (λ name is_name. is_name)))

pub create_index_right : (d : Dialect) → Takes (IsSo (create_index.is_for d)) (create_index.create_index d)
unfolding create_index.create_index
create_index_right d = change_in_so (IsSo (create_index.is_for d)) d create_index.keys (
    given anything (given (required_items_so (column_so column_right)) (given (required_so name_so) (given (optional_so name_so) (start (λ index is_index table is_table columns are_columns unique _ schema is_schema.
    and_true _ _ is_index (and_true _ _ (object_within d schema table is_schema is_table) are_columns)))))))

named_right : (d : Dialect) → Says (λ change. (schema : Name) → is_schema d schema ≡ true → (other : Name) → is_schema d other ≡ true → add_foreign_key.is_for d (change schema other) ≡ true) add_foreign_key.keys
named_right d =
    given anything (given (required_so names_so) (given (required_so name_so) (given (required_so names_so) (given (required_so name_so) (given (required_so name_so) (start (λ name is_name table is_table columns are_columns target is_target targets are_targets deletion _ schema is_schema other is_other.
    and_true _ _ is_name (and_true _ _ (object_within d schema table is_schema is_table) (and_true _ _ are_columns (and_true _ _ (object_within d other target is_other is_target) are_targets))))))))))

foreign_keys_right : (d : Dialect) → Says (IsSo (add_foreign_key.is_for d)) (add_foreign_key.all_keys d)
foreign_keys_right d =
    given {k = catalogue} anything (given (schema_so d) (given (schema_so d) (given (named_right d) (start (λ change is schema is_schema other is_other catalogue _. is schema is_schema other is_other)))))

pub add_foreign_key_right : (d : Dialect) → Takes (IsSo (add_foreign_key.is_for d)) (add_foreign_key.add_foreign_key d)
unfolding add_foreign_key.add_foreign_key
add_foreign_key_right d = record { of = λ n. (map_with_so (IsSo (add_foreign_key.is_for d)) (add_foreign_key.ignored n) (add_foreign_key.all_keys d) (foreign_keys_right d)).of n }
