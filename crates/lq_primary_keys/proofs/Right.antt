-- What is read of a node is a change of the dialect.
use Rattle.lq_base.specs.declared.dialect.Dialect.{Dialect}
use Rattle.lq_model.proofs.Lists.{and_true}
use Rattle.lq_tree.proofs.Says.{IsSo, Takes, change_in_so, given, name_so, names_so, optional_so, required_so, start}
use Rattle.lq_tree.proofs.Schemas.{object_within}
use Rattle.lq_primary_keys.specs.AddPrimaryKey as add_primary_key
use Rattle.lq_primary_keys.specs.DropPrimaryKey as drop_primary_key

pub add_primary_key_right : (d : Dialect) → Takes (IsSo (add_primary_key.is_for d)) (add_primary_key.add_primary_key d)
unfolding add_primary_key.add_primary_key
add_primary_key_right d = change_in_so (IsSo (add_primary_key.is_for d)) d add_primary_key.keys (
    given (optional_so name_so) (given (required_so names_so) (given (required_so name_so) (start (λ table is_table columns are_columns name is_name schema is_schema.
    and_true _ _ (object_within d schema table is_schema is_table) (and_true _ _ are_columns is_name))))))

pub drop_primary_key_right : (d : Dialect) → Takes (IsSo (drop_primary_key.is_for d)) (drop_primary_key.drop_primary_key d)
unfolding drop_primary_key.drop_primary_key
drop_primary_key_right d = change_in_so (IsSo (drop_primary_key.is_for d)) d drop_primary_key.keys (
    given (optional_so name_so) (given (required_so name_so) (start (λ table is_table name is_name schema is_schema.
    and_true _ _ (object_within d schema table is_schema is_table) is_name))))
