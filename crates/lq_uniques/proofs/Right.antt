-- What is read of a node is a change of the dialect.
use Rattle.lq_base.specs.declared.dialect.Dialect.{Dialect}
use Rattle.lq_model.proofs.Lists.{and_true}
use Rattle.lq_tree.proofs.Says.{IsSo, Takes, change_in_so, given, name_so, names_so, optional_so, required_so, start}
use Rattle.lq_tree.proofs.Schemas.{object_within}
use Rattle.lq_uniques.specs.AddUnique as add_unique
use Rattle.lq_uniques.specs.DropUnique as drop_unique

pub add_unique_right : (d : Dialect) → Takes (IsSo (add_unique.is_for d)) (add_unique.add_unique d)
unfolding add_unique.add_unique
add_unique_right d = change_in_so (IsSo (add_unique.is_for d)) d add_unique.keys (
    given (optional_so name_so) (given (required_so names_so) (given (required_so name_so) (start (λ table is_table columns are_columns name is_name schema is_schema.
    and_true _ _ (object_within d schema table is_schema is_table) (and_true _ _ are_columns is_name))))))

pub drop_unique_right : (d : Dialect) → Takes (IsSo (drop_unique.is_for d)) (drop_unique.drop_unique d)
unfolding drop_unique.drop_unique
drop_unique_right d = change_in_so (IsSo (drop_unique.is_for d)) d drop_unique.keys (
    given (required_so name_so) (given (required_so name_so) (start (λ table is_table name is_name schema is_schema.
    and_true _ _ (object_within d schema table is_schema is_table) is_name))))
