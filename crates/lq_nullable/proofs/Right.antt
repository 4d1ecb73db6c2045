-- What is read of a node is a change of the dialect.
use Rattle.lq_base.specs.declared.dialect.Dialect.{Dialect}
use Rattle.lq_model.proofs.Lists.{and_true}
use Rattle.lq_model.specs.Step.{is_pg}
use Rattle.lq_tree.proofs.Says.{IsSo, Takes, anything, change_in_so, given, kind_so, name_so, required_so, required_unless_so, start}
use Rattle.lq_tree.proofs.Schemas.{object_within}
use Rattle.lq_nullable.specs.AddNotNull as add_not_null
use Rattle.lq_nullable.specs.DropNotNull as drop_not_null

pub add_not_null_right : (d : Dialect) → Takes (IsSo (add_not_null.is_for d)) (add_not_null.add_not_null d)
unfolding add_not_null.add_not_null
add_not_null_right d = change_in_so (IsSo (add_not_null.is_for d)) d (add_not_null.keys d) (
    given anything (given (required_unless_so (is_pg d) kind_so) (given (required_so name_so) (given (required_so name_so) (start (λ table is_table column is_column kind is value _ schema is_schema.
    and_true _ _ (object_within d schema table is_schema is_table) (and_true _ _ is_column (and_true _ _ is.0 is.1))))))))

pub drop_not_null_right : (d : Dialect) → Takes (IsSo (drop_not_null.is_for d)) (drop_not_null.drop_not_null d)
unfolding drop_not_null.drop_not_null
drop_not_null_right d = change_in_so (IsSo (drop_not_null.is_for d)) d (drop_not_null.keys d) (
    given (required_unless_so (is_pg d) kind_so) (given (required_so name_so) (given (required_so name_so) (start (λ table is_table column is_column kind is schema is_schema.
    and_true _ _ (object_within d schema table is_schema is_table) (and_true _ _ is_column (and_true _ _ is.0 is.1)))))))
