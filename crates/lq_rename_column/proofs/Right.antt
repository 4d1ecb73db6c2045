-- What is read of a node is a change of the dialect.
use Rattle.lq_base.specs.declared.dialect.Dialect.{Dialect}
use Rattle.lq_model.proofs.Lists.{and_true}
use Rattle.lq_tree.proofs.Says.{IsSo, Takes, change_in_so, given, kind_so, name_so, optional_so, required_so, start}
use Rattle.lq_tree.proofs.Schemas.{object_within}
use Rattle.lq_rename_column.specs.RenameColumn.{is_for, keys, rename_column}

pub rename_column_right : (d : Dialect) → Takes (IsSo (is_for d)) (rename_column d)
unfolding rename_column
rename_column_right d = change_in_so (IsSo (is_for d)) d keys (
    given (optional_so kind_so) (given (required_so name_so) (given (required_so name_so) (given (required_so name_so) (start (λ table is_table old is_old new is_new kind is_kind schema is_schema.
    and_true _ _ (object_within d schema table is_schema is_table) (and_true _ _ is_old (and_true _ _ is_new is_kind))))))))
