-- What is read of a node is a change of the dialect.
use Rattle.std.specs.Prelude.{IfOk, None, Option, Some, ◌≡◌, true}
use Rattle.lq_base.specs.Kind.{is_kind}
use Rattle.lq_base.specs.Name.{is_name}
use Rattle.lq_base.specs.declared.dialect.Dialect.{Dialect}
use Rattle.lq_base.specs.declared.kind.Kind.{Kind}
use Rattle.lq_base.specs.declared.name.Name.{Name}
use Rattle.lq_model.proofs.Lists.{and_true}
use Rattle.lq_tree.proofs.Says.{IsIfThere, IsSo, Takes, change_in_so, family_so, given, kind_so, name_so, optional_so, required_so, start, then_so}
use Rattle.lq_tree.proofs.Schemas.{object_within}
use Rattle.lq_tree.specs.Look.{Found}
use Rattle.lq_tree.specs.Keys.{a_change_in, is_schema}
use Rattle.lq_tree.specs.Values.{is_given}
use Rattle.lq_tree.specs.declared.values.GivenValue.{GivenValue}
use Rattle.lq_columns.specs.AddDefaultValue as add_default_value
use Rattle.lq_columns.specs.DropColumn as drop_column
use Rattle.lq_columns.specs.DropDefaultValue as drop_default_value
use Rattle.lq_columns.specs.declared.add_default_value.AddDefaultValue.{AddDefaultValue}

pub drop_column_right : (d : Dialect) → Takes (IsSo (drop_column.is_for d)) (drop_column.drop_column d)
unfolding drop_column.drop_column
drop_column_right d = change_in_so (IsSo (drop_column.is_for d)) d drop_column.keys (
    given (required_so name_so) (given (required_so name_so) (start (λ table is_table column is_column schema is_schema.
    and_true _ _ (object_within d schema table is_schema is_table) is_column))))

pub drop_default_value_right : (d : Dialect) → Takes (IsSo (drop_default_value.is_for d)) (drop_default_value.drop_default_value d)
unfolding drop_default_value.drop_default_value
drop_default_value_right d = change_in_so (IsSo (drop_default_value.is_for d)) d drop_default_value.keys (
    given (optional_so kind_so) (given (required_so name_so) (given (required_so name_so) (start (λ table is_table column is_column kind is_kind schema is_schema.
    and_true _ _ (object_within d schema table is_schema is_table) (and_true _ _ is_column is_kind))))))

stated_right : (d : Dialect) (table column : Name) (kind : Option Kind) (value : Option GivenValue) (schema : Name) → is_name table ≡ true → is_name column ≡ true → IsIfThere is_kind kind → IsIfThere is_given value → is_schema d schema ≡ true
    → IfOk (add_default_value.stated table column kind value schema) (IsSo (add_default_value.is_for d))
stated_right d table column kind None schema is_table is_column is_kind fits is_schema = tt
stated_right d table column kind (Some value) schema is_table is_column is_kind fits is_schema =
    and_true _ _ (object_within d schema table is_schema is_table) (and_true _ _ is_column (and_true _ _ is_kind fits))

pub add_default_value_right : (d : Dialect) → Takes (IsSo (add_default_value.is_for d)) (add_default_value.add_default_value d)
unfolding add_default_value.add_default_value
add_default_value_right d = record { of = λ n. then_so P (IsSo (add_default_value.is_for d)) (a_change_in d add_default_value.keys n) (λ found. found) (stated.of n) (λ found is. is) } where
  P : Found AddDefaultValue → Type 0
  P found = IfOk found (IsSo (add_default_value.is_for d))

  stated : Takes P (a_change_in d add_default_value.keys)
  stated = change_in_so P d add_default_value.keys (
      given family_so (given (optional_so kind_so) (given (required_so name_so) (given (required_so name_so) (start (λ table is_table column is_column kind is_kind value fits schema is_schema.
      stated_right d table column kind value schema is_table is_column is_kind fits is_schema))))))
