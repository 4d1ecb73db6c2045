-- What is read of a node is a change of the dialect.
use Rattle.std.specs.Option.{option_map}
use Rattle.std.specs.Prelude.{Bool, Err, IfOk, IfSome, List, None, Ok, Option, Some, [], codes, if◌then◌else◌, is_none, is_some, nat_le, option_and_then, refl, true, false, ℕ, drop, length, take, ◌&&◌, ◌+◌, ◌∷◌, ◌≡◌}
use Rattle.std.specs.Str.{is_utf8}
use Rattle.lq_base.specs.Name.{is_name}
use Rattle.lq_base.specs.Number.{if_there}
use Rattle.lq_base.specs.declared.dialect.Dialect.{Dialect}
use Rattle.lq_base.specs.declared.fault.KindFault.TheVariants.{Missing}
use Rattle.lq_base.specs.declared.name.Name.{Name}
use Rattle.lq_model.proofs.Lists.{and_true}
use Rattle.lq_model.specs.declared.table_item.Target.{Target}
use Rattle.lq_tree.proofs.Says.{IsIfThere, IsSo, Takes, all_found, anything, change_in_so, column_so, family_so, given, kind_so, map_with_so, name_so, optional_so, required_items_so, required_so, start, then_so}
use Rattle.lq_tree.proofs.Schemas.{object_within}
use Rattle.lq_tree.specs.Look.{Found, or_bad}
use Rattle.lq_tree.specs.Given.{a_text, a_truth, if_so}
use Rattle.lq_tree.specs.Keys.{map_with, optional}
use Rattle.lq_tables.specs.AddColumn as add_column
use Rattle.lq_tables.specs.Constraints.{a_reference, closed, is_reference, is_target, last_open, name_in, target_at, target_of}
use Rattle.lq_tables.specs.ConstraintsLaws.{found_fits}
use Rattle.lq_tables.specs.CreateTable as create_table
use Rattle.lq_tables.specs.DropTable as drop_table
use Rattle.lq_tables.specs.RenameTable as rename_table
use Rattle.lq_tables.specs.declared.add_column.AddedConstraints.{AddedConstraints}
use Rattle.lq_tables.specs.declared.create_table.CreatedConstraints.{CreatedConstraints}

pub drop_table_right : (d : Dialect) → Takes (IsSo (drop_table.is_for d)) (drop_table.drop_table d)
unfolding drop_table.drop_table
drop_table_right d = change_in_so (IsSo (drop_table.is_for d)) d drop_table.keys (given (required_so name_so) (start (λ table is_table schema is_schema. object_within d schema table is_schema is_table)))

pub rename_table_right : (d : Dialect) → Takes (IsSo (rename_table.is_for d)) (rename_table.rename_table d)
unfolding rename_table.rename_table
rename_table_right d = change_in_so (IsSo (rename_table.is_for d)) d rename_table.keys (
    given (required_so name_so) (given (required_so name_so) (start (λ old is_old new is_new schema is_schema.
    and_true _ _ (object_within d schema old is_schema is_old) is_new))))

-- ---- references

name_right : (bytes : List ℕ) → IfSome (name_in bytes) (IsSo is_name)
name_right bytes = by (is_utf8 bytes) (is_name bytes) refl where
  by : (text name : Bool) → is_name bytes ≡ name → IfSome (if text then (if name then Some bytes else None) else None) (IsSo is_name)
  by true true is = is
  by true false is = tt
  by false name is = tt

target_right : (table column : Option Name) → IfSome table (IsSo is_name) → IfSome column (IsSo is_name)
    → IfSome (option_and_then (λ t. option_map (λ n. record { table = t; column = n }) column) table) (IsSo is_target)
target_right None column is_table is_column = tt
target_right (Some t) None is_table is_column = tt
target_right (Some t) (Some n) is_table is_column = and_true _ _ is_table is_column

closed_right : (front : Option (List ℕ)) → IfSome (option_and_then name_in front) (IsSo is_name)
closed_right None = tt
closed_right (Some bytes) = name_right bytes

at_right : (bytes : List ℕ) (place : Option ℕ) → IfSome (option_and_then (target_at bytes) place) (IsSo is_target)
at_right bytes None = tt
at_right bytes (Some i) = target_right (name_in (take i bytes)) (option_and_then name_in (closed (drop (i + 1) bytes))) (name_right (take i bytes)) (closed_right (closed (drop (i + 1) bytes)))

of_right : (bytes : List ℕ) → IfSome (target_of bytes) (IsSo is_target)
of_right bytes = by (nat_le (length bytes) 128) where
  by : (few : Bool) → IfSome (if few then option_and_then (target_at bytes) (last_open bytes) else None) (IsSo is_target)
  by true = at_right bytes (last_open bytes)
  by false = tt

reference_right : Takes (IsSo is_reference) a_reference
unfolding a_reference
reference_right = record { of = λ n. then_so (λ _. Unit {0}) (IsSo is_reference) (a_text n) (λ bytes. or_bad (option_map (λ found. record { text = bytes; target = found }) (target_of bytes))) (all_found (a_text n)) (λ bytes _. by bytes (target_of bytes) refl (of_right bytes)) } where
  by : (bytes : List ℕ) (target : Option Target) → target_of bytes ≡ target → IfSome target (IsSo is_target) → IfOk (or_bad (option_map (λ found. record { text = bytes; target = found }) target)) (IsSo is_reference)
  by bytes None is fits = tt
  by bytes (Some target) is fits = found_fits bytes target is fits

-- ---- columns

created_right : (cs : CreatedConstraints) → create_table.is_constraints cs ≡ true → IfOk (create_table.with_foreign_name cs) (IsSo create_table.is_constraints)
created_right cs is = by (is_some cs.references && is_none cs.foreign_key_name) where
  by : (wrong : Bool) → IfOk (if wrong then Err (Missing (codes "foreignKeyName")) else Ok cs) (IsSo create_table.is_constraints)
  by true = tt
  by false = is

abbrev IsCreated : Found CreatedConstraints → Type 0
IsCreated found = IfOk found (IsSo create_table.is_constraints)

created_stated : Takes IsCreated (map_with [] create_table.constraints_keys)
created_stated = map_with_so IsCreated [] create_table.constraints_keys (
    given (optional_so {key = codes "foreignKeyName"} name_so) (given (optional_so {key = codes "references"} reference_right) (given (optional_so {key = codes "uniqueConstraintName"} name_so) (given {k = optional (codes "unique") a_truth} anything (given {k = optional (codes "nullable") a_truth} anything (given (optional_so {key = codes "primaryKeyName"} name_so) (given {k = optional (codes "primaryKey") a_truth} anything (start (λ primary _ key is_key nullable _ unique _ name is_name references is_reference foreign is_foreign.
    created_right (record { primary_key = primary; primary_key_name = key; nullable = nullable; unique = unique; unique_constraint_name = name; references = references; foreign_key_name = foreign }) (and_true _ _ is_key (and_true _ _ is_name (and_true _ _ is_reference is_foreign))))))))))))

created_constraints_right : Takes (IsSo create_table.is_constraints) create_table.created_constraints
unfolding create_table.created_constraints
created_constraints_right = record { of = λ n. then_so IsCreated (IsSo create_table.is_constraints) (map_with [] create_table.constraints_keys n) (λ found. found) (created_stated.of n) (λ found is. is) }

created_column_right : Takes (IsSo create_table.is_created) create_table.created_column
unfolding create_table.created_column
created_column_right = map_with_so (IsSo create_table.is_created) (codes "remarks" ∷ []) create_table.column_keys (
    given (optional_so {key = codes "constraints"} created_constraints_right) (given (family_so {text = codes "defaultValue"} {number = codes "defaultValueNumeric"} {truth = codes "defaultValueBoolean"} {date = codes "defaultValueDate"}) (given {k = optional (codes "autoIncrement") a_truth} anything (given (required_so {key = codes "type"} kind_so) (given (required_so {key = codes "name"} name_so) (start (λ name is_name kind is_kind numbered _ default is_given constraints are.
    and_true _ _ is_name (and_true _ _ is_kind (and_true _ _ is_given are)))))))))

pub create_table_right : (d : Dialect) → Takes (IsSo (create_table.is_for d)) (create_table.create_table d)
unfolding create_table.create_table
create_table_right d = change_in_so (IsSo (create_table.is_for d)) d create_table.keys (
    given (required_items_so (column_so created_column_right)) (given (required_so name_so) (start (λ table is_table columns are schema is_schema.
    and_true _ _ (object_within d schema table is_schema is_table) are))))

added_right : (cs : AddedConstraints) → add_column.is_constraints cs ≡ true → IfOk (add_column.with_foreign_name cs) (IsSo add_column.is_constraints)
added_right cs is = by (is_some cs.references && is_none cs.foreign_key_name) where
  by : (wrong : Bool) → IfOk (if wrong then Err (Missing (codes "foreignKeyName")) else Ok cs) (IsSo add_column.is_constraints)
  by true = tt
  by false = is

abbrev IsAdded : Found AddedConstraints → Type 0
IsAdded found = IfOk found (IsSo add_column.is_constraints)

added_stated : Takes IsAdded (map_with [] add_column.constraints_keys)
added_stated = map_with_so IsAdded [] add_column.constraints_keys (
    given (optional_so {key = codes "foreignKeyName"} name_so) (given (optional_so {key = codes "references"} reference_right) (given (optional_so {key = codes "uniqueConstraintName"} name_so) (given {k = optional (codes "unique") a_truth} anything (given {k = optional (codes "nullable") a_truth} anything (given (optional_so {key = codes "primaryKeyName"} name_so) (start (λ key is_key nullable _ unique _ name is_name references is_reference foreign is_foreign.
    added_right (record { primary_key_name = key; nullable = nullable; unique = unique; unique_constraint_name = name; references = references; foreign_key_name = foreign }) (and_true _ _ is_key (and_true _ _ is_name (and_true _ _ is_reference is_foreign)))))))))))

added_constraints_right : Takes (IsSo add_column.is_constraints) add_column.a_constraints
unfolding add_column.a_constraints
added_constraints_right = record { of = λ n. then_so IsAdded (IsSo add_column.is_constraints) (map_with [] add_column.constraints_keys n) (λ found. found) (added_stated.of n) (λ found is. is) }

added_column_right : Takes (IsSo add_column.is_added) add_column.added_column
unfolding add_column.added_column
added_column_right = map_with_so (IsSo add_column.is_added) (codes "remarks" ∷ []) add_column.column_keys (
    given (family_so {text = codes "value"} {number = codes "valueNumeric"} {truth = codes "valueBoolean"} {date = codes "valueDate"}) (given (optional_so {key = codes "constraints"} added_constraints_right) (given (family_so {text = codes "defaultValue"} {number = codes "defaultValueNumeric"} {truth = codes "defaultValueBoolean"} {date = codes "defaultValueDate"}) (given (required_so {key = codes "type"} kind_so) (given (required_so {key = codes "name"} name_so) (start (λ name is_name kind is_kind default is_given constraints are value fits.
    and_true _ _ is_name (and_true _ _ is_kind (and_true _ _ is_given (and_true _ _ are fits))))))))))

pub add_column_right : (d : Dialect) → Takes (IsSo (add_column.is_for d)) (add_column.add_column d)
unfolding add_column.add_column
add_column_right d = change_in_so (IsSo (add_column.is_for d)) d add_column.keys (
    given (required_items_so (column_so added_column_right)) (given (required_so name_so) (start (λ table is_table columns are schema is_schema.
    and_true _ _ (object_within d schema table is_schema is_table) are))))
