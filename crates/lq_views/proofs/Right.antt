-- What is read of a node is a change of the dialect.
use Rattle.std.specs.Option.{unwrap_or}
use Rattle.std.specs.Prelude.{Bool, IfOk, IfSome, List, None, Ok, Option, Some, codes, if◌then◌else◌, is_some, option_and_then, pos, refl, true, false, ℕ, ℤ, ◌≡◌}
use Rattle.lq_base.specs.Name.{is_name}
use Rattle.lq_base.specs.declared.dialect.Dialect.{Dialect}
use Rattle.lq_base.specs.declared.dialect.Dialect.TheVariants.{Mysql, Postgresql}
use Rattle.lq_base.specs.declared.name.Name.{Name}
use Rattle.lq_model.proofs.Lists.{and_true}
use Rattle.lq_model.specs.SqlText.{QueriesAreSpelled, query_in}
use Rattle.lq_model.specs.declared.query.Query.{Query}
use Rattle.lq_tree.proofs.Says.{IsIfThere, IsSo, Takes, anything, change_at, change_so, given, given_at, name_so, optional_so, required_so, start}
use Rattle.lq_tree.proofs.Small.{is_small, value_small, whole_small}
use Rattle.lq_tree.specs.Look.{map_found, or_bad, within, printed_of, value_at, whole_of}
use Rattle.lq_tree.specs.Given.{a_name, a_whole, if_so, is_whole}
use Rattle.lq_tree.specs.Keys.{at_optional, fields, optional, required, ◌⊛◌}
use Rattle.lq_tree.specs.declared.node.Node.{Node}
use Rattle.lq_views.specs.CreateSequence as create_sequence
use Rattle.lq_views.specs.CreateView as create_view
use Rattle.lq_views.specs.DropSequence as drop_sequence
use Rattle.lq_views.specs.DropView as drop_view
use Rattle.lq_views.specs.QueryText.{a_query, is_some_query, same_dialect, spelling, spells_query}
use Rattle.lq_views.specs.RenameSequence as rename_sequence
use Rattle.lq_views.specs.RenameView as rename_view
use Rattle.lq_views.specs.declared.create_sequence.CreateSequence.{CreateSequence}

-- ---- views

dialect_itself : (d : Dialect) → same_dialect d d ≡ true
dialect_itself Postgresql = refl
dialect_itself Mysql = refl

query_right : (d : Dialect) → QueriesAreSpelled d → Takes (IsSo (spells_query d)) (a_query d)
query_right d spelled = record { of = λ n. by (printed_of n) } where
  found : (t : List ℕ) (query : Option Query) → query_in d t ≡ query → IfOk (or_bad (if is_some query then Some (record { dialect = d; text = t }) else None)) (IsSo (spells_query d))
  found t None is = tt
  found t (Some q) is = and_true _ _ (dialect_itself d) (rw is (spelled t q is))

  by : (text : Option (List ℕ)) → IfOk (or_bad (option_and_then (spelling d) text)) (IsSo (spells_query d))
  by None = tt
  by (Some t) = found t (query_in d t) refl

pub create_view_right : (d : Dialect) → QueriesAreSpelled d → Takes (IsSo (create_view.is_for d)) (create_view.create_view d)
unfolding create_view.create_view
create_view_right d spelled = change_so (IsSo (create_view.is_for d)) (create_view.keys d) (
    given anything (given (required_so (query_right d spelled)) (given (required_so name_so) (start (λ view is_view query is_query replace _. and_true _ _ is_view is_query)))))

pub drop_view_right : (d : Dialect) → Takes (IsSo (drop_view.is_for d)) drop_view.drop_view
unfolding drop_view.drop_view
drop_view_right d = change_so (IsSo (drop_view.is_for d)) drop_view.keys (given (required_so name_so) (start (λ view is_view. is_view)))

pub rename_view_right : (d : Dialect) → Takes (IsSo (rename_view.is_for d)) rename_view.rename_view
unfolding rename_view.rename_view
rename_view_right d = change_so (IsSo (rename_view.is_for d)) rename_view.keys (given (required_so name_so) (given (required_so name_so) (start (λ old is_old new is_new. and_true _ _ is_old is_new))))

-- ---- sequences, which are read under PostgreSQL alone

pub drop_sequence_right : (d : Dialect) → Takes (IsSo (drop_sequence.is_for d)) (drop_sequence.drop_sequence d)
unfolding drop_sequence.drop_sequence
drop_sequence_right Postgresql = record { of = λ n. (change_so (IsSo (drop_sequence.is_for Postgresql)) drop_sequence.keys (given (required_so name_so) (start (λ sequence is. is)))).of n }
drop_sequence_right Mysql = record { of = λ n. tt }

pub rename_sequence_right : (d : Dialect) → Takes (IsSo (rename_sequence.is_for d)) (rename_sequence.rename_sequence d)
unfolding rename_sequence.rename_sequence
rename_sequence_right Postgresql = record { of = λ n. (change_so (IsSo (rename_sequence.is_for Postgresql)) rename_sequence.keys (given (required_so name_so) (given (required_so name_so) (start (λ old is_old new is_new. and_true _ _ is_old is_new))))).of n }
rename_sequence_right Mysql = record { of = λ n. tt }

-- its numbers, where all of the tree have 128 signed bits

start_right : (value : Option Node) → IfSome value (IsSo is_small) → IfOk (at_optional (codes "startValue") a_whole value) (IsIfThere is_whole)
start_right None small = refl
start_right (Some v) small = by (whole_of v) (whole_small v small) where
  by : (z : Option ℤ) → IfSome z (IsSo is_whole) → IfOk (map_found (λ z. Some z) (within (codes "startValue") (or_bad z))) (IsIfThere is_whole)
  by None is = tt
  by (Some z) is = is

increment_right : (value : Option Node) → IfSome value (IsSo is_small) → IfOk (at_optional (codes "incrementBy") create_sequence.an_increment value) (IsIfThere create_sequence.is_increment)
increment_right None small = refl
increment_right (Some v) small = by (whole_of v) (whole_small v small) where
  tested : (z : ℤ) → is_whole z ≡ true → (some : Bool) → create_sequence.is_not_zero z ≡ some → IfOk (map_found (λ z. Some z) (within (codes "incrementBy") (or_bad (if some then Some z else None)))) (IsIfThere create_sequence.is_increment)
  tested z is true so = and_true _ _ is so
  tested z is false so = tt

  by : (z : Option ℤ) → IfSome z (IsSo is_whole) → IfOk (map_found (λ z. Some z) (within (codes "incrementBy") (or_bad (option_and_then (if_so create_sequence.is_not_zero) z)))) (IsIfThere create_sequence.is_increment)
  by None is = tt
  by (Some z) is = tested z is (create_sequence.is_not_zero z) refl

or_one : (fits : ℤ → Bool) → fits (pos 1) ≡ true → (z : Option ℤ) → IsIfThere fits z → fits (unwrap_or z (pos 1)) ≡ true
or_one fits one None is = one
or_one fits one (Some z) is = is

made : Name → Option ℤ → Option ℤ → CreateSequence
made sequence start increment = record { sequence_name = sequence; start_value = unwrap_or start (pos 1); increment_by = unwrap_or increment (pos 1) }

made_right : (sequence : Name) → is_name sequence ≡ true → (start : Option ℤ) → IsIfThere is_whole start → (increment : Option ℤ) → IsIfThere create_sequence.is_increment increment → create_sequence.is_for Postgresql (made sequence start increment) ≡ true
unfolding made
made_right sequence is_named start is_start increment is_increment = and_true _ _ is_named (and_true _ _ (or_one is_whole refl start is_start) (or_one create_sequence.is_increment refl increment is_increment))

numbers_right : (n : Node) → is_small n ≡ true → IfOk (create_sequence.keys.says n) (IsSo (create_sequence.is_for Postgresql))
unfolding made
numbers_right n small =
    given_at (IsIfThere create_sequence.is_increment) (IsSo (create_sequence.is_for Postgresql)) n (fields made ⊛ required (codes "sequenceName") a_name ⊛ optional (codes "startValue") a_whole) (optional (codes "incrementBy") create_sequence.an_increment)
    (increment_right (value_at (codes "incrementBy") n) (value_small (codes "incrementBy") n small))
    (given_at (IsIfThere is_whole) (λ (g : Option ℤ → CreateSequence). (increment : Option ℤ) → IsIfThere create_sequence.is_increment increment → create_sequence.is_for Postgresql (g increment) ≡ true) n
    (fields made ⊛ required (codes "sequenceName") a_name) (optional (codes "startValue") a_whole) (start_right (value_at (codes "startValue") n) (value_small (codes "startValue") n small))
    (given_at (IsSo is_name) (λ (g : Option ℤ → Option ℤ → CreateSequence). (start : Option ℤ) → IsIfThere is_whole start → (increment : Option ℤ) → IsIfThere create_sequence.is_increment increment → create_sequence.is_for Postgresql (g start increment) ≡ true) n
    (fields made) (required (codes "sequenceName") a_name) ((required_so {key = codes "sequenceName"} name_so).of n) made_right))

pub create_sequence_right : (d : Dialect) (n : Node) → is_small n ≡ true → IfOk (create_sequence.create_sequence d n) (IsSo (create_sequence.is_for d))
unfolding create_sequence.create_sequence
create_sequence_right Postgresql n small = change_at (IsSo (create_sequence.is_for Postgresql)) create_sequence.keys n (numbers_right n small)
create_sequence_right Mysql n small = tt
