-- What statements on keys, foreign keys and indexes look up.
use Rattle.std.specs.BTreeSet.{BTreeSet, contains}
use Rattle.std.specs.List.{list_any}
use Rattle.std.specs.Prelude.{Bool, List, None, Option, Some, cond, false, map, not, true, ◌&&◌, ◌||◌, ◌≡◌}
use Rattle.lq_arm.specs.Verdict.{tests_of, verdict_of}
use Rattle.lq_arm.specs.declared.tests.Tests.{Tests}
use Rattle.lq_base.specs.Name.{is_named}
use Rattle.lq_base.specs.declared.name.Name.{Name}
use Rattle.lq_base.specs.declared.value.Value.{Value}
use Rattle.lq_decide.specs.Faults.{Faults, judged}
use Rattle.lq_model.specs.Catalogue.{Catalogue, Table, is_null, key_list, picked, same_names, same_values, the_table, with_table}
use Rattle.lq_model.specs.Constraints.{has_index_in, without_index_in}
use Rattle.lq_model.specs.Plan.{Plan, decide}
use Rattle.lq_model.specs.declared.column.Column.{Column}
use Rattle.lq_model.specs.declared.constraint.ForeignKey.{ForeignKey}
use Rattle.lq_rows.specs.Stored.{Stored, values_cmp, with_shape}
use Rattle.lq_rows.specs.declared.shape.Shape.{Shape}

-- The indexes of a name, on whichever tables they are.

-- the name of a table that has an index of the name in its schema, or nothing where none has
abbrev pub Finds : Name → List (Name × Stored) → Option Name → Type 0
Finds n es None = list_any (λ e. has_index_in n e.0 e.1.now) es ≡ false
Finds n es (Some t) = list_any (λ e. is_named t e.0 && has_index_in n e.0 e.1.now) es ≡ true

-- each table without its indexes of the name
abbrev pub all_without : Name → Catalogue → Catalogue
all_without n c = record c { tables = map (λ e. (e.0, without_index_in n e.0 e.1)) c.tables }

-- How a statement ends that gives a table another shape.

-- the plan is judged by these faults, which the tests ask for, and would give the table this shape
pub record Reshapes (p : Plan) (x : Faults) (tests : Tests) (t : Name) (shape : Shape) (c : Catalogue) : Type 0 where
  pub judged : decide p ≡ judged p x
  pub tested : verdict_of tests ≡ verdict_of (tests_of p x)
  pub result : p.result ≡ with_table c t (with_shape shape (the_table c t))
  pub count : p.count ≡ 0

-- Values that are kept for looking up.

-- no values of which one is null
abbrev pub HasNoNull : BTreeSet (List Value) → Type 0
HasNoNull set = (values : List Value) → list_any is_null values ≡ true → contains values_cmp set values ≡ false

-- Rows without a parent.

-- whether a row of these columns has no parent in the foreign key's target
abbrev pub lacks_parent_in : Table → List Column → ForeignKey → List Value → Bool
lacks_parent_in target cs f row =
    let own = picked cs f.columns row in
    not (list_any is_null own) && not (list_any (λ r. same_values own (picked target.columns f.targets r)) target.rows)

-- Tests of which none holds.

abbrev pub no_tests : Tests
no_tests = record {
  reserved = false;
  missing = false;
  exists = false;
  depends = false;
  wrong = false;
  wide = false;
  nulls = false;
  twins = false;
  orphans = false;
  children = false;
  full = false;
}

-- What foreign keys may target.

-- whether the columns are those of the key or of a unique constraint
abbrev pub is_target : Shape → List Name → Bool
is_target shape ns = list_any (λ k. same_names ns k.columns) (key_list shape.key) || list_any (λ u. same_names ns u.columns) shape.uniques

-- whether a foreign key aims at the table t, which has this shape, and has nothing there to target
abbrev pub aims_in_vain : Name → Shape → ForeignKey → Bool
aims_in_vain t shape f = is_named t f.table && not (is_target shape f.targets)

-- whether one of a table's foreign keys does; those of t itself are the shape's
abbrev pub any_aims_in_vain : Name → Shape → Name → List ForeignKey → Bool
any_aims_in_vain t shape n fs = list_any (aims_in_vain t shape) (cond (is_named t n) shape.foreign fs)
