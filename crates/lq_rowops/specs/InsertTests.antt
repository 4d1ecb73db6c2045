-- What UPDATE makes of the rows of a table.
use Rattle.std.specs.List.{list_any}
use Rattle.std.specs.Prelude.{Bool, Err, List, None, Ok, Option, Result, Some, [], cond, false, is_none, length, map, nat_le, not, suc, true, ℕ, ◌&&◌, ◌==◌, ◌||◌, ◌∷◌, ◌≡◌}
use Rattle.lq_base.specs.Name.{is_named}
use Rattle.lq_base.specs.declared.dialect.Dialect.{Dialect}
use Rattle.lq_base.specs.declared.literal.Literal.{Literal}
use Rattle.lq_base.specs.declared.name.Name.{Name}
use Rattle.lq_base.specs.declared.reason.Reason.{Reason}
use Rattle.lq_base.specs.declared.reason.Reason.TheVariants as reason
use Rattle.lq_base.specs.declared.value.Value.{Value}
use Rattle.lq_decide.specs.Faults.{are_twins, is_orphan, meets, names_set}
use Rattle.lq_model.specs.Catalogue.{Catalogue, Table, column_missing, has_bad_null, is_in, repeats, table_of, target_lists, the_table, with_table}
use Rattle.lq_model.specs.Kinds.{is_wide, is_wrong, value_in}
use Rattle.lq_model.specs.NameSpaces.{is_reserved}
use Rattle.lq_model.specs.Plan.{is_twin, lacks_parent, most_rows, unless}
use Rattle.lq_model.specs.Rows.{cell, next_of, row_of, set_all, set_value_of, stated, with_row}
use Rattle.lq_model.specs.Truth.{takes}
use Rattle.lq_model.specs.declared.caller.By.{By}
use Rattle.lq_model.specs.declared.column.Column.{Column}
use Rattle.lq_model.specs.declared.constraint.ForeignKey.{ForeignKey}
use Rattle.lq_model.specs.declared.test.Test.{Test}
use Rattle.lq_rowops.specs.declared.inserting.Planned.{Planned}
use Rattle.lq_rowops.specs.declared.setting.SetValues.{SetValues}
use Rattle.lq_rows.specs.Stored.{Means}
use Rattle.lq_rows.specs.declared.fault.RunFault.{RunFault}
use Rattle.lq_rows.specs.declared.fault.RunFault.TheVariants.{OutOfMemory, Refused}

-- what is set, as the kind of its column takes it, and null where it does not
abbrev pub value_set : List Column → Name × Literal → Value
value_set cs s = value_in (set_value_of cs s)

-- the new row in place of a row that the test takes
abbrev pub edit : List (Name × Literal) → Option Test → List Column → List Value → Option (List Value)
edit sets test cs row = cond (takes test cs row) (Some (set_all sets cs row)) None

-- a new row that a test holds of
abbrev pub is_some_such : (List Value → Bool) → Option (List Value) → Bool
is_some_such p None = false
is_some_such p (Some row) = p row

-- a column that is set stands in what a foreign key may target
abbrev pub sets_target : List (Name × Literal) → Table → Bool
sets_target sets it = list_any (meets (names_set sets)) (target_lists it)

-- a foreign key aims at a column of the table that is set
abbrev pub aims : Name → List (Name × Literal) → ForeignKey → Bool
aims t sets f = is_named t f.table && meets (names_set sets) f.targets

-- rows of which one has lost its parent by a foreign key that aims at a set column
abbrev pub loses : Name → List (Name × Literal) → Catalogue → List Column → List (List Value) → ForeignKey → Bool
loses t sets after cs rows f = aims t sets f && list_any (lacks_parent after cs f) rows

-- a new row has no parent by another foreign key of which a column is set
abbrev pub strays : Name → List (Name × Literal) → List (Option (List Value)) → Catalogue → List Column → ForeignKey → Bool
strays t sets by c cs f = not (aims t sets f) && (meets (names_set sets) f.columns && list_any (is_some_such (lacks_parent c cs f)) by)

-- the values that are set, and whether one does not go into its column
pub record AreSet (cs : List Column) (sets : List (Name × Literal)) (all : SetValues) : Type 0 where
  pub values : all.values ≡ map (value_set cs) sets
  pub wrong : all.is_wrong ≡ list_any (λ s. is_wrong (set_value_of cs s)) sets
  pub wide : all.is_wide ≡ list_any (λ s. is_wide (set_value_of cs s)) sets

-- two rows are equal in these columns, of which one is set
abbrev pub set_twins : List (Name × Literal) → Table → List Name → Bool
set_twins sets it ns = meets (names_set sets) ns && are_twins it ns

-- What a new row is tested for where the catalogue before it is sound: its own values alone.

-- what is against a new row
abbrev pub against_row : By → Name → List Name → List Literal → Catalogue → List (Bool × Reason)
against_row by t ns ls c =
    let it = the_table c t in
    let cells = row_of (stated it ns) ls it in
    let row = map value_in cells in
    (is_reserved by (t ∷ []), reason.Reserved)
    ∷ (is_none (table_of c t) || column_missing it ns, reason.Missing)
    ∷ (repeats ns, reason.Exists)
    ∷ (not (length (stated it ns) == length ls) || list_any is_wrong cells, reason.WrongKind)
    ∷ (list_any is_wide cells, reason.TooWide)
    ∷ (has_bad_null it.columns row, reason.NullFound)
    ∷ (is_twin it row, reason.Duplicate)
    ∷ (is_orphan c t it row, reason.NoParent)
    ∷ (not (nat_le (suc (length it.rows)) most_rows), reason.TooManyRows)
    ∷ []

-- the result, which needs no test of its own
unfoldable pub inserted : By → Dialect → Name → List Name → List Literal → Catalogue → Result (Catalogue × ℕ) Reason
inserted by d t ns ls c =
    let it = the_table c t in
    unless (against_row by t ns ls c) (with_table c t (with_row d (stated it ns) ls it), 1)

-- the new row of these columns, or the first reason against its values
abbrev pub row_meant : List Column → ℕ → List Name → List Name → List Literal → Result (List Value) Reason
row_meant cs next ns all ls =
    let cells = map (cell next all ls) cs in
    unless ((list_any (λ n. not (is_in n (map (λ c. c.name) cs))) ns, reason.Missing)
    ∷ (repeats ns, reason.Exists)
    ∷ (not (length all == length ls) || list_any is_wrong cells, reason.WrongKind)
    ∷ (list_any is_wide cells, reason.TooWide)
    ∷ (has_bad_null cs (map value_in cells), reason.NullFound) ∷ []) (map value_in cells)

unfoldable pub new_row : Table → List Name → List Literal → Result (List Value) Reason
new_row it ns ls = row_meant it.columns it.next ns (stated it ns) ls

-- What a new row is planned as.

pub record Plans (d : Dialect) (it : Table) (ns : List Name) (ls : List Literal) (p : Planned) : Type 0 where
  pub row : new_row it ns ls ≡ Ok p.row
  pub next : p.next ≡ next_of d (stated it ns) it.columns p.row it.next
  pub full : p.is_full ≡ not (nat_le (suc (length it.rows)) most_rows)

abbrev pub PlansRow : Dialect → Table → List Name → List Literal → Result Planned RunFault → Type 0
PlansRow d it ns ls (Ok p) = Plans d it ns ls p
PlansRow d it ns ls (Err (Refused r)) = new_row it ns ls ≡ Err r
PlansRow d it ns ls (Err OutOfMemory) = Unit {0}

-- How the making of a new row is answered.

-- the values that the literals become, or the first reason against one
abbrev pub RowAnswers : List (Result Value Reason) → Result (List Value) RunFault → Type 0
RowAnswers cells (Ok row) = (list_any is_wrong cells ≡ false) × (list_any is_wide cells ≡ false) × (row ≡ map value_in cells)
RowAnswers cells (Err (Refused reason.WrongKind)) = list_any is_wrong cells ≡ true
RowAnswers cells (Err (Refused reason.TooWide)) = (list_any is_wrong cells ≡ false) × (list_any is_wide cells ≡ true)
RowAnswers cells (Err (Refused _)) = ⊥
RowAnswers cells (Err OutOfMemory) = Unit {0}

-- a new row of the table, by its columns and next number
abbrev pub RowMeans : List Column → ℕ → List Name → List Name → List Literal → Result (List Value) RunFault → Type 0
RowMeans cs next ns all ls result = Means (row_meant cs next ns all ls) result
