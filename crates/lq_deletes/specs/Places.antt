-- What DELETE is tested for on a sound catalogue.
use Rattle.std.specs.BTreeMap.{BTreeMap, get}
use Rattle.std.specs.List.{filter, flat_map, list_all, list_any}
use Rattle.std.specs.List.Sorted.{IsStrictlySortedBy}
use Rattle.std.specs.Map.{keys_of, lookup, set_value}
use Rattle.std.specs.Option.{unwrap_or}
use Rattle.std.specs.Prelude.{Bool, IfSome, List, None, Option, Some, [], cond, drop, false, is_none, is_some, length, map, nat_lt, not, slice_get, slice_index_or, slice_set, suc, take, true, zero, ℕ, ⊤, ◌&&◌, ◌++◌, ◌+◌, ◌<◌, ◌==◌, ◌||◌, ◌∷◌, ◌≡◌}
use Rattle.lq_arm.specs.declared.tests.Tests.{Tests}
use Rattle.lq_base.specs.Name.{is_named, name_cmp}
use Rattle.lq_base.specs.declared.name.Name.{Name}
use Rattle.lq_base.specs.declared.value.Value.{Value}
use Rattle.lq_chain.specs.Marks.{kept_rows}
use Rattle.lq_deletes.specs.declared.loss.Loss.{Loss}
use Rattle.lq_model.specs.Catalogue.{Catalogue, Table, column_missing, is_empty, no_table, picked, same_values, table_of, the_table, with_table}
use Rattle.lq_model.specs.Comparison.{compares_wrongly}
use Rattle.lq_model.specs.NameSpaces.{is_reserved}
use Rattle.lq_model.specs.Plan.{has_orphans, has_twins, is_loose}
use Rattle.lq_model.specs.Rows.{is_lost, row_count, without_lost, without_taken}
use Rattle.lq_model.specs.Truth.{names_in, takes}
use Rattle.lq_model.specs.declared.caller.By.{By}
use Rattle.lq_model.specs.declared.column.Column.{Column}
use Rattle.lq_model.specs.declared.constraint.ForeignKey.{ForeignKey}
use Rattle.lq_model.specs.declared.test.Test.{Test}
use Rattle.lq_rows.specs.Stored.{values_cmp, with_all}

abbrev pub no_tests : Tests
no_tests = record { reserved = false; missing = false; exists = false; depends = false; wrong = false; wide = false; nulls = false; twins = false; orphans = false; children = false; full = false }

-- what the statement says
abbrev pub stated_tests : By → Name → Option Test → Catalogue → Tests
stated_tests by t test c =
    let it = the_table c t in
    record no_tests {
      reserved = is_reserved by (t ∷ []);
      missing = is_none (table_of c t) || column_missing it (names_in test);
      wrong = compares_wrongly it.columns test;
    }

-- a foreign key may aim at the table: it has a key or a unique constraint
abbrev pub has_targets : Table → Bool
has_targets it = is_some it.key || not (is_empty it.uniques)

-- a foreign key aims at the table
abbrev pub is_aimed_at : Name → Catalogue → Bool
is_aimed_at t c = list_any (λ e. list_any (λ f. is_named t f.table) e.1.foreign) c.tables

-- a foreign key that cascades aims at the table
abbrev pub cascades_at : Name → Catalogue → Bool
cascades_at t c = list_any (λ e. list_any (λ f. f.cascade && is_named t f.table) e.1.foreign) c.tables

-- The rows of all tables, numbered from 0 on, table by table.

-- a row with the name of its table
abbrev pub Named : Type 0
Named = Name × List Value

abbrev pub rows_in : List (Name × Table) → List Named
rows_in es = flat_map (λ e. map (λ row. (e.0, row)) e.1.rows) es

abbrev pub all_rows : Catalogue → List Named
all_rows c = rows_in c.tables

-- how many there are
abbrev pub row_total : List (Name × Table) → ℕ
row_total [] = 0
row_total (e ∷ es) = length e.1.rows + row_total es

-- the numbers of the items that pass, counted from a number on
abbrev pub numbered : {A : Type 0} → (A → Bool) → ℕ → List A → List ℕ
numbered test n [] = []
numbered test n (x ∷ xs) = cond (test x) (n ∷ numbered test (n + 1) xs) (numbered test (n + 1) xs)

-- How marks go from nodes to their children.

-- whether the node of the number is marked
abbrev pub is_marked : List Bool → ℕ → Bool
is_marked marks x = slice_index_or marks x false

-- the children of the node of the number
abbrev pub children_of : List (List ℕ) → ℕ → List ℕ
children_of edges x = slice_index_or edges x []

abbrev pub are_below : ℕ → List ℕ → Bool
are_below n xs = list_all (λ x. nat_lt x n) xs

-- the children of every marked node are marked, but for those of nodes that are still to be looked at
abbrev pub AreSpreadBut : List (List ℕ) → List ℕ → List Bool → Type 0
AreSpreadBut edges work marks = (x : ℕ) → is_marked marks x ≡ true → list_any (λ w. x == w) work ≡ false → list_all (is_marked marks) (children_of edges x) ≡ true

-- what holds of the marked nodes, and of a node's children where it holds of the node, holds of the newly marked nodes
abbrev pub Follow : List (List ℕ) → List Bool → List Bool → Type 0
Follow edges old new = (holds : ℕ → Bool) → ((x : ℕ) → is_marked old x ≡ true → holds x ≡ true) → ((x : ℕ) → holds x ≡ true → list_all holds (children_of edges x) ≡ true) → (x : ℕ) → is_marked new x ≡ true → holds x ≡ true

-- the marks of these nodes and of all that stand below them, and no others
pub record Spread (edges : List (List ℕ)) (old new : List Bool) : Type 0 where
  pub same : length new ≡ length old
  pub more : (x : ℕ) → is_marked old x ≡ true → is_marked new x ≡ true
  pub spread : AreSpreadBut edges [] new
  pub follow : Follow edges old new

-- these nodes and no others are marked
abbrev pub AreMarks : List ℕ → List Bool → Type 0
AreMarks nodes marks = (x : ℕ) → is_marked marks x ≡ list_any (λ w. x == w) nodes

-- Which rows stay where rows go with their parents.

-- for each table's name and each row whether the row stays
abbrev pub Choice : Type 0
Choice = Name → List Value → Bool

-- the table of a name with the rows that stay
abbrev pub kept_at : Choice → Name → Table → Table
kept_at stays n it = record it { rows = filter (stays n) it.rows }

-- every table with the rows that stay
abbrev pub kept_by : Choice → Catalogue → Catalogue
kept_by stays c = record c { tables = map (λ e. (e.0, kept_at stays e.0 e.1)) c.tables }

-- a row of the table has lost the parent that it goes with
abbrev pub loses_row : Catalogue → Name × Table → Bool
loses_row c e = list_any (is_lost c e.1) e.1.rows

abbrev pub has_lost : Catalogue → Bool
has_lost c = list_any (loses_row c) c.tables

-- the statement takes the row
abbrev pub is_taken : Name → Option Test → Catalogue → Named → Bool
is_taken t test c a = is_named t a.0 && takes test (the_table c t).columns a.1

-- the row outlives so many rounds
abbrev pub outlives : ℕ → Catalogue → Choice
outlives zero c n row = true
outlives (suc k) c n row = not (is_lost c (the_table c n) row) && outlives k (without_lost c) n row

-- the row is there after the statement
abbrev pub stays : Name → Option Test → Catalogue → Choice
stays t test c n row = not (is_taken t test c (n, row)) && outlives (row_count c) (with_table c t (without_taken test (the_table c t))) n row

-- what is asked of a catalogue so that a row has one parent by each foreign key
pub record IsLinked (c : Catalogue) : Type 0 where
  -- the tables are in the order of their names
  pub ordered : IsStrictlySortedBy name_cmp (keys_of c.tables)
  -- a foreign key's targets are the key or a unique constraint
  pub aimed : is_loose c ≡ false
  pub no_twins : has_twins c ≡ false
  pub parents : has_orphans c ≡ false

-- Which rows go with a DELETE, as marks of the numbered rows.

-- for each row of a table whether the statement takes it, by the columns of its own table
abbrev pub taken_in : Name → Option Test → List Column → Name × Table → List Bool
taken_in t test cs e = map (λ row. is_named t e.0 && takes test cs row) e.1.rows

-- the rows that pass are marked, and no others
abbrev pub MarkRows : Catalogue → List Bool → (Named → Bool) → Type 0
MarkRows c marks test = (x : ℕ) (a : Named) → slice_get (all_rows c) x ≡ Some a → is_marked marks x ≡ test a

-- the rows that are not there after the statement are marked, and no others
pub record AreGone (t : Name) (test : Option Test) (c : Catalogue) (marks : List Bool) : Type 0 where
  pub rows : MarkRows c marks (λ a. not (stays t test c a.0 a.1))

-- The marks of tables.

abbrev pub marks_of : Loss → Name × List Bool
marks_of loss = (loss.table, loss.marks.items)

-- where one of a table's rows is marked to go, which of them stay
abbrev pub lost_in : Name → List Bool → List (Name × List Bool)
lost_in n marks = cond (list_any (λ mark. mark) marks) ((n, map not marks) ∷ []) []

-- the same of several tables, by the marks of all their rows
abbrev pub losses : List Bool → List (Name × Table) → List (Name × List Bool)
losses marks [] = []
losses marks (e ∷ es) = lost_in e.0 (take (length e.1.rows) marks) ++ losses (drop (length e.1.rows) marks) es

-- tables of which those named keep the rows that are marked
abbrev pub thinned : List (Name × List Bool) → List (Name × Table) → List (Name × Table)
thinned [] es = es
thinned (x ∷ xs) es = thinned xs (set_value (is_named x.0) es (with_all (kept_rows x.1) (unwrap_or (lookup (is_named x.0) es) no_table)))

abbrev pub with_thinned : List (Name × List Bool) → Catalogue → Catalogue
with_thinned xs c = record c { tables = thinned xs c.tables }

-- each of them is there, and has as many rows as there are marks
abbrev pub AreMarked : List (Name × List Bool) → List (Name × Table) → Type 0
AreMarked [] es = ⊤
AreMarked (x ∷ xs) es = (is_some (lookup (is_named x.0) es) ≡ true)
    × (length x.1 ≡ length (unwrap_or (lookup (is_named x.0) es) no_table).rows)
    × AreMarked xs (set_value (is_named x.0) es (with_all (kept_rows x.1) (unwrap_or (lookup (is_named x.0) es) no_table)))

-- Marking nodes in turn.

-- marks, and the nodes that are still to be looked at
abbrev pub State : Type 0
State = List Bool × List ℕ

abbrev pub note_by : Bool → ℕ → State → State
note_by true x s = s
note_by false x s = (slice_set s.0 x true, s.1 ++ x ∷ [])

abbrev pub note : ℕ → State → State
note x s = note_by (is_marked s.0 x) x s

abbrev pub notes : List ℕ → State → State
notes [] s = s
notes (x ∷ xs) s = notes xs (note x s)

-- Which rows go with which, by the numbers of all rows.

-- the one, or else the other
abbrev pub or_else : Option ℕ → Option ℕ → Option ℕ
or_else (Some n) m = Some n
or_else None m = m

-- the number of the last of these that has the values, counted from a number on
abbrev pub last_with : ℕ → List Value → List (List Value) → Option ℕ
last_with n values [] = None
last_with n values (k ∷ ks) = or_else (last_with (n + 1) values ks) (cond (same_values values k) (Some n) None)

-- the map has for each values the number of the last row with them
abbrev pub ShowsPlaces : List Column → List Name → List (List Value) → ℕ → BTreeMap (List Value) ℕ → Type 0
ShowsPlaces cs ns rows first places = (values : List Value) → get values_cmp places values ≡ last_with first values (map (picked cs ns) rows)

-- the number of the row that the foreign key aims at with the values, where the rows are counted from a number on
abbrev pub parent_in : ForeignKey → ℕ → List (Name × Table) → List Value → Option ℕ
parent_in f n [] values = None
parent_in f n (e ∷ es) values = cond (is_named f.table e.0) (last_with n values (map (picked e.1.columns f.targets) e.1.rows)) (parent_in f (n + length e.1.rows) es values)

abbrev pub ShowsParents : ForeignKey → ℕ → List (Name × Table) → BTreeMap (List Value) ℕ → Type 0
ShowsParents f n es places = (values : List Value) → get values_cmp places values ≡ parent_in f n es values

-- every place is below n
abbrev pub ArePlaces : ℕ → BTreeMap (List Value) ℕ → Type 0
ArePlaces n places = (values : List Value) → IfSome (get values_cmp places values) (λ place. place < n)

-- the place is this number
abbrev pub is_place : Option ℕ → ℕ → Bool
is_place (Some n) x = x == n
is_place None x = false

-- of these values, counted from a number on, those whose place is x
abbrev pub linked : (List Value → Option ℕ) → ℕ → List (List Value) → ℕ → List ℕ
linked place n ks x = numbered (λ k. is_place (place k) x) n ks

module _ (all : List (Name × Table)) where
  -- the rows of a table, counted from a number on, that go with the row x by a foreign key
  unfoldable pub key_linked : ℕ → Table → ForeignKey → ℕ → List ℕ
  key_linked n it f x = cond f.cascade (linked (parent_in f 0 all) n (map (picked it.columns f.columns) it.rows) x) []

  -- the same by several
  unfoldable pub keys_linked : ℕ → Table → List ForeignKey → ℕ → List ℕ
  keys_linked n it fs x = flat_map (λ f. key_linked n it f x) fs

  -- the same of several tables
  unfoldable pub tables_linked : ℕ → List (Name × Table) → ℕ → List ℕ
  tables_linked n [] x = []
  tables_linked n (e ∷ es) x = keys_linked n e.1 e.1.foreign x ++ tables_linked (n + length e.1.rows) es x

-- each node has these children besides the old ones
pub record Gains (more : ℕ → List ℕ) (old new : List (List ℕ)) : Type 0 where
  pub has : (x : ℕ) → children_of new x ≡ children_of old x ++ more x

-- no node has children
pub record AreBare (edges : List (List ℕ)) : Type 0 where
  pub none : (x : ℕ) → children_of edges x ≡ []
