-- What a catalogue is, and what is seen of it.
use Rattle.std.specs.BTreeMap.{insert_entry}
use Rattle.std.specs.List.{find, list_any}
use Rattle.std.specs.Map.{lookup, remove_entry, set_value}
use Rattle.std.specs.Option.{unwrap_or}
use Rattle.std.specs.Ordering.{int_eq}
use Rattle.std.specs.Prelude.{Bool, Err, List, None, Ok, Option, Result, Some, [], cond, false, is_none, map, nat_eq, not, option_and_then, option_map, true, ℕ, ℤ, ◌&&◌, ◌++◌, ◌+◌, ◌||◌, ◌∷◌, ◌≡◌}
use Rattle.lq_base.specs.Name.{beside, is_named, name_cmp}
use Rattle.lq_base.specs.Value.{is_value_of}
use Rattle.lq_base.specs.declared.name.Name.{Name}
use Rattle.lq_base.specs.declared.reason.Reason.{Reason}
use Rattle.lq_base.specs.declared.value.Value.{Value}
use Rattle.lq_base.specs.declared.value.Value.TheVariants as value
use Rattle.lq_model.specs.declared.column.Column.{Column}
use Rattle.lq_model.specs.declared.constraint.ForeignKey.{ForeignKey}
use Rattle.lq_model.specs.declared.constraint.Key.{Key}
use Rattle.lq_model.specs.declared.constraint.Unique.{Unique}
use Rattle.lq_model.specs.declared.fault.AskFault.{AskFault}
use Rattle.lq_model.specs.declared.fault.AskFault.TheVariants.{OutOfMemory, Refused}
use Rattle.lq_model.specs.declared.index.Index.{Index}
use Rattle.lq_model.specs.declared.query.Answered.{Answered}
use Rattle.lq_model.specs.declared.query.Query.{Query}

-- What a catalogue is: tables, views and sequences by their names. Each is a finite map, kept as the list of its entries in the order of the names.

pub record Table : Type 0 where
  pub columns : List Column
  pub key : Option Key
  pub uniques : List Unique
  pub foreign : List ForeignKey
  pub indexes : List Index
  -- what the next row gets in a numbered column where it states no number
  pub next : ℕ
  pub rows : List (List Value)

pub record View : Type 0 where
  pub query : Query
  pub columns : List Name

pub record Sequence : Type 0 where
  pub start : ℤ
  pub step : ℤ

pub record Catalogue : Type 0 where
  pub tables : List (Name × Table)
  pub views : List (Name × View)
  pub sequences : List (Name × Sequence)

abbrev pub no_objects : Catalogue
no_objects = record { tables = []; views = []; sequences = [] }

-- what stands at a name

abbrev pub table_of : Catalogue → Name → Option Table
table_of c t = lookup (is_named t) c.tables

abbrev pub view_of : Catalogue → Name → Option View
view_of c v = lookup (is_named v) c.views

abbrev pub sequence_of : Catalogue → Name → Option Sequence
sequence_of c s = lookup (is_named s) c.sequences

-- the table at a name, and one with nothing where there is none
abbrev pub no_table : Table
no_table = record { columns = []; key = None; uniques = []; foreign = []; indexes = []; next = 1; rows = [] }

abbrev pub the_table : Catalogue → Name → Table
the_table c t = unwrap_or (table_of c t) no_table

-- c with something new put in at a name

abbrev pub with_new : Catalogue → Name → Table → Catalogue
with_new c t it = record c { tables = insert_entry name_cmp c.tables t it }

abbrev pub with_view : Catalogue → Name → View → Catalogue
with_view c v it = record c { views = insert_entry name_cmp c.views v it }

abbrev pub with_sequence : Catalogue → Name → Sequence → Catalogue
with_sequence c s it = record c { sequences = insert_entry name_cmp c.sequences s it }

-- c with another table in the place of the one at a name
abbrev pub with_table : Catalogue → Name → Table → Catalogue
with_table c t it = record c { tables = set_value (is_named t) c.tables it }

-- c without what stands at a name

abbrev pub without_table : Catalogue → Name → Catalogue
without_table c t = record c { tables = remove_entry (is_named t) c.tables }

abbrev pub without_view : Catalogue → Name → Catalogue
without_view c v = record c { views = remove_entry (is_named v) c.views }

abbrev pub without_sequence : Catalogue → Name → Catalogue
without_sequence c s = record c { sequences = remove_entry (is_named s) c.sequences }

-- Lists of names.

-- whether a list has nothing
abbrev pub is_empty : {A : Type 0} → List A → Bool
is_empty [] = true
is_empty (x ∷ xs) = false

abbrev pub is_in : Name → List Name → Bool
is_in n ns = list_any (is_named n) ns

-- whether one of the names stands there twice
abbrev pub repeats : List Name → Bool
repeats [] = false
repeats (n ∷ ns) = is_in n ns || repeats ns

-- how often a name stands there
abbrev pub times : Name → List Name → ℕ
times n [] = 0
times n (m ∷ ms) = cond (is_named n m) 1 0 + times n ms

-- whether two lists have the same names in the same order
abbrev pub same_names : List Name → List Name → Bool
same_names [] [] = true
same_names (a ∷ more) (b ∷ bs) = is_named a b && same_names more bs
same_names [] (b ∷ bs) = false
same_names (a ∷ more) [] = false

-- the name b in place of a, every other name as it is
abbrev pub renamed : Name → Name → Name → Name
renamed a b n = cond (is_named a n) b n

-- The names that stand in a table.

abbrev pub column_names : Table → List Name
column_names it = map (λ c. c.name) it.columns

-- whether a table has a column of that name
abbrev pub has_column : Table → Name → Bool
has_column it n = is_in n (column_names it)

-- whether a table lacks a column of one of the names
abbrev pub column_missing : Table → List Name → Bool
column_missing it ns = list_any (λ n. not (has_column it n)) ns

-- the key as a list of one, or of none
abbrev pub key_list : Option Key → List Key
key_list None = []
key_list (Some k) = k ∷ []

-- the columns of the key and of each unique constraint: what a foreign key may target
abbrev pub target_lists : Table → List (List Name)
target_lists it = map (λ k. k.columns) (key_list it.key) ++ map (λ u. u.columns) it.uniques

-- the columns of the key, of each unique constraint and of each index
abbrev pub column_lists : Table → List (List Name)
column_lists it = target_lists it ++ map (λ i. i.columns) it.indexes

-- the names of its key, its unique constraints and its foreign keys
abbrev pub constraint_names : Table → List Name
constraint_names it = map (λ k. k.name) (key_list it.key) ++ (map (λ u. u.name) it.uniques ++ map (λ f. f.name) it.foreign)

-- the names of its key, its unique constraints and its indexes
abbrev pub inner_names : Table → List Name
inner_names it = map (λ k. k.name) (key_list it.key) ++ (map (λ u. u.name) it.uniques ++ map (λ i. i.name) it.indexes)

-- where names inside a table count: in the table's schema
abbrev pub placed : Name → List Name → List Name
placed t ns = map (beside t) ns

-- the names of its unique constraints and its indexes
abbrev pub index_names : Table → List Name
index_names it = map (λ u. u.name) it.uniques ++ map (λ i. i.name) it.indexes

abbrev pub foreign_names : Table → List Name
foreign_names it = map (λ f. f.name) it.foreign

-- the names of its columns, its constraints and its indexes
abbrev pub own_names : Table → List Name
own_names it = column_names it ++ (constraint_names it ++ map (λ i. i.name) it.indexes)

-- What a row holds.

abbrev pub is_null : Value → Bool
is_null value.Null = true
is_null _ = false

-- the value of a row at a column's name
abbrev pub by_name : List Column → List Value → Name → Value
by_name (c ∷ cs) (v ∷ vs) n = cond (is_named n c.name) v (by_name cs vs n)
by_name [] vs n = value.Null
by_name (c ∷ cs) [] n = value.Null

-- the values of a row at these columns
abbrev pub picked : List Column → List Name → List Value → List Value
picked cs ns row = map (by_name cs row) ns

-- whether two values are equal where neither is null: a null is equal to nothing
abbrev pub same_value : Value → Value → Bool
same_value (value.Int a) (value.Int b) = int_eq a b
same_value (value.Text a) (value.Text b) = is_named a b
same_value (value.Bool a) (value.Bool b) = cond a b (not b)
same_value (value.Moment a) (value.Moment b) = int_eq a b
same_value (value.Fixed a s) (value.Fixed b t) = int_eq a b && nat_eq s t
same_value _ _ = false

abbrev pub same_values : List Value → List Value → Bool
same_values [] [] = true
same_values (a ∷ more) (b ∷ bs) = same_value a b && same_values more bs
same_values [] (b ∷ bs) = false
same_values (a ∷ more) [] = false

-- whether two of these rows are equal
abbrev pub has_equals : List (List Value) → Bool
has_equals [] = false
has_equals (r ∷ rs) = list_any (same_values r) rs || has_equals rs

-- whether a row has, for each column, null or a value of its kind
abbrev pub row_fits : List Column → List Value → Bool
row_fits [] [] = true
row_fits (c ∷ cs) (v ∷ vs) = is_value_of c.kind v && row_fits cs vs
row_fits [] (v ∷ vs) = false
row_fits (c ∷ cs) [] = false

-- whether a NOT NULL column of the row holds null
abbrev pub has_bad_null : List Column → List Value → Bool
has_bad_null [] vs = false
has_bad_null (c ∷ cs) [] = false
has_bad_null (c ∷ cs) (v ∷ vs) = (not c.nullable && is_null v) || has_bad_null cs vs

-- What is seen of a catalogue: whatever stands at a name, and what a query is answered.

-- what a table has, where there is one of that name
abbrev pub at_table : {A : Type 0} → (Table → A) → Catalogue → Name → Option A
at_table part c t = option_map part (table_of c t)

-- the first of a table's parts that passes a test, where there is such a table
abbrev pub in_table : {A : Type 0} → (Table → List A) → (A → Bool) → Catalogue → Name → Option A
in_table part test c t = option_and_then (λ it. find test (part it)) (table_of c t)

abbrev pub column_at : Catalogue → Name → Name → Option Column
column_at c t n = in_table (λ it. it.columns) (λ column. is_named n column.name) c t

abbrev pub key_at : Catalogue → Name → Option Key
key_at c t = option_and_then (λ it. it.key) (table_of c t)

abbrev pub unique_at : Catalogue → Name → Name → Option Unique
unique_at c t n = in_table (λ it. it.uniques) (λ unique. is_named n unique.name) c t

abbrev pub foreign_key_at : Catalogue → Name → Name → Option ForeignKey
foreign_key_at c t n = in_table (λ it. it.foreign) (λ foreign. is_named n foreign.name) c t

abbrev pub index_at : Catalogue → Name → Name → Option Index
index_at c t n = in_table (λ it. it.indexes) (λ index. is_named n index.name) c t

-- a row of the table has a null in its column of that name
abbrev pub has_null_in : Name → Table → Bool
has_null_in n it = has_column it n && list_any (λ row. is_null (by_name it.columns row n)) it.rows

-- what is answered, the first reason against it, or want of memory
abbrev pub IsAnswer : Result Answered Reason → Result Answered AskFault → Type 0
IsAnswer meant (Ok answered) = meant ≡ Ok answered
IsAnswer meant (Err (Refused reason)) = meant ≡ Err reason
IsAnswer meant (Err OutOfMemory) = Unit {0}

-- A catalogue that has one more column than another.

-- each row with one of the values at its end
abbrev pub rows_with : List (List Value) → List Value → List (List Value)
rows_with [] vs = []
rows_with (r ∷ rs) [] = (r ++ value.Null ∷ []) ∷ rows_with rs []
rows_with (r ∷ rs) (v ∷ vs) = (r ++ v ∷ []) ∷ rows_with rs vs

abbrev pub widened : Column → List Value → Table → Table
widened c vs it = record it { columns = it.columns ++ c ∷ []; rows = rows_with it.rows vs }

-- e is c with a new column n at the end of t, of any kind, values and the like
pub record IsWidened (t n : Name) (c e : Catalogue) : Type 0 where
  pub column : Column
  pub values : List Value
  pub named : column.name ≡ n
  pub there : is_none (table_of c t) ≡ false
  pub new : has_column (the_table c t) n ≡ false
  pub is : e ≡ with_table c t (widened column values (the_table c t))
