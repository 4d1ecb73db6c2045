-- A table as it is kept.
use Rattle.std.specs.BTreeSet.{BTreeSet, contains}
use Rattle.std.specs.Cmp.{IsTotalOrder, int_cmp_total, nat_cmp_total, on_total, then_total}
use Rattle.std.specs.Cmp.Lexicographic.{lists_total, slice_cmp}
use Rattle.std.specs.List.{All, AllAdjacentBelow, Contains, filter, fold, list_any, remove}
use Rattle.std.specs.Ordering.{int_cmp, nat_cmp, on, then_cmp}
use Rattle.std.specs.Prelude.{Bool, Err, List, None, Ok, Option, Result, Some, [], cond, length, map, nat_eq, not, pos, slice_get, slice_set, suc, true, zero, ℕ, ℤ, ⊤, ◌%◌, ◌&&◌, ◌*◌, ◌++◌, ◌+◌, ◌<◌, ◌∷◌, ◌≡◌, ◌≤◌}
use Rattle.std.specs.declared.cmp.Ordering.{Ordering}
use Rattle.lq_base.specs.declared.name.Name.{Name}
use Rattle.lq_base.specs.declared.reason.Reason.{Reason}
use Rattle.lq_base.specs.declared.value.Value.{Value}
use Rattle.lq_base.specs.declared.value.Value.TheVariants as value
use Rattle.lq_chain.specs.History.{History, history, marked, undone_to}
use Rattle.lq_model.specs.Catalogue.{Catalogue, Table, is_null, picked, same_values}
use Rattle.lq_model.specs.declared.column.Column.{Column}
use Rattle.lq_rows.specs.declared.fault.RunFault.{RunFault}
use Rattle.lq_rows.specs.declared.fault.RunFault.TheVariants.{OutOfMemory, Refused}
use Rattle.lq_rows.specs.declared.held.Seen.{Seen}
use Rattle.lq_rows.specs.declared.shape.Shape.{Shape}

-- How a statement is answered.

-- changes were added to the old ones, and undoing them gives what was there
abbrev pub Continues : {X : Type 0} → History X → History X → Type 0
Continues old new = (marked old ≤ marked new) × (undone_to new (marked old) ≡ old)

-- the meaning, the catalogue before and after, and the answer: a refusal changes nothing
abbrev pub Answers : Result (Catalogue × ℕ) Reason → History Catalogue → History Catalogue → Result ℕ RunFault → Type 0
Answers meaning old new (Ok n) = (meaning ≡ Ok (new.now, n)) × Continues old new
Answers meaning old new (Err (Refused r)) = (meaning ≡ Err r) × (new ≡ old)
Answers meaning old new (Err OutOfMemory) = Continues old new

-- the same where a refusal may leave changes
abbrev pub Carries : Result (Catalogue × ℕ) Reason → History Catalogue → History Catalogue → Result ℕ RunFault → Type 0
Carries meaning old new (Ok n) = (meaning ≡ Ok (new.now, n)) × Continues old new
Carries meaning old new (Err (Refused r)) = (meaning ≡ Err r) × Continues old new
Carries meaning old new (Err OutOfMemory) = Continues old new

-- what is meant, the first reason against it, or want of memory
abbrev pub Means : {A : Type 0} → Result A Reason → Result A RunFault → Type 0
Means meant (Ok x) = meant ≡ Ok x
Means meant (Err (Refused r)) = meant ≡ Err r
Means meant (Err OutOfMemory) = Unit {0}

-- An order of values, and of lists of them: by their sorts, then by what they hold. Equal in it are equal values.

abbrev pub sort_rank : Value → ℕ
sort_rank value.Null = 0
sort_rank (value.Int n) = 1
sort_rank (value.Text t) = 2
sort_rank (value.Bool b) = 3
sort_rank (value.Moment m) = 4
sort_rank (value.Fixed u s) = 5

abbrev pub whole_part : Value → ℤ
whole_part (value.Int n) = n
whole_part (value.Bool b) = cond b (pos 1) (pos 0)
whole_part (value.Moment m) = m
whole_part (value.Fixed u s) = u
whole_part _ = pos 0

abbrev pub scale_part : Value → ℕ
scale_part (value.Fixed u s) = s
scale_part _ = 0

abbrev pub text_part : Value → List ℕ
text_part (value.Text t) = t
text_part _ = []

abbrev pub value_cmp : Value → Value → Ordering
value_cmp = then_cmp (on sort_rank nat_cmp) (then_cmp (on whole_part int_cmp) (then_cmp (on scale_part nat_cmp) (on text_part (slice_cmp nat_cmp))))

abbrev pub values_cmp : List Value → List Value → Ordering
values_cmp = slice_cmp value_cmp

-- it is a total order
pub value_order_total : IsTotalOrder value_cmp
value_order_total = then_total (on_total sort_rank nat_cmp_total) (then_total (on_total whole_part int_cmp_total) (then_total (on_total scale_part nat_cmp_total) (on_total text_part (lists_total nat_cmp_total))))

pub values_total : IsTotalOrder values_cmp
values_total = lists_total value_order_total

-- A small number of each row, by which the rows that begin with a text are looked for.

-- a text's: its bytes as the digits of a number to the base 31, of which 32 bits are kept
abbrev pub with_digit : ℕ → ℕ → ℕ
with_digit number byte = (number * 31 + byte) % 4_294_967_296

abbrev pub text_print : List ℕ → ℕ
text_print text = fold with_digit 0 text

-- a row's: that of the text that it begins with
abbrev pub value_print : Value → ℕ
value_print (value.Text text) = text_print text
value_print _ = 0

abbrev pub fingerprint : List Value → ℕ
fingerprint [] = 0
fingerprint (first ∷ rest) = value_print first

-- those of the rows, where they are known
abbrev pub ArePrints : List (List Value) → Option (List ℕ) → Type 0
ArePrints rows None = ⊤
ArePrints rows (Some prints) = prints ≡ map fingerprint rows

-- the places, from n on, of those that are this one
abbrev pub places_from : ℕ → ℕ → List ℕ → List ℕ
places_from n print [] = []
places_from n print (p ∷ ps) = cond (nat_eq p print) (n ∷ places_from (n + 1) print ps) (places_from (n + 1) print ps)

-- places of rows, rising, and among them that of each row that begins with the text
pub record ArePlaces (text : List ℕ) (rows : List (List Value)) (places : List ℕ) : Type 0 where
  pub rising : AllAdjacentBelow (λ a b. a < b) places (length places)
  pub within : All (λ at. at < length rows) places
  pub each : (at : ℕ) (row : List Value) → slice_get rows at ≡ Some row → slice_get row 0 ≡ Some (value.Text text) → Contains places at

-- the front of the rows for a text: a test that takes only rows that begin with it takes of these, in order, what it takes of all
pub record IsFront (text : List ℕ) (rows front : List (List Value)) : Type 0 where
  pub same : (p : List Value → Bool) → ((row : List Value) → p row ≡ true → slice_get row 0 ≡ Some (value.Text text)) → filter p front ≡ filter p rows

-- A table as it is kept: with the rows before each change since the last `forget`, the newest first.

-- some rows have these values
abbrev pub has_values : List Column → List Name → List (List Value) → List Value → Bool
has_values cs ns rows values = list_any (same_values values) (map (picked cs ns) rows)

-- the set has just the values of the rows in these columns
abbrev pub ShowsRows : List Column → List Name → List (List Value) → BTreeSet (List Value) → Type 0
ShowsRows cs ns rows set = (values : List Value) → contains values_cmp set values ≡ has_values cs ns rows values

pub record Stored : Type 0 where
  -- the table now
  pub now : Table
  -- its rows before each change, the newest first
  pub past : List (List (List Value))

abbrev pub stored : Table → List (List (List Value)) → Stored
stored now past = record { now = now; past = past }

-- the rows with their changes
abbrev pub rows_of : Stored → History (List (List Value))
rows_of it = history it.now.rows it.past

-- a table with other rows and another next number
abbrev pub with_rows : History (List (List Value)) → ℕ → Stored → Stored
with_rows rows next it = stored (record it.now { rows = rows.now; next = next }) rows.past

-- what a table is but for its rows and its next number
abbrev pub shape_of : Table → Shape
shape_of it = record { columns = it.columns; key = it.key; uniques = it.uniques; foreign = it.foreign; indexes = it.indexes }

-- the table of that shape
abbrev pub table_as : Shape → ℕ → List (List Value) → Table
table_as shape next rows = record {
  columns = shape.columns;
  key = shape.key;
  uniques = shape.uniques;
  foreign = shape.foreign;
  indexes = shape.indexes;
  next = next;
  rows = rows;
}

-- a table with another shape and the same rows
abbrev pub with_shape : Shape → Table → Table
with_shape shape it = table_as shape it.next it.rows

abbrev pub reshaped : Shape → Stored → Stored
reshaped shape it = stored (with_shape shape it.now) it.past

-- a row of the table has these values
abbrev pub has_values_in : List Name → List Value → Table → Bool
has_values_in ns values it = has_values it.columns ns it.rows values

-- a table with one more row and another next number
abbrev pub with_row : List Value → ℕ → Table → Table
with_row row next it = record it { rows = it.rows ++ row ∷ []; next = next }

-- a table without the row at a place, and with another row there
abbrev pub without_row : ℕ → Table → Table
without_row at it = record it { rows = remove it.rows at }

abbrev pub with_row_at : ℕ → List Value → Table → Table
with_row_at at row it = record it { rows = slice_set it.rows at row }

-- a table with its rows changed
abbrev pub with_all : (List (List Value) → List (List Value)) → Table → Table
with_all f it = record it { rows = f it.rows }

-- What is kept for looking up rows by their values.

-- each has just the values of the rows in its columns
abbrev pub AllShow : List Column → List (List Value) → List Seen → Type 0
AllShow cs rows [] = ⊤
AllShow cs rows (s ∷ more) = ShowsRows cs s.columns rows s.values × AllShow cs rows more

-- the first n of them have those of one more row
abbrev pub ShowWith : ℕ → List Column → List (List Value) → List Value → List Seen → Type 0
ShowWith n cs rows row [] = ⊤
ShowWith zero cs rows row (s ∷ more) = ShowsRows cs s.columns rows s.values × ShowWith zero cs rows row more
ShowWith (suc n) cs rows row (s ∷ more) = ShowsRows cs s.columns (rows ++ row ∷ []) s.values × ShowWith n cs rows row more

-- A row's values beside a set of others' values: a row with a null is equal to none, and needs none.

-- they have no null, and stand in the set
abbrev pub is_among : BTreeSet (List Value) → List Value → Bool
is_among set values = not (list_any is_null values) && contains values_cmp set values

-- they have no null, and do not stand in the set
abbrev pub is_apart : BTreeSet (List Value) → List Value → Bool
is_apart set values = not (list_any is_null values) && not (contains values_cmp set values)
