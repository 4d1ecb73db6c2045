-- INSERT, UPDATE and DELETE.
use Rattle.std.specs.List.{filter, list_any}
use Rattle.std.specs.Prelude.{Bool, List, Ok, Option, Result, [], cond, is_none, length, map, max, not, pos, suc, sum, zero, ℕ, ◌&&◌, ◌++◌, ◌+◌, ◌-◌, ◌==◌, ◌||◌, ◌∷◌}
use Rattle.lq_base.specs.Name.{is_named}
use Rattle.lq_base.specs.Value.{into_kind}
use Rattle.lq_base.specs.declared.dialect.Dialect.{Dialect}
use Rattle.lq_base.specs.declared.dialect.Dialect.TheVariants.{Mysql}
use Rattle.lq_base.specs.declared.literal.Literal.{Literal}
use Rattle.lq_base.specs.declared.literal.Literal.TheVariants as literal
use Rattle.lq_base.specs.declared.name.Name.{Name}
use Rattle.lq_base.specs.declared.reason.Reason.{Reason}
use Rattle.lq_base.specs.declared.value.Value.{Value}
use Rattle.lq_base.specs.declared.value.Value.TheVariants as value
use Rattle.lq_model.specs.Catalogue.{Catalogue, Table, column_missing, column_names, is_empty, is_in, repeats, table_of, the_table, with_table}
use Rattle.lq_model.specs.Comparison.{compares_wrongly}
use Rattle.lq_model.specs.Kinds.{default_value, is_wide, is_wrong, kind_in, value_in}
use Rattle.lq_model.specs.NameSpaces.{is_reserved}
use Rattle.lq_model.specs.Plan.{Plan, lacks_parent, unopposed}
use Rattle.lq_model.specs.Truth.{names_in, takes}
use Rattle.lq_model.specs.declared.caller.By.{By}
use Rattle.lq_model.specs.declared.column.Column.{Column}
use Rattle.lq_model.specs.declared.test.Test.{Test}

-- DELETE.

-- the row has lost the parent that it goes with
abbrev pub is_lost : Catalogue → Table → List Value → Bool
is_lost c it row = list_any (λ f. f.cascade && lacks_parent c it.columns f row) it.foreign

-- the table without the rows that have lost such a parent
abbrev pub without_lost_in : Catalogue → Table → Table
without_lost_in c it = record it { rows = filter (λ r. not (is_lost c it r)) it.rows }

abbrev pub without_lost : Catalogue → Catalogue
without_lost c = record c { tables = map (λ e. (e.0, without_lost_in c e.1)) c.tables }

-- and so on: each round but the last takes away a row, so as many rounds as there are rows end it
abbrev pub cascaded : ℕ → Catalogue → Catalogue
cascaded zero c = c
cascaded (suc n) c = cascaded n (without_lost c)

abbrev pub row_count : Catalogue → ℕ
row_count c = sum (map (λ e. length e.1.rows) c.tables)

abbrev pub without_taken : Option Test → Table → Table
without_taken test it = record it { rows = filter (λ r. not (takes test it.columns r)) it.rows }

abbrev pub deleted : Name → Option Test → Catalogue → Catalogue
deleted t test c = cascaded (row_count c) (with_table c t (without_taken test (the_table c t)))

-- the count is of the rows of the named table, with those that went by a cascade; a row of any table that keeps no parent is a child that is left
abbrev pub delete : By → Dialect → Name → Option Test → Catalogue → Plan
delete by d t test c =
    let it = the_table c t in
    record (unopposed c) {
      reserved = is_reserved by (t ∷ []);
      missing = is_none (table_of c t) || column_missing it (names_in test);
      wrong = compares_wrongly it.columns test;
      result = deleted t test c;
      count = length it.rows - length (the_table (deleted t test c) t).rows;
    }

-- INSERT.

-- the columns that are stated: all in order where none is
abbrev pub stated : Table → List Name → List Name
stated it ns = cond (is_empty ns) (column_names it) ns

-- what a column takes of the stated values, else the next number, or its default, or null
abbrev pub cell : ℕ → List Name → List Literal → Column → Result Value Reason
cell next (n ∷ ns) (l ∷ ls) c = cond (is_named c.name n) (into_kind l c.kind) (cell next ns ls c)
cell next [] ls c = cond c.numbered (into_kind (literal.Int (pos next)) c.kind) (Ok (default_value c))
cell next (n ∷ ns) [] c = Ok (default_value c)

abbrev pub row_of : List Name → List Literal → Table → List (Result Value Reason)
row_of ns ls it = map (cell it.next ns ls) it.columns

-- the next number after a stated one: PostgreSQL leaves it, MySQL makes it at least one more
abbrev pub number_after : Dialect → ℕ → Value → ℕ
number_after Mysql next (value.Int (pos n)) = max next (n + 1)
number_after d next v = next

-- the next number after a row
abbrev pub next_of : Dialect → List Name → List Column → List Value → ℕ → ℕ
next_of d ns (c ∷ cs) (v ∷ vs) next = cond c.numbered (cond (is_in c.name ns) (number_after d next v) (next + 1)) (next_of d ns cs vs next)
next_of d ns [] vs next = next
next_of d ns (c ∷ cs) [] next = next

abbrev pub with_row : Dialect → List Name → List Literal → Table → Table
with_row d ns ls it =
    let row = map value_in (row_of ns ls it) in
    record it { rows = it.rows ++ row ∷ []; next = next_of d ns it.columns row it.next }

abbrev pub insert : By → Dialect → Name → List Name → List Literal → Catalogue → Plan
insert by d t ns ls c =
    let it = the_table c t in
    let names = stated it ns in
    record (unopposed c) {
      reserved = is_reserved by (t ∷ []);
      missing = is_none (table_of c t) || column_missing it ns;
      exists = repeats ns;
      wrong = not (length names == length ls) || list_any is_wrong (row_of names ls it);
      wide = list_any is_wide (row_of names ls it);
      named = t ∷ [];
      result = with_table c t (with_row d names ls it);
      count = 1;
    }

-- UPDATE.

-- a value in the place of the column of that name
abbrev pub set_in : Name → Value → List Column → List Value → List Value
set_in n v [] row = row
set_in n v (c ∷ cs) [] = []
set_in n v (c ∷ cs) (x ∷ xs) = cond (is_named n c.name) (v ∷ xs) (x ∷ set_in n v cs xs)

-- what is set, as the kind of its column takes it
abbrev pub set_value_of : List Column → Name × Literal → Result Value Reason
set_value_of cs s = into_kind s.1 (kind_in s.0 cs)

abbrev pub set_all : List (Name × Literal) → List Column → List Value → List Value
set_all [] cs row = row
set_all (s ∷ ss) cs row = set_all ss cs (set_in s.0 (value_in (set_value_of cs s)) cs row)

-- the rows that the test takes are set, in their places
abbrev pub edited : List (Name × Literal) → Option Test → Table → Table
edited sets test it = record it { rows = map (λ r. cond (takes test it.columns r) (set_all sets it.columns r) r) it.rows }

abbrev pub update : By → Dialect → Name → List (Name × Literal) → Option Test → Catalogue → Plan
update by d t sets test c =
    let it = the_table c t in
    record (unopposed c) {
      reserved = is_reserved by (t ∷ []);
      missing = is_none (table_of c t) || (column_missing it (map (λ s. s.0) sets) || column_missing it (names_in test));
      exists = repeats (map (λ s. s.0) sets);
      wrong = list_any (λ s. is_wrong (set_value_of it.columns s)) sets || compares_wrongly it.columns test;
      wide = list_any (λ s. is_wide (set_value_of it.columns s)) sets;
      named = t ∷ [];
      result = with_table c t (edited sets test it);
      count = length (filter (takes test it.columns) it.rows);
    }
