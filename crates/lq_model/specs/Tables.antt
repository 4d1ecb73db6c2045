-- The statements that make, change, rename and drop tables and their columns.
use Rattle.std.specs.BTreeMap.{insert_entry}
use Rattle.std.specs.List.{filter, list_any}
use Rattle.std.specs.Map.{remove_entry}
use Rattle.std.specs.Option.{option_map}
use Rattle.std.specs.Prelude.{Bool, List, None, Option, Some, [], cond, false, is_none, is_some, length, map, nat_eq, nat_le, not, true, ◌&&◌, ◌++◌, ◌||◌, ◌∷◌}
use Rattle.lq_base.specs.Name.{is_named, name_cmp}
use Rattle.lq_base.specs.Value.{into_kind, is_value_of}
use Rattle.lq_base.specs.declared.dialect.Dialect.{Dialect}
use Rattle.lq_base.specs.declared.kind.Kind.{Kind}
use Rattle.lq_base.specs.declared.kind.Kind.TheVariants as kind
use Rattle.lq_base.specs.declared.literal.Literal.{Literal}
use Rattle.lq_base.specs.declared.name.Name.{Name}
use Rattle.lq_base.specs.declared.value.Value.{Value}
use Rattle.lq_base.specs.declared.value.Value.TheVariants as value
use Rattle.lq_model.specs.Catalogue.{Catalogue, Table, by_name, column_lists, column_missing, column_names, constraint_names, has_column, inner_names, is_in, key_list, placed, renamed, repeats, table_of, the_table, view_of, with_new, with_table, with_view, without_table, without_view}
use Rattle.lq_model.specs.Kinds.{column_of, default_value, is_number, is_wide, is_wrong, kind_in, kind_of, kinds_differ, literal_of, same_kind, value_in}
use Rattle.lq_model.specs.NameSpaces.{are_clashing, is_reserved, is_taken, takes_lock_key}
use Rattle.lq_model.specs.Plan.{Plan, unopposed}
use Rattle.lq_model.specs.Sound.{is_key_of}
use Rattle.lq_model.specs.Truth.{names_in}
use Rattle.lq_model.specs.declared.caller.By.{By}
use Rattle.lq_model.specs.declared.column.Column.{Column}
use Rattle.lq_model.specs.declared.column.ColumnDef.{ColumnDef}
use Rattle.lq_model.specs.declared.constraint.ForeignKey.{ForeignKey}
use Rattle.lq_model.specs.declared.constraint.Key.{Key}
use Rattle.lq_model.specs.declared.constraint.Unique.{Unique}
use Rattle.lq_model.specs.declared.index.Index.{Index}

-- CREATE TABLE.

-- a key's columns are NOT NULL
abbrev pub key_column : Option Key → Column → Column
key_column key c = cond (list_any (λ k. is_in c.name k.columns) (key_list key)) (record c { nullable = false }) c

-- without rows and indexes, the next number being 1
abbrev pub new_table : List ColumnDef → Option Key → List Unique → List ForeignKey → Table
new_table defs key uniques foreign = record {
  columns = map (key_column key) (map column_of defs);
  key = key;
  uniques = uniques;
  foreign = foreign;
  indexes = [];
  next = 1;
  rows = [];
}

-- a foreign key's table, or a column that it targets, is not there
abbrev pub target_missing : Catalogue → ForeignKey → Bool
target_missing c f = is_none (table_of c f.table) || column_missing (the_table c f.table) f.targets

-- a column that a key, unique constraint or foreign key names is not there
abbrev pub lacks_own : Table → Bool
lacks_own it = list_any (column_missing it) (column_lists it) || list_any (λ f. column_missing it f.columns) it.foreign

-- a column is named twice in a list
abbrev pub lists_twice : Table → Bool
lists_twice it = repeats (column_names it) || (list_any repeats (column_lists it) || list_any (λ f. repeats f.columns || repeats f.targets) it.foreign)

-- a numbered column has a default, or is not the only column of the key
abbrev pub depends_in : Option Key → ColumnDef → Bool
depends_in key d = d.numbered && (is_some d.default || not (is_key_of key d.name))

-- a numbered column is not of a number's kind
abbrev pub numbers_wrongly : ColumnDef → Bool
numbers_wrongly d = d.numbered && not (is_number d.kind)

abbrev pub repeats_number : List ColumnDef → Bool
repeats_number defs = not (nat_le (length (filter (λ d. d.numbered) defs)) 1)

-- its foreign keys may target the table itself: targets are looked for in the result
abbrev pub create_table : By → Dialect → Name → List ColumnDef → Option Key → List Unique → List ForeignKey → Catalogue → Plan
create_table by d t defs key uniques foreign c =
    let it = new_table defs key uniques foreign in
    let after = with_new c t it in
    record (unopposed c) {
      reserved = is_reserved by (t ∷ constraint_names it ++ map (λ f. f.table) foreign);
      missing = lacks_own it || list_any (target_missing after) foreign;
      exists = is_taken d t c || (are_clashing d t it c || (takes_lock_key by d (t ∷ placed t (inner_names it)) || lists_twice it));
      depends = list_any (depends_in key) defs;
      wrong = list_any (λ e. is_wrong (into_kind (literal_of e) e.kind)) defs || (list_any (kinds_differ after it) foreign || (list_any numbers_wrongly defs || repeats_number defs));
      wide = list_any (λ e. is_wide (into_kind (literal_of e) e.kind)) defs;
      named = t ∷ [];
      result = after;
    }

-- What needs a table or a column.

-- a view names the table
abbrev pub is_viewed : Catalogue → Name → Bool
is_viewed c t = list_any (λ e. is_named t e.1.query.table) c.views

-- a view names the column, among its columns or in its test
abbrev pub is_shown : Catalogue → Name → Name → Bool
is_shown c t n = list_any (λ e. is_named t e.1.query.table && (is_in n e.1.columns || is_in n (names_in e.1.query.test))) c.views

-- a foreign key of the table has the column
abbrev pub is_in_foreign : Table → Name → Bool
is_in_foreign it n = list_any (λ f. is_in n f.columns) it.foreign

-- a key, unique constraint, index or foreign key of the table has the column
abbrev pub is_bound : Table → Name → Bool
is_bound it n = list_any (is_in n) (column_lists it) || is_in_foreign it n

-- the key of the table has the column
abbrev pub is_in_key : Table → Name → Bool
is_in_key it n = list_any (λ k. is_in n k.columns) (key_list it.key)

abbrev pub aims_at : Name → Name → ForeignKey → Bool
aims_at t n f = is_named t f.table && is_in n f.targets

-- a foreign key targets the column
abbrev pub is_aimed : Catalogue → Name → Name → Bool
is_aimed c t n = list_any (λ e. list_any (aims_at t n) e.1.foreign) c.tables

abbrev pub targets_table : Name → Table → Bool
targets_table t it = list_any (λ f. is_named t f.table) it.foreign

-- another table's foreign key targets the table
abbrev pub is_targeted : Catalogue → Name → Bool
is_targeted c t = list_any (λ e. not (is_named t e.0) && targets_table t e.1) c.tables

abbrev pub has_numbered : Table → Bool
has_numbered it = list_any (λ c. c.numbered) it.columns

-- What changes a column in its place: SET NOT NULL, DROP NOT NULL, MODIFY, SET DEFAULT and DROP DEFAULT.

-- the change of a column, where it has the name
abbrev pub changed_at : Name → (Column → Column) → Column → Column
changed_at n f c = cond (is_named n c.name) (f c) c

-- the table with a change of the column of that name
abbrev pub with_changed : Name → (Column → Column) → Table → Table
with_changed n f it = record it { columns = map (changed_at n f) it.columns }

abbrev pub made_nullable : Bool → Column → Column
made_nullable b c = record c { nullable = b }

abbrev pub set_not_null : By → Dialect → Name → Name → Catalogue → Plan
set_not_null by d t n c =
    let it = the_table c t in
    record (unopposed c) {
      reserved = is_reserved by (t ∷ []);
      missing = is_none (table_of c t) || not (has_column it n);
      named = t ∷ [];
      result = with_table c t (with_changed n (made_nullable false) it);
    }

abbrev pub drop_not_null : By → Dialect → Name → Name → Catalogue → Plan
drop_not_null by d t n c =
    let it = the_table c t in
    record (unopposed c) {
      reserved = is_reserved by (t ∷ []);
      missing = is_none (table_of c t) || not (has_column it n);
      depends = is_in_key it n;
      named = t ∷ [];
      result = with_table c t (with_changed n (made_nullable true) it);
    }

-- null, or a value of the kind's sort and, in a decimal kind, of its scale
abbrev pub is_variant : Kind → Value → Bool
is_variant k value.Null = true
is_variant kind.Int (value.Int n) = true
is_variant kind.BigInt (value.Int n) = true
is_variant kind.Boolean (value.Bool b) = true
is_variant (kind.Varchar n) (value.Text t) = true
is_variant kind.Text (value.Text t) = true
is_variant kind.Moment (value.Moment m) = true
is_variant (kind.Decimal p s) (value.Fixed u t) = nat_eq s t
is_variant _ _ = false

-- the kind and whether null is allowed are set; default and numbering are cleared
abbrev pub modified : Kind → Bool → Column → Column
modified k b c = record c { kind = k; nullable = b; default = None; numbered = false }

-- the column is of another kind, and a view or a foreign key on either side names it
abbrev pub kind_needed : Catalogue → Name → Name → Kind → Bool
kind_needed c t n k =
    not (same_kind (kind_of n (the_table c t).columns) (Some k))
    && (is_shown c t n || (is_in_foreign (the_table c t) n || is_aimed c t n))

abbrev pub modify : By → Dialect → Name → Name → Kind → Bool → Catalogue → Plan
modify by d t n k b c =
    let it = the_table c t in
    record (unopposed c) {
      reserved = is_reserved by (t ∷ []);
      missing = is_none (table_of c t) || not (has_column it n);
      depends = (b && is_in_key it n) || kind_needed c t n k;
      wrong = list_any (λ r. not (is_variant k (by_name it.columns r n))) it.rows;
      wide = list_any (λ r. not (is_value_of k (by_name it.columns r n))) it.rows;
      named = t ∷ [];
      result = with_table c t (with_changed n (modified k b) it);
    }

abbrev pub with_default : Option Value → Column → Column
with_default v c = record c { default = v }

abbrev pub set_default : By → Dialect → Name → Name → Literal → Catalogue → Plan
set_default by d t n l c =
    let it = the_table c t in
    let v = into_kind l (kind_in n it.columns) in
    record (unopposed c) {
      reserved = is_reserved by (t ∷ []);
      missing = is_none (table_of c t) || not (has_column it n);
      depends = list_any (λ e. is_named n e.name && e.numbered) it.columns;
      wrong = is_wrong v;
      wide = is_wide v;
      named = t ∷ [];
      result = with_table c t (with_changed n (with_default (Some (value_in v))) it);
    }

abbrev pub drop_default : By → Dialect → Name → Name → Catalogue → Plan
drop_default by d t n c =
    let it = the_table c t in
    record (unopposed c) {
      reserved = is_reserved by (t ∷ []);
      missing = is_none (table_of c t) || not (has_column it n);
      named = t ∷ [];
      result = with_table c t (with_changed n (with_default None) it);
    }

-- ADD COLUMN and DROP COLUMN.

-- the column at the end, each row with its default or null
abbrev pub with_column : Column → Table → Table
with_column c it = record it { columns = it.columns ++ c ∷ []; rows = map (λ r. r ++ default_value c ∷ []) it.rows }

-- a numbered column would not be in the key that is made with it, so it is always against this
abbrev pub add_column : By → Dialect → Name → ColumnDef → Catalogue → Plan
add_column by d t def c =
    let it = the_table c t in
    record (unopposed c) {
      reserved = is_reserved by (t ∷ []);
      missing = is_none (table_of c t);
      exists = has_column it def.name;
      depends = def.numbered;
      wrong = is_wrong (into_kind (literal_of def) def.kind);
      wide = is_wide (into_kind (literal_of def) def.kind);
      named = t ∷ [];
      result = with_table c t (with_column (column_of def) it);
    }

abbrev pub columns_without : Name → List Column → List Column
columns_without n [] = []
columns_without n (c ∷ cs) = cond (is_named n c.name) cs (c ∷ columns_without n cs)

abbrev pub row_without : Name → List Column → List Value → List Value
row_without n [] vs = vs
row_without n (c ∷ cs) [] = []
row_without n (c ∷ cs) (v ∷ vs) = cond (is_named n c.name) vs (v ∷ row_without n cs vs)

-- the column and its place in each row are gone
abbrev pub without_column : Name → Table → Table
without_column n it = record it { columns = columns_without n it.columns; rows = map (row_without n it.columns) it.rows }

abbrev pub is_only : List Column → Bool
is_only (c ∷ []) = true
is_only _ = false

abbrev pub drop_column : By → Dialect → Name → Name → Catalogue → Plan
drop_column by d t n c =
    let it = the_table c t in
    record (unopposed c) {
      reserved = is_reserved by (t ∷ []);
      missing = is_none (table_of c t) || not (has_column it n);
      depends = is_shown c t n || (is_bound it n || (is_aimed c t n || is_only it.columns));
      named = t ∷ [];
      result = with_table c t (without_column n it);
    }

-- DROP TABLE.

abbrev pub drop_table : By → Dialect → Name → Catalogue → Plan
drop_table by d t c = record (unopposed c) {
  reserved = is_reserved by (t ∷ []);
  missing = is_none (table_of c t);
  depends = is_viewed c t || is_targeted c t;
  named = t ∷ [];
  result = without_table c t;
}

-- Renaming a table or a view.

abbrev pub retarget : Name → Name → ForeignKey → ForeignKey
retarget a b f = record f { table = renamed a b f.table }

abbrev pub retargeted : Name → Name → Table → Table
retargeted a b it = record it { foreign = map (retarget a b) it.foreign }

-- the table has the new name, and so have the foreign keys' targets that named it
abbrev pub table_renamed : Name → Name → Catalogue → Catalogue
table_renamed a b c = record c {
  tables = map (λ e. (e.0, retargeted a b e.1)) (insert_entry name_cmp (remove_entry (is_named a) c.tables) b (the_table c a));
}

abbrev pub view_renamed : Name → Name → Catalogue → Catalogue
view_renamed a b c = elim (view_of c a) [ None ↦ c | Some v ↦ with_view (without_view c a) b v ]

-- it renames a view where the name is one's
abbrev pub rename_table : By → Dialect → Name → Name → Catalogue → Plan
rename_table by d t to c = record (unopposed c) {
  reserved = is_reserved by (t ∷ to ∷ []);
  missing = is_none (table_of c t) && is_none (view_of c t);
  exists = is_taken d to c || takes_lock_key by d (t ∷ to ∷ []);
  depends = is_viewed c t;
  named = to ∷ [];
  result = cond (is_some (table_of c t)) (table_renamed t to c) (view_renamed t to c);
}

abbrev pub rename_view : By → Dialect → Name → Name → Catalogue → Plan
rename_view by d v to c = record (unopposed c) {
  reserved = is_reserved by (v ∷ to ∷ []);
  missing = is_none (view_of c v);
  exists = is_taken d to c || takes_lock_key by d (v ∷ to ∷ []);
  result = view_renamed v to c;
}

-- RENAME COLUMN.

-- the new name, where the list is of columns of the table that has the column
abbrev pub name_at : Bool → Name → Name → Name → Name
name_at own a b n = cond own (renamed a b n) n

abbrev pub names_at : Bool → Name → Name → List Name → List Name
names_at own a b ns = map (name_at own a b) ns

-- the new name in columns, key, unique constraints, indexes and foreign keys; `own` where it is the table t itself
abbrev pub with_column_renamed : Name → Bool → Name → Name → Table → Table
with_column_renamed t own a b it = record it {
  columns = map (λ (c : Column). record c { name = name_at own a b c.name }) it.columns;
  key = option_map (λ (k : Key). record k { columns = names_at own a b k.columns }) it.key;
  uniques = map (λ (u : Unique). record u { columns = names_at own a b u.columns }) it.uniques;
  foreign = map (λ (f : ForeignKey). record f { columns = names_at own a b f.columns; targets = names_at (is_named t f.table) a b f.targets }) it.foreign;
  indexes = map (λ (i : Index). record i { columns = names_at own a b i.columns }) it.indexes;
}

abbrev pub rename_column : By → Dialect → Name → Name → Name → Catalogue → Plan
rename_column by d t n to c =
    let it = the_table c t in
    record (unopposed c) {
      reserved = is_reserved by (t ∷ []);
      missing = is_none (table_of c t) || not (has_column it n);
      exists = has_column it to;
      depends = is_shown c t n;
      named = t ∷ [];
      result = record c { tables = map (λ e. (e.0, with_column_renamed t (is_named t e.0) n to e.1)) c.tables };
    }
