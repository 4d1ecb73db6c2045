-- A user's statement leaves nothing with a name of a tracking table: what its result has names of has them from before or from the statement, which names none.
use Rattle.std.proofs.Common.{ap, sym, ◌∙◌}
use Rattle.std.specs.BTreeMap.{insert_entry}
use Rattle.std.specs.List.{list_any}
use Rattle.std.specs.Map.{remove_entry, set_value}
use Rattle.std.specs.Option.{unwrap_or}
use Rattle.std.specs.Ordering.{is_eq, match_ordering}
use Rattle.std.specs.Prelude.{Bool, List, None, Option, Some, [], cond, false, is_some, map, not, refl, suc, true, zero, ℕ, ◌++◌, ◌||◌, ◌∷◌, ◌≡◌}
use Rattle.std.specs.declared.cmp.Ordering.TheVariants.{Equal, Greater, Less}
use Rattle.lq_base.specs.Name.{beside, is_named, name_cmp}
use Rattle.lq_base.specs.Value.{into_kind}
use Rattle.lq_base.specs.declared.dialect.Dialect.{Dialect}
use Rattle.lq_base.specs.declared.name.Name.{Name}
use Rattle.lq_model.proofs.DropKeeps.{any_filtered}
use Rattle.lq_model.proofs.Lists.{any-append, any-map, any_less, or_false, or_left, or_right, same_name}
use Rattle.lq_model.proofs.Maps.{any_none-remove_entry, any_none-set_value, at_lookup}
use Rattle.lq_model.specs.Constraints.{with_foreign, with_index, with_key, with_unique, without_constraint, without_foreign, without_index, without_index_in, without_its_key, without_key, without_unique}
use Rattle.lq_model.specs.Catalogue.{Catalogue, Sequence, Table, View, no_table, sequence_of, table_of, the_table, view_of, with_new, with_sequence, with_table, with_view, without_sequence, without_table, without_view, renamed, constraint_names, foreign_names, inner_names, key_list}
use Rattle.lq_model.specs.Tables.{made_nullable, modified, with_changed, with_default, with_column, without_column, new_table, retarget, retargeted, table_renamed, view_renamed, with_column_renamed}
use Rattle.lq_model.specs.Rows.{cascaded, row_count, without_lost, without_lost_in, without_taken, stated, with_row, edited}
use Rattle.lq_model.specs.Kinds.{kind_in, column_of, value_in}
use Rattle.lq_model.specs.NameSpaces.{object_names, is_reserved, is_tracking}
use Rattle.lq_model.specs.Views.{sequence_renamed, new_view}
use Rattle.lq_model.specs.Step.{plan}
use Rattle.lq_model.specs.declared.caller.By.TheVariants.{User}
use Rattle.lq_model.specs.declared.column.ColumnDef.{ColumnDef}
use Rattle.lq_model.specs.declared.constraint.ForeignKey.{ForeignKey}
use Rattle.lq_model.specs.declared.constraint.Key.{Key}
use Rattle.lq_model.specs.declared.constraint.Unique.{Unique}
use Rattle.lq_model.specs.declared.index.Index.{Index}
use Rattle.lq_model.specs.declared.statement.Statement.{Statement}
use Rattle.lq_model.specs.declared.statement.Statement.TheVariants.{AddColumn, AddForeignKey, AddPrimaryKey, AddUnique, CreateIndex, CreateSequence, CreateTable, CreateView, Delete, DropColumn, DropConstraint, DropDefault, DropForeignKey, DropIndex, DropNotNull, DropPrimaryKey, DropSequence, DropTable, DropUnique, DropView, Insert, Modify, RenameColumn, RenameSequence, RenameTable, RenameView, SetDefault, SetNotNull, Update}
use Rattle.lq_store.specs.Journal.{names_tracking, names_within}

-- lists and maps

any_one_more : {A : Type 0} (p : A → Bool) (xs : List A) (x : A) → list_any p xs ≡ false → p x ≡ false → list_any p (xs ++ x ∷ []) ≡ false
any_one_more p xs x none here = any-append p xs (x ∷ []) ∙ or_false _ _ none (or_false _ _ here refl)

-- an entry that is put in keeps the key that was there, which is the same
any_inserted : {X : Type 0} (p : Name × X → Bool) (es : List (Name × X)) (k : Name) (x : X) → p (k, x) ≡ false → list_any p es ≡ false → list_any p (insert_entry name_cmp es k x) ≡ false
any_inserted p [] k x new none = or_false _ _ new refl
any_inserted p (e ∷ es) k x new none =
    elim (name_cmp k e.0) as (λ r. name_cmp k e.0 ≡ r → list_any p (match_ordering r ((k, x) ∷ e ∷ es) ((e.0, x) ∷ es) (e ∷ insert_entry name_cmp es k x)) ≡ false) [
      | Less ↦ λ is. or_false _ _ new none
      | Equal ↦ λ is. or_false _ _ (ap (λ n. p (n, x)) (sym (same_name k e.0 (ap is_eq is))) ∙ new) (or_right (p e) _ none)
      | Greater ↦ λ is. or_false _ _ (or_left (p e) _ none) (any_inserted p es k x new (or_right (p e) _ none))
    ] refl

-- what stands in a table

abbrev has_name : Table → Bool
has_name it = list_any is_tracking (names_within it)

-- each of its names is none of a tracking table
record IsClear (it : Table) : Type 0 where
  key : list_any (λ (k : Key). is_tracking k.name) (key_list it.key) ≡ false
  uniques : list_any (λ (u : Unique). is_tracking u.name) it.uniques ≡ false
  indexes : list_any (λ (i : Index). is_tracking i.name) it.indexes ≡ false
  foreign : list_any (λ (f : ForeignKey). is_tracking f.name) it.foreign ≡ false
  targets : list_any (λ (f : ForeignKey). is_tracking f.table) it.foreign ≡ false

abbrev key_names : Table → List Name
key_names it = map (λ (k : Key). k.name) (key_list it.key)

abbrev unique_names : Table → List Name
unique_names it = map (λ (u : Unique). u.name) it.uniques

abbrev indexes_names : Table → List Name
indexes_names it = map (λ (i : Index). i.name) it.indexes

abbrev target_names : Table → List Name
target_names it = map (λ (f : ForeignKey). f.table) it.foreign

clear_of : (it : Table) → has_name it ≡ false → IsClear it
clear_of it h =
    let parts : (list_any is_tracking (inner_names it) || list_any is_tracking (foreign_names it ++ target_names it)) ≡ false = sym (any-append is_tracking (inner_names it) (foreign_names it ++ target_names it)) ∙ h in
    let outer : (list_any is_tracking (foreign_names it) || list_any is_tracking (target_names it)) ≡ false = sym (any-append is_tracking (foreign_names it) (target_names it)) ∙ or_right (list_any is_tracking (inner_names it)) _ parts in
    let inner : (list_any is_tracking (key_names it) || list_any is_tracking (unique_names it ++ indexes_names it)) ≡ false = sym (any-append is_tracking (key_names it) (unique_names it ++ indexes_names it)) ∙ or_left (list_any is_tracking (inner_names it)) _ parts in
    let more : (list_any is_tracking (unique_names it) || list_any is_tracking (indexes_names it)) ≡ false = sym (any-append is_tracking (unique_names it) (indexes_names it)) ∙ or_right (list_any is_tracking (key_names it)) _ inner in
    record {
      key = sym (any-map is_tracking (λ (k : Key). k.name) (key_list it.key)) ∙ or_left (list_any is_tracking (key_names it)) _ inner;
      uniques = sym (any-map is_tracking (λ (u : Unique). u.name) it.uniques) ∙ or_left (list_any is_tracking (unique_names it)) _ more;
      indexes = sym (any-map is_tracking (λ (i : Index). i.name) it.indexes) ∙ or_right (list_any is_tracking (unique_names it)) _ more;
      foreign = sym (any-map is_tracking (λ (f : ForeignKey). f.name) it.foreign) ∙ or_left (list_any is_tracking (foreign_names it)) _ outer;
      targets = sym (any-map is_tracking (λ (f : ForeignKey). f.table) it.foreign) ∙ or_right (list_any is_tracking (foreign_names it)) _ outer;
    }

none_of : (it : Table) → IsClear it → has_name it ≡ false
none_of it is =
    any-append is_tracking (inner_names it) (foreign_names it ++ target_names it)
    ∙ or_false _ _
    (any-append is_tracking (key_names it) (unique_names it ++ indexes_names it)
    ∙ or_false _ _ (any-map is_tracking (λ (k : Key). k.name) (key_list it.key) ∙ is.key)
    (any-append is_tracking (unique_names it) (indexes_names it)
    ∙ or_false _ _ (any-map is_tracking (λ (u : Unique). u.name) it.uniques ∙ is.uniques) (any-map is_tracking (λ (i : Index). i.name) it.indexes ∙ is.indexes)))
    (any-append is_tracking (foreign_names it) (target_names it)
    ∙ or_false _ _ (any-map is_tracking (λ (f : ForeignKey). f.name) it.foreign ∙ is.foreign) (any-map is_tracking (λ (f : ForeignKey). f.table) it.foreign ∙ is.targets))

-- a change of a table that brings in no such name
abbrev Keeps : (Table → Table) → Type 0
Keeps f = (it : Table) → has_name it ≡ false → has_name (f it) ≡ false

key_set : (k : Key) → is_tracking k.name ≡ false → Keeps (with_key k)
key_set k free it h = let is = clear_of it h in none_of (with_key k it) (record { key = or_false _ _ free refl; uniques = is.uniques; indexes = is.indexes; foreign = is.foreign; targets = is.targets })

unique_added : (u : Unique) → is_tracking u.name ≡ false → Keeps (with_unique u)
unique_added u free it h =
    let is = clear_of it h in
    none_of (with_unique u it) (record { key = is.key; uniques = any_one_more (λ (x : Unique). is_tracking x.name) it.uniques u is.uniques free; indexes = is.indexes; foreign = is.foreign; targets = is.targets })

foreign_added : (f : ForeignKey) → is_tracking f.name ≡ false → is_tracking f.table ≡ false → Keeps (with_foreign f)
foreign_added f free other it h =
    let is = clear_of it h in
    none_of (with_foreign f it) (record {
      key = is.key;
      uniques = is.uniques;
      indexes = is.indexes;
      foreign = any_one_more (λ (x : ForeignKey). is_tracking x.name) it.foreign f is.foreign free;
      targets = any_one_more (λ (x : ForeignKey). is_tracking x.table) it.foreign f is.targets other;
    })

index_added : (i : Index) → is_tracking i.name ≡ false → Keeps (with_index i)
index_added i free it h =
    let is = clear_of it h in
    none_of (with_index i it) (record { key = is.key; uniques = is.uniques; indexes = any_one_more (λ (x : Index). is_tracking x.name) it.indexes i is.indexes free; foreign = is.foreign; targets = is.targets })

key_less : (n : Name) (key : Option Key) → list_any (λ (k : Key). is_tracking k.name) (key_list key) ≡ false → list_any (λ (k : Key). is_tracking k.name) (key_list (without_key n key)) ≡ false
key_less n None h = refl
key_less n (Some k) h = elim (is_named n k.name) as (λ b. list_any (λ (x : Key). is_tracking x.name) (key_list (cond b None (Some k))) ≡ false) [ true ↦ refl | false ↦ h ]

constraint_dropped : (n : Name) → Keeps (without_constraint n)
constraint_dropped n it h =
    let is = clear_of it h in
    none_of (without_constraint n it) (record {
      key = key_less n it.key is.key;
      uniques = any_filtered (λ (u : Unique). is_tracking u.name) (λ (u : Unique). not (is_named n u.name)) it.uniques is.uniques;
      indexes = is.indexes;
      foreign = any_filtered (λ (f : ForeignKey). is_tracking f.name) (λ (f : ForeignKey). not (is_named n f.name)) it.foreign is.foreign;
      targets = any_filtered (λ (f : ForeignKey). is_tracking f.table) (λ (f : ForeignKey). not (is_named n f.name)) it.foreign is.targets;
    })

key_dropped : Keeps without_its_key
key_dropped it h = let is = clear_of it h in none_of (without_its_key it) (record { key = refl; uniques = is.uniques; indexes = is.indexes; foreign = is.foreign; targets = is.targets })

unique_dropped : (n : Name) → Keeps (without_unique n)
unique_dropped n it h =
    let is = clear_of it h in
    none_of (without_unique n it) (record {
      key = is.key;
      uniques = any_filtered (λ (u : Unique). is_tracking u.name) (λ (u : Unique). not (is_named n u.name)) it.uniques is.uniques;
      indexes = is.indexes;
      foreign = is.foreign;
      targets = is.targets;
    })

foreign_dropped : (n : Name) → Keeps (without_foreign n)
foreign_dropped n it h =
    let is = clear_of it h in
    none_of (without_foreign n it) (record {
      key = is.key;
      uniques = is.uniques;
      indexes = is.indexes;
      foreign = any_filtered (λ (f : ForeignKey). is_tracking f.name) (λ (f : ForeignKey). not (is_named n f.name)) it.foreign is.foreign;
      targets = any_filtered (λ (f : ForeignKey). is_tracking f.table) (λ (f : ForeignKey). not (is_named n f.name)) it.foreign is.targets;
    })

index_dropped_in : (n t : Name) → Keeps (without_index_in n t)
index_dropped_in n t it h =
    let is = clear_of it h in
    none_of (without_index_in n t it) (record {
      key = is.key;
      uniques = is.uniques;
      indexes = any_filtered (λ (i : Index). is_tracking i.name) (λ (i : Index). not (is_named n (beside t i.name))) it.indexes is.indexes;
      foreign = is.foreign;
      targets = is.targets;
    })

index_dropped : (n : Name) → Keeps (without_index n)
index_dropped n it h =
    let is = clear_of it h in
    none_of (without_index n it) (record {
      key = is.key;
      uniques = is.uniques;
      indexes = any_filtered (λ (i : Index). is_tracking i.name) (λ (i : Index). not (is_named n i.name)) it.indexes is.indexes;
      foreign = is.foreign;
      targets = is.targets;
    })

renamed_free : (a b n : Name) → is_tracking b ≡ false → is_tracking n ≡ false → is_tracking (renamed a b n) ≡ false
renamed_free a b n new old = elim (is_named a n) as (λ x. is_tracking (cond x b n) ≡ false) [ true ↦ new | false ↦ old ]

retargeted_keeps : (a b : Name) → is_tracking b ≡ false → Keeps (retargeted a b)
retargeted_keeps a b new it h =
    let is = clear_of it h in
    none_of (retargeted a b it) (record {
      key = is.key;
      uniques = is.uniques;
      indexes = is.indexes;
      foreign = any-map (λ (f : ForeignKey). is_tracking f.name) (retarget a b) it.foreign ∙ is.foreign;
      targets = any-map (λ (f : ForeignKey). is_tracking f.table) (retarget a b) it.foreign
          ∙ any_less (λ (f : ForeignKey). is_tracking (renamed a b f.table)) (λ (f : ForeignKey). is_tracking f.table) it.foreign (λ f old. renamed_free a b f.table new old) is.targets;
    })

column_renamed : (t : Name) (own : Bool) (a b : Name) → Keeps (with_column_renamed t own a b)
column_renamed t own a b it h =
    let is = clear_of it h in
    none_of (with_column_renamed t own a b it) (record {
      key = key_same it.key is.key;
      uniques = any-map (λ (u : Unique). is_tracking u.name) _ it.uniques ∙ is.uniques;
      indexes = any-map (λ (i : Index). is_tracking i.name) _ it.indexes ∙ is.indexes;
      foreign = any-map (λ (f : ForeignKey). is_tracking f.name) _ it.foreign ∙ is.foreign;
      targets = any-map (λ (f : ForeignKey). is_tracking f.table) _ it.foreign ∙ is.targets;
    }) where
      key_same : (o : Option Key) → list_any (λ (k : Key). is_tracking k.name) (key_list o) ≡ false → list_any (λ (k : Key). is_tracking k.name) (key_list (with_column_renamed t own a b (record it { key = o })).key) ≡ false
      key_same None none = refl
      key_same (Some k) none = none

-- what stands in a catalogue

pub record IsUnnamed (c : Catalogue) : Type 0 where
  pub tables : list_any (λ (e : Name × Table). is_tracking e.0) c.tables ≡ false
  pub views : list_any (λ (e : Name × View). is_tracking e.0) c.views ≡ false
  pub sequences : list_any (λ (e : Name × Sequence). is_tracking e.0) c.sequences ≡ false
  pub inner : list_any (λ (e : Name × Table). has_name e.1) c.tables ≡ false
  pub shown : list_any (λ (e : Name × View). is_tracking e.1.query.table) c.views ≡ false

abbrev keys : {X : Type 0} → List (Name × X) → List Name
keys {X} es = map (λ (e : Name × X). e.0) es

pub unnamed_of : (c : Catalogue) → names_tracking c ≡ false → IsUnnamed c
unnamed_of c h =
    let objects : (list_any is_tracking (keys c.tables) || list_any is_tracking (keys c.views ++ keys c.sequences)) ≡ false = sym (any-append is_tracking (keys c.tables) (keys c.views ++ keys c.sequences)) ∙ or_left (list_any is_tracking (object_names c)) _ h in
    let others : (list_any is_tracking (keys c.views) || list_any is_tracking (keys c.sequences)) ≡ false = sym (any-append is_tracking (keys c.views) (keys c.sequences)) ∙ or_right (list_any is_tracking (keys c.tables)) _ objects in
    let rest : (list_any (λ (e : Name × Table). has_name e.1) c.tables || list_any (λ (e : Name × View). is_tracking e.1.query.table) c.views) ≡ false = or_right (list_any is_tracking (object_names c)) _ h in
    record {
      tables = sym (any-map is_tracking (λ (e : Name × Table). e.0) c.tables) ∙ or_left (list_any is_tracking (keys c.tables)) _ objects;
      views = sym (any-map is_tracking (λ (e : Name × View). e.0) c.views) ∙ or_left (list_any is_tracking (keys c.views)) _ others;
      sequences = sym (any-map is_tracking (λ (e : Name × Sequence). e.0) c.sequences) ∙ or_right (list_any is_tracking (keys c.views)) _ others;
      inner = or_left (list_any (λ (e : Name × Table). has_name e.1) c.tables) _ rest;
      shown = or_right (list_any (λ (e : Name × Table). has_name e.1) c.tables) _ rest;
    }

pub named_none : (c : Catalogue) → IsUnnamed c → names_tracking c ≡ false
named_none c is =
    or_false _ _
    (any-append is_tracking (keys c.tables) (keys c.views ++ keys c.sequences)
    ∙ or_false _ _ (any-map is_tracking (λ (e : Name × Table). e.0) c.tables ∙ is.tables)
    (any-append is_tracking (keys c.views) (keys c.sequences)
    ∙ or_false _ _ (any-map is_tracking (λ (e : Name × View). e.0) c.views ∙ is.views) (any-map is_tracking (λ (e : Name × Sequence). e.0) c.sequences ∙ is.sequences)))
    (or_false _ _ is.inner is.shown)

module _ (c : Catalogue) (is : IsUnnamed c) where
  with_tables : (es : List (Name × Table)) → list_any (λ (e : Name × Table). is_tracking e.0) es ≡ false → list_any (λ (e : Name × Table). has_name e.1) es ≡ false → IsUnnamed (record c { tables = es })
  with_tables es names inner = record { tables = names; views = is.views; sequences = is.sequences; inner = inner; shown = is.shown }

  the_clear : (t : Name) → has_name (the_table c t) ≡ false
  the_clear t = by (table_of c t) refl where
    by : (o : Option Table) → table_of c t ≡ o → has_name (unwrap_or o no_table) ≡ false
    by None there_is = refl
    by (Some it) there_is = at_lookup (is_named t) has_name c.tables it is.inner there_is

  -- another table in the place of one
  set_clear : (t : Name) (it : Table) → is_tracking t ≡ false → has_name it ≡ false → IsUnnamed (with_table c t it)
  set_clear t it free clear = with_tables (set_value (is_named t) c.tables it)
      (any_none-set_value (is_named t) (λ (e : Name × Table). is_tracking e.0) c.tables it is.tables (λ k named. ap is_tracking (sym (same_name t k named)) ∙ free))
      (any_none-set_value (is_named t) (λ (e : Name × Table). has_name e.1) c.tables it is.inner (λ k named. clear))

  changed_clear : (t : Name) (f : Table → Table) → is_tracking t ≡ false → Keeps f → IsUnnamed (with_table c t (f (the_table c t)))
  changed_clear t f free keeps = set_clear t (f (the_table c t)) free (keeps (the_table c t) (the_clear t))

  -- each table changed
  all_changed : (f : Name → Table → Table) → ((n : Name) → Keeps (f n)) → IsUnnamed (record c { tables = map (λ (e : Name × Table). (e.0, f e.0 e.1)) c.tables })
  all_changed f keeps = with_tables (map (λ (e : Name × Table). (e.0, f e.0 e.1)) c.tables)
      (any-map (λ (e : Name × Table). is_tracking e.0) (λ (e : Name × Table). (e.0, f e.0 e.1)) c.tables ∙ is.tables)
      (any-map (λ (e : Name × Table). has_name e.1) (λ (e : Name × Table). (e.0, f e.0 e.1)) c.tables
      ∙ any_less (λ (e : Name × Table). has_name (f e.0 e.1)) (λ (e : Name × Table). has_name e.1) c.tables (λ e h. keeps e.0 e.1 h) is.inner)

  new_clear : (t : Name) (it : Table) → is_tracking t ≡ false → has_name it ≡ false → IsUnnamed (with_new c t it)
  new_clear t it free clear = with_tables (insert_entry name_cmp c.tables t it) (any_inserted (λ (e : Name × Table). is_tracking e.0) c.tables t it free is.tables) (any_inserted (λ (e : Name × Table). has_name e.1) c.tables t it clear is.inner)

  gone_clear : (t : Name) → IsUnnamed (without_table c t)
  gone_clear t = with_tables (remove_entry (is_named t) c.tables) (any_none-remove_entry (is_named t) (λ (e : Name × Table). is_tracking e.0) c.tables is.tables) (any_none-remove_entry (is_named t) (λ (e : Name × Table). has_name e.1) c.tables is.inner)

  view_clear : (v : Name) (it : View) → is_tracking v ≡ false → is_tracking it.query.table ≡ false → IsUnnamed (with_view c v it)
  view_clear v it free other = record {
    tables = is.tables;
    views = any_inserted (λ (e : Name × View). is_tracking e.0) c.views v it free is.views;
    sequences = is.sequences;
    inner = is.inner;
    shown = any_inserted (λ (e : Name × View). is_tracking e.1.query.table) c.views v it other is.shown;
  }

  view_gone : (v : Name) → IsUnnamed (without_view c v)
  view_gone v = record {
    tables = is.tables;
    views = any_none-remove_entry (is_named v) (λ (e : Name × View). is_tracking e.0) c.views is.views;
    sequences = is.sequences;
    inner = is.inner;
    shown = any_none-remove_entry (is_named v) (λ (e : Name × View). is_tracking e.1.query.table) c.views is.shown;
  }

  sequence_clear : (s : Name) (it : Sequence) → is_tracking s ≡ false → IsUnnamed (with_sequence c s it)
  sequence_clear s it free = record { tables = is.tables; views = is.views; sequences = any_inserted (λ (e : Name × Sequence). is_tracking e.0) c.sequences s it free is.sequences; inner = is.inner; shown = is.shown }

  sequence_gone : (s : Name) → IsUnnamed (without_sequence c s)
  sequence_gone s = record { tables = is.tables; views = is.views; sequences = any_none-remove_entry (is_named s) (λ (e : Name × Sequence). is_tracking e.0) c.sequences is.sequences; inner = is.inner; shown = is.shown }

-- the table at its new name, and then each foreign key's target
renamed_clear : (a b : Name) (c : Catalogue) → IsUnnamed c → is_tracking b ≡ false → IsUnnamed (table_renamed a b c)
renamed_clear a b c is new =
    let moved = new_clear (without_table c a) (gone_clear c is a) b (the_table c a) new (the_clear c is a) in
    all_changed (with_new (without_table c a) b (the_table c a)) moved (λ n. retargeted a b) (λ n. retargeted_keeps a b new)

view_moved : (a b : Name) (c : Catalogue) → IsUnnamed c → is_tracking b ≡ false → IsUnnamed (view_renamed a b c)
view_moved a b c is new = by (view_of c a) refl where
  by : (o : Option View) → view_of c a ≡ o → IsUnnamed (elim o as (λ _. Catalogue) [ None ↦ c | Some v ↦ with_view (without_view c a) b v ])
  by None there_is = is
  by (Some v) there_is = view_clear (without_view c a) (view_gone c is a) b v new (at_lookup (is_named a) (λ (x : View). is_tracking x.query.table) c.views v is.shown there_is)

sequence_moved : (a b : Name) (c : Catalogue) → IsUnnamed c → is_tracking b ≡ false → IsUnnamed (sequence_renamed a b c)
sequence_moved a b c is new = by (sequence_of c a) where
  by : (o : Option Sequence) → IsUnnamed (elim o as (λ _. Catalogue) [ None ↦ c | Some s ↦ with_sequence (without_sequence c a) b s ])
  by None = is
  by (Some s) = sequence_clear (without_sequence c a) (sequence_gone c is a) b s new

either_moved : (a b : Name) (c : Catalogue) → IsUnnamed c → is_tracking b ≡ false → IsUnnamed (cond (is_some (table_of c a)) (table_renamed a b c) (view_renamed a b c))
either_moved a b c is new = elim (is_some (table_of c a)) as (λ x. IsUnnamed (cond x (table_renamed a b c) (view_renamed a b c))) [ true ↦ renamed_clear a b c is new | false ↦ view_moved a b c is new ]

cascade_clear : (n : ℕ) (c : Catalogue) → IsUnnamed c → IsUnnamed (cascaded n c)
cascade_clear zero c is = is
cascade_clear (suc n) c is = cascade_clear n (without_lost c) (all_changed c is (λ m. without_lost_in c) (λ m it h. h))

-- a new table has the names that the statement gives it
created_clear : (t : Name) (defs : List ColumnDef) (key : Option Key) (uniques : List Unique) (foreign : List ForeignKey) → is_reserved User (t ∷ constraint_names (new_table defs key uniques foreign) ++ map (λ (f : ForeignKey). f.table) foreign) ≡ false → has_name (new_table defs key uniques foreign) ≡ false
created_clear t defs key uniques foreign h =
    let it : Table = new_table defs key uniques foreign in
    let rest : (list_any is_tracking (constraint_names it) || list_any is_tracking (target_names it)) ≡ false = sym (any-append is_tracking (constraint_names it) (target_names it)) ∙ or_right (is_tracking t) _ h in
    let own : (list_any is_tracking (key_names it) || list_any is_tracking (unique_names it ++ foreign_names it)) ≡ false = sym (any-append is_tracking (key_names it) (unique_names it ++ foreign_names it)) ∙ or_left (list_any is_tracking (constraint_names it)) _ rest in
    let others : (list_any is_tracking (unique_names it) || list_any is_tracking (foreign_names it)) ≡ false = sym (any-append is_tracking (unique_names it) (foreign_names it)) ∙ or_right (list_any is_tracking (key_names it)) _ own in
    none_of it (record {
      key = sym (any-map is_tracking (λ (k : Key). k.name) (key_list key)) ∙ or_left (list_any is_tracking (key_names it)) _ own;
      uniques = sym (any-map is_tracking (λ (u : Unique). u.name) uniques) ∙ or_left (list_any is_tracking (unique_names it)) _ others;
      indexes = refl;
      foreign = sym (any-map is_tracking (λ (f : ForeignKey). f.name) foreign) ∙ or_right (list_any is_tracking (unique_names it)) _ others;
      targets = sym (any-map is_tracking (λ (f : ForeignKey). f.table) foreign) ∙ or_right (list_any is_tracking (constraint_names it)) _ rest;
    })

first : (n : Name) (ns : List Name) → is_reserved User (n ∷ ns) ≡ false → is_tracking n ≡ false
first n ns h = or_left (is_tracking n) _ h

rest : (n : Name) (ns : List Name) → is_reserved User (n ∷ ns) ≡ false → is_reserved User ns ≡ false
rest n ns h = or_right (is_tracking n) _ h

second : (n m : Name) (ns : List Name) → is_reserved User (n ∷ m ∷ ns) ≡ false → is_tracking m ≡ false
second n m ns h = first m ns (rest n (m ∷ ns) h)

-- every statement
pub result_unnamed : (d : Dialect) (s : Statement) (c : Catalogue) → IsUnnamed c → (plan User d s c).reserved ≡ false → IsUnnamed (plan User d s c).result
result_unnamed d (CreateTable t defs key uniques foreign) c is h = new_clear c is t (new_table defs key uniques foreign) (or_left (is_tracking t) _ h) (created_clear t defs key uniques foreign h)
result_unnamed d (DropTable t) c is h = gone_clear c is t
result_unnamed d (RenameTable t to) c is h = either_moved t to c is (second t to [] h)
result_unnamed d (AddColumn t def) c is h = changed_clear c is t (with_column (column_of def)) (first t [] h) (λ it none. none)
result_unnamed d (DropColumn t n) c is h = changed_clear c is t (without_column n) (first t [] h) (λ it none. none)
result_unnamed d (RenameColumn t n to) c is h = all_changed c is (λ m. with_column_renamed t (is_named t m) n to) (λ m. column_renamed t (is_named t m) n to)
result_unnamed d (SetNotNull t n) c is h = changed_clear c is t (with_changed n (made_nullable false)) (first t [] h) (λ it none. none)
result_unnamed d (DropNotNull t n) c is h = changed_clear c is t (with_changed n (made_nullable true)) (first t [] h) (λ it none. none)
result_unnamed d (Modify t n k nullable) c is h = changed_clear c is t (with_changed n (modified k nullable)) (first t [] h) (λ it none. none)
result_unnamed d (SetDefault t n l) c is h = changed_clear c is t (λ it. with_changed n (with_default (Some (value_in (into_kind l (kind_in n it.columns))))) it) (first t [] h) (λ it none. none)
result_unnamed d (DropDefault t n) c is h = changed_clear c is t (with_changed n (with_default None)) (first t [] h) (λ it none. none)
result_unnamed d (AddPrimaryKey t k) c is h = changed_clear c is t (with_key k) (first t (k.name ∷ []) h) (key_set k (second t k.name [] h))
result_unnamed d (AddUnique t u) c is h = changed_clear c is t (with_unique u) (first t (u.name ∷ []) h) (unique_added u (second t u.name [] h))
result_unnamed d (AddForeignKey t f) c is h = changed_clear c is t (with_foreign f) (first t (f.name ∷ f.table ∷ []) h) (foreign_added f (second t f.name (f.table ∷ []) h) (second f.name f.table [] (rest t (f.name ∷ f.table ∷ []) h)))
result_unnamed d (DropConstraint t n) c is h = changed_clear c is t (without_constraint n) (first t (n ∷ []) h) (constraint_dropped n)
result_unnamed d (DropPrimaryKey t) c is h = changed_clear c is t without_its_key (first t [] h) key_dropped
result_unnamed d (DropUnique t n) c is h = changed_clear c is t (without_unique n) (first t (n ∷ []) h) (unique_dropped n)
result_unnamed d (DropForeignKey t n) c is h = changed_clear c is t (without_foreign n) (first t (n ∷ []) h) (foreign_dropped n)
result_unnamed d (CreateIndex t i) c is h = changed_clear c is t (with_index i) (first t (i.name ∷ []) h) (index_added i (second t i.name [] h))
result_unnamed d (DropIndex n None) c is h = all_changed c is (without_index_in n) (index_dropped_in n)
result_unnamed d (DropIndex n (Some t)) c is h = changed_clear c is t (without_index n) (first t (n ∷ []) h) (index_dropped n)
result_unnamed d (CreateView v q replace) c is h = view_clear c is v (new_view q (the_table c q.table)) (first v (q.table ∷ []) h) (second v q.table [] h)
result_unnamed d (DropView v) c is h = view_gone c is v
result_unnamed d (RenameView v to) c is h = view_moved v to c is (second v to [] h)
result_unnamed d (CreateSequence s start size) c is h = sequence_clear c is s (record { start = start; step = size }) (first s [] h)
result_unnamed d (DropSequence s) c is h = sequence_gone c is s
result_unnamed d (RenameSequence s to) c is h = sequence_moved s to c is (second s to [] h)
result_unnamed d (Insert t ns ls) c is h = changed_clear c is t (λ it. with_row d (stated it ns) ls it) (first t [] h) (λ it none. none)
result_unnamed d (Update t sets test) c is h = changed_clear c is t (edited sets test) (first t [] h) (λ it none. none)
result_unnamed d (Delete t test) c is h = cascade_clear (row_count c) (with_table c t (without_taken test (the_table c t))) (changed_clear c is t (without_taken test) (first t [] h) (λ it none. none))
