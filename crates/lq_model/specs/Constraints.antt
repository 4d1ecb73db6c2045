-- The statements that add and drop keys, unique constraints, foreign keys and indexes.
use Rattle.std.specs.List.{filter, list_any}
use Rattle.std.specs.Prelude.{Bool, List, None, Option, Some, [], cond, is_none, is_some, map, not, ◌&&◌, ◌++◌, ◌||◌, ◌∷◌}
use Rattle.lq_base.specs.Name.{beside, is_named}
use Rattle.lq_base.specs.declared.dialect.Dialect.{Dialect}
use Rattle.lq_base.specs.declared.name.Name.{Name}
use Rattle.lq_model.specs.Catalogue.{Catalogue, Table, column_missing, constraint_names, foreign_names, is_in, key_list, placed, repeats, table_of, the_table, with_table}
use Rattle.lq_model.specs.Kinds.{kinds_differ}
use Rattle.lq_model.specs.NameSpaces.{foreign_taken, index_taken, is_reserved, key_taken, takes_lock_key, unique_taken}
use Rattle.lq_model.specs.Plan.{Plan, unopposed}
use Rattle.lq_model.specs.Tables.{has_numbered, key_column, target_missing}
use Rattle.lq_model.specs.declared.caller.By.{By}
use Rattle.lq_model.specs.declared.constraint.ForeignKey.{ForeignKey}
use Rattle.lq_model.specs.declared.constraint.Key.{Key}
use Rattle.lq_model.specs.declared.constraint.Unique.{Unique}
use Rattle.lq_model.specs.declared.index.Index.{Index}

-- What adds a key, a unique constraint, a foreign key or an index: each goes to the end of its list.

-- the key is set, and its columns are NOT NULL
abbrev pub with_key : Key → Table → Table
with_key k it = record it { key = Some k; columns = map (key_column (Some k)) it.columns }

abbrev pub add_primary_key : By → Dialect → Name → Key → Catalogue → Plan
add_primary_key by d t k c =
    let it = the_table c t in
    record (unopposed c) {
      reserved = is_reserved by (t ∷ k.name ∷ []);
      missing = is_none (table_of c t) || column_missing it k.columns;
      exists = is_some it.key || (key_taken d t it k.name c || (takes_lock_key by d (placed t (k.name ∷ [])) || repeats k.columns));
      named = t ∷ [];
      result = with_table c t (with_key k it);
    }

abbrev pub with_unique : Unique → Table → Table
with_unique u it = record it { uniques = it.uniques ++ u ∷ [] }

abbrev pub add_unique : By → Dialect → Name → Unique → Catalogue → Plan
add_unique by d t u c =
    let it = the_table c t in
    record (unopposed c) {
      reserved = is_reserved by (t ∷ u.name ∷ []);
      missing = is_none (table_of c t) || column_missing it u.columns;
      exists = unique_taken d t it u.name c || (takes_lock_key by d (placed t (u.name ∷ [])) || repeats u.columns);
      named = t ∷ [];
      result = with_table c t (with_unique u it);
    }

abbrev pub with_foreign : ForeignKey → Table → Table
with_foreign f it = record it { foreign = it.foreign ++ f ∷ [] }

abbrev pub add_foreign_key : By → Dialect → Name → ForeignKey → Catalogue → Plan
add_foreign_key by d t f c =
    let it = the_table c t in
    record (unopposed c) {
      reserved = is_reserved by (t ∷ f.name ∷ f.table ∷ []);
      missing = is_none (table_of c t) || (column_missing it f.columns || target_missing c f);
      exists = foreign_taken d it f.name c || (repeats f.columns || repeats f.targets);
      wrong = kinds_differ c it f;
      named = t ∷ [];
      result = with_table c t (with_foreign f it);
    }

abbrev pub with_index : Index → Table → Table
with_index i it = record it { indexes = it.indexes ++ i ∷ [] }

abbrev pub create_index : By → Dialect → Name → Index → Catalogue → Plan
create_index by d t i c =
    let it = the_table c t in
    record (unopposed c) {
      reserved = is_reserved by (t ∷ i.name ∷ []);
      missing = is_none (table_of c t) || column_missing it i.columns;
      exists = index_taken d t it i.name c || (takes_lock_key by d (placed t (i.name ∷ [])) || repeats i.columns);
      named = t ∷ [];
      result = with_table c t (with_index i it);
    }

-- What drops a key, a unique constraint, a foreign key or an index.

abbrev pub without_key : Name → Option Key → Option Key
without_key n None = None
without_key n (Some k) = cond (is_named n k.name) None (Some k)

abbrev pub uniques_without : Name → List Unique → List Unique
uniques_without n us = filter (λ u. not (is_named n u.name)) us

abbrev pub foreign_without : Name → List ForeignKey → List ForeignKey
foreign_without n fs = filter (λ f. not (is_named n f.name)) fs

-- the constraint of that name is gone, of whichever sort
abbrev pub without_constraint : Name → Table → Table
without_constraint n it = record it {
  key = without_key n it.key;
  uniques = uniques_without n it.uniques;
  foreign = foreign_without n it.foreign;
}

-- the key of a table with a numbered column may not go
abbrev pub drop_constraint : By → Dialect → Name → Name → Catalogue → Plan
drop_constraint by d t n c =
    let it = the_table c t in
    record (unopposed c) {
      reserved = is_reserved by (t ∷ n ∷ []);
      missing = is_none (table_of c t) || not (is_in n (constraint_names it));
      depends = list_any (λ k. is_named n k.name) (key_list it.key) && has_numbered it;
      named = t ∷ [];
      result = with_table c t (without_constraint n it);
    }

abbrev pub without_its_key : Table → Table
without_its_key it = record it { key = None }

abbrev pub drop_primary_key : By → Dialect → Name → Catalogue → Plan
drop_primary_key by d t c =
    let it = the_table c t in
    record (unopposed c) {
      reserved = is_reserved by (t ∷ []);
      missing = is_none (table_of c t) || is_none it.key;
      depends = has_numbered it;
      named = t ∷ [];
      result = with_table c t (without_its_key it);
    }

abbrev pub without_unique : Name → Table → Table
without_unique n it = record it { uniques = uniques_without n it.uniques }

abbrev pub drop_unique : By → Dialect → Name → Name → Catalogue → Plan
drop_unique by d t n c =
    let it = the_table c t in
    record (unopposed c) {
      reserved = is_reserved by (t ∷ n ∷ []);
      missing = is_none (table_of c t) || not (is_in n (map (λ u. u.name) it.uniques));
      named = t ∷ [];
      result = with_table c t (without_unique n it);
    }

abbrev pub without_foreign : Name → Table → Table
without_foreign n it = record it { foreign = foreign_without n it.foreign }

abbrev pub drop_foreign_key : By → Dialect → Name → Name → Catalogue → Plan
drop_foreign_key by d t n c =
    let it = the_table c t in
    record (unopposed c) {
      reserved = is_reserved by (t ∷ n ∷ []);
      missing = is_none (table_of c t) || not (is_in n (foreign_names it));
      named = t ∷ [];
      result = with_table c t (without_foreign n it);
    }

abbrev pub without_index : Name → Table → Table
without_index n it = record it { indexes = filter (λ i. not (is_named n i.name)) it.indexes }

abbrev pub has_index : Name → Table → Bool
has_index n it = is_in n (map (λ i. i.name) it.indexes)

-- the index of that name in the table's schema

abbrev pub without_index_in : Name → Name → Table → Table
without_index_in n t it = record it { indexes = filter (λ i. not (is_named n (beside t i.name))) it.indexes }

abbrev pub has_index_in : Name → Name → Table → Bool
has_index_in n t it = is_in n (map (λ i. beside t i.name) it.indexes)

-- without a table it is the index of that name, on whichever table of its schema
abbrev pub drop_index : By → Dialect → Name → Option Name → Catalogue → Plan
drop_index by d n None c = record (unopposed c) {
  reserved = is_reserved by (n ∷ []);
  missing = not (list_any (λ e. has_index_in n e.0 e.1) c.tables);
  result = record c { tables = map (λ e. (e.0, without_index_in n e.0 e.1)) c.tables };
}
drop_index by d n (Some t) c = record (unopposed c) {
  reserved = is_reserved by (t ∷ n ∷ []);
  missing = is_none (table_of c t) || not (has_index n (the_table c t));
  named = t ∷ [];
  result = with_table c t (without_index n (the_table c t));
}
