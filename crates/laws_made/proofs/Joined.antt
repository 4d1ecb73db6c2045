-- The second changeset: each table is made.
use Rattle.std.proofs.Common.{ap, sym, subst, ◌∙◌}
use Rattle.std.specs.List.{AllByRecursion, flat_map, list_all, list_any}
use Rattle.std.specs.Option.{option_and_then, option_map, option_to_list, unwrap_or}
use Rattle.std.specs.Prelude.{Bool, List, None, Ok, Option, Some, [], cond, false, if◌then◌else◌, is_none, is_some, map, not, refl, true, ℕ, ◌&&◌, ◌++◌, ◌||◌, ◌∷◌, ◌≡◌}
use Rattle.lq_base.specs.Name.{is_named}
use Rattle.lq_base.specs.Value.{into_kind, is_value_of}
use Rattle.lq_base.specs.declared.value.Value.TheVariants as value
use Rattle.lq_base.specs.declared.dialect.Dialect.{Dialect}
use Rattle.lq_base.specs.declared.name.Name.{Name}
use Rattle.lq_base.specs.declared.value.Value.{Value}
use Rattle.lq_model.proofs.Lists.{and_left, and_right, or_false, or_left, or_right}
use Rattle.lq_model.proofs.Untouched.{same_list}
use Rattle.lq_model.specs.Catalogue.{Catalogue, Table, table_of, same_names, constraint_names, inner_names, key_list, placed}
use Rattle.lq_model.specs.Tables.{depends_in, key_column, new_table}
use Rattle.lq_model.specs.Kinds.{column_of as column_made, value_in}
use Rattle.lq_tree.specs.Values.{literal_of as given_literal}
use Rattle.lq_tables.specs.Constraints.{foreign_stated, unique_stated}
use Rattle.lq_tables.specs.declared.create_table.CreatedConstraints.{CreatedConstraints}
use Rattle.lq_model.specs.NameSpaces.{is_reserved, takes_lock_key}
use Rattle.lq_model.specs.Sound.{IsSound, IsSoundTable, default_fits, is_key_of, is_not_null, is_numbered_well}
use Rattle.lq_model.specs.Step.{run, step}
use Rattle.lq_model.specs.declared.caller.By.TheVariants.{User}
use Rattle.lq_model.specs.declared.column.Column.{Column}
use Rattle.lq_model.specs.declared.column.ColumnDef.{ColumnDef}
use Rattle.lq_model.specs.declared.constraint.ForeignKey.{ForeignKey}
use Rattle.lq_model.specs.declared.constraint.Key.{Key}
use Rattle.lq_model.specs.declared.constraint.Unique.{Unique}
use Rattle.lq_model.specs.declared.statement.Statement.{Statement}
use Rattle.lq_model.specs.declared.statement.Statement.TheVariants.{CreateTable}
use Rattle.lq_tables.specs.CreateTable.{creates, def_of, foreign_of, unique_of}
use Rattle.laws_made.specs.CreatedAs.{column_of, constraints_of, created, given_of, IsWritten}
use Rattle.laws_made.proofs.Defaults.{same_column, same_value}
use Rattle.laws_made.proofs.KeyMade.{key_made, only_name}
use Rattle.laws_stages.proofs.Loops.{listed_run}
use Rattle.laws_made.proofs.Made.{defs_of, none_depends, none_wide, none_wrong, numbered_is, numbers_are_right, one_at_most}
use Rattle.laws_stages.proofs.OneNumber.{well}
use Rattle.laws_stages.proofs.SameTable.{all_done, first_not_null}
use Rattle.laws_stages.proofs.Stages.{bare, stage}
use Rattle.laws_stages.proofs.StageSound.{bare_sound, of_own}
use Rattle.laws_stages.proofs.Filled.{keyed_part, made_part}
use Rattle.laws_stages.proofs.TableAccepted.{table_accepted}
use Rattle.laws_stages.proofs.Woven.{whole_there}
use Rattle.laws_stages.specs.Making.{Each, keyed, made, own_key}

and_none : (a b : Bool) → a ≡ false → (a && b) ≡ false
and_none true b h = absurd Prim.cc
and_none false b h = refl

alone : (x : Bool) → (x || false) ≡ true → x ≡ true
alone true h = refl
alone false h = h

-- a column of the key is NOT NULL
in_key : (it : Table) (n : Name) → list_all (λ (k : Key). list_all (is_not_null it) k.columns) (key_list it.key) ≡ true → is_key_of it.key n ≡ true → is_not_null it n ≡ true
in_key it n h is = by it.key h is where
  by : (key : Option Key) → list_all (λ (k : Key). list_all (is_not_null it) k.columns) (key_list key) ≡ true → is_key_of key n ≡ true → is_not_null it n ≡ true
  by None g q = absurd Prim.cc
  by (Some k) g q =
      let columns = only_name k.columns n (alone _ q) in
      and_left (is_not_null it n) _ (ap (list_all (is_not_null it)) (sym columns) ∙ and_left (list_all (is_not_null it) k.columns) _ g)

-- its default is written and read as it is
same_default : (c : Column) → default_fits c ≡ true → IsWritten c.default → option_map (λ l. value_in (into_kind l c.kind)) (option_map given_literal (given_of c.default)) ≡ c.default
same_default c h w = by c.default h w where
  by : (o : Option Value) → is_value_of c.kind (unwrap_or o value.Null) ≡ true → IsWritten o → option_map (λ l. value_in (into_kind l c.kind)) (option_map given_literal (given_of o)) ≡ o
  by None g v = refl
  by (Some x) g v = same_value c.kind x g v

columns_made : (d : Dialect) (it : Table) (cs : List Column) → list_all (λ (k : Key). list_all (is_not_null it) k.columns) (key_list it.key) ≡ true
    → ((n : Name) → is_not_null it n ≡ true → list_all (λ (c : Column). not (is_named n c.name) || not c.nullable) cs ≡ true)
    → list_all (is_numbered_well it) cs ≡ true → list_all default_fits cs ≡ true → AllByRecursion (λ (c : Column). IsWritten c.default) cs → map column_made (defs_of d it.key cs) ≡ cs
columns_made d it [] key firm numbered defaults written = refl
columns_made d it (c ∷ cs) key firm numbered defaults written =
    rw (
      same_column d it.key c (λ is. first_not_null c _ (firm c.name (in_key it c.name key (well it c (and_left (is_numbered_well it c) _ numbered) is)))) (same_default c (and_left (default_fits c) _ defaults) written.0),
      columns_made d it cs key (λ n is. and_right (not (is_named n c.name) || not c.nullable) _ (firm n is)) (and_right (is_numbered_well it c) _ numbered) (and_right (default_fits c) _ defaults) written.1,
    ) refl

-- the table is made as it is to be
table_made : (d : Dialect) (it : Table) → IsSoundTable d it → AllByRecursion (λ (c : Column). IsWritten c.default) it.columns → new_table (defs_of d it.key it.columns) (own_key it) [] [] ≡ bare it
table_made d it fine written =
    let columns = columns_made d it it.columns fine.key (λ n is. is) fine.numbered fine.defaults written in
    let firm : list_all (λ (k : Key). list_all (is_not_null it) k.columns) (key_list (own_key it)) ≡ true = of_own (λ k. list_all (λ (x : Key). list_all (is_not_null it) x.columns) (key_list k) ≡ true) it refl fine.key in
    ap (λ cs. record (bare it) { columns = cs }) (ap (map (key_column (own_key it))) columns ∙ all_done it (own_key it) it.columns firm (λ n is. is))

-- a numbered column is the key's only one

none_numbered : (d : Dialect) (key own : Option Key) (cs : List Column) → list_any (λ (c : Column). c.numbered) cs ≡ false → list_any (depends_in own) (defs_of d key cs) ≡ false
none_numbered d key own [] h = refl
none_numbered d key own (c ∷ cs) h = or_false _ _ (and_none _ _ (numbered_is c.numbered ∙ or_left c.numbered _ h)) (none_numbered d key own cs (or_right c.numbered _ h))

depends : (d : Dialect) (it : Table) → IsSoundTable d it → list_any (depends_in (own_key it)) (defs_of d it.key it.columns) ≡ false
depends d it fine = by (list_any (λ (c : Column). c.numbered) it.columns) refl where
  by : (b : Bool) → list_any (λ (c : Column). c.numbered) it.columns ≡ b → list_any (depends_in (own_key it)) (defs_of d it.key it.columns) ≡ false
  by true some = ap (λ b. list_any (depends_in (cond b it.key None)) (defs_of d it.key it.columns)) some ∙ none_depends d it.key it.columns fine.numbered
  by false none = none_numbered d it.key (own_key it) it.columns none

-- createTable states neither a unique constraint nor a foreign key

no_uniques : (d : Dialect) (t : Name) (key : Option Key) (cs : List Column) → flat_map (unique_of t) (map (column_of d key) cs) ≡ []
no_uniques d t key [] = refl
no_uniques d t key (c ∷ cs) = ap (λ us. unique_of t (column_of d key c) ++ us) (no_uniques d t key cs) ∙ ap (λ us. us ++ []) (none (c.nullable && not c.numbered)) where
  none : (b : Bool) → option_to_list (option_and_then (λ (cs : CreatedConstraints). unique_stated t c.name cs.unique cs.unique_constraint_name) (if b then None else Some (constraints_of d key c))) ≡ []
  none true = refl
  none false = refl

no_foreign : (d : Dialect) (t : Name) (key : Option Key) (cs : List Column) → flat_map (foreign_of t) (map (column_of d key) cs) ≡ []
no_foreign d t key [] = refl
no_foreign d t key (c ∷ cs) = ap (λ fs. foreign_of t (column_of d key c) ++ fs) (no_foreign d t key cs) ∙ ap (λ fs. fs ++ []) (none (c.nullable && not c.numbered)) where
  none : (b : Bool) → option_to_list (option_and_then (λ (cs : CreatedConstraints). foreign_stated t c.name cs.references cs.foreign_key_name) (if b then None else Some (constraints_of d key c))) ≡ []
  none true = refl
  none false = refl

-- its statement
abbrev pub makes_table : Dialect → Name × Table → Statement
makes_table d e = CreateTable e.0 (defs_of d e.1.key e.1.columns) (own_key e.1) [] []

pub statement_is : (d : Dialect) (t : Name) (it : Table) → IsSoundTable d it → creates d (created d t it) ≡ makes_table d (t, it)
statement_is d t it fine =
    rw (key_made d t it fine.differ fine.numbered fine.key_named, no_uniques d t it.key it.columns, no_foreign d t it.key it.columns) refl

pub record IsFreeTable (d : Dialect) (e : Name × Table) : Type 0 where
  pub reserved : is_reserved User (e.0 ∷ constraint_names (bare e.1) ++ []) ≡ false
  pub lock : takes_lock_key User d (e.0 ∷ placed e.0 (inner_names (bare e.1))) ≡ false
  pub written : AllByRecursion (λ (c : Column). IsWritten c.default) e.1.columns

pub table_step : (d : Dialect) (c : Catalogue) → IsSound d c → (done : List (Name × Table)) (e : Name × Table) (more : List (Name × Table)) → c.tables ≡ done ++ e ∷ more → IsFreeTable d e
    → step User d (makes_table d e) (stage c.sequences done) ≡ Ok (stage c.sequences (done ++ e ∷ []), 0)
table_step d c sound done e more is free =
    let it = e.1 in
    let there : table_of c e.0 ≡ Some it = whole_there d c done e more is sound.ordered keyed made keyed_part made_part in
    let fine : IsSoundTable d it = sound.tables e.0 it there in
    table_accepted c done e more is d sound (defs_of d it.key it.columns) (own_key it) (table_made d it fine free.written) (bare_sound d it fine) (depends d it fine)
    (or_false _ _ (none_wrong d it.key it.columns fine.defaults free.written) (or_false _ _ (numbers_are_right d it.key it.columns fine.numbered) (one_at_most d it it.columns fine.differ fine.numbered)))
    (none_wide d it.key it.columns fine.defaults free.written)
    free.reserved free.lock

pub second_run : (d : Dialect) (c : Catalogue) → IsSound d c → Each (IsFreeTable d) c.tables → run User d (map (makes_table d) c.tables) (stage c.sequences []) ≡ Ok (stage c.sequences c.tables)
second_run d c sound free = listed_run d (makes_table d) (stage c.sequences) c.tables [] c.tables refl (λ done e more is. table_step d c sound done e more is (free done e more is))
