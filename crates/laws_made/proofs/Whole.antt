-- All changes together make the catalogue, without its rows.
use Rattle.std.proofs.Common.{ap, sym, ◌∙◌, append_assoc}
use Rattle.std.specs.List.{AllByRecursion, flat_map, list_all, list_any}
use Rattle.std.specs.Option.{option_map, unwrap_or}
use Rattle.std.specs.Prelude.{Bool, Err, List, None, Ok, Option, Result, Some, [], cond, false, if◌then◌else◌, map, refl, true, ℕ, ◌++◌, ◌∷◌, ◌≡◌}
use Rattle.lq_base.specs.declared.dialect.Dialect.{Dialect}
use Rattle.lq_base.specs.declared.dialect.Dialect.TheVariants.{Mysql, Postgresql}
use Rattle.lq_base.specs.declared.name.Name.{Name}
use Rattle.lq_primary_keys.specs.AddPrimaryKey.{key_of}
use Rattle.lq_keys.specs.CreateIndex.{index_of}
use Rattle.lq_keys.specs.OnDelete.{names_of, cascades}
use Rattle.lq_any.specs.AnyChange.{gives}
use Rattle.lq_any.specs.declared.any_change.AnyChange.{AnyChange}
use Rattle.lq_model.proofs.Lists.{and_left, same_name}
use Rattle.lq_model.specs.Catalogue.{Catalogue, Sequence, Table, View, no_objects, table_of, key_list}
use Rattle.lq_model.specs.Sound.{key_name, IsSound, IsSoundTable, is_key_name, primary}
use Rattle.lq_model.specs.NameSpaces.{is_reserved, takes_lock_key}
use Rattle.lq_model.specs.SqlText.{query_in}
use Rattle.lq_model.specs.Step.{run}
use Rattle.lq_model.specs.TestText.{query_text}
use Rattle.lq_model.specs.declared.caller.By.TheVariants.{User}
use Rattle.lq_model.specs.declared.column.Column.{Column}
use Rattle.lq_model.specs.declared.constraint.ForeignKey.{ForeignKey}
use Rattle.lq_model.specs.declared.constraint.Key.{Key}
use Rattle.lq_model.specs.declared.constraint.Unique.{Unique}
use Rattle.lq_model.specs.declared.index.Index.{Index}
use Rattle.lq_model.specs.declared.query.Query.{Query}
use Rattle.lq_model.specs.declared.query.Wanted.TheVariants as wanted
use Rattle.lq_model.specs.declared.statement.Statement.{Statement}
use Rattle.lq_model.specs.declared.statement.Statement.TheVariants.{AddForeignKey, AddPrimaryKey, AddUnique, CreateIndex, CreateView}
use Rattle.laws_made.specs.CreatedAs.{cascade_if, foreign_change, index_change, index_column_of, key_change, all_changes, of_aims, of_filling, of_foreign, of_index, of_key, of_own_key, of_sequence, of_table, of_unique, of_view, so_if}
use Rattle.lq_generate.specs.Created.{named_in}
use Rattle.laws_stages.proofs.Ends.{sequenced, sequences_run, viewed, views_run}
use Rattle.laws_stages.proofs.Filled.{keyed_part, made_part}
use Rattle.laws_made.proofs.Joined.{IsFreeTable, makes_table, second_run, statement_is}
use Rattle.laws_stages.proofs.Loops.{append_none, between, both_run, fourth_run, third_is_fourth, third_run}
use Rattle.laws_made.proofs.Made.{numbered_is}
use Rattle.laws_stages.proofs.Stages.{stage}
use Rattle.laws_stages.proofs.Woven.{whole_there}
use Rattle.laws_stages.specs.Making.{AreFree, Each, aims, filling, full, key_added, key_statements, keyed, made, makes_sequence, makes_view, on}

-- ---- statements of changes

abbrev pub statements : Dialect → List AnyChange → List Statement
statements d xs = flat_map (gives d) xs

pub of_both : (d : Dialect) (xs ys : List AnyChange) → statements d (xs ++ ys) ≡ statements d xs ++ statements d ys
of_both d [] ys = refl
of_both d (x ∷ xs) ys = ap (λ ss. gives d x ++ ss) (of_both d xs ys) ∙ sym (append_assoc (gives d x) (statements d xs) (statements d ys))

-- one statement of each
pub of_each : {A : Type 0} (d : Dialect) (change : A → AnyChange) (makes : A → Statement) (P : A → Type 0) → ((x : A) → P x → gives d (change x) ≡ makes x ∷ []) → (xs : List A) → AllByRecursion P xs → statements d (map change xs) ≡ map makes xs
of_each d change makes P one [] h = refl
of_each d change makes P one (x ∷ xs) h = ap (λ ss. ss ++ statements d (map change xs)) (one x h.0) ∙ ap (λ ss. makes x ∷ ss) (of_each d change makes P one xs h.1)

pub of_lists : {A : Type 0} (d : Dialect) (changes : A → List AnyChange) (makes : A → List Statement) (P : A → Type 0) → ((x : A) → P x → statements d (changes x) ≡ makes x) → (xs : List A) → AllByRecursion P xs → statements d (flat_map changes xs) ≡ flat_map makes xs
of_lists d changes makes P one [] h = refl
of_lists d changes makes P one (x ∷ xs) h =
    of_both d (changes x) (flat_map changes xs) ∙ ap (λ ss. ss ++ statements d (flat_map changes xs)) (one x h.0) ∙ ap (λ ss. makes x ++ ss) (of_lists d changes makes P one xs h.1)

always : {A : Type 0} (xs : List A) → AllByRecursion (λ x. Unit {0}) xs
always [] = tt
always (x ∷ xs) = (tt, always xs)

-- a key

default_key : (t : Name) → key_name Mysql t ≡ primary
unfolding key_name
default_key t = refl

key_is : (d : Dialect) (t : Name) (k : Key) → is_key_name d k.name ≡ true → key_of d (key_change d t k) ≡ k
key_is Postgresql t k h = refl
key_is Mysql t k h = ap (λ n. let x : Key = record { name = n; columns = k.columns } in x) (default_key t ∙ sym (same_name k.name primary h))

key_given : (d : Dialect) (t : Name) (key : Option Key) → list_all (λ (k : Key). is_key_name d k.name) (key_list key) ≡ true → statements d (of_key d t key) ≡ key_statements t key
key_given d t None h = refl
key_given d t (Some k) h = ap (λ x. AddPrimaryKey t x ∷ []) (key_is d t k (and_left (is_key_name d k.name) _ h))

pub own_key_given : (d : Dialect) (e : Name × Table) → list_all (λ (k : Key). is_key_name d k.name) (key_list e.1.key) ≡ true → statements d (of_own_key d e) ≡ key_added e
own_key_given d e h = by (list_any (λ (c : Column). c.numbered) e.1.columns) where
  by : (b : Bool) → statements d (cond b [] (of_key d e.0 e.1.key)) ≡ cond b [] (key_statements e.0 e.1.key)
  by true = refl
  by false = key_given d e.0 e.1.key h

-- an index

names_back : (ns : List Name) → names_of (map index_column_of ns) ≡ ns
names_back [] = refl
names_back (n ∷ ns) = ap (λ ms. n ∷ ms) (names_back ns)

index_is : (t : Name) (x : Index) → index_of (index_change t x) ≡ x
index_is t x =
    ap (λ ns. let i : Index = record { name = x.name; columns = ns; unique = unwrap_or (so_if x.unique) false } in i) (names_back x.columns)
    ∙ ap (λ b. let i : Index = record { name = x.name; columns = x.columns; unique = b } in i) (numbered_is x.unique)

-- a foreign key

cascade_is : (b : Bool) → cascades (cascade_if b) ≡ b
cascade_is true = refl
cascade_is false = refl

foreign_given : (d : Dialect) (t : Name) (f : ForeignKey) → gives d (of_foreign t f) ≡ AddForeignKey t f ∷ []
foreign_given d t f = ap (λ b. let g : ForeignKey = record { name = f.name; columns = f.columns; table = f.table; targets = f.targets; cascade = b } in AddForeignKey t g ∷ []) (cascade_is f.cascade)

-- a view

abbrev pub IsSpelled : Dialect → Name × View → Type 0
IsSpelled d v = query_in d (query_text d v.1.query) ≡ Some v.1.query

view_given : (d : Dialect) (v : Name × View) → IsSpelled d v → gives d (of_view d v) ≡ CreateView v.0 v.1.query false ∷ []
view_given d v h = ap (λ (o : Option Query). CreateView v.0 (unwrap_or o (record { wanted = wanted.All; table = []; test = None })) false ∷ []) h

-- ---- a sound table at each place

abbrev NamedTable : Dialect → Name × Table → Type 0
NamedTable d e = list_all (λ (k : Key). is_key_name d k.name) (key_list e.1.key) ≡ true

pub filling_given : (d : Dialect) (e : Name × Table) → NamedTable d e → statements d (of_filling d e) ≡ filling e
filling_given d e h =
    of_both d (of_own_key d e) (map (of_unique e.0) e.1.uniques ++ map (of_index e.0) e.1.indexes)
    ∙ ap (λ ss. ss ++ statements d (map (of_unique e.0) e.1.uniques ++ map (of_index e.0) e.1.indexes)) (own_key_given d e h)
    ∙ ap (λ ss. key_added e ++ ss) (of_both d (map (of_unique e.0) e.1.uniques) (map (of_index e.0) e.1.indexes)
    ∙ ap (λ ss. ss ++ statements d (map (of_index e.0) e.1.indexes)) (of_each d (of_unique e.0) (λ u. AddUnique e.0 u) (λ u. Unit {0}) (λ u h. refl) e.1.uniques (always e.1.uniques))
    ∙ ap (λ ss. map (λ u. AddUnique e.0 u) e.1.uniques ++ ss) (of_each d (of_index e.0) (λ x. CreateIndex e.0 x) (λ x. Unit {0}) (λ x h. ap (λ i. CreateIndex e.0 i ∷ []) (index_is e.0 x)) e.1.indexes (always e.1.indexes)))

-- what holds of each in its place holds of all
gathered : {A : Type 0} (P : A → Type 0) (all done rest : List A) → all ≡ done ++ rest → ((done : List A) (x : A) (more : List A) → all ≡ done ++ x ∷ more → P x) → AllByRecursion P rest
gathered P all done [] is each = tt
gathered P all done (x ∷ more) is each = (each done x more is, gathered P all (done ++ x ∷ []) more (is ∙ sym (append_assoc done (x ∷ []) more)) each)

-- ---- the whole

pub record MayMake (d : Dialect) (c : Catalogue) : Type 0 where
  pub sequences : (ss : List (Name × Sequence)) (s : Name × Sequence) (more : List (Name × Sequence)) → c.sequences ≡ ss ++ s ∷ more → (is_reserved User (s.0 ∷ []) ≡ false) × (takes_lock_key User d (s.0 ∷ []) ≡ false)
  pub tables : Each (IsFreeTable d) c.tables
  pub others : Each (AreFree d) c.tables
  pub views : (vs : List (Name × View)) (v : Name × View) (more : List (Name × View)) → c.views ≡ vs ++ v ∷ more → (is_reserved User (v.0 ∷ v.1.query.table ∷ []) ≡ false) × (takes_lock_key User d (v.0 ∷ []) ≡ false)
  pub spelled : AllByRecursion (IsSpelled d) c.views

module _ (d : Dialect) (c : Catalogue) (sound : IsSound d c) (may : MayMake d c) where
  pub fine : (done : List (Name × Table)) (e : Name × Table) (more : List (Name × Table)) → c.tables ≡ done ++ e ∷ more → IsSoundTable d e.1
  fine done e more is = sound.tables e.0 e.1 (whole_there d c done e more is sound.ordered keyed made keyed_part made_part)

  abbrev now : List (Name × Table) → List (Name × View) → Catalogue
  now ts vs = record { tables = ts; views = vs; sequences = c.sequences }

  pub first : run User d (statements d (map of_sequence c.sequences)) no_objects ≡ Ok (now [] [])
  first = ap (λ ss. run User d ss no_objects) (of_each d of_sequence makes_sequence (λ s. Unit {0}) (λ s h. refl) c.sequences (always c.sequences)) ∙ sequences_run d c sound may.sequences

  pub second : run User d (statements d (map (of_table d) c.tables)) (now [] []) ≡ Ok (now (map (on made) c.tables) [])
  second =
      ap (λ ss. run User d ss (now [] [])) (of_each d (of_table d) (makes_table d) (λ e. IsSoundTable d e.1) (λ e h. ap (λ s. s ∷ []) (statement_is d e.0 e.1 h)) c.tables (gathered (λ e. IsSoundTable d e.1) c.tables [] c.tables refl fine))
      ∙ second_run d c sound may.tables

  pub third : run User d (statements d (flat_map (of_filling d) c.tables)) (now (map (on made) c.tables) []) ≡ Ok (now (map (on keyed) c.tables) [])
  third =
      ap (λ ss. run User d ss (now (map (on made) c.tables) [])) (of_lists d (of_filling d) filling (NamedTable d) (filling_given d) c.tables (gathered (NamedTable d) c.tables [] c.tables refl (λ done e more is. (fine done e more is).key_named)))
      ∙ third_run d c sound may.others ∙ ap (λ g. Ok g) (third_is_fourth d c sound may.others)

  pub fourth : run User d (statements d (flat_map of_aims c.tables)) (now (map (on keyed) c.tables) []) ≡ Ok (now (map (on full) c.tables) [])
  fourth =
      ap (λ ss. run User d ss (now (map (on keyed) c.tables) [])) (of_lists d of_aims aims (λ e. Unit {0}) (λ e h. of_each d (of_foreign e.0) (λ f. AddForeignKey e.0 f) (λ f. Unit {0}) (λ f g. foreign_given d e.0 f) e.1.foreign (always e.1.foreign)) c.tables (always c.tables))
      ∙ fourth_run d c sound may.others ∙ ap (λ ts. Ok (now ts [])) (append_none (map (on full) c.tables))

  pub fifth : run User d (statements d (map (of_view d) c.views)) (now (map (on full) c.tables) []) ≡ Ok (now (map (on full) c.tables) c.views)
  fifth =
      ap (λ ss. run User d ss (now (map (on full) c.tables) [])) (of_each d (of_view d) (λ v. CreateView v.0 v.1.query false) (IsSpelled d) (view_given d) c.views may.spelled)
      ∙ views_run d c sound may.views

  pub whole_run : run User d (statements d (all_changes d c)) no_objects ≡ Ok (now (map (on full) c.tables) c.views)
  whole_run =
      let a = map of_sequence c.sequences in
      let b = map (of_table d) c.tables in
      let e = flat_map (of_filling d) c.tables in
      let f = flat_map of_aims c.tables in
      let g = map (of_view d) c.views in
      let last = now (map (on full) c.tables) c.views in
      next a (b ++ (e ++ (f ++ g))) no_objects (now [] []) last first
      (next b (e ++ (f ++ g)) (now [] []) (now (map (on made) c.tables) []) last second
      (next e (f ++ g) (now (map (on made) c.tables) []) (now (map (on keyed) c.tables) []) last third
      (next f g (now (map (on keyed) c.tables) []) (now (map (on full) c.tables) []) last fourth fifth)))
    where
      next : (xs ys : List AnyChange) (c g after : Catalogue) → run User d (statements d xs) c ≡ Ok g → run User d (statements d ys) g ≡ Ok after → run User d (statements d (xs ++ ys)) c ≡ Ok after
      next xs ys c g after p q = ap (λ ss. run User d ss c) (of_both d xs ys) ∙ both_run d (statements d xs) (statements d ys) c g after p q
