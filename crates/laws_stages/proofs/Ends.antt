-- The first things that are made, sequences, and the last, views.
use Rattle.std.proofs.Common.{ap, arith, subst, sym, ◌∙◌, append_assoc}
use Rattle.std.specs.BTreeMap.{insert_entry}
use Rattle.std.specs.List.{AllByRecursion, flat_map, list_all, list_any}
use Rattle.std.specs.List.Sorted.{IsStrictlySortedBy}
use Rattle.std.specs.Map.{keys_of, lookup}
use Rattle.std.specs.Option.{option_map, unwrap_or}
use Rattle.std.specs.Prelude.{Bool, List, None, Ok, Option, Some, [], cond, false, is_none, is_some, map, not, refl, true, ℕ, ◌&&◌, ◌+◌, ◌++◌, ◌||◌, ◌∷◌, ◌≡◌, ◌≤◌}
use Rattle.lq_base.specs.Name.{is_named, name_cmp}
use Rattle.lq_base.specs.declared.dialect.Dialect.{Dialect}
use Rattle.lq_base.specs.declared.dialect.Dialect.TheVariants.{Mysql, Postgresql}
use Rattle.lq_base.specs.declared.name.Name.{Name}
use Rattle.lq_base.specs.declared.value.Value.{Value}
use Rattle.lq_model.proofs.Counts.{once}
use Rattle.lq_model.proofs.Decide.{IsSettled}
use Rattle.lq_model.proofs.Lists.{and_left, and_right, any_same, named_itself, or_false, or_left, or_right}
use Rattle.lq_model.proofs.Times.{none_times, times-append}
use Rattle.lq_model.proofs.Untouched.{same_list}
use Rattle.lq_model.specs.Catalogue.{Catalogue, Sequence, Table, View, no_table, table_of, the_table, is_empty, is_in, repeats, same_names, times, has_bad_null, column_missing, column_names, has_column, target_lists}
use Rattle.lq_model.specs.Comparison.{compares_wrongly, is_spelled}
use Rattle.lq_model.specs.NameSpaces.{AreApart, is_taken, object_names, shared_names, is_reserved, takes_lock_key}
use Rattle.lq_model.specs.Views.{listed, create_sequence, create_view, is_count, new_view}
use Rattle.lq_model.specs.Plan.{has_orphan, is_full, is_loose, misses_target, table_has_null, table_has_twins, unique_lists}
use Rattle.lq_model.specs.Sound.{IsSound, are_columns, is_view, wanted_names}
use Rattle.lq_model.specs.Step.{run, step}
use Rattle.lq_model.specs.Truth.{names_in}
use Rattle.lq_model.specs.declared.caller.By.TheVariants.{User}
use Rattle.lq_model.specs.declared.constraint.ForeignKey.{ForeignKey}
use Rattle.lq_model.specs.declared.query.Query.{Query}
use Rattle.lq_model.specs.declared.query.Wanted.{Wanted}
use Rattle.lq_model.specs.declared.query.Wanted.TheVariants as wanted
use Rattle.lq_model.specs.declared.statement.Statement.{Statement}
use Rattle.lq_model.specs.declared.statement.Statement.TheVariants.{CreateSequence, CreateView}
use Rattle.laws_stages.proofs.Accepted.{none_lacks}
use Rattle.laws_stages.proofs.Filled.{accepted_as, all_there, middle_count, none_twice}
use Rattle.laws_stages.proofs.Foreign.{core_of, full_part, in_all, same_on}
use Rattle.laws_stages.proofs.Loops.{listed_run}
use Rattle.laws_stages.proofs.Stages.{below, insert_last, tables_inner}
use Rattle.laws_stages.proofs.Woven.{inner_on, keys_on, no_equals, no_orphan, none_on}
use Rattle.laws_stages.specs.Making.{full, makes_sequence, makes_view, on}

itself : (n : Name) → once (is_named n n) ≡ 1
itself n = ap once (named_itself n)

not_so : (b : Bool) → not b ≡ true → b ≡ false
not_so true h = absurd Prim.cc
not_so false h = refl

-- ---- sequences

abbrev pub sequenced : List (Name × Sequence) → Catalogue
sequenced ss = record { tables = []; views = []; sequences = ss }

nothing_settled : (ss : List (Name × Sequence)) → IsSettled (sequenced ss)
nothing_settled ss = record { aimed = refl; no_null = refl; no_twins = refl; parents = refl; small = refl }

module _ (d : Dialect) (c : Catalogue) (sound : IsSound d c) (ss : List (Name × Sequence)) (s : Name × Sequence) (more : List (Name × Sequence)) (is : c.sequences ≡ ss ++ s ∷ more) where
  sequence_counted : times s.0 (map (λ (x : Name × Sequence). x.0) ss) + 1 ≤ times s.0 (object_names c)
  sequence_counted =
      let n = s.0 in
      let ts = map (λ (x : Name × Table). x.0) c.tables in
      let vs = map (λ (x : Name × View). x.0) c.views in
      let a = times-append n ts (vs ++ map (λ (x : Name × Sequence). x.0) c.sequences) in
      let b = times-append n vs (map (λ (x : Name × Sequence). x.0) c.sequences) in
      let u : times n (map (λ (x : Name × Sequence). x.0) c.sequences) ≡ times n (map (λ (x : Name × Sequence). x.0) (ss ++ s ∷ more)) = ap (λ es. times n (map (λ (x : Name × Sequence). x.0) es)) is in
      let m = middle_count (λ (x : Name × Sequence). x.0) n ss s more in
      let o = itself n in
      omega (arith, a, b, u, m, o)

  sequence_free : (e : Dialect) → AreApart e c → is_taken e s.0 (sequenced ss) ≡ false
  sequence_free Postgresql apart =
      let n = s.0 in
      let a = sequence_counted in
      let b = times-append n (object_names c) (tables_inner c.tables) in
      let g = times-append n (map (λ (x : Name × Sequence). x.0) ss) [] in
      let h = apart n in
      none_times n (shared_names (sequenced ss)) (omega (arith, a, b, g, h))
  sequence_free Mysql apart = let a = sequence_counted in let h = apart.0 s.0 in none_times s.0 (object_names (sequenced ss)) (omega (arith, a, h))

  pub sequence_step : is_reserved User (s.0 ∷ []) ≡ false → takes_lock_key User d (s.0 ∷ []) ≡ false → step User d (CreateSequence s.0 s.1.start s.1.step) (sequenced ss) ≡ Ok (sequenced (ss ++ s ∷ []), 0)
  sequence_step reserved lock =
      accepted_as (create_sequence User d s.0 s.1.start s.1.step (sequenced ss)) (sequenced (ss ++ s ∷ []))
      (ap sequenced (insert_last ss s.0 s.1 (below ss s more (subst (λ es. IsStrictlySortedBy name_cmp (keys_of es)) is sound.ordered_sequences))))
      (nothing_settled (ss ++ s ∷ []))
      (record { reserved = reserved; missing = refl; exists = or_false _ _ (sequence_free d sound.apart) lock; depends = refl; wrong = refl; wide = refl })

pub sequences_run : (d : Dialect) (c : Catalogue) → IsSound d c → ((ss : List (Name × Sequence)) (s : Name × Sequence) (more : List (Name × Sequence)) → c.sequences ≡ ss ++ s ∷ more → (is_reserved User (s.0 ∷ []) ≡ false) × (takes_lock_key User d (s.0 ∷ []) ≡ false))
    → run User d (map makes_sequence c.sequences) (sequenced []) ≡ Ok (sequenced c.sequences)
sequences_run d c sound free = listed_run d makes_sequence sequenced c.sequences [] c.sequences refl (λ ss s more is. sequence_step d c sound ss s more is (free ss s more is).0 (free ss s more is).1)

-- ---- views

-- a view's query lists the view's columns
wanted_is : (w : Wanted) (ns : List Name) → same_names (wanted_names w) ns ≡ true → not (is_empty ns) ≡ true → w ≡ wanted.Columns ns
wanted_is (wanted.Columns ms) ns same some = ap (λ xs. wanted.Columns xs) (same_list ms ns same)
wanted_is wanted.All [] same some = absurd Prim.cc
wanted_is wanted.All (n ∷ ns) same some = absurd Prim.cc
wanted_is wanted.Count [] same some = absurd Prim.cc
wanted_is wanted.Count (n ∷ ns) same some = absurd Prim.cc

module _ (d : Dialect) (c : Catalogue) (sound : IsSound d c) where
  -- all tables, and these views
  abbrev pub viewed : List (Name × View) → Catalogue
  viewed vs = record { tables = map (on full) c.tables; views = vs; sequences = c.sequences }

  the_same : {X : Type 0} (core : Table → X) → ((it : Table) → core (full it) ≡ core it) → (vs : List (Name × View)) (q : Name) → core (the_table (viewed vs) q) ≡ core (the_table c q)
  the_same core same vs q = core_of core (table_of (viewed vs) q) ∙ ap (λ o. unwrap_or o (core no_table)) (same_on core full full same same q c.tables) ∙ sym (core_of core (table_of c q))

  some_mapped : {X : Type 0} (core : Table → X) (o : Option Table) → is_none (option_map core o) ≡ is_none o
  some_mapped core None = refl
  some_mapped core (Some x) = refl

  there_too : (vs : List (Name × View)) (q : Name) → is_none (table_of (viewed vs) q) ≡ is_none (table_of c q)
  there_too vs q =
      let core = λ (x : Table). x.columns in
      sym (some_mapped core (table_of (viewed vs) q)) ∙ ap is_none (same_on core full full (λ it. refl) (λ it. refl) q c.tables) ∙ some_mapped core (table_of c q)

  -- the tables pass the tests of a result

  aimed_from : (vs : List (Name × View)) (es : List (Name × Table)) → list_any (λ (x : Name × Table). list_any (misses_target c) x.1.foreign) es ≡ false → list_any (λ (x : Name × Table). list_any (misses_target (viewed vs)) x.1.foreign) (map (on full) es) ≡ false
  aimed_from vs [] h = refl
  aimed_from vs (x ∷ es) h =
      or_false _ _ (any_same (misses_target (viewed vs)) (misses_target c) x.1.foreign (λ f. ap (λ ls. not (list_any (same_names f.targets) ls)) (the_same target_lists (λ it. refl) vs f.table)) ∙ or_left (list_any (misses_target c) x.1.foreign) _ h)
      (aimed_from vs es (or_right (list_any (misses_target c) x.1.foreign) _ h))

  pub viewed_settled : (vs : List (Name × View)) → IsSettled (viewed vs)
  viewed_settled vs = record {
    aimed = aimed_from vs c.tables sound.aimed;
    no_null = none_on table_has_null full full_part (λ it r. ap (list_any (has_bad_null it.columns)) r) c.tables;
    no_twins = none_on table_has_twins full full_part (λ it r. no_equals it (unique_lists it) r) c.tables;
    parents = none_on (has_orphan (viewed vs)) full full_part (λ it r. no_orphan (viewed vs) it it.foreign r) c.tables;
    small = none_on is_full full full_part (λ it r. ap (λ (rs : List (List Value)). is_full (record it { rows = rs })) r) c.tables;
  }

  module _ (vs : List (Name × View)) (v : Name × View) (more : List (Name × View)) (is : c.views ≡ vs ++ v ∷ more) where
    view_counted : times v.0 (object_names (viewed vs)) + 1 ≤ times v.0 (object_names c)
    view_counted =
        let n = v.0 in
        let ts = map (λ (x : Name × Table). x.0) c.tables in
        let us = map (λ (x : Name × Table). x.0) (map (on full) c.tables) in
        let qs = map (λ (x : Name × View). x.0) c.views in
        let ps = map (λ (x : Name × View). x.0) vs in
        let ss = map (λ (x : Name × Sequence). x.0) c.sequences in
        let a = times-append n ts (qs ++ ss) in
        let b = times-append n qs ss in
        let g = times-append n us (ps ++ ss) in
        let h = times-append n ps ss in
        let k = ap (times n) (keys_on full c.tables) in
        let u : times n qs ≡ times n (map (λ (x : Name × View). x.0) (vs ++ v ∷ more)) = ap (λ es. times n (map (λ (x : Name × View). x.0) es)) is in
        let m = middle_count (λ (x : Name × View). x.0) n vs v more in
        let o = itself n in
        omega (arith, a, b, g, h, k, u, m, o)

    view_free : (e : Dialect) → AreApart e c → is_taken e v.0 (viewed vs) ≡ false
    view_free Postgresql apart =
        let n = v.0 in
        let a = view_counted in
        let b = times-append n (object_names c) (tables_inner c.tables) in
        let g = times-append n (object_names (viewed vs)) (tables_inner (map (on full) c.tables)) in
        let i = inner_on full full_part n c.tables in
        let h = apart n in
        none_times n (shared_names (viewed vs)) (omega (arith, a, b, g, i, h))
    view_free Mysql apart = let a = view_counted in let h = apart.0 v.0 in none_times v.0 (object_names (viewed vs)) (omega (arith, a, h))

    abbrev q : Query
    q = v.1.query

    abbrev T : Table
    T = the_table c q.table

    fits : is_view c v.1 ≡ true
    fits = in_all (λ (x : Name × View). is_view c x.1) vs v more (ap (list_all (λ (x : Name × View). is_view c x.1)) (sym is) ∙ sound.views)

    table_there : is_some (table_of c q.table) ≡ true
    table_there = and_left (is_some (table_of c q.table)) _ fits

    some_none : (o : Option Table) → is_some o ≡ true → is_none o ≡ false
    some_none None h = absurd Prim.cc
    some_none (Some x) h = refl

    columns_fine : are_columns T v.1.columns ≡ true
    columns_fine = and_left (are_columns T v.1.columns) _ (and_right (is_some (table_of c q.table)) _ fits)

    tests_fine : list_all (λ n. is_in n (column_names T)) (names_in q.test) ≡ true
    tests_fine = and_left (list_all (λ n. is_in n (column_names T)) (names_in q.test)) _ (and_right (are_columns T v.1.columns) _ (and_right (is_some (table_of c q.table)) _ fits))

    last : (same_names (wanted_names q.wanted) v.1.columns && (is_spelled q.test && not (compares_wrongly T.columns q.test))) ≡ true
    last = and_right (list_all (λ n. is_in n (column_names T)) (names_in q.test)) _ (and_right (are_columns T v.1.columns) _ (and_right (is_some (table_of c q.table)) _ fits))

    compares_well : compares_wrongly T.columns q.test ≡ false
    compares_well = not_so _ (and_right (is_spelled q.test) _ (and_right (same_names (wanted_names q.wanted) v.1.columns) _ last))

    lists : q.wanted ≡ wanted.Columns v.1.columns
    lists = wanted_is q.wanted v.1.columns (and_left (same_names (wanted_names q.wanted) v.1.columns) _ last) (and_left (not (is_empty v.1.columns)) _ columns_fine)

    -- it becomes what it is
    same_view : (it : Table) → new_view q it ≡ v.1
    same_view it = ap (λ w. let x : View = record { query = record q { wanted = wanted.Columns (listed w it.columns) }; columns = listed w it.columns } in x) lists ∙ ap (λ w. let x : View = record { query = record q { wanted = w }; columns = v.1.columns } in x) (sym lists)

    pub view_step : is_reserved User (v.0 ∷ q.table ∷ []) ≡ false → takes_lock_key User d (v.0 ∷ []) ≡ false → step User d (CreateView v.0 q false) (viewed vs) ≡ Ok (viewed (vs ++ v ∷ []), 0)
    view_step reserved lock =
        let g = viewed vs in
        let it = the_table g q.table in
        accepted_as (create_view User d v.0 q false g) (viewed (vs ++ v ∷ []))
        (ap (λ x. viewed (insert_entry name_cmp vs v.0 x)) (same_view it) ∙ ap viewed (insert_last vs v.0 v.1 (below vs v more (subst (λ es. IsStrictlySortedBy name_cmp (keys_of es)) is sound.ordered_views))))
        (viewed_settled (vs ++ v ∷ []))
        (record {
          reserved = reserved;
          missing = or_false _ _ (there_too vs q.table ∙ some_none (table_of c q.table) table_there)
              (or_false _ _ (ap (λ w. column_missing it (listed w it.columns)) lists ∙ the_same (λ T. column_missing T v.1.columns) (λ it. refl) vs q.table ∙ all_there T v.1.columns columns_fine)
              (the_same (λ T. column_missing T (names_in q.test)) (λ it. refl) vs q.table ∙ none_lacks (has_column T) (names_in q.test) tests_fine));
          exists = or_false _ _ (or_false _ _ (view_free d sound.apart) lock) (ap (λ w. repeats (listed w it.columns)) lists ∙ none_twice T v.1.columns columns_fine);
          depends = refl;
          wrong = or_false _ _ (ap is_count lists) (the_same (λ T. compares_wrongly T.columns q.test) (λ it. refl) vs q.table ∙ compares_well);
          wide = refl;
        })

  pub views_run : ((vs : List (Name × View)) (v : Name × View) (more : List (Name × View)) → c.views ≡ vs ++ v ∷ more → (is_reserved User (v.0 ∷ v.1.query.table ∷ []) ≡ false) × (takes_lock_key User d (v.0 ∷ []) ≡ false))
      → run User d (map makes_view c.views) (viewed []) ≡ Ok (viewed c.views)
  views_run free = listed_run d makes_view viewed c.views [] c.views refl (λ vs v more is. view_step vs v more is (free vs v more is).0 (free vs v more is).1)
