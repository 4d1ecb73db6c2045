-- The next table of a sound catalogue is accepted.
use Rattle.std.proofs.Common.{ap, arith, subst, sym, ◌∙◌, append_assoc}
use Rattle.std.specs.List.{flat_map, list_all, list_any}
use Rattle.std.specs.List.Sorted.{IsStrictlySortedBy}
use Rattle.std.specs.Map.{keys_of}
use Rattle.std.specs.Prelude.{Bool, List, None, Ok, Option, Some, [], cond, false, map, not, refl, true, ℕ, ◌&&◌, ◌+◌, ◌++◌, ◌||◌, ◌∷◌, ◌≡◌, ◌≤◌}
use Rattle.lq_base.specs.Name.{is_named, name_cmp}
use Rattle.lq_base.specs.Value.{into_kind}
use Rattle.lq_base.specs.declared.dialect.Dialect.{Dialect}
use Rattle.lq_base.specs.declared.dialect.Dialect.TheVariants.{Mysql, Postgresql}
use Rattle.lq_base.specs.declared.name.Name.{Name}
use Rattle.lq_model.proofs.Counts.{once}
use Rattle.lq_model.proofs.Decide.{accepts}
use Rattle.lq_model.proofs.Lists.{and_left, and_right, named_itself, or_false}
use Rattle.lq_model.proofs.NameCounts.{inner_sum}
use Rattle.lq_model.proofs.Times.{none_times, times-append}
use Rattle.lq_model.specs.Catalogue.{Catalogue, Sequence, Table, View, with_new, is_empty, is_in, repeats, times, column_lists, column_missing, constraint_names, foreign_names, has_column, inner_names, key_list, placed}
use Rattle.lq_model.specs.Tables.{create_table, depends_in, lacks_own, lists_twice, new_table, numbers_wrongly, repeats_number}
use Rattle.lq_model.specs.Kinds.{is_wide, is_wrong, literal_of}
use Rattle.lq_model.specs.NameSpaces.{AreApart, all_foreign_names, are_clashing, is_taken, object_names, shared_names, is_reserved, takes_lock_key}
use Rattle.lq_model.specs.Sound.{IsSound, IsSoundTable, are_columns}
use Rattle.lq_model.specs.Step.{step}
use Rattle.lq_model.specs.declared.caller.By.TheVariants.{User}
use Rattle.lq_model.specs.declared.column.ColumnDef.{ColumnDef}
use Rattle.lq_model.specs.declared.constraint.ForeignKey.{ForeignKey}
use Rattle.lq_model.specs.declared.constraint.Key.{Key}
use Rattle.lq_model.specs.declared.statement.Statement.TheVariants.{CreateTable}
use Rattle.laws_stages.proofs.Accepted.{none_lacks, not_true}
use Rattle.laws_stages.proofs.Stages.{bare, bare_entry, counted, inner_all_fewer, inner_split, keys_split, names_same, next_stage, stage, tables_inner}
use Rattle.laws_stages.proofs.StageSound.{bare_sound, stage_sound}
use Rattle.laws_stages.specs.Making.{own_key}

-- a front has no more names than the whole

module _ (n : Name) (c : Catalogue) (done more : List (Name × Table)) (is : c.tables ≡ done ++ more) where
  objects_fewer : times n (object_names (stage c.sequences done)) ≤ times n (object_names c)
  objects_fewer =
      let own = map (λ (x : Name × Table). x.0) (map bare_entry done) in
      let vs = map (λ (x : Name × View). x.0) c.views in
      let ss = map (λ (x : Name × Sequence). x.0) c.sequences in
      let all = map (λ (x : Name × Table). x.0) c.tables in
      let b = times-append n own ([] ++ ss) in
      let q = times-append n all (vs ++ ss) in
      let r = times-append n vs ss in
      let x = ap (times n) (names_same n done) in
      let u : times n all ≡ times n (map (λ (x : Name × Table). x.0) (done ++ more)) = ap (λ es. times n (map (λ (x : Name × Table). x.0) es)) is in
      let v = keys_split n done more in
      omega (arith, b, q, r, x, u, v)

  shared_fewer : times n (shared_names (stage c.sequences done)) ≤ times n (shared_names c)
  shared_fewer =
      let a = times-append n (object_names (stage c.sequences done)) (tables_inner (map bare_entry done)) in
      let p = times-append n (object_names c) (tables_inner c.tables) in
      let o = objects_fewer in
      let y = inner_all_fewer n done in
      let w : times n (tables_inner c.tables) ≡ times n (tables_inner (done ++ more)) = ap (λ es. times n (tables_inner es)) is in
      let z = inner_split n done more in
      omega (arith, a, p, o, y, w, z)

no_foreign : (n : Name) (done : List (Name × Table)) → times n (flat_map (λ (e : Name × Table). foreign_names e.1) (map bare_entry done)) ≡ 0
no_foreign n [] = refl
no_foreign n (e ∷ es) = no_foreign n es

pub stage_apart : (d : Dialect) (c : Catalogue) (done more : List (Name × Table)) → c.tables ≡ done ++ more → AreApart d c → AreApart d (stage c.sequences done)
stage_apart Postgresql c done more is h = λ n. let a = shared_fewer n c done more is in let b = h n in omega (arith, a, b)
stage_apart Mysql c done more is h = (λ n. let a = objects_fewer n c done more is in let b = h.0 n in omega (arith, a, b), λ n. let a = no_foreign n done in omega (arith, a))

-- lists of a sound table lack and repeat no column

lists_there : (it : Table) (ls : List (List Name)) → list_all (are_columns it) ls ≡ true → list_any (column_missing it) ls ≡ false
lists_there it [] h = refl
lists_there it (ns ∷ ls) h = or_false _ _ (none_lacks (has_column it) ns (and_right (not (repeats ns)) _ (and_right (not (is_empty ns)) _ (and_left (are_columns it ns) _ h)))) (lists_there it ls (and_right (are_columns it ns) _ h))

lists_once : (it : Table) (ls : List (List Name)) → list_all (are_columns it) ls ≡ true → list_any repeats ls ≡ false
lists_once it [] h = refl
lists_once it (ns ∷ ls) h = or_false _ _ (not_true _ (and_left (not (repeats ns)) _ (and_right (not (is_empty ns)) _ (and_left (are_columns it ns) _ h)))) (lists_once it ls (and_right (are_columns it ns) _ h))

module _ (c : Catalogue) (done : List (Name × Table)) (e : Name × Table) (more : List (Name × Table)) (is : c.tables ≡ done ++ e ∷ more) where
  itself : (n : Name) → once (is_named n n) ≡ 1
  itself n = ap once (named_itself n)

  -- under MySQL
  objects_counted : (n : Name) → times n (object_names (stage c.sequences done)) + once (is_named n e.0) ≤ times n (object_names c)
  objects_counted n =
      let own = map (λ (x : Name × Table). x.0) (map bare_entry done) in
      let vs = map (λ (x : Name × View). x.0) c.views in
      let ss = map (λ (x : Name × Sequence). x.0) c.sequences in
      let all = map (λ (x : Name × Table). x.0) c.tables in
      let b = times-append n own ([] ++ ss) in
      let q = times-append n all (vs ++ ss) in
      let r = times-append n vs ss in
      let x = ap (times n) (names_same n done) in
      let u : times n all ≡ times n (map (λ (x : Name × Table). x.0) (done ++ e ∷ more)) = ap (λ es. times n (map (λ (x : Name × Table). x.0) es)) is in
      let v = keys_split n done (e ∷ more) in
      omega (arith, b, q, r, x, u, v)

  pub not_taken : (d : Dialect) → AreApart d c → is_taken d e.0 (stage c.sequences done) ≡ false
  not_taken Postgresql apart = let a = counted e.0 c done e more is in let b = apart e.0 in let o = itself e.0 in none_times e.0 (shared_names (stage c.sequences done)) (omega (arith, a, b, o))
  not_taken Mysql apart = let a = objects_counted e.0 in let b = apart.0 e.0 in let o = itself e.0 in none_times e.0 (object_names (stage c.sequences done)) (omega (arith, a, b, o))

  once_only : (key : Option Key) → repeats (map (λ (k : Key). k.name) (key_list key) ++ ([] ++ [])) ≡ false
  once_only None = refl
  once_only (Some k) = refl

  -- none of these names is taken
  names_free : (ns : List Name) → ((n : Name) → times n ns ≤ times n (placed e.0 (inner_names (bare e.1)))) → AreApart Postgresql c → list_any (λ n. is_named e.0 n || is_in n (shared_names (stage c.sequences done))) ns ≡ false
  names_free [] few apart = refl
  names_free (m ∷ ns) few apart =
      let f = few m in
      let o = itself m in
      let a = counted m c done e more is in
      let b = apart m in
      or_false _ _ (or_false _ _ (other (is_named e.0 m) refl) (none_times m (shared_names (stage c.sequences done)) (omega (arith, f, o, a, b)))) (names_free ns (λ n. let g = few n in omega (arith, g)) apart)
    where
      other : (b : Bool) → is_named e.0 m ≡ b → is_named e.0 m ≡ false
      other false is_not = is_not
      other true same =
          let f = few e.0 in
          let a = counted e.0 c done e more is in
          let b = apart e.0 in
          let o = itself e.0 in
          let p : once (is_named e.0 m) ≡ 1 = ap once same in
          absurd (omega (arith, f, a, b, o, p))

  pub not_clashing : (d : Dialect) → AreApart d c → are_clashing d e.0 (bare e.1) (stage c.sequences done) ≡ false
  not_clashing Postgresql apart = or_false _ _ (once_only (own_key e.1)) (names_free (placed e.0 (inner_names (bare e.1))) (λ n. omega arith) apart)
  not_clashing Mysql apart = refl

  module _ (d : Dialect) (sound : IsSound d c) (defs : List ColumnDef) (key : Option Key) (made : new_table defs key [] [] ≡ bare e.1)
      (bare_fine : IsSoundTable d (bare e.1))
      (depends : list_any (depends_in key) defs ≡ false)
      (right : (list_any (λ (x : ColumnDef). is_wrong (into_kind (literal_of x) x.kind)) defs || (list_any numbers_wrongly defs || repeats_number defs)) ≡ false)
      (wide : list_any (λ (x : ColumnDef). is_wide (into_kind (literal_of x) x.kind)) defs ≡ false)
      (reserved : is_reserved User (e.0 ∷ constraint_names (bare e.1) ++ []) ≡ false)
      (lock : takes_lock_key User d (e.0 ∷ placed e.0 (inner_names (bare e.1))) ≡ false) where
    pub table_accepted : step User d (CreateTable e.0 defs key [] []) (stage c.sequences done) ≡ Ok (stage c.sequences (done ++ e ∷ []), 0)
    table_accepted =
        let g = stage c.sequences done in
        let after = stage c.sequences (done ++ e ∷ []) in
        let now : c.tables ≡ (done ++ e ∷ []) ++ more = is ∙ sym (append_assoc done (e ∷ []) more) in
        let result : with_new g e.0 (new_table defs key [] []) ≡ after = ap (with_new g e.0) made ∙ next_stage c.sequences done e more (subst (λ ts. IsStrictlySortedBy name_cmp (keys_of ts)) is sound.ordered) in
        accepts d (create_table User d e.0 defs key [] [] g) after (stage_sound d c sound (done ++ e ∷ []) more now (stage_apart d c (done ++ e ∷ []) more now sound.apart)) result (record {
          reserved = ap (λ x. is_reserved User (e.0 ∷ constraint_names x ++ [])) made ∙ reserved;
          missing = ap (λ x. lacks_own x || false) made ∙ or_false _ _ (or_false _ _ (lists_there (bare e.1) (column_lists (bare e.1)) bare_fine.lists) refl) refl;
          exists = ap (λ x. is_taken d e.0 g || (are_clashing d e.0 x g || (takes_lock_key User d (e.0 ∷ placed e.0 (inner_names x)) || lists_twice x))) made
              ∙ or_false _ _ (not_taken d sound.apart) (or_false _ _ (not_clashing d sound.apart) (or_false _ _ lock (or_false _ _ bare_fine.differ (or_false _ _ (lists_once (bare e.1) (column_lists (bare e.1)) bare_fine.lists) refl))));
          depends = depends;
          wrong = right;
          wide = wide;
        })
