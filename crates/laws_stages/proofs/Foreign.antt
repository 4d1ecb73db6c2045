-- The foreign keys are accepted one after another when all tables have their keys and unique constraints: whichever table they target, and in whatever circles.
use Rattle.std.proofs.Common.{ap, arith, subst, sym, ◌∙◌}
use Rattle.std.specs.List.{list_all, list_any}
use Rattle.std.specs.Map.{lookup}
use Rattle.std.specs.Option.{option_map, unwrap_or}
use Rattle.std.specs.Prelude.{Bool, List, None, Ok, Option, Some, [], cond, false, is_none, map, not, refl, true, ℕ, ◌&&◌, ◌+◌, ◌++◌, ◌||◌, ◌∷◌, ◌≡◌, ◌≤◌}
use Rattle.lq_base.specs.Name.{is_named}
use Rattle.lq_base.specs.declared.dialect.Dialect.{Dialect}
use Rattle.lq_base.specs.declared.dialect.Dialect.TheVariants.{Mysql, Postgresql}
use Rattle.lq_base.specs.declared.name.Name.{Name}
use Rattle.lq_model.proofs.Counts.{once}
use Rattle.lq_model.proofs.Decide.{IsSettled, here as table_here}
use Rattle.lq_model.proofs.Lists.{and_left, and_right, any-append, any_same, named_itself, not_false, or_false, or_left, or_right, true_false}
use Rattle.lq_model.proofs.NameCounts.{constraint_sum, foreign_at}
use Rattle.lq_model.proofs.Times.{none_times}
use Rattle.lq_model.proofs.Untouched.{same_list}
use Rattle.lq_model.specs.Constraints.{add_foreign_key, with_foreign}
use Rattle.lq_model.specs.Catalogue.{Catalogue, Table, no_table, table_of, the_table, with_table, is_in, repeats, same_names, times, column_missing, constraint_names, foreign_names, target_lists}
use Rattle.lq_model.specs.Tables.{target_missing}
use Rattle.lq_model.specs.Kinds.{kinds_at, kinds_differ, same_kinds}
use Rattle.lq_model.specs.NameSpaces.{AreApart, AreApartWithin, all_foreign_names, foreign_taken, is_reserved}
use Rattle.lq_model.specs.Plan.{is_loose, misses_target}
use Rattle.lq_model.specs.Sound.{IsSound, IsSoundTable, are_columns}
use Rattle.lq_model.specs.Step.{step}
use Rattle.lq_model.specs.declared.caller.By.TheVariants.{User}
use Rattle.lq_model.specs.declared.constraint.ForeignKey.{ForeignKey}
use Rattle.lq_model.specs.declared.index.Index.{Index}
use Rattle.lq_model.specs.declared.statement.Statement.TheVariants.{AddForeignKey}
use Rattle.std.proofs.Common.{inl, inr}
use Rattle.lq_model.proofs.Lists.{all-append_left}
use Rattle.laws_stages.proofs.Filled.{accepted_as, all_there, keyed_part, loose_none, middle_count, none_twice}
use Rattle.laws_stages.proofs.Woven.{IsPart, foreign_woven, put, the_one, there, whole_there, woven, woven_settled}
use Rattle.laws_stages.specs.Making.{filled, full, keyed, on}

pub full_part : (it : Table) → IsPart (full it) it
full_part it = record { columns = refl; rows = refl; inner = λ n. omega arith; foreign = λ n. omega arith }

-- one in the midst of a list

pub in_any : {A : Type 0} (p : A → Bool) (xs : List A) (x : A) (more : List A) → list_any p (xs ++ x ∷ more) ≡ false → p x ≡ false
in_any p [] x more h = or_left (p x) _ h
in_any p (y ∷ xs) x more h = in_any p xs x more (or_right (p y) _ h)

pub in_all : {A : Type 0} (p : A → Bool) (xs : List A) (x : A) (more : List A) → list_all p (xs ++ x ∷ more) ≡ true → p x ≡ true
in_all p [] x more h = and_left (p x) _ h
in_all p (y ∷ xs) x more h = in_all p xs x more (and_right (p y) _ h)

front_none : {A : Type 0} (p : A → Bool) (xs : List A) (x : A) (more : List A) → list_any p (xs ++ x ∷ more) ≡ false → list_any p (xs ++ x ∷ []) ≡ false
front_none p [] x more h = or_false _ _ (or_left (p x) _ h) refl
front_none p (y ∷ xs) x more h = or_false _ _ (or_left (p y) _ h) (front_none p xs x more (or_right (p y) _ h))

any_front : {A : Type 0} (p : A → Bool) (xs more : List A) → list_any p (xs ++ more) ≡ false → list_any p xs ≡ false
any_front p [] more h = refl
any_front p (x ∷ xs) more h = or_false _ _ (or_left (p x) _ h) (any_front p xs more (or_right (p x) _ h))

-- a list that is among fine ones is fine
found_fine : (p : List Name → Bool) (ts : List Name) (ls : List (List Name)) → list_all p ls ≡ true → list_any (same_names ts) ls ≡ true → p ts ≡ true
found_fine p ts [] h is = absurd Prim.cc
found_fine p ts (l ∷ ls) h is = by (same_names ts l) refl is (found_fine p ts ls (and_right (p l) _ h)) where
  by : (b : Bool) → same_names ts l ≡ b → (b || list_any (same_names ts) ls) ≡ true → (list_any (same_names ts) ls ≡ true → p ts ≡ true) → p ts ≡ true
  by true same q more = ap p (same_list ts l same) ∙ and_left (p l) _ h
  by false other q more = more q

-- what is the same of each table is the same of the one at a name

module _ {X : Type 0} (core : Table → X) (F B : Table → Table) (front : (it : Table) → core (F it) ≡ core it) (back : (it : Table) → core (B it) ≡ core it) (q : Name) where
  pub same_on : (es : List (Name × Table)) → option_map core (lookup (is_named q) (map (on B) es)) ≡ option_map core (lookup (is_named q) es)
  same_on [] = refl
  same_on (e ∷ es) = by (is_named q e.0) (same_on es) where
    by : (b : Bool) → option_map core (lookup (is_named q) (map (on B) es)) ≡ option_map core (lookup (is_named q) es)
        → option_map core (cond b (Some (B e.1)) (lookup (is_named q) (map (on B) es))) ≡ option_map core (cond b (Some e.1) (lookup (is_named q) es))
    by true rest = ap (λ x. Some x) (back e.1)
    by false rest = rest

  same_at : (es : List (Name × Table)) (e : Name × Table) (p : Table) (more : List (Name × Table)) → core p ≡ core e.1
      → option_map core (lookup (is_named q) (map (on F) es ++ (e.0, p) ∷ map (on B) more)) ≡ option_map core (lookup (is_named q) (es ++ e ∷ more))
  same_at [] e p more same = by (is_named q e.0) (same_on more) where
    by : (b : Bool) → option_map core (lookup (is_named q) (map (on B) more)) ≡ option_map core (lookup (is_named q) more)
        → option_map core (cond b (Some p) (lookup (is_named q) (map (on B) more))) ≡ option_map core (cond b (Some e.1) (lookup (is_named q) more))
    by true rest = ap (λ x. Some x) same
    by false rest = rest
  same_at (x ∷ es) e p more same = by (is_named q x.0) (same_at es e p more same) where
    by : (b : Bool) → option_map core (lookup (is_named q) (map (on F) es ++ (e.0, p) ∷ map (on B) more)) ≡ option_map core (lookup (is_named q) (es ++ e ∷ more))
        → option_map core (cond b (Some (F x.1)) (lookup (is_named q) (map (on F) es ++ (e.0, p) ∷ map (on B) more))) ≡ option_map core (cond b (Some x.1) (lookup (is_named q) (es ++ e ∷ more)))
    by true rest = ap (λ x. Some x) (front x.1)
    by false rest = rest

pub core_of : {X : Type 0} (core : Table → X) (o : Option Table) → core (unwrap_or o no_table) ≡ unwrap_or (option_map core o) (core no_table)
core_of core None = refl
core_of core (Some it) = refl

module _ (d : Dialect) (c : Catalogue) (sound : IsSound d c) (done : List (Name × Table)) (e : Name × Table) (more : List (Name × Table)) (is : c.tables ≡ done ++ e ∷ more) where
  -- those before have their foreign keys
  abbrev pub aiming : Table → Catalogue
  aiming p = woven d c done e more is sound.ordered full keyed full_part keyed_part p

  abbrev it : Table
  it = e.1

  abbrev pub with_some : List ForeignKey → Table
  with_some fs = filled it it.key it.uniques it.indexes fs

  fine : IsSoundTable d it
  fine = sound.tables e.0 it (whole_there d c done e more is sound.ordered full keyed full_part keyed_part)

  the : (p : Table) → the_table (aiming p) e.0 ≡ p
  the p = the_one d c done e more is sound.ordered full keyed full_part keyed_part p

  -- what keys and columns say of a table is said of the one that is made again
  the_same : {X : Type 0} (core : Table → X) → ((it : Table) → core (full it) ≡ core it) → ((it : Table) → core (keyed it) ≡ core it) → (fs : List ForeignKey) → core (with_some fs) ≡ core it → (q : Name) → core (the_table (aiming (with_some fs)) q) ≡ core (the_table c q)
  the_same core front back fs own q =
      core_of core (table_of (aiming (with_some fs)) q)
      ∙ ap (λ o. unwrap_or o (core no_table)) (same_at core full keyed front back q done e (with_some fs) more own ∙ ap (λ ts. option_map core (lookup (is_named q) ts)) (sym is))
      ∙ sym (core_of core (table_of c q))

  none_mapped : {X : Type 0} (core : Table → X) (o : Option Table) → is_none (option_map core o) ≡ is_none o
  none_mapped core None = refl
  none_mapped core (Some x) = refl

  there_too : (fs : List ForeignKey) (q : Name) → is_none (table_of (aiming (with_some fs)) q) ≡ is_none (table_of c q)
  there_too fs q =
      let core = λ (x : Table). x.columns in
      sym (none_mapped core (table_of (aiming (with_some fs)) q))
      ∙ ap is_none (same_at core full keyed (λ it. refl) (λ it. refl) q done e (with_some fs) more refl ∙ ap (λ ts. option_map core (lookup (is_named q) ts)) (sym is))
      ∙ none_mapped core (table_of c q)

  misses_same : (fs : List ForeignKey) (f : ForeignKey) → misses_target (aiming (with_some fs)) f ≡ misses_target c f
  misses_same fs f = ap (λ ls. not (list_any (same_names f.targets) ls)) (the_same target_lists (λ it. refl) (λ it. refl) fs refl f.table)

  -- in the whole, each is aimed well

  whole_aimed : list_any (λ (x : Name × Table). list_any (misses_target c) x.1.foreign) (done ++ e ∷ more) ≡ false
  whole_aimed = ap (list_any (λ (x : Name × Table). list_any (misses_target c) x.1.foreign)) (sym is) ∙ sound.aimed

  own_aimed : list_any (misses_target c) it.foreign ≡ false
  own_aimed = in_any (λ (x : Name × Table). list_any (misses_target c) x.1.foreign) done e more whole_aimed

  own_alike : list_any (kinds_differ c it) it.foreign ≡ false
  own_alike =
      let test = λ (x : Name × Table). list_any (kinds_differ c x.1) x.1.foreign in
      in_any test done e more (ap (list_any test) (sym is) ∙ sound.alike)

  front_aimed : (fs : List ForeignKey) (es : List (Name × Table)) → list_any (λ (x : Name × Table). list_any (misses_target c) x.1.foreign) es ≡ false → list_any (λ (x : Name × Table). list_any (misses_target (aiming (with_some fs))) x.1.foreign) (map (on full) es) ≡ false
  front_aimed fs [] h = refl
  front_aimed fs (x ∷ es) h =
      or_false _ _ (any_same (misses_target (aiming (with_some fs))) (misses_target c) x.1.foreign (misses_same fs) ∙ or_left (list_any (misses_target c) x.1.foreign) _ h)
      (front_aimed fs es (or_right (list_any (misses_target c) x.1.foreign) _ h))

  module _ (fs : List ForeignKey) (f : ForeignKey) (rest : List ForeignKey) (has : it.foreign ≡ fs ++ f ∷ rest) where
    some_aimed : is_loose (aiming (with_some (fs ++ f ∷ []))) ≡ false
    some_aimed =
        let gs = fs ++ f ∷ [] in
        let test = λ (x : Name × Table). list_any (misses_target (aiming (with_some gs))) x.1.foreign in
        any-append test (map (on full) done) ((e.0, with_some gs) ∷ map (on keyed) more)
        ∙ or_false _ _ (front_aimed gs done (any_front _ done (e ∷ more) whole_aimed))
        (or_false _ _ (any_same (misses_target (aiming (with_some gs))) (misses_target c) gs (misses_same gs) ∙ front_none (misses_target c) fs f rest (ap (list_any (misses_target c)) (sym has) ∙ own_aimed))
        (loose_none (aiming (with_some gs)) keyed (λ it. refl) more))

    -- its columns and its targets

    columns_fine : are_columns it f.columns ≡ true
    columns_fine = in_all (λ (f : ForeignKey). are_columns it f.columns) fs f rest (ap (list_all (λ (f : ForeignKey). are_columns it f.columns)) (sym has) ∙ fine.foreign)

    aimed : list_any (same_names f.targets) (target_lists (the_table c f.table)) ≡ true
    aimed = not_false _ (in_any (misses_target c) fs f rest (ap (list_any (misses_target c)) (sym has) ∙ own_aimed))

    target_there : is_none (table_of c f.table) ≡ false
    target_there = by (table_of c f.table) aimed where
      by : (o : Option Table) → list_any (same_names f.targets) (target_lists (unwrap_or o no_table)) ≡ true → is_none o ≡ false
      by None h = absurd Prim.cc
      by (Some x) h = refl

    targets_fine : are_columns (the_table c f.table) f.targets ≡ true
    targets_fine =
        let T = the_table c f.table in
        found_fine (are_columns T) f.targets (target_lists T) (all-append_left (are_columns T) (target_lists T) (map (λ (i : Index). i.columns) T.indexes) (sound.tables f.table T (table_here c f.table target_there)).lists) aimed

    -- its name is free
    foreign_free : (e2 : Dialect) → AreApart e2 c → AreApartWithin e2 it → foreign_taken e2 (with_some fs) f.name (aiming (with_some fs)) ≡ false
    foreign_free Postgresql apart within =
        let n = f.name in
        let z = constraint_sum n (with_some fs) in
        let w = constraint_sum n it in
        let o : once (is_named n n) ≡ 1 = ap once (named_itself n) in
        let v : foreign_at n it ≡ times n (map (λ (f : ForeignKey). f.name) (fs ++ f ∷ rest)) = ap (λ fs. times n (map (λ (f : ForeignKey). f.name) fs)) has in
        let m = middle_count (λ (f : ForeignKey). f.name) n fs f rest in
        let b = within n in
        none_times n (constraint_names (with_some fs)) (omega (arith, z, w, o, v, m, b))
    foreign_free Mysql apart within =
        let n = f.name in
        let s = foreign_woven d c done e more is sound.ordered full keyed full_part keyed_part n (with_some fs) in
        let o : once (is_named n n) ≡ 1 = ap once (named_itself n) in
        let v : foreign_at n it ≡ times n (map (λ (f : ForeignKey). f.name) (fs ++ f ∷ rest)) = ap (λ fs. times n (map (λ (f : ForeignKey). f.name) fs)) has in
        let m = middle_count (λ (f : ForeignKey). f.name) n fs f rest in
        let b = apart.1 n in
        none_times n (all_foreign_names (aiming (with_some fs))) (omega (arith, s, o, v, m, b))

    pub foreign_step : is_reserved User (e.0 ∷ f.name ∷ f.table ∷ []) ≡ false → step User d (AddForeignKey e.0 f) (aiming (with_some fs)) ≡ Ok (aiming (with_some (fs ++ f ∷ [])), 0)
    foreign_step reserved =
        let p = with_some fs in
        let g = aiming p in
        let q = with_some (fs ++ f ∷ []) in
        accepted_as (add_foreign_key User d e.0 f g) (aiming q)
        (ap (λ T. with_table g e.0 (with_foreign f T)) (the p) ∙ put d c done e more is sound.ordered full keyed full_part keyed_part p q)
        (woven_settled d c done e more is sound.ordered full keyed full_part keyed_part q refl some_aimed)
        (record {
          reserved = reserved;
          missing = or_false _ _ (ap is_none (there d c done e more is sound.ordered full keyed full_part keyed_part p))
              (or_false _ _ (ap (λ T. column_missing T f.columns) (the p) ∙ all_there it f.columns columns_fine)
              (or_false _ _ (there_too fs f.table ∙ target_there) (the_same (λ T. column_missing T f.targets) (λ it. refl) (λ it. refl) fs refl f.table ∙ all_there (the_table c f.table) f.targets targets_fine)));
          exists = or_false _ _ (ap (λ T. foreign_taken d T f.name g) (the p) ∙ foreign_free d sound.apart fine.within) (or_false _ _ (none_twice it f.columns columns_fine) (none_twice (the_table c f.table) f.targets targets_fine));
          depends = refl;
          wrong = ap (λ T. kinds_differ g T f) (the p) ∙ ap (λ ks. not (same_kinds (kinds_at it f.columns) ks)) (the_same (λ T. kinds_at T f.targets) (λ it. refl) (λ it. refl) fs refl f.table)
              ∙ in_any (kinds_differ c it) fs f rest (ap (list_any (kinds_differ c it)) (sym has) ∙ own_alike);
          wide = refl;
        })
