-- What is asked of a statement's result is the same of the users' objects in it.
use Rattle.std.proofs.Common.{ap, subst, sym, ◌∙◌}
use Rattle.std.specs.List.{list_all, list_any}
use Rattle.std.specs.Option.{unwrap_or}
use Rattle.std.specs.Prelude.{Bool, Err, List, [], cond, false, not, refl, true, ℕ, ◌&&◌, ◌∷◌, ◌≡◌}
use Rattle.lq_base.specs.Name.{is_named}
use Rattle.lq_base.specs.declared.dialect.Dialect.{Dialect}
use Rattle.lq_base.specs.declared.name.Name.{Name}
use Rattle.lq_base.specs.declared.reason.Reason.{Reason}
use Rattle.lq_model.specs.Catalogue.{Catalogue, Table, no_table, table_of, the_table, is_empty, is_in, same_names, target_lists}
use Rattle.lq_model.specs.Plan.{Plan, against, decide, lacks_parents, leaves_children, unless, has_null, has_orphan, has_twins, is_full, is_loose, is_overfull, lacks_parent, misses_target, table_has_null, table_has_twins}
use Rattle.lq_model.specs.declared.constraint.ForeignKey.{ForeignKey}
use Rattle.lq_model.proofs.Lists.{and_left, and_no_right, and_right, any_none, any_same, or_false, same_name, true_false}
use Rattle.lq_track.specs.Database.{has_no_more}
use Rattle.lq_beside.specs.Beside.{IsBeside, SameAnswer, is_harmless, is_tracker, is_users, only, takes_no_name, targets_tracker, users}
use Rattle.lq_beside.proofs.Parts.{any_alike, any_filtered, any_only, lookup_in}

pub not_true_false : (b : Bool) → not b ≡ true → b ≡ false
not_true_false true h = sym h
not_true_false false h = refl

pub none_in : {A : Type 0} (p : A → Bool) (xs : List A) → xs ≡ [] → list_any p xs ≡ false
none_in p xs is = ap (list_any p) is

empty_list : {A : Type 0} (xs : List A) → is_empty xs ≡ true → xs ≡ []
empty_list [] h = refl
empty_list (x ∷ xs) h = true_false h refl

-- a table that is harmless
module _ (d : Dialect) (it : Table) (h : is_harmless d it ≡ true) where
  abbrev rest1 : (takes_no_name d it && (not (table_has_null it) && (not (table_has_twins it) && not (is_full it)))) ≡ true
  rest1 = and_right (has_no_more it) _ h

  pub harmless_uniques : it.uniques ≡ []
  harmless_uniques = empty_list it.uniques (and_left _ _ (and_left (has_no_more it) _ h))

  pub harmless_foreign : it.foreign ≡ []
  harmless_foreign = empty_list it.foreign (and_left _ _ (and_right (is_empty it.uniques) _ (and_left (has_no_more it) _ h)))

  pub harmless_indexes : it.indexes ≡ []
  harmless_indexes = empty_list it.indexes (and_right (is_empty it.foreign) _ (and_right (is_empty it.uniques) _ (and_left (has_no_more it) _ h)))

  pub harmless_names : takes_no_name d it ≡ true
  harmless_names = and_left _ _ rest1

  pub harmless_null : table_has_null it ≡ false
  harmless_null = not_true_false _ (and_left _ _ (and_right (takes_no_name d it) _ rest1))

  pub harmless_twins : table_has_twins it ≡ false
  harmless_twins = not_true_false _ (and_left _ _ (and_right (not (table_has_null it)) _ (and_right (takes_no_name d it) _ rest1)))

  pub harmless_full : is_full it ≡ false
  harmless_full = not_true_false _ (and_right (not (table_has_twins it)) _ (and_right (not (table_has_null it)) _ (and_right (takes_no_name d it) _ rest1)))

pub tracker_at : (t : Name) → is_tracker t ≡ false → (k : Name) → is_named t k ≡ true → is_tracker k ≡ false
tracker_at t h k p = ap is_tracker (sym (same_name t k p)) ∙ h

pub users_at : (t : Name) → is_tracker t ≡ false → (k : Name) → is_named t k ≡ true → is_users k ≡ true
users_at t h k p = ap not (tracker_at t h k p)

-- what stands at another name
pub table_same : (c : Catalogue) (t : Name) → is_tracker t ≡ false → table_of (users c) t ≡ table_of c t
table_same c t h = lookup_in (is_named t) is_users (users_at t h) c.tables

pub the_same : (c : Catalogue) (t : Name) → is_tracker t ≡ false → the_table (users c) t ≡ the_table c t
the_same c t h = ap (λ o. unwrap_or o no_table) (table_same c t h)

pub not_users : (es : List (Name × Table)) → only (λ n. not (is_users n)) es ≡ only is_tracker es
not_users [] = refl
not_users (e ∷ es) = elim (is_tracker e.0) as (λ b. cond (not (not b)) (e ∷ only (λ n. not (is_users n)) es) (only (λ n. not (is_users n)) es) ≡ cond b (e ∷ only is_tracker es) (only is_tracker es)) [
  | true ↦ ap (λ fs. e ∷ fs) (not_users es)
  | false ↦ not_users es
]

module _ (d : Dialect) (ts : List (Name × Table)) (c : Catalogue) (so : IsBeside d ts c) where
  -- what no harmless table has
  pub any_users : (g : Name × Table → Bool) → ((k : Name) (it : Table) → is_harmless d it ≡ true → g (k, it) ≡ false) → list_any g (users c).tables ≡ list_any g c.tables
  any_users g out = any_only (λ e. is_users e.0) g c.tables
      (ap (list_any g) (not_users c.tables ∙ so.are) ∙ any_none g (λ e. is_harmless d e.1) ts (λ e h. out e.0 e.1 h) so.harmless)

  -- and what no harmless tracking table has
  pub any_users_at : (g : Name × Table → Bool) → ((k : Name) (it : Table) → is_tracker k ≡ true → is_harmless d it ≡ true → g (k, it) ≡ false) → list_any g (users c).tables ≡ list_any g c.tables
  any_users_at g out = any_only (λ e. is_users e.0) g c.tables
      (ap (list_any g) (not_users c.tables) ∙ each c.tables (ap (list_all (λ (e : Name × Table). is_harmless d e.1)) so.are ∙ so.harmless)) where
        each : (es : List (Name × Table)) → list_all (λ e. is_harmless d e.1) (only is_tracker es) ≡ true → list_any g (only is_tracker es) ≡ false
        each [] h = refl
        each (e ∷ es) h = elim (is_tracker e.0) as (λ b. is_tracker e.0 ≡ b → list_all (λ x. is_harmless d x.1) (cond b (e ∷ only is_tracker es) (only is_tracker es)) ≡ true → list_any g (cond b (e ∷ only is_tracker es) (only is_tracker es)) ≡ false) [
          | true ↦ λ is all. or_false _ _ (out e.0 e.1 is (and_left (is_harmless d e.1) _ all)) (each es (and_right (is_harmless d e.1) _ all))
          | false ↦ λ is all. each es all
        ] refl h

  pub users_aimed : list_any (λ e. targets_tracker e.1) (users c).tables ≡ false
  users_aimed = any_filtered (λ e. is_users e.0) (λ e. targets_tracker e.1) c.tables so.aimed

  -- a test that looks at the targets of foreign keys
  pub any_aimed : (f g : Name × Table → Bool) → ((k : Name) (it : Table) → targets_tracker it ≡ false → f (k, it) ≡ g (k, it)) → ((k : Name) (it : Table) → is_harmless d it ≡ true → g (k, it) ≡ false) → list_any f (users c).tables ≡ list_any g c.tables
  any_aimed f g same out = any_alike (λ e. targets_tracker e.1) f g (users c).tables (λ e none. same e.0 e.1 none) users_aimed ∙ any_users g out

  misses_same : (f : ForeignKey) → is_tracker f.table ≡ false → misses_target (users c) f ≡ misses_target c f
  misses_same f h = ap (λ it. not (list_any (same_names f.targets) (target_lists it))) (the_same c f.table h)

  pub loose_same : is_loose (users c) ≡ is_loose c
  loose_same = any_aimed (λ e. list_any (misses_target (users c)) e.1.foreign) (λ e. list_any (misses_target c) e.1.foreign)
      (λ k it none. any_alike (λ f. is_tracker f.table) (misses_target (users c)) (misses_target c) it.foreign misses_same none)
      (λ k it h. none_in _ it.foreign (harmless_foreign d it h))

  lacks_same : (it : Table) (f : ForeignKey) → is_tracker f.table ≡ false → list_any (lacks_parent (users c) it.columns f) it.rows ≡ list_any (lacks_parent c it.columns f) it.rows
  lacks_same it f h = any_same _ _ it.rows (λ row. rw (the_same c f.table h) refl)

  pub orphan_same : (it : Table) → targets_tracker it ≡ false → has_orphan (users c) it ≡ has_orphan c it
  orphan_same it none = any_alike (λ f. is_tracker f.table) (λ f. list_any (lacks_parent (users c) it.columns f) it.rows) (λ f. list_any (lacks_parent c it.columns f) it.rows) it.foreign (lacks_same it) none

  pub no_orphan : (it : Table) → is_harmless d it ≡ true → has_orphan c it ≡ false
  no_orphan it h = none_in (λ f. list_any (lacks_parent c it.columns f) it.rows) it.foreign (harmless_foreign d it h)

  pub parents_same : (ns : List Name) → lacks_parents ns (users c) ≡ lacks_parents ns c
  parents_same ns = any_aimed (λ e. is_in e.0 ns && has_orphan (users c) e.1) (λ e. is_in e.0 ns && has_orphan c e.1)
      (λ k it none. ap (λ b. is_in k ns && b) (orphan_same it none))
      (λ k it h. and_no_right (is_in k ns) _ (no_orphan it h))

  pub children_same : (ns : List Name) → leaves_children ns (users c) ≡ leaves_children ns c
  children_same ns = any_aimed (λ e. not (is_in e.0 ns) && has_orphan (users c) e.1) (λ e. not (is_in e.0 ns) && has_orphan c e.1)
      (λ k it none. ap (λ b. not (is_in k ns) && b) (orphan_same it none))
      (λ k it h. and_no_right (not (is_in k ns)) _ (no_orphan it h))

  pub null_same : has_null (users c) ≡ has_null c
  null_same = any_users (λ e. table_has_null e.1) (λ k it h. harmless_null d it h)

  pub twins_same : has_twins (users c) ≡ has_twins c
  twins_same = any_users (λ e. table_has_twins e.1) (λ k it h. harmless_twins d it h)

  pub overfull_same : is_overfull (users c) ≡ is_overfull c
  overfull_same = any_users (λ e. is_full e.1) (λ k it h. harmless_full d it h)

-- what is against a statement by itself, and how many rows it changes
pub record Flags : Type 0 where
  pub missing : Bool
  pub exists : Bool
  pub depends : Bool
  pub wrong : Bool
  pub wide : Bool
  pub named : List Name
  pub count : ℕ

abbrev pub flags_of : Plan → Flags
flags_of p = record { missing = p.missing; exists = p.exists; depends = p.depends; wrong = p.wrong; wide = p.wide; named = p.named; count = p.count }

-- the plan on the users' objects, and that on the whole catalogue
pub record SamePlan (d : Dialect) (ts : List (Name × Table)) (p q : Plan) : Type 0 where
  pub flags : flags_of p ≡ flags_of q
  pub result : p.result ≡ users q.result
  pub beside : IsBeside d ts q.result

unless_same : (d : Dialect) (ts : List (Name × Table)) (cs : List (Bool × Reason)) (a b : Catalogue × ℕ) → (a.0 ≡ users b.0) × (a.1 ≡ b.1) × IsBeside d ts b.0 → SameAnswer d ts (unless cs a) (unless cs b)
unless_same d ts [] a b h = h
unless_same d ts (x ∷ cs) a b h = elim x.0 as (λ t. SameAnswer d ts (cond t (Err x.1) (unless cs a)) (cond t (Err x.1) (unless cs b))) [
  | true ↦ refl
  | false ↦ unless_same d ts cs a b h
]

same_test : (p q : Plan) → (test : Catalogue → Bool) → p.result ≡ users q.result → test (users q.result) ≡ test q.result → test p.result ≡ test q.result
same_test p q test is same = ap test is ∙ same

-- a plan of the same flags, and beside it the same result, is decided in the same way
pub decided : (d : Dialect) (ts : List (Name × Table)) (p q : Plan) → p.reserved ≡ q.reserved → (p.reserved ≡ false → SamePlan d ts p q) → SameAnswer d ts (decide p) (decide q)
unfolding decide
decided d ts p q reserved same =
    elim (p.reserved) as (λ b. p.reserved ≡ b → SameAnswer d ts (unless (against p) (p.result, p.count)) (unless (against q) (q.result, q.count))) [
      | true ↦ λ is. rw (is, sym reserved ∙ is) refl
      | false ↦ λ is.
          let it = same is in
          let so = it.beside in
          let lists : against p ≡ against q =
          rw (reserved, ap (λ z. z.missing) it.flags, ap (λ z. z.exists) it.flags, ap (λ z. z.depends) it.flags, ap (λ z. z.wrong) it.flags, ap (λ z. z.wide) it.flags, ap (λ z. z.named) it.flags, it.result, loose_same d ts q.result so, null_same d ts q.result so, twins_same d ts q.result so, parents_same d ts q.result so q.named, children_same d ts q.result so q.named, overfull_same d ts q.result so) refl in
          subst (λ cs. SameAnswer d ts (unless cs (p.result, p.count)) (unless (against q) (q.result, q.count))) (sym lists)
          (unless_same d ts (against q) (p.result, p.count) (q.result, q.count) (it.result, ap (λ z. z.count) it.flags, so))
    ] refl
