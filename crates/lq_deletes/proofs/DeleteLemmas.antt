-- Lemmas on DELETE.
use Rattle.std.proofs.Common.{Bool, Err, List, None, Ok, Option, Result, Some, [], ap, cond, false, is_some, length, not, refl, subst, sym, true, ℕ, ◌&&◌, ◌-◌, ◌||◌, ◌∙◌, ◌∷◌, ◌≡◌}
use Rattle.std.specs.List.{list_any}
use Rattle.std.specs.Option.{unwrap_or}
use Rattle.lq_arm.specs.Verdict.{listed, verdict_of}
use Rattle.lq_arm.specs.declared.tests.Tests.{Tests}
use Rattle.lq_base.specs.Name.{is_named}
use Rattle.lq_base.specs.declared.dialect.Dialect.{Dialect}
use Rattle.lq_base.specs.declared.name.Name.{Name}
use Rattle.lq_base.specs.declared.reason.Reason.{Reason}
use Rattle.lq_base.specs.declared.reason.Reason.TheVariants as reason
use Rattle.lq_base.specs.declared.value.Value.{Value}
use Rattle.lq_chain.specs.History.{History}
use Rattle.lq_decide.proofs.Deleted.{delete_judged}
use Rattle.lq_decide.specs.Faults.{delete_faults, judged}
use Rattle.lq_model.proofs.Decide.{here, none_from_unless}
use Rattle.lq_model.proofs.DropKeeps.{any_filtered}
use Rattle.lq_model.proofs.Kept.{lookup_other, never}
use Rattle.lq_model.proofs.Lists.{any_less, any_less_both, or_false, or_left, or_right}
use Rattle.lq_model.proofs.Maps.{any_local, at_lookup}
use Rattle.lq_model.specs.Catalogue.{Catalogue, Table, no_table, table_of, the_table, with_table, is_null, picked, same_values}
use Rattle.lq_model.specs.Rows.{delete, deleted, is_lost, row_count, without_taken}
use Rattle.lq_model.specs.Plan.{Plan, decide, unless, has_orphan, has_orphans, lacks_parent}
use Rattle.lq_model.specs.Sound.{IsSound}
use Rattle.lq_model.specs.Truth.{takes}
use Rattle.lq_model.specs.declared.caller.By.{By}
use Rattle.lq_model.specs.declared.column.Column.{Column}
use Rattle.lq_model.specs.declared.constraint.ForeignKey.{ForeignKey}
use Rattle.lq_model.specs.declared.test.Test.{Test}
use Rattle.lq_rows.proofs.Continued.{stays}
use Rattle.lq_rows.specs.Stored.{Carries, Continues, Means}
use Rattle.lq_rows.specs.declared.fault.RunFault.{RunFault}
use Rattle.lq_rows.specs.declared.fault.RunFault.TheVariants.{OutOfMemory, Refused}
use Rattle.lq_deletes.proofs.Rounds.{rounds_same}
use Rattle.lq_deletes.specs.Places.{cascades_at, is_aimed_at, stated_tests, IsLinked, loses_row}

-- a sound catalogue's rows have one parent by each foreign key
pub linked : (d : Dialect) (c : Catalogue) → IsSound d c → IsLinked c
linked d c sound = record { ordered = sound.ordered; aimed = sound.aimed; no_twins = sound.no_twins; parents = sound.parents }

-- a table that is there
pub found : (t : Name) (c : Catalogue) → is_some (table_of c t) ≡ true → table_of c t ≡ Some (the_table c t)
found t c is = at (table_of c t) is where
  at : (o : Option Table) → is_some o ≡ true → o ≡ Some (unwrap_or o no_table)
  at None h = absurd (Prim.cc h)
  at (Some it) h = refl

module _ (t : Name) (test : Option Test) (c : Catalogue) (sound : IsLinked c) (there : table_of c t ≡ Some (the_table c t)) where
  abbrev it : Table
  it = the_table c t

  abbrev new : Table
  new = without_taken test it

  abbrev cut : Catalogue
  cut = with_table c t new

  -- who has another table's row as its parent keeps it
  still : (cs : List Column) (f : ForeignKey) (row : List Value) → is_named t f.table ≡ false → lacks_parent cut cs f row ≡ lacks_parent c cs f row
  still cs f row other = ap (λ o. not (list_any is_null (picked cs f.columns row)) && not (list_any (λ r. same_values (picked cs f.columns row) (picked (unwrap_or o no_table).columns f.targets r)) (unwrap_or o no_table).rows)) (lookup_other t f.table new c.tables other)

  -- what no table fails on its rows, the one with fewer rows does not fail
  module _ (fails : List Column → ForeignKey → List Value → Bool) where
    abbrev fails_in : Table → Bool
    fails_in w = list_any (λ f. list_any (fails w.columns f) w.rows) w.foreign

    fewer_fail : list_any (λ e. fails_in e.1) c.tables ≡ false → list_any (λ e. fails_in e.1) cut.tables ≡ false
    fewer_fail none =
        any_local (is_named t) fails_in c.tables it new there none
        ∙ any_less (λ f. list_any (fails it.columns f) new.rows) (λ f. list_any (fails it.columns f) it.rows) it.foreign (λ f h. any_filtered (fails it.columns f) (λ r. not (takes test it.columns r)) it.rows h)
        (at_lookup (is_named t) fails_in c.tables it none there)

    -- where a test of the keys finds none, and the others keep their parents
    none_fail : (asked : ForeignKey → Bool) → ((cs : List Column) (f : ForeignKey) (row : List Value) → asked f ≡ false → lacks_parent c cs f row ≡ false → fails cs f row ≡ false) → list_any (λ e. list_any asked e.1.foreign) c.tables ≡ false → list_any (λ e. fails_in e.1) cut.tables ≡ false
    none_fail asked less apart = fewer_fail (any_less_both (λ (e : Name × Table). list_any asked e.1.foreign) (λ e. has_orphan c e.1) (λ e. fails_in e.1) c.tables
        (λ e no_key no_orphan. any_less_both asked (λ f. list_any (lacks_parent c e.1.columns f) e.1.rows) (λ f. list_any (fails e.1.columns f) e.1.rows) e.1.foreign
        (λ f other none. any_less (fails e.1.columns f) (lacks_parent c e.1.columns f) e.1.rows (λ r h. less e.1.columns f r other h) none) no_key no_orphan)
        apart sound.parents)

  -- where no key aims at the table, nobody has lost a parent
  pub plain : is_aimed_at t c ≡ false → has_orphans cut ≡ false
  plain apart = none_fail (lacks_parent cut) (λ f. is_named t f.table) (λ cs f row other h. still cs f row other ∙ h) apart

  -- rows by keys, and keys by rows
  turned : (w : Table) → list_any (λ f. list_any (λ row. f.cascade && lacks_parent cut w.columns f row) w.rows) w.foreign ≡ false → list_any (is_lost cut w) w.rows ≡ false
  turned w none = goes w.foreign none where
    goes : (fs : List ForeignKey) → list_any (λ f. list_any (λ row. f.cascade && lacks_parent cut w.columns f row) w.rows) fs ≡ false → list_any (λ row. list_any (λ f. f.cascade && lacks_parent cut w.columns f row) fs) w.rows ≡ false
    goes [] none = never w.rows
    goes (f ∷ fs) none = any_less_both (λ row. f.cascade && lacks_parent cut w.columns f row) (λ row. list_any (λ g. g.cascade && lacks_parent cut w.columns g row) fs) (λ row. (f.cascade && lacks_parent cut w.columns f row) || list_any (λ g. g.cascade && lacks_parent cut w.columns g row) fs) w.rows
        (λ row a b. or_false _ _ a b) (or_left (list_any (λ row. f.cascade && lacks_parent cut w.columns f row) w.rows) _ none) (goes fs (or_right (list_any (λ row. f.cascade && lacks_parent cut w.columns f row) w.rows) _ none))

  -- where no key that cascades does, no row goes with those that are taken
  pub none_goes : cascades_at t c ≡ false → deleted t test c ≡ cut
  none_goes apart =
      rounds_same (row_count c) cut (any_less (loses_row cut) (λ (e : Name × Table). list_any (λ f. list_any (λ row. f.cascade && lacks_parent cut e.1.columns f row) e.1.rows) e.1.foreign) cut.tables (λ e h. turned e.1 h)
      (none_fail (λ cs f row. f.cascade && lacks_parent cut cs f row) (λ f. f.cascade && is_named t f.table) (λ cs f row asked h. at f.cascade (is_named t f.table) asked (λ other. still cs f row other ∙ h)) apart)) where
        at : (a b : Bool) {k : Bool} → (a && b) ≡ false → (b ≡ false → k ≡ false) → (a && k) ≡ false
        at true b asked less = less asked
        at false b asked less = refl

first_three : (a b g : Bool) (nulls twins orphans children full : Bool) (x : Catalogue × ℕ) (r : Reason)
    → (let all : Result Unit Reason = unless ((a, reason.Reserved) ∷ (b, reason.Missing) ∷ (false, reason.Exists) ∷ (false, reason.Depends) ∷ (g, reason.WrongKind) ∷ (false, reason.TooWide) ∷ (false, reason.NullFound) ∷ (false, reason.Duplicate) ∷ (false, reason.NoParent) ∷ (false, reason.HasChildren) ∷ (false, reason.TooManyRows) ∷ []) tt in all) ≡ Err r
    → unless ((a, reason.Reserved) ∷ (b, reason.Missing) ∷ (false, reason.Exists) ∷ (false, reason.Depends) ∷ (g, reason.WrongKind) ∷ (false, reason.TooWide) ∷ (nulls, reason.NullFound) ∷ (twins, reason.Duplicate) ∷ (orphans, reason.NoParent) ∷ (children, reason.HasChildren) ∷ (full, reason.TooManyRows) ∷ []) x ≡ Err r
first_three true b g n t o k f x r is = Prim.cc
first_three false true g n t o k f x r is = Prim.cc
first_three false false true n t o k f x r is = Prim.cc
first_three false false false n t o k f x r is = absurd (Prim.cc is)

module _ (by : By) (d : Dialect) (t : Name) (test : Option Test) (c : Catalogue) (sound : IsSound d c) where
  abbrev p : Plan
  p = delete by d t test c

  stated_err : (r : Reason) → verdict_of (stated_tests by t test c) ≡ Err r → judged p (delete_faults t test c) ≡ Err r
  unfolding verdict_of judged
  stated_err r h = first_three (stated_tests by t test c).reserved (stated_tests by t test c).missing (stated_tests by t test c).wrong false false false (has_orphans (deleted t test c)) false (p.result, p.count) r h

  pub stated_refused : (h : History Catalogue) (tests : Tests) (verdict : Result Unit RunFault) (fault : RunFault) → tests ≡ stated_tests by t test c → Means (verdict_of tests) verdict → verdict ≡ Err fault → Carries (decide p) h h (Err fault)
  stated_refused h tests verdict fault are means at = go fault (subst (Means (verdict_of tests)) at means) where
    go : (f : RunFault) → (let r : Result Unit RunFault = Err f in Means (verdict_of tests) r) → Carries (decide p) h h (Err f)
    go (Refused r) m = (delete_judged by d t test c sound ∙ stated_err r (subst (λ x. verdict_of x ≡ Err r) are m), stays h)
    go OutOfMemory m = stays h

  nothing_stated : verdict_of (stated_tests by t test c) ≡ Ok tt → (p.reserved ≡ false) × (p.missing ≡ false) × (p.wrong ≡ false)
  unfolding verdict_of
  nothing_stated h = let none = (none_from_unless (listed (stated_tests by t test c)) tt tt h).0 in (none.0, none.1.0, none.1.1.1.1.0)

  pub there : (tests : Tests) → tests ≡ stated_tests by t test c → verdict_of tests ≡ Ok tt → table_of c t ≡ Some (the_table c t)
  there tests are good = here c t (or_left _ _ (nothing_stated (subst (λ x. verdict_of x ≡ Ok tt) are good)).1)

  last : (children : Bool) → children ≡ has_orphans (deleted t test c) → verdict_of (stated_tests by t test c) ≡ Ok tt → decide p ≡ cond children (Err reason.HasChildren) (Ok (p.result, p.count))
  unfolding judged
  last children is good =
      let none = nothing_stated good in
      delete_judged by d t test c sound ∙ rw (none.0, none.1, none.2, ← is) refl

  module _ (h e : History Catalogue) (tests : Tests) (are : tests ≡ stated_tests by t test c) (good : verdict_of tests ≡ Ok tt) (end : e.now ≡ deleted t test c) (goes : Continues h e) where
    passed : verdict_of (stated_tests by t test c) ≡ Ok tt
    passed = subst (λ x. verdict_of x ≡ Ok tt) are good

    pub delete_refused : true ≡ has_orphans e.now → Carries (decide p) h e (Err (Refused reason.HasChildren))
    delete_refused found = (last true (found ∙ ap has_orphans end) passed, goes)

    pub delete_done : (count : ℕ) → false ≡ has_orphans e.now → count ≡ length (the_table c t).rows - length (the_table e.now t).rows → Carries (decide p) h e (Ok count)
    delete_done count none is =
        (last false (none ∙ ap has_orphans end) passed ∙ ap (λ x. Ok (x, length (the_table c t).rows - length (the_table x t).rows)) (sym end) ∙ ap (λ n. Ok (e.now, n)) (sym is), goes)
