-- Lemmas on UPDATE.
use Rattle.std.proofs.Common.{Bool, Err, List, None, Ok, Option, Result, Some, [], ap, cond, false, is_some, length, map, not, refl, subst, suc, sym, true, ℕ, ◌&&◌, ◌++◌, ◌||◌, ◌∙◌, ◌∷◌, ◌≡◌}
use Rattle.std.specs.List.{filter, list_any}
use Rattle.std.specs.Map.{set_value}
use Rattle.std.specs.Option.{unwrap_or}
use Rattle.lq_arm.proofs.Arms.{agree, good, passes, refused_later}
use Rattle.lq_arm.specs.Verdict.{listed, tests_of, verdict_of}
use Rattle.lq_arm.specs.declared.tests.Tests.{Tests}
use Rattle.lq_base.specs.Name.{is_named}
use Rattle.lq_base.specs.declared.dialect.Dialect.{Dialect}
use Rattle.lq_base.specs.declared.literal.Literal.{Literal}
use Rattle.lq_base.specs.declared.name.Name.{Name}
use Rattle.lq_base.specs.declared.reason.Reason.{Reason}
use Rattle.lq_base.specs.declared.reason.Reason.TheVariants as reason
use Rattle.lq_base.specs.declared.value.Value.{Value}
use Rattle.lq_chain.specs.History.{History, changed}
use Rattle.lq_chain.specs.Marks.{replaced}
use Rattle.lq_decide.proofs.Updated.{update_judged}
use Rattle.lq_decide.specs.Faults.{meets, names_set, set_orphan, update_faults, judged}
use Rattle.lq_model.proofs.Decide.{here, none_from_unless}
use Rattle.lq_model.proofs.Kept.{the_table-with_table}
use Rattle.lq_model.proofs.Lists.{any-append, any-map, any_same, named_itself, or_left, other_way, same_name, whether}
use Rattle.lq_model.specs.Catalogue.{Catalogue, Table, table_of, the_table, with_table, is_in, has_bad_null}
use Rattle.lq_model.specs.Plan.{Plan, decide, unless, lacks_parent}
use Rattle.lq_model.specs.Sound.{IsSound}
use Rattle.lq_model.specs.Truth.{takes}
use Rattle.lq_model.specs.Rows.{edited, set_all, update}
use Rattle.lq_model.specs.declared.caller.By.{By}
use Rattle.lq_model.specs.declared.column.Column.{Column}
use Rattle.lq_model.specs.declared.constraint.ForeignKey.{ForeignKey}
use Rattle.lq_model.specs.declared.test.Test.{Test}
use Rattle.lq_rowops.specs.InsertTests.{aims, edit, is_some_such, loses, strays}
use Rattle.lq_rowops.specs.Updated.{result_tests, stated_tests}
use Rattle.lq_rows.proofs.Continued.{goes_on, stays}
use Rattle.lq_rows.specs.Stored.{Carries, Continues, Means}
use Rattle.lq_rows.specs.declared.fault.RunFault.{RunFault}
use Rattle.lq_rows.specs.declared.fault.RunFault.TheVariants.{OutOfMemory, Refused}

-- a test of three lists, one after another
pub any_three : {A : Type 0} (p : A → Bool) (a b c : List A) → list_any p ((a ++ b) ++ c) ≡ (list_any p a || (list_any p b || list_any p c))
any_three p a b c = any-append p (a ++ b) c ∙ ap (λ t. t || list_any p c) (any-append p a b) ∙ turned (list_any p a) _ _ where
  turned : (x y z : Bool) → ((x || y) || z) ≡ (x || (y || z))
  turned true y z = refl
  turned false y z = refl

any_or : {A : Type 0} (p q : A → Bool) (xs : List A) → list_any (λ x. p x || q x) xs ≡ (list_any p xs || list_any q xs)
any_or p q [] = refl
any_or p q (x ∷ xs) = ap (λ b. (p x || q x) || b) (any_or p q xs) ∙ turned (p x) (q x) (list_any p xs) (list_any q xs) where
  turned : (a b c e : Bool) → ((a || b) || (c || e)) ≡ ((a || c) || (b || e))
  turned true b c e = refl
  turned false true true e = refl
  turned false true false e = refl
  turned false false c e = refl

-- entries of other names do not see what is set at a name
at_rest : {X : Type 0} (t : Name) (p : X → Bool) (es : List (Name × X)) (y : X) → list_any (λ e. not (is_in e.0 (t ∷ [])) && p e.1) (set_value (is_named t) es y) ≡ list_any (λ e. not (is_in e.0 (t ∷ [])) && p e.1) es
at_rest t p [] y = refl
at_rest t p (e ∷ es) y = whether (is_named t e.0)
    (λ is. rw (is, subst (λ n. is_named e.0 n ≡ true) (sym (same_name t e.0 is)) (named_itself e.0)) refl)
    (λ other. rw (other, other_way t e.0 other) (ap (λ b. p e.1 || b) (at_rest t p es y)))

-- the new rows
module _ (sets : List (Name × Literal)) (test : Option Test) (cs : List Column) where
  pub replaced_edits : (rows : List (List Value)) → replaced (map (edit sets test cs) rows) rows ≡ map (λ r. cond (takes test cs r) (set_all sets cs r) r) rows
  replaced_edits [] = refl
  replaced_edits (r ∷ rows) = ap (λ x. x ∷ replaced (map (edit sets test cs) rows) rows) (at (takes test cs r)) ∙ ap (λ xs. cond (takes test cs r) (set_all sets cs r) r ∷ xs) (replaced_edits rows) where
    at : (b : Bool) → unwrap_or (cond b (Some (set_all sets cs r)) None) r ≡ cond b (set_all sets cs r) r
    at true = refl
    at false = refl

  pub count_edits : (rows : List (List Value)) → length (filter is_some (map (edit sets test cs) rows)) ≡ length (filter (takes test cs) rows)
  count_edits [] = refl
  count_edits (r ∷ rows) = at (takes test cs r) (count_edits rows) where
    at : (b : Bool) → length (filter is_some (map (edit sets test cs) rows)) ≡ length (filter (takes test cs) rows) → length (filter is_some (cond b (Some (set_all sets cs r)) None ∷ map (edit sets test cs) rows)) ≡ length (cond b (r ∷ filter (takes test cs) rows) (filter (takes test cs) rows))
    at true more = ap suc more
    at false more = more

  pub any_edits : (p : List Value → Bool) (rows : List (List Value)) → list_any (is_some_such p) (map (edit sets test cs) rows) ≡ list_any (λ r. takes test cs r && p (set_all sets cs r)) rows
  any_edits p rows = any-map (is_some_such p) (edit sets test cs) rows ∙ any_same (λ r. is_some_such p (edit sets test cs r)) (λ r. takes test cs r && p (set_all sets cs r)) rows (λ r. at r (takes test cs r)) where
    at : (r : List Value) (b : Bool) → is_some_such p (cond b (Some (set_all sets cs r)) None) ≡ (b && p (set_all sets cs r))
    at r true = refl
    at r false = refl

  -- a key is asked after the change where it aims at a set column, and else of the new rows before it
  pub orphan_is : (t : Name) (c : Catalogue) (f : ForeignKey) → (the_table c t).columns ≡ cs
      → (strays t sets (map (edit sets test cs) (the_table c t).rows) c cs f || loses t sets (with_table c t (edited sets test (the_table c t))) cs (edited sets test (the_table c t)).rows f) ≡ set_orphan t sets test c f
  orphan_is t c f same =
      ap (λ b. (not (aims t sets f) && (meets (names_set sets) f.columns && b)) || loses t sets after cs (edited sets test (the_table c t)).rows f) (any_edits (lacks_parent c cs f) (the_table c t).rows)
      ∙ at (aims t sets f) _ _
      ∙ ap (λ ks. cond (aims t sets f) (list_any (lacks_parent after ks f) (edited sets test (the_table c t)).rows) (meets (names_set sets) f.columns && list_any (λ r. takes test ks r && lacks_parent c ks f (set_all sets ks r)) (the_table c t).rows)) (sym same) where
        after : Catalogue
        after = with_table c t (edited sets test (the_table c t))

        at : (a x y : Bool) → ((not a && x) || (a && y)) ≡ cond a y x
        at true x y = refl
        at false true y = refl
        at false false y = refl

first_five : (a b e g h : Bool) (late : List (Bool × Reason)) (x : Catalogue × ℕ) (r : Reason)
    → (let six : Result Unit Reason = unless ((a, reason.Reserved) ∷ (b, reason.Missing) ∷ (e, reason.Exists) ∷ (false, reason.Depends) ∷ (g, reason.WrongKind) ∷ (h, reason.TooWide) ∷ (false, reason.NullFound) ∷ (false, reason.Duplicate) ∷ (false, reason.NoParent) ∷ (false, reason.HasChildren) ∷ (false, reason.TooManyRows) ∷ []) tt in six) ≡ Err r
    → unless ((a, reason.Reserved) ∷ (b, reason.Missing) ∷ (e, reason.Exists) ∷ (false, reason.Depends) ∷ (g, reason.WrongKind) ∷ (h, reason.TooWide) ∷ late) x ≡ Err r
first_five true b e g h late x r is = Prim.cc
first_five false true e g h late x r is = Prim.cc
first_five false false true g h late x r is = Prim.cc
first_five false false false true h late x r is = Prim.cc
first_five false false false false true late x r is = Prim.cc
first_five false false false false false late x r is = absurd (Prim.cc is)

module _ (by : By) (d : Dialect) (t : Name) (sets : List (Name × Literal)) (test : Option Test) (c : Catalogue) (sound : IsSound d c) where
  abbrev p : Plan
  p = update by d t sets test c

  abbrev it : Table
  it = the_table c t

  abbrev new : Table
  new = edited sets test it

  abbrev after : Catalogue
  after = with_table c t new

  abbrev rows : List (Option (List Value))
  rows = map (edit sets test it.columns) it.rows

  stated_err : (r : Reason) → verdict_of (stated_tests by t sets test c) ≡ Err r → judged p (update_faults t sets test c) ≡ Err r
  unfolding verdict_of judged
  stated_err r h = first_five (stated_tests by t sets test c).reserved (stated_tests by t sets test c).missing (stated_tests by t sets test c).exists (stated_tests by t sets test c).wrong (stated_tests by t sets test c).wide (((update_faults t sets test c).nulls, reason.NullFound) ∷ ((update_faults t sets test c).twins, reason.Duplicate) ∷ ((update_faults t sets test c).orphans, reason.NoParent) ∷ ((update_faults t sets test c).children, reason.HasChildren) ∷ ((update_faults t sets test c).full, reason.TooManyRows) ∷ []) (p.result, p.count) r h

  pub stated_refused : (h : History Catalogue) (tests : Tests) (verdict : Result Unit RunFault) (fault : RunFault) → tests ≡ stated_tests by t sets test c → Means (verdict_of tests) verdict → verdict ≡ Err fault → Carries (decide p) h h (Err fault)
  stated_refused h tests verdict fault are means at = go fault (subst (Means (verdict_of tests)) at means) where
    go : (f : RunFault) → (let r : Result Unit RunFault = Err f in Means (verdict_of tests) r) → Carries (decide p) h h (Err f)
    go (Refused r) m = (update_judged by d t sets test c sound ∙ stated_err r (subst (λ x. verdict_of x ≡ Err r) are m), stays h)
    go OutOfMemory m = stays h

  nothing_stated : verdict_of (stated_tests by t sets test c) ≡ Ok tt → (p.reserved ≡ false) × (p.missing ≡ false) × (p.exists ≡ false) × (p.wrong ≡ false) × (p.wide ≡ false)
  unfolding verdict_of
  nothing_stated h = let none = (none_from_unless (listed (stated_tests by t sets test c)) tt tt h).0 in (none.0, none.1.0, none.1.1.0, none.1.1.1.1.0, none.1.1.1.1.1.0)

  pub there : (tests : Tests) (verdict : Result Unit RunFault) → tests ≡ stated_tests by t sets test c → Means (verdict_of tests) verdict → verdict ≡ Ok tt → table_of c t ≡ Some (the_table c t)
  there tests verdict are means at = here c t (or_left _ _ (nothing_stated (subst (λ x. verdict_of x ≡ Ok tt) are (good (verdict_of tests) verdict means at))).1)

  -- what is asked after the change is all that is left to be asked
  result_is : (nulls stray : Bool) → verdict_of (stated_tests by t sets test c) ≡ Ok tt
      → nulls ≡ list_any (λ r. takes test it.columns r && has_bad_null it.columns (set_all sets it.columns r)) it.rows
      → stray ≡ list_any (strays t sets rows c it.columns) it.foreign
      → result_tests t sets nulls stray (the_table after t) after ≡ tests_of p (update_faults t sets test c)
  result_is nulls stray passed null_is stray_is =
      let none = nothing_stated passed in
      let there : table_of c t ≡ Some it = here c t (or_left _ _ none.1) in
      ap (λ x. result_tests t sets nulls stray x after) (the_table-with_table c t new there)
      ∙ agree (sym none.0) (sym none.1) (sym none.2) refl (sym none.3) (sym none.4) null_is refl
      (ap (λ b. b || list_any (loses t sets after it.columns new.rows) it.foreign) stray_is
      ∙ sym (any_or (strays t sets rows c it.columns) (loses t sets after it.columns new.rows) it.foreign)
      ∙ any_same _ (set_orphan t sets test c) it.foreign (λ f. orphan_is sets test it.columns t c f refl))
      (at_rest t (λ x. list_any (λ f. (is_named t f.table && meets (names_set sets) f.targets) && list_any (lacks_parent after x.columns f) x.rows) x.foreign) c.tables new)
      refl

  module _ (h : History Catalogue) (e : History Catalogue) (nulls stray : Bool) (first tests : Tests) (verdict : Result Unit RunFault)
      (first_is : first ≡ stated_tests by t sets test c) (passed : verdict_of first ≡ Ok tt)
      (null_is : nulls ≡ list_any (λ r. takes test it.columns r && has_bad_null it.columns (set_all sets it.columns r)) it.rows)
      (stray_is : stray ≡ list_any (strays t sets rows c it.columns) it.foreign)
      (changes : e ≡ changed h after)
      (tests_are : tests ≡ result_tests t sets nulls stray (the_table e.now t) e.now)
      (means : Means (verdict_of tests) verdict) where
    asked : verdict_of tests ≡ verdict_of (tests_of p (update_faults t sets test c))
    asked = ap verdict_of (tests_are ∙ ap (λ (x : History Catalogue). result_tests t sets nulls stray (the_table x.now t) x.now) changes
        ∙ result_is nulls stray (subst (λ x. verdict_of x ≡ Ok tt) first_is passed) null_is stray_is)

    goes : Continues h e
    goes = subst (Continues h) (sym changes) (goes_on h after)

    pub update_refused : (fault : RunFault) → verdict ≡ Err fault → Carries (decide p) h e (Err fault)
    update_refused fault at = refused_later p (update_faults t sets test c) h e tests fault (update_judged by d t sets test c sound) asked (subst (Means (verdict_of tests)) at means) goes

    pub update_done : (count : ℕ) → count ≡ p.count → verdict ≡ Ok tt → Carries (decide p) h e (Ok count)
    update_done count is at =
        (passes p (update_faults t sets test c) tests (update_judged by d t sets test c sound) asked (subst (Means (verdict_of tests)) at means) ∙ ap (λ (x : History Catalogue). Ok (x.now, p.count)) (sym changes) ∙ ap (λ n. Ok (e.now, n)) (sym is), goes)
