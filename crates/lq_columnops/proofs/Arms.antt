-- From what is done by a statement that is tested first to what it means.
use Rattle.std.proofs.Common.{ap, false, refl, subst, sym, true, ◌∙◌, ◌&&◌, ◌≡◌, ◌||◌}
use Rattle.std.specs.List.{list_any}
use Rattle.std.specs.Prelude.{Bool, Err, List, Ok, Result, [], is_none, is_some, not, ℕ, ◌∷◌}
use Rattle.lq_base.specs.declared.name.Name.{Name}
use Rattle.lq_base.specs.declared.value.Value.{Value}
use Rattle.lq_chain.specs.History.{History, changed}
use Rattle.lq_model.specs.Catalogue.{Catalogue, Table, table_of, the_table, by_name, is_null, picked, has_column}
use Rattle.lq_model.specs.Catalogue as look
use Rattle.lq_model.specs.Plan.{Plan, decide}
use Rattle.lq_model.specs.declared.caller.By.{By}
use Rattle.lq_model.specs.declared.column.Column.{Column}
use Rattle.lq_model.proofs.Lists.{or_left, whether}
use Rattle.lq_decide.specs.Faults.{Faults, has_null_in, judged}
use Rattle.lq_decide.proofs.Lists.{or-false}
use Rattle.lq_rows.specs.Stored.{Answers, Means}
use Rattle.lq_rows.specs.declared.fault.RunFault.{RunFault}
use Rattle.lq_rows.specs.declared.fault.RunFault.TheVariants.{OutOfMemory, Refused}
use Rattle.lq_rows.proofs.Continued.{goes_on, stays}
use Rattle.lq_arm.specs.Verdict.{tests_of, verdict_of}
use Rattle.lq_arm.specs.declared.tests.Tests.{Tests}
use Rattle.lq_arm.proofs.Arms.{is_there, there, verdict_err, verdict_ok}
use Rattle.lq_columnops.specs.OnColumn.{Done, on_column, on_table}

-- what is done as its tests have it is what the statement means
pub answers : (p : Plan) (x : Faults) (tests : Tests) (after : Catalogue) (old new : History Catalogue) (result : Result ℕ RunFault) → decide p ≡ judged p x → verdict_of tests ≡ verdict_of (tests_of p x)
    → p.result ≡ after → p.count ≡ 0 → Done tests after old new result → Answers (decide p) old new result
answers p x tests after old new (Ok n) law is result count done = (law ∙ verdict_ok p x (sym is ∙ done.0) ∙ ap (λ e. Ok (e, p.count)) (result ∙ sym done.2) ∙ ap (λ k. Ok (new.now, k)) (count ∙ sym done.1), done.3)
answers p x tests after old new (Err (Refused r)) law is result count done = (law ∙ verdict_err p x r (sym is ∙ done.0), done.1)
answers p x tests after old new (Err OutOfMemory) law is result count done = done

-- one that is refused has changed nothing
pub refuses : (tests : Tests) (after : Catalogue) (h : History Catalogue) (verdict : Result Unit RunFault) (fault : RunFault) → Means (verdict_of tests) verdict → verdict ≡ Err fault → Done tests after h h (Err fault)
refuses tests after h verdict fault means at = by fault (subst (Means (verdict_of tests)) at means) where
  by : (fault : RunFault) → (let r : Result Unit RunFault = Err fault in Means (verdict_of tests) r) → Done tests after h h (Err fault)
  by (Refused r) means = (means, refl)
  by OutOfMemory means = stays h

-- one that is not has changed what it says
pub does : (tests : Tests) (after : Catalogue) (h : History Catalogue) (verdict : Result Unit RunFault) → Means (verdict_of tests) verdict → verdict ≡ Ok tt → Done tests after h (changed h after) (Ok 0)
does tests after h verdict means at = (subst (Means (verdict_of tests)) at means, refl, refl, goes_on h after)

pub found : (c : Catalogue) (t : Name) (tests : Tests) → (tests.missing ≡ false → is_some (table_of c t) ≡ true) → verdict_of tests ≡ Ok tt → is_some (table_of c t) ≡ true
found c t tests h good = h (there tests good)

-- a table is there where no test says that it is missing
pub table_there : (by : By) (t : Name) (c : Catalogue) (tests : Tests) → tests.missing ≡ (on_table by t c).missing → tests.missing ≡ false → is_some (table_of c t) ≡ true
table_there by t c tests is none = is_there (table_of c t) (sym is ∙ none)

pub column_there : (by : By) (t n : Name) (c : Catalogue) (tests : Tests) → tests.missing ≡ (on_column by t n c).missing → tests.missing ≡ false → is_some (table_of c t) ≡ true
column_there by t n c tests is none = is_there (table_of c t) (or_left (is_none (table_of c t)) (not (has_column (the_table c t) n)) (sym is ∙ none))

-- more tests beside those of every statement
pub with_depends : (x y : Tests) (a b : Bool) → x ≡ y → a ≡ b → verdict_of (record x { depends = a }) ≡ verdict_of (record y { depends = b || false })
with_depends x y a b same is = ap (λ z. verdict_of (record z { depends = a })) same ∙ ap (λ k. verdict_of (record y { depends = k })) (is ∙ sym (or-false b))

pub with_four : (x y : Tests) (a b e f g h k l : Bool) → x ≡ y → a ≡ b → e ≡ f → g ≡ h → k ≡ l → verdict_of (record x { depends = a; wrong = e; wide = g; nulls = k }) ≡ verdict_of (record y { depends = b || false; wrong = f; wide = h; nulls = l })
with_four x y a b e f g h k l same is wrong wide nulls = ap (λ z. verdict_of (record z { depends = a; wrong = e; wide = g; nulls = k })) same
    ∙ ap (λ q. verdict_of (record y { depends = q; wrong = e; wide = g; nulls = k })) (is ∙ sym (or-false b))
    ∙ ap (λ q. verdict_of (record y { depends = b || false; wrong = q; wide = g; nulls = k })) wrong
    ∙ ap (λ q. verdict_of (record y { depends = b || false; wrong = f; wide = q; nulls = k })) wide
    ∙ ap (λ q. verdict_of (record y { depends = b || false; wrong = f; wide = h; nulls = q })) nulls

pub with_five : (x y : Tests) (o p a b e f g h k l : Bool) → x ≡ y → o ≡ p → a ≡ b → e ≡ f → g ≡ h → k ≡ l → verdict_of (record x { exists = o; depends = a; wrong = e; wide = g; nulls = k }) ≡ verdict_of (record y { exists = p; depends = b || false; wrong = f; wide = h; nulls = l })
with_five x y o p a b e f g h k l same exists is wrong wide nulls = ap (λ q. verdict_of (record x { exists = q; depends = a; wrong = e; wide = g; nulls = k })) exists
    ∙ with_four (record x { exists = p }) (record y { exists = p }) a b e f g h k l (ap (λ (z : Tests). record z { exists = p }) same) is wrong wide nulls

-- where a column is missing, nothing behind that is asked
one_null : (cs : List Column) (n : Name) (rows : List (List Value)) → list_any (λ row. is_null (by_name cs row n)) rows ≡ list_any (λ r. list_any is_null (picked cs (n ∷ []) r)) rows
one_null cs n [] = refl
one_null cs n (r ∷ rows) = ap (λ b. is_null (by_name cs r n) || b) (one_null cs n rows) ∙ ap (λ b. b || list_any (λ r. list_any is_null (picked cs (n ∷ []) r)) rows) (sym (or-false (is_null (by_name cs r n))))

pub null_there : (it : Table) (n : Name) → has_column it n ≡ true → look.has_null_in n it ≡ has_null_in it (n ∷ [])
null_there it n has = rw (has) (one_null it.columns n it.rows)

missed : (a b : Tests) → a.reserved ≡ b.reserved → a.missing ≡ true → b.missing ≡ true → verdict_of a ≡ verdict_of b
unfolding verdict_of
missed a b r m n = rw (r, m, n) refl

-- a null is looked for where the column is there
pub with_nulls : (y : Tests) (it : Table) (n : Name) (gone b : Bool) → y.missing ≡ (gone || not (has_column it n)) → verdict_of (record y { nulls = b && look.has_null_in n it }) ≡ verdict_of (record y { nulls = b && has_null_in it (n ∷ []) })
with_nulls y it n gone b is = whether (has_column it n)
    (λ has. ap (λ k. verdict_of (record y { nulls = b && k })) (null_there it n has))
    (λ no. let m : y.missing ≡ true = is ∙ rw (no) (or_true gone) in missed (record y { nulls = b && look.has_null_in n it }) (record y { nulls = b && has_null_in it (n ∷ []) }) refl m m) where
      or_true : (g : Bool) → (g || true) ≡ true
      or_true true = refl
      or_true false = refl
