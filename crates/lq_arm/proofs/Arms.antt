-- From the verdict on what is asked of a statement to what the statement means.
use Rattle.std.proofs.Common.{ap, subst, sym, ◌∙◌}
use Rattle.std.specs.Option.{option_map}
use Rattle.std.specs.Prelude.{Bool, Err, List, None, Ok, Option, Result, Some, [], cond, false, is_none, is_some, refl, true, ◌∷◌, ◌≡◌}
use Rattle.lq_base.specs.declared.reason.Reason.{Reason}
use Rattle.lq_chain.specs.History.{History}
use Rattle.lq_model.specs.Catalogue.{Catalogue}
use Rattle.lq_model.specs.Plan.{Plan, decide, unless}
use Rattle.lq_model.proofs.Decide.{none_from_unless, unless-none}
use Rattle.lq_decide.specs.Faults.{Faults, judged}
use Rattle.lq_rows.specs.Stored.{Answers, Carries, Continues, Means}
use Rattle.lq_rows.specs.declared.fault.RunFault.{RunFault}
use Rattle.lq_rows.specs.declared.fault.RunFault.TheVariants.{OutOfMemory, Refused}
use Rattle.lq_rows.proofs.Continued.{stays}
use Rattle.lq_arm.specs.Verdict.{listed, tests_of, verdict_of}
use Rattle.lq_arm.specs.declared.tests.Tests.{Tests}

same_reason : {A B : Type 0} (cs : List (Bool × Reason)) (a : A) (b : B) (r : Reason) → unless cs a ≡ Err r → unless cs b ≡ Err r
same_reason [] a b r h = Prim.cc
same_reason (c ∷ cs) a b r h = elim c.0 as (λ t. cond t (Err c.1) (unless cs a) ≡ Err r → cond t (Err c.1) (unless cs b) ≡ Err r) [ true ↦ λ e. Prim.cc | false ↦ λ e. same_reason cs a b r e ] h

pub verdict_err : (p : Plan) (x : Faults) (r : Reason) → verdict_of (tests_of p x) ≡ Err r → judged p x ≡ Err r
unfolding verdict_of judged
verdict_err p x r h = same_reason (listed (tests_of p x)) tt (p.result, p.count) r h

pub verdict_ok : (p : Plan) (x : Faults) → verdict_of (tests_of p x) ≡ Ok tt → judged p x ≡ Ok (p.result, p.count)
unfolding verdict_of judged
verdict_ok p x h = unless-none (listed (tests_of p x)) (p.result, p.count) (none_from_unless (listed (tests_of p x)) tt tt h).0

-- nothing is missing where the verdict is good
pub there : (x : Tests) → verdict_of x ≡ Ok tt → x.missing ≡ false
unfolding verdict_of
there x h = (none_from_unless (listed x) tt tt h).0.1.0

-- tests that are answered alike
pub agree : {a b : Tests} → a.reserved ≡ b.reserved → a.missing ≡ b.missing → a.exists ≡ b.exists → a.depends ≡ b.depends → a.wrong ≡ b.wrong → a.wide ≡ b.wide → a.nulls ≡ b.nulls → a.twins ≡ b.twins → a.orphans ≡ b.orphans → a.children ≡ b.children → a.full ≡ b.full → a ≡ b
agree {a = a} {b = b} r m e d w v n t o k f =
    ap (λ x. record a { reserved = x }) r ∙ ap (λ x. record a { reserved = b.reserved; missing = x }) m ∙ ap (λ x. record a { reserved = b.reserved; missing = b.missing; exists = x }) e
    ∙ ap (λ x. record b { depends = x; wrong = a.wrong; wide = a.wide; nulls = a.nulls; twins = a.twins; orphans = a.orphans; children = a.children; full = a.full }) d
    ∙ ap (λ x. record b { wrong = x; wide = a.wide; nulls = a.nulls; twins = a.twins; orphans = a.orphans; children = a.children; full = a.full }) w
    ∙ ap (λ x. record b { wide = x; nulls = a.nulls; twins = a.twins; orphans = a.orphans; children = a.children; full = a.full }) v
    ∙ ap (λ x. record b { nulls = x; twins = a.twins; orphans = a.orphans; children = a.children; full = a.full }) n
    ∙ ap (λ x. record b { twins = x; orphans = a.orphans; children = a.children; full = a.full }) t
    ∙ ap (λ x. record b { orphans = x; children = a.children; full = a.full }) o ∙ ap (λ x. record b { children = x; full = a.full }) k ∙ ap (λ x. record b { full = x }) f

-- a statement that is refused, and has changed nothing
pub refused : (p : Plan) (x : Faults) (h : History Catalogue) (tests : Tests) (fault : RunFault) → decide p ≡ judged p x → verdict_of tests ≡ verdict_of (tests_of p x) → (let r : Result Unit RunFault = Err fault in Means (verdict_of tests) r) → Answers (decide p) h h (Err fault)
refused p x h tests (Refused r) law is means = (law ∙ verdict_err p x r (sym is ∙ means), refl)
refused p x h tests OutOfMemory law is means = stays h

-- one that is refused after changes that can be undone
pub refused_later : (p : Plan) (x : Faults) (old new : History Catalogue) (tests : Tests) (fault : RunFault) → decide p ≡ judged p x → verdict_of tests ≡ verdict_of (tests_of p x) → (let r : Result Unit RunFault = Err fault in Means (verdict_of tests) r) → Continues old new → Carries (decide p) old new (Err fault)
refused_later p x old new tests (Refused r) law is means goes = (law ∙ verdict_err p x r (sym is ∙ means), goes)
refused_later p x old new tests OutOfMemory law is means goes = goes

-- one that is not
pub passes : (p : Plan) (x : Faults) (tests : Tests) → decide p ≡ judged p x → verdict_of tests ≡ verdict_of (tests_of p x) → verdict_of tests ≡ Ok tt → decide p ≡ Ok (p.result, p.count)
passes p x tests law is means = law ∙ verdict_ok p x (sym is ∙ means)

-- a verdict of no fault, and of one, on the tests of a plan: what an arm ends with
pub arm_refused : (p : Plan) (x : Faults) (h : History Catalogue) (tests : Tests) (verdict : Result Unit RunFault) (fault : RunFault) → decide p ≡ judged p x → verdict_of tests ≡ verdict_of (tests_of p x) → Means (verdict_of tests) verdict → verdict ≡ Err fault → Answers (decide p) h h (Err fault)
arm_refused p x h tests verdict fault law is means at = refused p x h tests fault law is (subst (Means (verdict_of tests)) at means)

pub arm_passes : (p : Plan) (x : Faults) (tests : Tests) (verdict : Result Unit RunFault) → decide p ≡ judged p x → verdict_of tests ≡ verdict_of (tests_of p x) → Means (verdict_of tests) verdict → verdict ≡ Ok tt → decide p ≡ Ok (p.result, p.count)
arm_passes p x tests verdict law is means at = passes p x tests law is (subst (Means (verdict_of tests)) at means)

pub none_of : {A B : Type 0} (f : A → B) (o : Option A) (q : Option B) → option_map f o ≡ q → is_none o ≡ is_none q
none_of f None q h = ap is_none h
none_of f (Some x) q h = ap is_none h

pub is_there : {A : Type 0} (o : Option A) → is_none o ≡ false → is_some o ≡ true
is_there None h = sym h
is_there (Some x) h = refl

-- where the table is missing, nothing behind that is asked
pub early : (a b : Tests) → a.reserved ≡ b.reserved → a.missing ≡ true → b.missing ≡ true → verdict_of a ≡ verdict_of b
unfolding verdict_of
early a b r m n = rw (r, m, n) refl

pub good : (meant : Result Unit Reason) (verdict : Result Unit RunFault) → Means meant verdict → verdict ≡ Ok tt → meant ≡ Ok tt
good meant verdict means at = subst (Means meant) at means
