-- What a change does, composed of what its statements do.
use Rattle.std.proofs.Common.{ap, subst, sym, ◌∙◌}
use Rattle.std.specs.Prelude.{Bool, Err, List, Ok, Option, Result, Some, [], refl, true, ℕ, ◌++◌, ◌∷◌, ◌≡◌}
use Rattle.lq_base.specs.declared.dialect.Dialect.{Dialect}
use Rattle.lq_base.specs.declared.reason.Reason.{Reason}
use Rattle.lq_model.specs.Catalogue.{Catalogue}
use Rattle.lq_model.specs.Changes.{HaveEffect, TakeBack}
use Rattle.lq_model.specs.Sound.{IsSound}
use Rattle.lq_model.specs.Step.{plan, run, step, is_statement}
use Rattle.lq_model.specs.TakesBack.{TakesBack, TakesBackWhere}
use Rattle.lq_model.specs.declared.caller.By.TheVariants.{User}
use Rattle.lq_model.specs.declared.statement.Statement.{Statement}
use Rattle.lq_model.proofs.Decide.{accepted}
use Rattle.lq_model.proofs.KeepsSound.{statement_keeps}
use Rattle.lq_model.proofs.Lists.{and_left, and_right}
use Rattle.std.specs.List.{list_all}
use Rattle.lq_model.specs.Effect.{Becomes, GoesBack, effect_of, unless_refused}

pub ok_same : {X Y : Type 0} {x y : X} → (let r : Result X Y = Ok x in r) ≡ Ok y → x ≡ y
ok_same h = Prim.cc

pub some_same : {X : Type 0} {x y : X} → (let o : Option X = Some x in o) ≡ Some y → x ≡ y
some_same h = Prim.cc

-- the effect of a change
pub does_so : {Key : Type 0} (is_for : Dialect → Key → Bool) (gives : Dialect → Key → List Statement) (becomes : Dialect → Key → Catalogue → Catalogue) → Becomes gives becomes is_for → HaveEffect is_for gives (effect_of gives becomes)
does_so is_for gives becomes so d x c right sound = by (run User d (gives d x) c) refl where
  by : (r : Result Catalogue Reason) → run User d (gives d x) c ≡ r → r ≡ unless_refused r (becomes d x c)
  by (Ok e) is = ap (λ f. Ok f) (sym (so d x c e right sound is))
  by (Err reason) is = refl

ran : {Key : Type 0} (is_for : Dialect → Key → Bool) (gives : Dialect → Key → List Statement) (becomes : Dialect → Key → Catalogue → Catalogue) → Becomes gives becomes is_for → (d : Dialect) (x : Key) (c e : Catalogue) → is_for d x ≡ true → IsSound d c → effect_of gives becomes d x c ≡ Ok e → run User d (gives d x) c ≡ Ok e
ran is_for gives becomes so d x c e right sound is = does_so is_for gives becomes so d x c right sound ∙ is

-- and taking it back
pub restores_so : {Key : Type 0} (is_for : Dialect → Key → Bool) (gives : Dialect → Key → List Statement) (becomes : Dialect → Key → Catalogue → Catalogue) (fresh : Dialect → Key → Catalogue → Bool) (inverse : Dialect → Key → Option (List Statement)) → Becomes gives becomes is_for → GoesBack is_for gives fresh inverse → TakeBack is_for (effect_of gives becomes) fresh inverse
restores_so is_for gives becomes fresh inverse so back d x c e undoing right sound new is taken = back d x c e undoing right sound new (ran is_for gives becomes so d x c e right sound is) taken

-- what a run makes of the first statement's answer
abbrev pub goes_on : Dialect → List Statement → Result (Catalogue × ℕ) Reason → Result Catalogue Reason
goes_on d ss (Ok p) = run User d ss p.0
goes_on d ss (Err q) = Err q

-- a run that ends, by its first statement and the others
pub record Ran (d : Dialect) (s : Statement) (ss : List Statement) (c e : Catalogue) : Type 0 where
  pub mid : Catalogue
  pub count : ℕ
  pub first : step User d s c ≡ Ok (mid, count)
  pub others : run User d ss mid ≡ Ok e

pub ran_first : (d : Dialect) (s : Statement) (ss : List Statement) (c e : Catalogue) → run User d (s ∷ ss) c ≡ Ok e → Ran d s ss c e
ran_first d s ss c e h = by (step User d s c) refl h where
  by : (r : Result (Catalogue × ℕ) Reason) → step User d s c ≡ r → goes_on d ss r ≡ Ok e → Ran d s ss c e
  by (Ok p) is h = record { mid = p.0; count = p.1; first = is; others = h }
  by (Err q) is h = absurd Prim.cc

-- one statement
pub one_step : (d : Dialect) (s : Statement) (c e : Catalogue) → run User d (s ∷ []) c ≡ Ok e → (n : ℕ) × (step User d s c ≡ Ok (e, n))
one_step d s c e h = let r = ran_first d s [] c e h in (r.count, r.first ∙ ap (λ x. Ok (x, r.count)) (ok_same r.others))

pub step_result : (d : Dialect) (s : Statement) (c e : Catalogue) (n : ℕ) → step User d s c ≡ Ok (e, n) → (plan User d s c).result ≡ e
step_result d s c e n h = (accepted (plan User d s c) e n h).result

pub one_becomes : (d : Dialect) (s : Statement) (c e : Catalogue) → run User d (s ∷ []) c ≡ Ok e → (plan User d s c).result ≡ e
one_becomes d s c e h = let made = one_step d s c e h in step_result d s c e made.0 made.1

pub one_run : (d : Dialect) (s : Statement) (c e : Catalogue) (n : ℕ) → step User d s c ≡ Ok (e, n) → run User d (s ∷ []) c ≡ Ok e
one_run d s c e n h = ap (goes_on d []) h

-- one statement that another one takes back
pub one_back : (d : Dialect) (s u : Statement) → TakesBack d s u → (c e : Catalogue) → IsSound d c → run User d (s ∷ []) c ≡ Ok e → run User d (u ∷ []) e ≡ Ok c
one_back d s u back c e sound h = let made = one_step d s c e h in one_run d u e c 0 (back User c e made.0 sound made.1)

pub one_back_where : (d : Dialect) (fresh : Catalogue → Bool) (s u : Statement) → TakesBackWhere d fresh s u → (c e : Catalogue) → IsSound d c → fresh c ≡ true → run User d (s ∷ []) c ≡ Ok e → run User d (u ∷ []) e ≡ Ok c
one_back_where d fresh s u back c e sound new h = let made = one_step d s c e h in one_run d u e c 0 (back User c e made.0 sound new made.1)

-- a run of two lists, one after the other
pub record Both (d : Dialect) (ss ts : List Statement) (c e : Catalogue) : Type 0 where
  pub between : Catalogue
  pub front : run User d ss c ≡ Ok between
  pub back : run User d ts between ≡ Ok e

pub ran_both : (d : Dialect) (ss ts : List Statement) (c e : Catalogue) → run User d (ss ++ ts) c ≡ Ok e → Both d ss ts c e
ran_both d [] ts c e h = record { between = c; front = refl; back = h }
ran_both d (s ∷ ss) ts c e h =
    let r = ran_first d s (ss ++ ts) c e h in
    let more = ran_both d ss ts r.mid e r.others in
    record { between = more.between; front = ap (goes_on d ss) r.first ∙ more.front; back = more.back }

pub run_both : (d : Dialect) (ss ts : List Statement) (c m : Catalogue) → run User d ss c ≡ Ok m → run User d (ss ++ ts) c ≡ run User d ts m
run_both d [] ts c m h = ap (run User d ts) (ok_same h)
run_both d (s ∷ ss) ts c m h =
    let r = ran_first d s ss c m h in
    ap (goes_on d (ss ++ ts)) r.first ∙ run_both d ss ts r.mid m r.others

-- what statements make of a sound catalogue is sound
pub run_keeps : (d : Dialect) (ss : List Statement) (c e : Catalogue) → list_all (is_statement d) ss ≡ true → IsSound d c → run User d ss c ≡ Ok e → IsSound d e
run_keeps d [] c e fine sound h = subst (IsSound d) (ok_same h) sound
run_keeps d (s ∷ ss) c e fine sound h =
    let r = ran_first d s ss c e h in
    run_keeps d ss r.mid e (and_right (is_statement d s) _ fine) (statement_keeps d s User c r.mid r.count (and_left (is_statement d s) _ fine) sound r.first) r.others
