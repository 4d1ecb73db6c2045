-- Changesets one after another: what all changes do is done changeset by changeset, each change being fresh.
use Rattle.std.proofs.Common.{arith, ap, sym, ◌∙◌}
use Rattle.std.specs.List.{AllByRecursion, flat_map}
use Rattle.std.specs.Prelude.{Bool, Err, List, None, Ok, Option, Result, Some, [], false, if◌then◌else◌, map, refl, true, ℕ, ◌&&◌, ◌+◌, ◌++◌, ◌∷◌, ◌≡◌}
use Rattle.lq_base.specs.declared.dialect.Dialect.{Dialect}
use Rattle.lq_base.specs.declared.reason.Reason.{Reason}
use Rattle.lq_any.specs.AnyChange.{effect, is_fresh}
use Rattle.lq_any.specs.declared.any_change.AnyChange.{AnyChange}
use Rattle.lq_kinds.specs.declared.change_set.ChangeSet.{ChangeSet}
use Rattle.lq_model.proofs.Lists.{and_left, and_right, and_true}
use Rattle.lq_model.specs.Catalogue.{Catalogue, no_objects}
use Rattle.lq_model.specs.Sound.{IsSound}
use Rattle.lq_seen.specs.View.{any_meaning}
use Rattle.lq_turns.specs.Set.{all_fresh, effects, not_fresh}
use Rattle.laws_made.proofs.Fresh.{fresh_all}
use Rattle.laws_generate.specs.Again.{SetsRun, without_rows}
use Rattle.laws_generate.proofs.CanWrite.{Can}
use Rattle.laws_generate.proofs.Generated.{changes_of, generated, generated_effects, generated_fresh}
use Rattle.laws_made.proofs.Whole.{MayMake}

abbrev after : Dialect → List AnyChange → Catalogue → Result Catalogue Reason
after d xs c = effects d any_meaning xs c

-- what is fresh counts nothing
pub none_stale : (d : Dialect) (xs : List AnyChange) (c : Catalogue) → fresh_all d xs c ≡ true → not_fresh d any_meaning xs c ≡ 0
none_stale d [] c h = refl
none_stale d (x ∷ xs) c h = by (is_fresh d x c) (effect d x c) h (none_stale d xs) where
  by : (b : Bool) (r : Result Catalogue Reason) → (b && elim r as (λ _. Bool) [ Ok e ↦ fresh_all d xs e | Err reason ↦ true ]) ≡ true
      → ((e : Catalogue) → fresh_all d xs e ≡ true → not_fresh d any_meaning xs e ≡ 0)
      → (if b then 0 else 1) + elim r as (λ _. ℕ) [ Ok e ↦ not_fresh d any_meaning xs e | Err reason ↦ 0 ] ≡ 0
  by true (Ok e) p more = let m = more e p in omega (arith, m)
  by true (Err reason) p more = omega arith
  by false r p more = absurd Prim.cc

-- some changes, and then others
split : (d : Dialect) (xs ys : List AnyChange) (c g : Catalogue) → after d (xs ++ ys) c ≡ Ok g → fresh_all d (xs ++ ys) c ≡ true
    → (m : Catalogue) × ((after d xs c ≡ Ok m) × ((fresh_all d xs c ≡ true) × ((after d ys m ≡ Ok g) × (fresh_all d ys m ≡ true))))
split d [] ys c g is h = (c, (refl, (refl, (is, h))))
split d (x ∷ xs) ys c g is h = by (is_fresh d x c) (effect d x c) is h (λ e p q. split d xs ys e g p q) where
  Both : Catalogue → Type 0
  Both e = (m : Catalogue) × ((after d xs e ≡ Ok m) × ((fresh_all d xs e ≡ true) × ((after d ys m ≡ Ok g) × (fresh_all d ys m ≡ true))))

  by : (b : Bool) (r : Result Catalogue Reason) → elim r as (λ _. Result Catalogue Reason) [ Ok e ↦ after d (xs ++ ys) e | Err reason ↦ Err reason ] ≡ Ok g
      → (b && elim r as (λ _. Bool) [ Ok e ↦ fresh_all d (xs ++ ys) e | Err reason ↦ true ]) ≡ true
      → ((e : Catalogue) → after d (xs ++ ys) e ≡ Ok g → fresh_all d (xs ++ ys) e ≡ true → Both e)
      → (m : Catalogue) × ((elim r as (λ _. Result Catalogue Reason) [ Ok e ↦ after d xs e | Err reason ↦ Err reason ] ≡ Ok m)
      × (((b && elim r as (λ _. Bool) [ Ok e ↦ fresh_all d xs e | Err reason ↦ true ]) ≡ true) × ((after d ys m ≡ Ok g) × (fresh_all d ys m ≡ true))))
  by true (Ok e) p q more = more e p q
  by true (Err reason) p q more = absurd Prim.cc
  by false r p q more = absurd Prim.cc

same_ok : {x y : Catalogue} → (let r : Result Catalogue Reason = Ok x in r) ≡ Ok y → x ≡ y
same_ok e = Prim.cc

sets_run : (d : Dialect) (sets : List ChangeSet) (c g : Catalogue) → after d (flat_map (λ (x : ChangeSet). x.changes) sets) c ≡ Ok g → fresh_all d (flat_map (λ (x : ChangeSet). x.changes) sets) c ≡ true → SetsRun d sets c g
sets_run d [] c g is h = same_ok is
sets_run d (x ∷ xs) c g is h =
    let s = split d x.changes (flat_map (λ (y : ChangeSet). y.changes) xs) c g is h in
    (s.0, (s.1.0, (none_stale d x.changes c s.1.1.0, sets_run d xs s.0 g s.1.1.1.0 s.1.1.1.1)))

pub generated_sets_run : (d : Dialect) (c : Catalogue) → IsSound d c → Can d c → MayMake d c → (path author : List ℕ) → SetsRun d (generated d path author c).sets no_objects (without_rows c)
generated_sets_run d c sound can may path author = sets_run d (generated d path author c).sets no_objects (without_rows c) (generated_effects d c sound can may path author) (generated_fresh d c sound can may path author)
