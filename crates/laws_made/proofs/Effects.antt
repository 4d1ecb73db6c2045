-- What the changes do: each runs its one statement, is fresh at its place and has an inverse.
use Rattle.std.proofs.Common.{ap, sym, subst, ◌∙◌, append_assoc}
use Rattle.std.specs.List.{AllByRecursion, flat_map, list_all, list_any}
use Rattle.std.specs.Option.{option_and_then, option_map}
use Rattle.std.specs.Prelude.{Bool, Err, List, None, Ok, Option, Result, Some, [], cond, false, if◌then◌else◌, map, not, refl, true, ℕ, ◌&&◌, ◌+◌, ◌++◌, ◌||◌, ◌∷◌, ◌≡◌}
use Rattle.lq_base.specs.Name.{is_named}
use Rattle.lq_base.specs.declared.dialect.Dialect.{Dialect}
use Rattle.lq_base.specs.declared.name.Name.{Name}
use Rattle.lq_base.specs.declared.reason.Reason.{Reason}
use Rattle.lq_any.specs.AnyChange.{effect, gives, inverse, is_fresh}
use Rattle.lq_any.specs.declared.any_change.AnyChange.{AnyChange}
use Rattle.lq_model.proofs.Decide.{accepted}
use Rattle.lq_model.proofs.Lists.{and_left, and_right, and_true, true_false}
use Rattle.lq_model.specs.Catalogue.{Catalogue, Table, View, no_objects, the_table, is_in, key_list, Sequence}
use Rattle.lq_model.specs.Effect.{unless_refused}
use Rattle.lq_model.specs.Sound.{IsSound, IsSoundTable, is_not_null}
use Rattle.lq_model.specs.Step.{plan, run, step}
use Rattle.lq_model.specs.TakesBack.{is_firm}
use Rattle.lq_model.specs.declared.caller.By.TheVariants.{User}
use Rattle.lq_model.specs.declared.column.Column.{Column}
use Rattle.lq_model.specs.declared.constraint.ForeignKey.{ForeignKey}
use Rattle.lq_model.specs.declared.constraint.Key.{Key}
use Rattle.lq_model.specs.declared.statement.Statement.{Statement}
use Rattle.lq_model.specs.declared.statement.Statement.TheVariants as statement
use Rattle.lq_model.specs.declared.constraint.Unique.{Unique}
use Rattle.lq_model.specs.declared.index.Index.{Index}
use Rattle.lq_keys.specs.AddForeignKey.{foreign_of}
use Rattle.lq_primary_keys.specs.AddPrimaryKey.{key_of}
use Rattle.lq_uniques.specs.AddUnique.{unique_of}
use Rattle.lq_keys.specs.CreateIndex.{index_of}
use Rattle.lq_tables.specs.CreateTable.{creates}
use Rattle.lq_views.specs.CreateView.{query}
use Rattle.laws_made.specs.CreatedAs.{foreign_change, index_change, key_change, unique_change, view_change, created, all_changes, of_aims, of_filling, of_foreign, of_index, of_key, of_own_key, of_sequence, of_table, of_unique, of_view}
use Rattle.lq_seen.specs.View.{any_meaning}
use Rattle.lq_turns.specs.Set.{all_fresh, effects, inverses, not_fresh}
use Rattle.laws_made.proofs.Whole.{MayMake, statements, whole_run}
use Rattle.laws_stages.specs.Making.{full, on}

-- ---- each runs its statement

-- a change that states the result of its one statement
plain : (d : Dialect) (s : Statement) (c : Catalogue) → unless_refused (run User d (s ∷ []) c) (plan User d s c).result ≡ run User d (s ∷ []) c
plain d s c = by (step User d s c) refl where
  by : (r : Result (Catalogue × ℕ) Reason) → step User d s c ≡ r
      → unless_refused (elim r as (λ _. Result Catalogue Reason) [ Ok x ↦ Ok x.0 | Err reason ↦ Err reason ]) (plan User d s c).result ≡ elim r as (λ _. Result Catalogue Reason) [ Ok x ↦ Ok x.0 | Err reason ↦ Err reason ]
  by (Ok x) is = ap (λ g. Ok g) (accepted (plan User d s c) x.0 x.1 is).result
  by (Err reason) is = refl

-- what holds of each generated change
pub record IsPlain (d : Dialect) (x : AnyChange) : Type 0 where
  pub runs : (c : Catalogue) → effect d x c ≡ run User d (gives d x) c
  pub undone : (us : List Statement) × (inverse d x ≡ Some us)

pub plain_sequence : (d : Dialect) (s : Name × Sequence) → IsPlain d (of_sequence s)
plain_sequence d s = record { runs = λ c. plain d (statement.CreateSequence s.0 s.1.start s.1.step) c; undone = (_, refl) }

pub plain_table : (d : Dialect) (e : Name × Table) → IsPlain d (of_table d e)
plain_table d e = record { runs = λ c. plain d (creates d (created d e.0 e.1)) c; undone = (_, refl) }

pub plain_unique : (d : Dialect) (t : Name) (u : Unique) → IsPlain d (of_unique t u)
plain_unique d t u = record { runs = λ c. plain d (statement.AddUnique t (unique_of (unique_change t u))) c; undone = (_, refl) }

pub plain_index : (d : Dialect) (t : Name) (x : Index) → IsPlain d (of_index t x)
plain_index d t x = record { runs = λ c. plain d (statement.CreateIndex t (index_of (index_change t x))) c; undone = (_, refl) }

pub plain_foreign : (d : Dialect) (t : Name) (f : ForeignKey) → IsPlain d (of_foreign t f)
plain_foreign d t f = record { runs = λ c. plain d (statement.AddForeignKey t (foreign_of (foreign_change t f))) c; undone = (_, refl) }

pub plain_view : (d : Dialect) (v : Name × View) → IsPlain d (of_view d v)
plain_view d v = record { runs = λ c. plain d (statement.CreateView v.0 (query (view_change d v.0 v.1)) false) c; undone = (_, refl) }

pub plain_key : (d : Dialect) (t : Name) (key : Option Key) → AllByRecursion (IsPlain d) (of_key d t key)
plain_key d t None = tt
plain_key d t (Some k) = (record { runs = λ c. plain d (statement.AddPrimaryKey t (key_of d (key_change d t k))) c; undone = (_, refl) }, tt)

pub plain_own_key : (d : Dialect) (e : Name × Table) → AllByRecursion (IsPlain d) (of_own_key d e)
plain_own_key d e = by (list_any (λ (c : Column). c.numbered) e.1.columns) where
  by : (b : Bool) → AllByRecursion (IsPlain d) (cond b [] (of_key d e.0 e.1.key))
  by true = tt
  by false = plain_key d e.0 e.1.key

-- lists

pub each_of : {A B : Type 0} (P : B → Type 0) (f : A → B) → ((x : A) → P (f x)) → (xs : List A) → AllByRecursion P (map f xs)
each_of P f h [] = tt
each_of P f h (x ∷ xs) = (h x, each_of P f h xs)

pub both_of : {A : Type 0} (P : A → Type 0) (xs ys : List A) → AllByRecursion P xs → AllByRecursion P ys → AllByRecursion P (xs ++ ys)
both_of P [] ys h g = g
both_of P (x ∷ xs) ys h g = (h.0, both_of P xs ys h.1 g)

pub lists_of : {A B : Type 0} (P : B → Type 0) (f : A → List B) → ((x : A) → AllByRecursion P (f x)) → (xs : List A) → AllByRecursion P (flat_map f xs)
lists_of P f h [] = tt
lists_of P f h (x ∷ xs) = both_of P (f x) (flat_map f xs) (h x) (lists_of P f h xs)

pub filled_plain : (d : Dialect) (e : Name × Table) → AllByRecursion (IsPlain d) (of_filling d e)
filled_plain d e =
    both_of (IsPlain d) (of_own_key d e) (map (of_unique e.0) e.1.uniques ++ map (of_index e.0) e.1.indexes) (plain_own_key d e)
    (both_of (IsPlain d) (map (of_unique e.0) e.1.uniques) (map (of_index e.0) e.1.indexes) (each_of (IsPlain d) (of_unique e.0) (plain_unique d e.0) e.1.uniques) (each_of (IsPlain d) (of_index e.0) (plain_index d e.0) e.1.indexes))

pub all_plain : (d : Dialect) (c : Catalogue) → AllByRecursion (IsPlain d) (all_changes d c)
all_plain d c =
    let a = map of_sequence c.sequences in
    let b = map (of_table d) c.tables in
    let e = flat_map (of_filling d) c.tables in
    let f = flat_map of_aims c.tables in
    let g = map (of_view d) c.views in
    both_of (IsPlain d) a (b ++ (e ++ (f ++ g))) (each_of (IsPlain d) of_sequence (plain_sequence d) c.sequences)
    (both_of (IsPlain d) b (e ++ (f ++ g)) (each_of (IsPlain d) (of_table d) (plain_table d) c.tables)
    (both_of (IsPlain d) e (f ++ g) (lists_of (IsPlain d) (of_filling d) (filled_plain d) c.tables)
    (both_of (IsPlain d) f g (lists_of (IsPlain d) of_aims (λ e. each_of (IsPlain d) (of_foreign e.0) (plain_foreign d e.0) e.1.foreign) c.tables)
    (each_of (IsPlain d) (of_view d) (plain_view d) c.views))))

-- ---- their effects are those of their statements

abbrev pub then_run : Dialect → List Statement → Result Catalogue Reason → Result Catalogue Reason
then_run d ts (Ok c) = run User d ts c
then_run d ts (Err reason) = Err reason

run_split : (d : Dialect) (ss ts : List Statement) (c : Catalogue) → run User d (ss ++ ts) c ≡ then_run d ts (run User d ss c)
run_split d [] ts c = refl
run_split d (s ∷ ss) ts c = by (step User d s c) (run_split d ss ts) where
  by : (r : Result (Catalogue × ℕ) Reason) → ((x : Catalogue) → run User d (ss ++ ts) x ≡ then_run d ts (run User d ss x))
      → elim r as (λ _. Result Catalogue Reason) [ Ok x ↦ run User d (ss ++ ts) x.0 | Err reason ↦ Err reason ] ≡ then_run d ts (elim r as (λ _. Result Catalogue Reason) [ Ok x ↦ run User d ss x.0 | Err reason ↦ Err reason ])
  by (Ok x) more = more x.0
  by (Err reason) more = refl

pub effects_are : (d : Dialect) (xs : List AnyChange) (c : Catalogue) → AllByRecursion (IsPlain d) xs → effects d any_meaning xs c ≡ run User d (statements d xs) c
effects_are d [] c h = refl
effects_are d (x ∷ xs) c h = ap (λ r. by r) (h.0.runs c) ∙ go (run User d (gives d x) c) (λ e. effects_are d xs e h.1) ∙ sym (run_split d (gives d x) (statements d xs) c) where
  by : Result Catalogue Reason → Result Catalogue Reason
  by r = elim r as (λ _. Result Catalogue Reason) [ Ok e ↦ effects d any_meaning xs e | Err reason ↦ Err reason ]

  go : (r : Result Catalogue Reason) → ((e : Catalogue) → effects d any_meaning xs e ≡ run User d (statements d xs) e) → by r ≡ then_run d (statements d xs) r
  go (Ok e) more = more e
  go (Err reason) more = refl

pub whole_effects : (d : Dialect) (c : Catalogue) → IsSound d c → MayMake d c → effects d any_meaning (all_changes d c) no_objects ≡ Ok (record { tables = map (on full) c.tables; views = c.views; sequences = c.sequences })
whole_effects d c sound may = effects_are d (all_changes d c) no_objects (all_plain d c) ∙ whole_run d c sound may

-- ---- each has an inverse

pub all_undone : (d : Dialect) (xs : List AnyChange) → AllByRecursion (IsPlain d) xs → (us : List Statement) × (inverses d any_meaning xs ≡ Some us)
all_undone d [] h = ([], refl)
all_undone d (x ∷ xs) h =
    let rest = all_undone d xs h.1 in
    let one = h.0.undone in
    (rest.0 ++ one.0, ap (λ o. option_and_then (λ more. option_map (λ first. more ++ first) (inverse d x)) o) rest.1 ∙ ap (λ o. option_map (λ first. rest.0 ++ first) o) one.1)
