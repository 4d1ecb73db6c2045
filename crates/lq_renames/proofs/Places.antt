-- Tables changed at one place after another.
use Rattle.std.proofs.Common.{Bool, List, Some, T, [], ap, arith, cond, false, length, map, refl, subst, suc, sym, true, zero, ℕ, ◌&&◌, ◌+◌, ◌<◌, ◌∙◌, ◌∷◌, ◌≡◌, add-one}
use Rattle.std.specs.Prelude.{slice_index_or}
use Rattle.std.specs.FinMap.Entries.{below_all, is_sorted}
use Rattle.std.specs.Map.{keys_of, lookup, set_value}
use Rattle.std.specs.Ordering.{is_eq, is_lt}
use Rattle.std.specs.declared.cmp.Ordering.{Ordering}
use Rattle.std.specs.declared.cmp.Ordering.TheVariants.{Equal, Greater, Less}
use Rattle.lq_base.specs.Name.{is_named, name_cmp}
use Rattle.lq_base.specs.declared.name.Name.{Name}
use Rattle.lq_chain.specs.History.{History}
use Rattle.lq_model.specs.Catalogue.{Catalogue, Table, no_table, table_of, the_table, with_table}
use Rattle.lq_model.proofs.Maps.{sorted_entries}
use Rattle.std.specs.List.Sorted.{IsStrictlySortedBy}
use Rattle.std.specs.Option.{unwrap_or}
use Rattle.lq_rows.specs.Stored.{Continues, Stored, with_shape}
use Rattle.lq_rows.specs.declared.shape.Shape.{Shape}
use Rattle.lq_rows.proofs.Continued.{goes_further, stays}
use Rattle.lq_parts.specs.Steps.{edit_at, tables_of}
use Rattle.lq_model.proofs.Lists.{named_itself, other_way}

-- the first so many changed
abbrev pub partly : {A : Type 0} → (A → A) → ℕ → List A → List A
partly f zero xs = xs
partly f (suc n) [] = []
partly f (suc n) (x ∷ xs) = f x ∷ partly f n xs

pub partly_none : {A : Type 0} (f : A → A) (n : ℕ) → partly f n [] ≡ []
partly_none f zero = refl
partly_none f (suc n) = refl

pub one_more : {A : Type 0} (f : A → A) (n : ℕ) (xs : List A) → edit_at n f (partly f n xs) ≡ partly f (suc n) xs
one_more f zero [] = refl
one_more f zero (x ∷ xs) = refl
one_more f (suc n) [] = refl
one_more f (suc n) (x ∷ xs) = ap (λ ys. f x ∷ ys) (one_more f n xs)

pub all_of : {A : Type 0} (f : A → A) (xs : List A) → partly f (length xs) xs ≡ map f xs
all_of f [] = refl
all_of f (x ∷ xs) = ap (λ ys. f x ∷ ys) (all_of f xs)

less_apart : (r : Ordering) → T (is_lt r) → is_eq r ≡ false
less_apart Less h = refl
less_apart Equal h = absurd h
less_apart Greater h = absurd h

first : (a b : Bool) → T (a && b) → T a
first true b p = tt
first false b p = p

second : (a b : Bool) → T (a && b) → T b
second true b p = p
second false b p = absurd p

module _ (f : Name → Table → Table) where
  -- each table changed by its name
  abbrev pub each : Name × Table → Name × Table
  each e = (e.0, f e.0 e.1)

  pub keys_partly : (n : ℕ) (ts : List (Name × Table)) → keys_of (partly each n ts) ≡ keys_of ts
  keys_partly zero ts = refl
  keys_partly (suc n) [] = refl
  keys_partly (suc n) (t ∷ ts) = ap (λ ks. t.0 ∷ ks) (keys_partly n ts)

  pub long_partly : (n : ℕ) (ts : List (Name × Table)) → length (partly each n ts) ≡ length ts
  long_partly zero ts = refl
  long_partly (suc n) [] = refl
  long_partly (suc n) (t ∷ ts) = ap suc (long_partly n ts)

-- the entry at a place, by its name
below_at : (k : Name) (es : List (Name × Stored)) (at : ℕ) (e : Name × Stored) → T (below_all name_cmp k (tables_of es)) → at < length es → e ≡ slice_index_or es at e → is_named e.0 k ≡ false
below_at k [] at e h less is = absurd (omega (arith, less))
below_at k (x ∷ es) zero e h less is = other_way k e.0 (ap (λ (y : Name × Stored). is_named k y.0) is ∙ less_apart (name_cmp k x.0) (first _ _ h))
below_at k (x ∷ es) (suc at) e h less is = below_at k es at e (second _ _ h) (omega (arith, less)) is

pub at_place : (es : List (Name × Stored)) (at : ℕ) (e : Name × Stored) → T (is_sorted name_cmp (tables_of es)) → at < length es → e ≡ slice_index_or es at e → lookup (is_named e.0) (tables_of es) ≡ Some e.1.now
at_place [] at e h less is = absurd (omega (arith, less))
at_place (x ∷ es) zero e h less is = ap (λ b. cond b (Some x.1.now) (lookup (is_named e.0) (tables_of es))) (ap (λ (y : Name × Stored). is_named e.0 y.0) (sym is) ∙ named_itself e.0) ∙ ap (λ (y : Name × Stored). Some y.1.now) (sym is)
at_place (x ∷ es) (suc at) e h less is =
    ap (λ b. cond b (Some x.1.now) (lookup (is_named e.0) (tables_of es))) (below_at x.0 es at e (first _ _ h) (omega (arith, less)) is)
    ∙ at_place es at e (second (below_all name_cmp x.0 (tables_of es)) _ h) (omega (arith, less)) is

pub set_place : (f : Name → Table → Table) (es : List (Name × Stored)) (at : ℕ) (e : Name × Stored) → T (is_sorted name_cmp (tables_of es)) → at < length es → e ≡ slice_index_or es at e → set_value (is_named e.0) (tables_of es) (f e.0 e.1.now) ≡ edit_at at (each f) (tables_of es)
set_place f [] at e h less is = absurd (omega (arith, less))
set_place f (x ∷ es) zero e h less is =
    ap (λ b. cond b ((x.0, f e.0 e.1.now) ∷ tables_of es) ((x.0, x.1.now) ∷ set_value (is_named e.0) (tables_of es) (f e.0 e.1.now))) (ap (λ (y : Name × Stored). is_named e.0 y.0) (sym is) ∙ named_itself e.0)
    ∙ ap (λ (y : Name × Stored). (x.0, f y.0 y.1.now) ∷ tables_of es) is
set_place f (x ∷ es) (suc at) e h less is =
    ap (λ b. cond b ((x.0, f e.0 e.1.now) ∷ tables_of es) ((x.0, x.1.now) ∷ set_value (is_named e.0) (tables_of es) (f e.0 e.1.now))) (below_at x.0 es at e (first _ _ h) (omega (arith, less)) is)
    ∙ ap (λ ts. (x.0, x.1.now) ∷ ts) (set_place f es at e (second (below_all name_cmp x.0 (tables_of es)) _ h) (omega (arith, less)) is)

-- nothing changes where the change leaves the entry at the place
pub same_place : (f : Name → Table → Table) (es : List (Name × Stored)) (at : ℕ) (e : Name × Stored) → e ≡ slice_index_or es at e → f e.0 e.1.now ≡ e.1.now → edit_at at (each f) (tables_of es) ≡ tables_of es
same_place f [] at e is same = refl
same_place f (x ∷ es) zero e is same = ap (λ (y : Name × Stored). (x.0, f y.0 y.1.now) ∷ tables_of es) (sym is) ∙ ap (λ t. (x.0, t) ∷ tables_of es) (same ∙ ap (λ (y : Name × Stored). y.1.now) is)
same_place f (x ∷ es) (suc at) e is same = ap (λ ts. (x.0, x.1.now) ∷ ts) (same_place f es at e is same)

long_tables : (es : List (Name × Stored)) → length (tables_of es) ≡ length es
long_tables [] = refl
long_tables (e ∷ es) = ap suc (long_tables es)

module _ (c : Catalogue) (es : List (Name × Stored)) (at : ℕ) (e : Name × Stored) (name : Name) (eq : tables_of es ≡ c.tables) (rise : IsStrictlySortedBy name_cmp (keys_of c.tables)) (less : at < length c.tables) (is : e ≡ slice_index_or es at e) (named : name ≡ e.0) where
  in_order : T (is_sorted name_cmp (tables_of es))
  in_order = subst (λ ts. T (is_sorted name_cmp ts)) (sym eq) (sorted_entries c.tables rise)

  in_length : at < length es
  in_length = subst (λ n. at < n) (ap length (sym eq) ∙ long_tables es) less

  pub found_at : table_of c name ≡ Some e.1.now
  found_at = ap (λ n. lookup (is_named n) c.tables) named ∙ ap (lookup (is_named e.0)) (sym eq) ∙ at_place es at e in_order in_length is

  pub changed_at : (f : Name → Table → Table) (shape : Shape) → with_shape shape e.1.now ≡ f e.0 e.1.now → with_table c name (with_shape shape (the_table c name)) ≡ record c { tables = edit_at at (each f) c.tables }
  changed_at f shape shaped =
      ap (λ o. with_table c name (with_shape shape (unwrap_or o no_table))) found_at
      ∙ ap (with_table c name) shaped
      ∙ ap (λ ts. record c { tables = ts }) (ap (λ n. set_value (is_named n) c.tables (f e.0 e.1.now)) named ∙ ap (λ ts. set_value (is_named e.0) ts (f e.0 e.1.now)) (sym eq) ∙ set_place f es at e in_order in_length is ∙ ap (edit_at at (each f)) eq)

-- nothing is changed at a place
pub kept_at : (f : Name → Table → Table) (c : Catalogue) (es : List (Name × Stored)) (at : ℕ) (e : Name × Stored) → tables_of es ≡ c.tables → e ≡ slice_index_or es at e → f e.0 e.1.now ≡ e.1.now → c ≡ record c { tables = edit_at at (each f) c.tables }
kept_at f c es at e eq is same = ap (λ ts. record c { tables = ts }) (sym eq ∙ sym (same_place f es at e is same) ∙ ap (edit_at at (each f)) eq)

-- the first so many tables are changed
pub record IsPartly (f : Name → Table → Table) (n : ℕ) (old new : History Catalogue) : Type 0 where
  pub now : new.now ≡ record old.now { tables = partly (each f) n old.now.tables }
  pub goes : Continues old new

module _ (f : Name → Table → Table) (old mid : History Catalogue) where
  pub partly_begun : IsPartly f 0 old old
  partly_begun = record { now = refl; goes = stays old }

  pub partly_more : (n : ℕ) (new : History Catalogue) → IsPartly f n old mid → new.now ≡ record mid.now { tables = edit_at n (each f) mid.now.tables } → Continues mid new → IsPartly f (n + 1) old new
  partly_more n new so is goes = rw add-one (next n new so is goes) where
    next : (n : ℕ) (new : History Catalogue) → IsPartly f n old mid → new.now ≡ record mid.now { tables = edit_at n (each f) mid.now.tables } → Continues mid new → IsPartly f (suc n) old new
    next n new so is goes = record {
      now = is ∙ ap (λ (c : Catalogue). record c { tables = edit_at n (each f) c.tables }) so.now ∙ ap (λ ts. record old.now { tables = ts }) (one_more (each f) n old.now.tables);
      goes = goes_further old mid new so.goes goes;
    }

  pub partly_long : (n : ℕ) → IsPartly f n old mid → length mid.now.tables ≡ length old.now.tables
  partly_long n so = ap (λ (c : Catalogue). length c.tables) so.now ∙ long_partly f n old.now.tables

  pub partly_ordered : (n : ℕ) → IsPartly f n old mid → IsStrictlySortedBy name_cmp (keys_of old.now.tables) → IsStrictlySortedBy name_cmp (keys_of mid.now.tables)
  partly_ordered n so rise = subst (IsStrictlySortedBy name_cmp) (sym (ap (λ (c : Catalogue). keys_of c.tables) so.now ∙ keys_partly f n old.now.tables)) rise

  pub partly_within : (n : ℕ) (es : List (Name × Stored)) → tables_of es ≡ old.now.tables → IsPartly f n old mid → n < length es → n < length mid.now.tables
  partly_within n es eq so less = subst (λ k. n < k) (sym (long_tables es) ∙ ap length eq ∙ sym (partly_long n so)) less

  pub partly_all : (n : ℕ) (es : List (Name × Stored)) → tables_of es ≡ old.now.tables → IsPartly f n old mid → n ≡ length es → mid.now ≡ record old.now { tables = map (each f) old.now.tables }
  partly_all n es eq so is = so.now ∙ ap (λ ts. record old.now { tables = ts }) (ap (λ k. partly (each f) k old.now.tables) (is ∙ sym (long_tables es) ∙ ap length eq) ∙ all_of (each f) old.now.tables)
